use Rattle.std.proofs.Common.{◌∙◌, sym}
use Rattle.copy_rules.specs.Copying.{first_of}
use Rattle.copy_rules.proofs.Live.{length_live}
use Rattle.copy_rules.proofs.impacts.CopyRulesImpacts.root_count.Goals as goal

pub returns : goal.returns
returns c = c.live_count.ensures ∙ sym (length_live (first_of c.args.self.now.shape c.args.self.now.first))
