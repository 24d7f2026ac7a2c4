use Rattle.copy_rules.specs.Copying.{first_of}
use Rattle.copy_rules.proofs.Live.{live_at}
use Rattle.copy_rules.proofs.impacts.CopyRulesImpacts.root.Goals as goal

pub returns : goal.returns
returns c = live_at (first_of c.args.self.now.shape c.args.self.now.first) c.args.i c.requires
