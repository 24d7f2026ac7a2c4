use Rattle.std.proofs.Common.{ap, ◌∙◌, sym}
use Rattle.enqueuer_core.specs.Core.{given_back}
use Rattle.enqueuer_core.proofs.desk.Desk.give_back.Goals as goal

pub returns : goal.returns
returns c = c.put_back.ensures ∙ ap (given_back c.args.self.now c.args.job.worker) (sym c.requires.0)
