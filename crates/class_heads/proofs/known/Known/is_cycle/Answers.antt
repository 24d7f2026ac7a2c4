use Rattle.std.proofs.Common.{false, ap, ◌∙◌}
use Rattle.std.specs.Prelude.{slice_get}
use Rattle.class_heads.proofs.Searches.{none_read}
use Rattle.class_heads.proofs.known.Known.is_cycle.Goals as goal

pub returns-in-None : goal.returns-in-None
returns-in-None c = none_read c.args.self.now.cycles c.args.class false (c.in-None.ensures ∙ ap (λ xs. slice_get xs c.args.class) c.get.ensures)
