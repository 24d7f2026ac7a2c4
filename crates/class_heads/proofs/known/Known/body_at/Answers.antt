use Rattle.std.proofs.Common.{ap, ◌∙◌}
use Rattle.std.specs.Prelude.{slice_get}
use Rattle.class_heads.specs.Faults.{no_body}
use Rattle.class_heads.proofs.Searches.{none_read}
use Rattle.class_heads.proofs.known.Known.body_at.Goals as goal

pub returns-in-None : goal.returns-in-None
returns-in-None c = none_read c.args.self.now.bodies c.args.class no_body (c.in-None.ensures ∙ ap (λ xs. slice_get xs c.args.class) c.get.ensures)
