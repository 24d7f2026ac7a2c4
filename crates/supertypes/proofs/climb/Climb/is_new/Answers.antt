use Rattle.std.proofs.Common.{true, ap, ◌∙◌}
use Rattle.std.specs.Prelude.{not}
use Rattle.std.specs.Option.{unwrap_or}
use Rattle.std.proofs.lemmas.Option.{unwrap_or-slice_get}
use Rattle.supertypes.proofs.climb.Climb.is_new.Goals as goal

pub returns-in-None : goal.returns-in-None
returns-in-None c = ap not (ap (λ o. unwrap_or o true) c.in-None.ensures.value ∙ unwrap_or-slice_get c.args.self.now.is_begun c.args.class true)
