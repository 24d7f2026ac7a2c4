use Rattle.std.proofs.Common.{◌∷◌, subst}
use Rattle.enqueuer_core.specs.Hints.{IsMarking}
use Rattle.enqueuer_core.proofs.waking.mark_by.Goals as goal

pub returns-in-In-clause-marking : goal.returns-in-In-clause-marking
returns-in-In-clause-marking c target rest is =
    c.mark_slot.ensures.marking target c.in-In.kind rest
    (subst (λ f. IsMarking target c.args.readers.now.items c.args.marks.now.items c.args.settled.now (f ∷ rest)) c.in-In.is is)
