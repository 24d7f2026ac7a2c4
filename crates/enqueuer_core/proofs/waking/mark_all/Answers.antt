use Rattle.std.proofs.Common.{◌<◌, ◌+◌, ◌∙◌, length, drop, subst, arith}
use Rattle.std.proofs.Math.ListN.{drop_of_length-le}
use Rattle.std.proofs.lemmas.List.{drop_more}
use Rattle.enqueuer_core.specs.Hints.{IsMarking}
use Rattle.enqueuer_core.proofs.waking.mark_all.Goals as goal

pub loop-fact-preserved : goal.loop-fact-preserved
loop-fact-preserved c =
    let added = c.args.added.now in
    let within : c.loop-fact.fact-index < length added = omega arith in
    record {
      slots = c.mark_by.ensures.slots ∙ c.loop-fact.invariant.slots;
      marking = λ target is.
          c.mark_by.ensures.marking target (drop (c.loop-fact.fact-index + 1) added)
          (subst (λ fs. IsMarking target c.loop-fact.readers.items c.loop-fact.marks.items c.args.settled.now fs) (drop_more added c.loop-fact.fact-index _ within) (c.loop-fact.invariant.marking target is));
    }

pub returns-clause-marking : goal.returns-clause-marking
returns-clause-marking c target is =
    subst (λ fs. IsMarking target c.loop-fact.readers.items c.loop-fact.marks.items c.args.settled.now fs) (drop_of_length-le c.args.added.now (omega arith)) (c.loop-fact.invariant.marking target is)
