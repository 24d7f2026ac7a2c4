use mathlib.Core.Path.{sym, ◌∙◌, subst}
use native.Mathlib.Omega.{arith}
use Rattle.std.specs.Map.{keys_of}
use Rattle.std.specs.List.{IsDistinct}
use Rattle.std.proofs.lemmas.List.{length-set}
use Rattle.store_lists.proofs.Tidied.{moved, passed, moved_all}
use Rattle.store_lists.proofs.entries.Entries.tidied.Goals as goal
use Rattle.store_lists.proofs.entries.Entries.tidied.Goals.{in-Some+in_ok-put-in-Some, in-None}

pub loop-i-preserved : goal.loop-i-preserved
loop-i-preserved g c = (
  elim c.match-replace.branch [
    | in-Some+in_ok-put-in-Some w ↦ rw (w.done-is, w.in_ok-put-in-Some.ensures.ok, c.replace.ensures.new) (moved g.met.K.Eq.laws c.loop-i.done c.loop-i.slots c.loop-i.i _ _ (subst (λ es. IsDistinct g.K.PartialEq.eq (keys_of es)) (sym c.loop-i.invariant.0) c.loop-i.invariant.2) w.in-Some.ensures.old ∙ c.loop-i.invariant.0)
    | in-None w ↦ rw (w.done-is, c.replace.ensures.new) (passed c.loop-i.done c.loop-i.slots c.loop-i.i w.in-None.ensures.old ∙ c.loop-i.invariant.0)
  ],
  rw c.replace.ensures.new (length-set _ _ _ ∙ c.loop-i.invariant.1),
  c.loop-i.invariant.2,
)

pub returns : goal.returns
returns g c = moved_all _ c.loop-i.slots c.loop-i.i (grind (arith, c.loop-i.invariant.1, c.loop-i-test.false, c.loop-i.auto.i-end)) ∙ c.loop-i.invariant.0
