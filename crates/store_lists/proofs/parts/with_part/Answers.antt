use mathlib.Core.Path.{ap, ◌∙◌}
use Rattle.store_lists.specs.Parts.{flat}
use Rattle.store_lists.proofs.Units.{pushed_last}
use Rattle.store_lists.proofs.parts.with_part.Goals as goal

pub returns : goal.returns
returns c =
    ap flat (c.into_bump_slice.ensures ∙ c.in_ok-push-2.ensures.items)
    ∙ pushed_last c.args.front.now c.loop-part.parts.items c.loop-part.part-index c.args.last.now c.loop-part-test.false c.loop-part.invariant
