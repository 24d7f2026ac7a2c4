use Rattle.std.proofs.Common.{sym, ap, ◌∙◌, subst}
use Rattle.world_state.specs.Reads.{IsInSlotOrder, is_read}
use Rattle.world_state.proofs.SlotOrder.{placed_read, unplaced_read}
use Rattle.world_state.proofs.reads.ReadList.has.Goals as goal

pub returns-then-place-reads : goal.returns-then-place-reads
returns-then-place-reads c =
    placed_read c.as_slice-reads.result.now c.place_of-place.result c.args.slot c.index-reads-place.result (subst IsInSlotOrder (sym c.as_slice-reads.ensures.value) c.self.invariant)
    c.place_of-place.ensures.below c.place_of-place.ensures.above c.if-place-reads.true
    ∙ ap (λ rs. is_read rs c.args.slot) (c.as_slice-reads.ensures.value ∙ c.self.view_is)

pub returns-else-place-reads : goal.returns-else-place-reads
returns-else-place-reads c =
    unplaced_read c.as_slice-reads.result.now c.place_of-place.result c.args.slot (subst IsInSlotOrder (sym c.as_slice-reads.ensures.value) c.self.invariant)
    c.place_of-place.ensures.below c.place_of-place.ensures.above c.if-place-reads.false
    ∙ ap (λ rs. is_read rs c.args.slot) (c.as_slice-reads.ensures.value ∙ c.self.view_is)
