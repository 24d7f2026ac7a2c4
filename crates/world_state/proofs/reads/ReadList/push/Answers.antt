use Rattle.std.proofs.Common.{sym, ap, ◌∙◌, subst}
use Rattle.world_state.specs.Reads.{IsInSlotOrder, is_read, with_read}
use Rattle.world_state.proofs.SlotOrder.{placed_in, order_with}
use Rattle.world_state.proofs.reads.ReadList.push.Goals as goal

pub invariant_of-self-2 : goal.invariant_of-self-2
invariant_of-self-2 c =
    let is = c.in_ok-insert.ensures.items ∙ placed_in c.self.inside.items.items c.as_slice.result.now c.place_of-place.result c.args.read c.as_slice.ensures.value c.place_of-place.ensures.bound c.place_of-place.ensures.below c.place_of-place.ensures.above in
    subst IsInSlotOrder (sym is) (order_with c.self.inside.items.items c.args.read c.self.invariant (ap (λ rs. is_read rs c.args.read.slot) c.self.view_is ∙ c.requires))

pub returns-clause-ok : goal.returns-clause-ok
returns-clause-ok c =
    c.in_ok-insert.ensures.items
    ∙ placed_in c.self.inside.items.items c.as_slice.result.now c.place_of-place.result c.args.read c.as_slice.ensures.value c.place_of-place.ensures.bound c.place_of-place.ensures.below c.place_of-place.ensures.above
    ∙ ap (λ rs. with_read rs c.args.read) c.self.view_is
