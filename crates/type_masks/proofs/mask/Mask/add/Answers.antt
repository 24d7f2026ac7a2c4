use Rattle.std.proofs.Common.{◌<◌, not, sym, ap, arith, subst, Ok, Err}
use Rattle.type_masks.specs.Masks.{Kinds, IsAscending}
use Rattle.type_masks.proofs.Sets.{insert_again}
use Rattle.type_masks.proofs.Ascending.{found_in, placed, added, added_bounded}
use Rattle.type_masks.proofs.mask.Mask.add.Goals as goal

pub invariant_of-self-in-Err : goal.invariant_of-self-in-Err
invariant_of-self-in-Err c =
    let bound = ap (λ (m : Kinds). m.bound) c.self.view_is in
    let below : c.args.kind < c.self.inside.bound = omega (arith, bound, c.requires) in (
      added_bounded c.self.inside.kinds.items c.insert.new.self.items c.args.kind c.in-Err.place c.self.inside.bound c.in_ok-insert-in-Err.ensures.ok c.self.invariant.0 below,
      subst IsAscending (sym c.in_ok-insert-in-Err.ensures.ok) (placed c.self.inside.kinds.items _ c.args.kind c.in-Err.place c.as_slice.ensures c.in-Err.ensures.position c.self.invariant.1),
    )

pub returns-in-Ok-clause-fresh : goal.returns-in-Ok-clause-fresh
returns-in-Ok-clause-fresh c =
    ap not (found_in c.self.inside.kinds.items _ c.args.kind (Ok c.in-Ok.field-0) c.self.inside.bound c.args.self.now c.as_slice.ensures c.self.view_is c.in-Ok.ensures.position c.self.invariant.1)

pub returns-in-Ok-clause-ok : goal.returns-in-Ok-clause-ok
returns-in-Ok-clause-ok c =
    let there = found_in c.self.inside.kinds.items _ c.args.kind (Ok c.in-Ok.field-0) c.self.inside.bound c.args.self.now c.as_slice.ensures c.self.view_is c.in-Ok.ensures.position c.self.invariant.1 in
    ap (λ s. record { bound = c.args.self.now.bound; set = s }) (sym (insert_again c.args.self.now.set c.args.kind (sym there)))

pub returns-in_ok-insert-in-Err-clause-fresh : goal.returns-in_ok-insert-in-Err-clause-fresh
returns-in_ok-insert-in-Err-clause-fresh c =
    ap not (found_in c.self.inside.kinds.items _ c.args.kind (Err c.in-Err.place) c.self.inside.bound c.args.self.now c.as_slice.ensures c.self.view_is c.in-Err.ensures.position c.self.invariant.1)

pub returns-in_ok-insert-in-Err-clause-ok : goal.returns-in_ok-insert-in-Err-clause-ok
returns-in_ok-insert-in-Err-clause-ok c =
    added c.self.inside.kinds.items c.insert.new.self.items c.args.kind c.in-Err.place c.self.inside.bound c.args.self.now c.in_ok-insert-in-Err.ensures.ok c.self.view_is
