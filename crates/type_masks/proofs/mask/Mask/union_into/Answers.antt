use Rattle.std.proofs.Common.{◌≡◌, ◌<◌, sym, ap, ◌∙◌, subst}
use Rattle.type_masks.specs.Masks.{Kinds, IsAscending}
use Rattle.type_masks.specs.Merge.{merge}
use Rattle.type_masks.proofs.Ascending.{union_within, joined, joined_bounded, ascending_merge}
use Rattle.type_masks.proofs.mask.Mask.union_into.Goals as goal

pub returns-then-is_sub-clause-ok : goal.returns-then-is_sub-clause-ok
returns-then-is_sub-clause-ok c =
    ap (λ s. record { bound = c.args.into.now.bound; set = s }) (sym (union_within c.args.self.now.set c.args.into.now.set (sym c.is_sub.ensures ∙ c.if-is_sub.true)))

pub invariant_of-into : goal.invariant_of-into
invariant_of-into c =
    let merged_is = c.in_ok-into-inside.ensures ∙ ap (λ xs. merge xs c.as_slice-2.result.now) c.as_slice.ensures ∙ ap (merge c.self.inside.kinds.items) c.as_slice-2.ensures in
    let bounds : c.self.inside.bound ≡ c.into.inside.bound = ap (λ (m : Kinds). m.bound) c.self.view_is ∙ c.requires ∙ sym (ap (λ (m : Kinds). m.bound) c.into.view_is) in (
      joined_bounded c.self.inside.kinds.items c.into.inside.kinds.items _ c.into.inside.bound merged_is c.into.invariant.0 (λ kind is. subst (λ b. kind < b) bounds (c.self.invariant.0 kind is)),
      subst IsAscending (sym merged_is) (ascending_merge c.self.inside.kinds.items c.into.inside.kinds.items c.self.invariant.1 c.into.invariant.1),
    )

pub returns-clause-ok : goal.returns-clause-ok
returns-clause-ok c =
    let merged_is = c.in_ok-into-inside.ensures ∙ ap (λ xs. merge xs c.as_slice-2.result.now) c.as_slice.ensures ∙ ap (merge c.self.inside.kinds.items) c.as_slice-2.ensures in
    joined c.self.inside.kinds.items c.into.inside.kinds.items _ c.into.inside.bound c.args.into.now c.args.self.now merged_is c.into.view_is (ap (λ (m : Kinds). m.set) c.self.view_is)
