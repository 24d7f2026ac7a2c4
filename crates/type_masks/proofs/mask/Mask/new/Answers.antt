use Rattle.std.proofs.Common.{sym, ap, ◌∙◌, subst}
use Rattle.std.proofs.lemmas.Bool.{true≢false}
use Rattle.std.specs.Ordering.{nat_cmp}
use Rattle.std.specs.FinSet as set
use Rattle.type_masks.specs.Masks.{IsAscending}
use Rattle.type_masks.proofs.mask.Mask.new.Goals as goal

pub invariant_of-result : goal.invariant_of-result
invariant_of-result c = (
  λ kind is. absurd (true≢false (sym is ∙ ap (λ ks. set.contains (set.from_list {R = nat_cmp} ks) kind) c.new.ensures.items ∙ set.contains-empty nat_cmp kind)),
  subst IsAscending (sym c.new.ensures.items) tt,
)
