use Rattle.std.proofs.Common.{◌≡◌, true, sym, ◌∙◌, subst, nat_eq}
use Rattle.std.proofs.lemmas.List.Filters.{dedup_is}
use Rattle.std.proofs.lemmas.List.Sorted.{list_any-IsPermutation}
use Rattle.index_links.specs.Lists.{is_in}
use Rattle.enqueuer_core.proofs.Enlisted.{once_each}
use Rattle.enqueuer_core.proofs.readers.each_once.Goals as goal

pub returns : goal.returns
returns c n h =
    let is = dedup_is _ _ _ c.dedup.ensures.filtered in
    subst (λ xs. is_in n xs ≡ true) (sym is)
    (once_each n c.sort_unstable.new.self.items (sym (list_any-IsPermutation (nat_eq n) c.args.members.now.items c.sort_unstable.new.self.items c.sort_unstable.ensures.permutation) ∙ h))
