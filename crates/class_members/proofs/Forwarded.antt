-- The constructors of some classes, one class after another.
use Rattle.std.proofs.Common.{◌≡◌, ◌<◌, ◌+◌, ◌-◌, ℕ, suc, List, sym, ap, ◌∙◌, arith}
use Rattle.class_heads.specs.Sources.{Sources}
use Rattle.class_members.specs.declared.members.MemberNode.{MemberNode}
use Rattle.class_members.specs.Constructions.{constructions}
use Rattle.class_members.specs.Steps.{with_forwarded, with_all_forwarded}

module _ (p : Sources) (file : ℕ) where
  pub all_forwarded : (before : List MemberNode) (c n : ℕ) → with_all_forwarded p file before c (n - 0) ≡ with_all_forwarded p file before c n
  all_forwarded before c n = let e : n - 0 ≡ n = omega arith in ap (with_all_forwarded p file before c) e

  pub none_forwarded : (before : List MemberNode) (c n : ℕ) → with_all_forwarded p file before c (n - n) ≡ before
  none_forwarded before c n = let e : n - n ≡ 0 = omega arith in ap (with_all_forwarded p file before c) e

  pub one_forwarded : (before : List MemberNode) (c n i : ℕ) → i < n → with_all_forwarded p file (with_forwarded file c before (constructions p c)) (c + 1) (n - (i + 1)) ≡ with_all_forwarded p file before c (n - i)
  one_forwarded before c n i lt =
      let e : n - i ≡ suc (n - (i + 1)) = omega (arith, lt) in
      let s : suc c ≡ c + 1 = omega arith in
      ap (λ d. with_all_forwarded p file (with_forwarded file c before (constructions p c)) d (n - (i + 1))) (sym s)
      ∙ sym (ap (with_all_forwarded p file before c) e)
