-- The first of the rules that files break, file by file.
use Rattle.std.proofs.Common.{◌≡◌, ◌⊎◌, ◌<◌, ◌+◌, ℕ, zero, suc, List, [], ◌∷◌, take, get_or, length, Option, inl, inr, sym, subst, arith}
use Rattle.dart_grammar.specs.declared.declarations.FileTree.{FileTree}
use Rattle.dart_syntax.specs.declared.rules.Refusal.{Refusal}
use Rattle.dart_program.specs.declared.files.SourceFile.{SourceFile}
use Rattle.dart_program.specs.First.{Broken, IsFirstOrNone, EitherOf}
use Rattle.dart_program.specs.Sooner.{first_of}
use Rattle.dart_program.proofs.Firsts.{first_of_same, first_of_either}
use Rattle.program_rules.specs.Files.{InFiles}

module _ (broken : ℕ → FileTree → Broken) where
  abbrev In : ℕ → List SourceFile → Refusal → Type 0
  In n xs y = InFiles broken n xs y.rule y.file y.at

  abbrev At : ℕ → SourceFile → Refusal → Type 0
  At n x y = broken n x.tree y.rule y.file y.at

  -- one more file
  with_next : (n m k : ℕ) (xs : List SourceFile) (x : SourceFile) → k < length xs → x ≡ get_or xs k x → m ≡ n + k → (y : Refusal) → (In n (take k xs) y) ⊎ (At m x y) → In n (take (suc k) xs) y
  with_next n m k [] x lt is e y b = absurd (omega (arith, lt))
  with_next n m zero (z ∷ zs) x lt is e y (inl b) = absurd b
  with_next n m zero (z ∷ zs) x lt is e y (inr b) = inl (subst (λ i. At i z y) (omega (arith, e)) (subst (λ w. At m w y) is b))
  with_next n m (suc k) (z ∷ zs) x lt is e y (inl (inl b)) = inl b
  with_next n m (suc k) (z ∷ zs) x lt is e y (inl (inr b)) = inr (with_next (suc n) m k zs x (omega (arith, lt)) is (omega (arith, e)) y (inl b))
  with_next n m (suc k) (z ∷ zs) x lt is e y (inr b) = inr (with_next (suc n) m k zs x (omega (arith, lt)) is (omega (arith, e)) y (inr b))

  without_next : (n m k : ℕ) (xs : List SourceFile) (x : SourceFile) → k < length xs → x ≡ get_or xs k x → m ≡ n + k → (y : Refusal) → In n (take (suc k) xs) y → (In n (take k xs) y) ⊎ (At m x y)
  without_next n m k [] x lt is e y b = absurd (omega (arith, lt))
  without_next n m zero (z ∷ zs) x lt is e y (inl b) = inr (subst (λ i. At i x y) (omega (arith, e)) (subst (λ w. At n w y) (sym is) b))
  without_next n m zero (z ∷ zs) x lt is e y (inr b) = absurd b
  without_next n m (suc k) (z ∷ zs) x lt is e y (inl b) = inl (inl b)
  without_next n m (suc k) (z ∷ zs) x lt is e y (inr b) = elim (without_next (suc n) m k zs x (omega (arith, lt)) is (omega (arith, e)) y b) [ inl c ↦ inl (inr c) | inr c ↦ inr c ]

  pub one_more_file : (m k : ℕ) (xs : List SourceFile) (x : SourceFile) (found one : Option Refusal) → k < length xs → x ≡ get_or xs k x → m ≡ k
      → IsFirstOrNone (InFiles broken 0 (take k xs)) found → IsFirstOrNone (broken m x.tree) one → IsFirstOrNone (InFiles broken 0 (take (k + 1) xs)) (first_of found one)
  one_more_file m k xs x found one lt is e f g =
      let number : m ≡ 0 + k = omega (arith, e) in
      let next : suc k ≡ k + 1 = omega arith in
      subst (λ j. IsFirstOrNone (InFiles broken 0 (take j xs)) (first_of found one)) next
      (first_of_same (EitherOf (InFiles broken 0 (take k xs)) (broken m x.tree)) (InFiles broken 0 (take (suc k) xs)) (first_of found one)
      (with_next 0 m k xs x lt is number) (without_next 0 m k xs x lt is number)
      (first_of_either (InFiles broken 0 (take k xs)) (broken m x.tree) found one f g))
