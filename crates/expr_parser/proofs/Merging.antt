-- Texts one behind another are merged from the left or from the right alike.
use Rattle.std.proofs.Common.{◌≡◌, ℕ, List, [], ◌∷◌, ◌++◌, refl, sym, ap, ◌∙◌, append_assoc}
use Rattle.dart_grammar.specs.declared.trees.Interpolation.{Interpolation}
use Rattle.dart_grammar.specs.Trees.{first_of, parts_of, with_behind}
use Rattle.expr_parser.specs.declared.texts.Merged.{Merged}
use Rattle.expr_parser.specs.Texts.{merged}

first_merges : (us vs ws : List ℕ) (ps qs : List Interpolation) → first_of us ps (first_of vs qs ws) ≡ first_of (first_of us ps vs) (parts_of ps vs qs) ws
first_merges us vs ws [] [] = sym (append_assoc us vs ws)
first_merges us vs ws [] (q ∷ qs) = refl
first_merges us vs ws (p ∷ []) qs = refl
first_merges us vs ws (p ∷ r ∷ ps) qs = refl

behind_tail : (vs ws : List ℕ) (p r : Interpolation) (ps qs : List Interpolation) → with_behind ws (p ∷ (with_behind vs (r ∷ ps) ++ qs)) ≡ p ∷ with_behind ws (with_behind vs (r ∷ ps) ++ qs)
behind_tail vs ws p r [] qs = refl
behind_tail vs ws p r (x ∷ ps) qs = refl

behind_merges : (vs ws : List ℕ) (ps qs : List Interpolation) → with_behind ws (with_behind vs ps ++ qs) ≡ with_behind (first_of vs qs ws) ps ++ with_behind ws qs
behind_merges vs ws [] qs = refl
behind_merges vs ws (p ∷ []) [] = ap (λ (us : List ℕ). record { value = p.value; behind = us } ∷ []) (append_assoc p.behind vs ws)
behind_merges vs ws (p ∷ []) (q ∷ qs) = refl
behind_merges vs ws (p ∷ r ∷ ps) qs = behind_tail vs ws p r ps qs ∙ ap (λ (xs : List Interpolation). p ∷ xs) (behind_merges vs ws (r ∷ ps) qs)

parts_merge : (vs ws : List ℕ) (ps qs rs : List Interpolation) → parts_of ps (first_of vs qs ws) (parts_of qs ws rs) ≡ parts_of (parts_of ps vs qs) ws rs
parts_merge vs ws ps qs rs = sym (append_assoc (with_behind (first_of vs qs ws) ps) (with_behind ws qs) rs) ∙ ap (λ (xs : List Interpolation). xs ++ rs) (sym (behind_merges vs ws ps qs))

pub merged_assoc : (x y z : Merged) → merged x (merged y z) ≡ merged (merged x y) z
merged_assoc x y z =
    ap (λ (us : List ℕ). record { first = us; parts = parts_of x.parts (first_of y.first y.parts z.first) (parts_of y.parts z.first z.parts); to = z.to }) (first_merges x.first y.first z.first x.parts y.parts)
    ∙ ap (λ (ps : List Interpolation). record { first = first_of (first_of x.first x.parts y.first) (parts_of x.parts y.first y.parts) z.first; parts = ps; to = z.to }) (parts_merge y.first z.first x.parts y.parts z.parts)
