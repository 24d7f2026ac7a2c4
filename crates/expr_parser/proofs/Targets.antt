-- The last selector of a target.
use Rattle.std.proofs.Common.{◌≡◌, List, [], ◌∷◌, ◌++◌, refl, sym, ap, ◌∙◌, append_assoc}
use Rattle.std.proofs.lemmas.List.{append-nil}
use Rattle.dart_grammar.specs.declared.trees.Head.{Head}
use Rattle.dart_grammar.specs.declared.trees.Selector.{Selector, out-Selector}
use Rattle.expr_parser.specs.Chains.{selected_at, target_from}

target_tail : (a : Head) (before : List Selector) (y : Selector) (ys : List Selector) (x : Selector) → target_from a before (y ∷ (ys ++ x ∷ [])) ≡ target_from a (before ++ y ∷ []) (ys ++ x ∷ [])
target_tail a before y [] x = refl
target_tail a before y (z ∷ zs) x = refl

pub target_last : (a : Head) (before xs : List Selector) (x : Selector) → target_from a before (xs ++ x ∷ []) ≡ selected_at a (before ++ xs) (out-Selector x)
target_last a before [] x = ap (λ (ys : List Selector). selected_at a ys (out-Selector x)) (sym (append-nil before))
target_last a before (y ∷ ys) x = target_tail a before y ys x ∙ target_last a (before ++ y ∷ []) ys x ∙ ap (λ (zs : List Selector). selected_at a zs (out-Selector x)) (append_assoc before (y ∷ []) ys)
