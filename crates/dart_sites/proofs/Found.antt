-- The scopes around a name, from the innermost one on.
use Rattle.std.proofs.Common.{◌≡◌, ℕ, suc, ◌+◌, ◌<◌, Bool, true, false, ◌||◌, List, [], ◌∷◌, ◌++◌, length, get_or, take, Option, Some, None, refl, sym, ap, ◌∙◌, arith}
use Rattle.std.proofs.Math.Seq.{take-suc}
use Rattle.std.specs.List.{list_any}
use Rattle.std.specs.Option.{option_map, option_or}
use Rattle.std.proofs.lemmas.List.Folds.{list_any-append}
use Rattle.dart_sites.specs.declared.scopes.Local.{Local}
use Rattle.dart_sites.specs.declared.scopes.Scope.{Scope}
use Rattle.dart_sites.specs.declared.scopes.Found.{Found}
use Rattle.dart_sites.specs.Scopes.{declared, begins_function, found}

-- found further out than a scope
abbrev pub beyond : Bool → Found → Found
beyond b f = record { local = f.local; is_captured = f.is_captured || b }

-- what the innermost scope makes of what is found further out
abbrev pub or_outer : Bool → Option Local → Option Found → Option Found
or_outer b None o = option_map (beyond b) o
or_outer b (Some l) o = Some (record { local = l; is_captured = false })

here_or_further : (b : Bool) (inner : Option Local) (further : Option Found) (l : Option Local) (c d : Bool) → d ≡ (c || b)
    → option_or (or_outer b inner further) (option_map (λ y. record { local = y; is_captured = d }) l)
    ≡ or_outer b inner (option_or further (option_map (λ y. record { local = y; is_captured = c }) l))
here_or_further b (Some y) further l c d is = refl
here_or_further b None (Some f) l c d is = refl
here_or_further b None None None c d is = refl
here_or_further b None None (Some y) c d is = ap (λ z. Some (record { local = y; is_captured = z })) is

pub found_inside : (x : List ℕ) (ys : List Scope) (s : Scope) → found x (ys ++ s ∷ []) ≡ or_outer (begins_function s) (declared x s) (found x ys)
unfolding found
found_inside x [] s = only (declared x s) where
  only : (l : Option Local) → option_or None (option_map (λ y. record { local = y; is_captured = false }) l) ≡ or_outer (begins_function s) l None
  only None = refl
  only (Some y) = refl
found_inside x (y ∷ ys) s =
    ap (λ o. option_or o (option_map (λ l. record { local = l; is_captured = list_any begins_function (ys ++ s ∷ []) }) (declared x y))) (found_inside x ys s)
    ∙ here_or_further (begins_function s) (declared x s) (found x ys) (declared x y) (list_any begins_function ys) (list_any begins_function (ys ++ s ∷ [])) (list_any-append begins_function ys (s ∷ []) ∙ last_one (list_any begins_function ys) (begins_function s))
  where
    last_one : (c b : Bool) → (c || (b || false)) ≡ (c || b)
    last_one c true = refl
    last_one c false = refl

pub beyond_both : (c b : Bool) (o : Option Found) → option_map (beyond c) (option_map (beyond b) o) ≡ option_map (beyond (c || b)) o
beyond_both c b None = refl
beyond_both c b (Some f) = ap (λ z. Some (record { local = f.local; is_captured = z })) (turned f.is_captured b c)
  where
    turned : (a b c : Bool) → ((a || b) || c) ≡ (a || (c || b))
    turned true b c = refl
    turned false true true = refl
    turned false false true = refl
    turned false true false = refl
    turned false false false = refl

pub beyond_none : (o : Option Found) → option_map (beyond false) o ≡ o
beyond_none None = refl
beyond_none (Some f) = ap (λ z. Some (record { local = f.local; is_captured = z })) (settled f.is_captured)
  where
    settled : (a : Bool) → (a || false) ≡ a
    settled true = refl
    settled false = refl

-- one scope more from the outside
pub found_take : (x : List ℕ) (xs : List Scope) (i : ℕ) (s : Scope) → s ≡ get_or xs i s → i < length xs
    → found x (take (i + 1) xs) ≡ or_outer (begins_function s) (declared x s) (found x (take i xs))
found_take x xs i s is below =
    let one : i + 1 ≡ suc i = omega arith in
    ap (λ k. found x (take k xs)) one ∙ ap (found x) (take-suc xs i s below) ∙ ap (λ z. found x (take i xs ++ z ∷ [])) (sym is) ∙ found_inside x (take i xs) s

-- a scope that does not declare the name
pub passed : (x : List ℕ) (xs : List Scope) (i : ℕ) (s : Scope) (c : Bool) → s ≡ get_or xs i s → i < length xs → declared x s ≡ None
    → found x xs ≡ option_map (beyond c) (found x (take (i + 1) xs)) → found x xs ≡ option_map (beyond (c || begins_function s)) (found x (take i xs))
passed x xs i s c is below absent so =
    so ∙ ap (option_map (beyond c)) (found_take x xs i s is below ∙ ap (λ o. or_outer (begins_function s) o (found x (take i xs))) absent) ∙ beyond_both c (begins_function s) (found x (take i xs))

-- a scope that does
pub met : (x : List ℕ) (xs : List Scope) (i : ℕ) (s : Scope) (l : Local) (c : Bool) → s ≡ get_or xs i s → i < length xs → declared x s ≡ Some l
    → found x xs ≡ option_map (beyond c) (found x (take (i + 1) xs)) → found x xs ≡ Some (record { local = l; is_captured = c })
met x xs i s l c is below present so =
    so ∙ ap (option_map (beyond c)) (found_take x xs i s is below ∙ ap (λ o. or_outer (begins_function s) o (found x (take i xs))) present)
