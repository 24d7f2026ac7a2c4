-- Natives are found by their names.
use Rattle.std.proofs.Common.{◌≡◌, ℕ, Bool, true, false, List, [], ◌∷◌, Option, Some, refl, sym, ap, ◌∙◌, arith}
use Rattle.std.specs.Prelude.{IfSome, find}
use Rattle.std.specs.Str.{bytes_eq}
use Rattle.std.proofs.lemmas.Slice.Eq.{bytes_eq-Decides}
use Rattle.dart_store.specs.declared.natives.Native.{Native}
use Rattle.dart_store.specs.declared.natives.Native.TheVariants as n
use Rattle.dart_store.specs.declared.natives.TheConstants.{NATIVES}
use Rattle.dart_store.specs.Natives.{name_of, native_of}

same_name : (a b : List ℕ) → bytes_eq a b ≡ true → a ≡ b
same_name a b h = grind (arith, bytes_eq-Decides)

found : (x : Native) → native_of (name_of x) ≡ Some x
found n.Print = refl
found _ = refl

-- what is found has the name
named_in : (name : List ℕ) (xs : List Native) → IfSome (find (λ x. bytes_eq (name_of x) name) xs) (λ x. name_of x ≡ name)
named_in name [] = tt
named_in name (x ∷ xs) = by (bytes_eq (name_of x) name) refl (named_in name xs)
  where
    by : (b : Bool) → bytes_eq (name_of x) name ≡ b → IfSome (find (λ x. bytes_eq (name_of x) name) xs) (λ x. name_of x ≡ name)
        → IfSome (find (λ x. bytes_eq (name_of x) name) (x ∷ xs)) (λ x. name_of x ≡ name)
    by true e h = rw e (same_name (name_of x) name e)
    by false e h = rw e h

pub is_named : (name : List ℕ) (r : Option Native) → r ≡ native_of name → IfSome r (λ x. name_of x ≡ name)
is_named name r e = rw e (named_in name NATIVES)

pub is_found : (name : List ℕ) (r : Option Native) → r ≡ native_of name → (x : Native) → name_of x ≡ name → r ≡ Some x
is_found name r e x h = e ∙ (ap native_of (sym h) ∙ found x)
