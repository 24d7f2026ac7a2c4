-- What is found in the table of a body is the first constructor of that name.
use Rattle.std.proofs.Common.{◌≡◌, ℕ, zero, suc, Bool, true, false, cond, List, [], ◌∷◌, ◌++◌, Option, Some, None, refl, sym, ap, ◌∙◌}
use Rattle.std.specs.Prelude.{is_some, option_and_then}
use Rattle.std.specs.Map.{lookup}
use Rattle.std.specs.Option.{option_or}
use Rattle.std.specs.Str.{bytes_eq}
use Rattle.std.proofs.lemmas.Bool.{true≢false}
use Rattle.std.proofs.lemmas.Slice.Eq.{bytes_eq-Decides}
use Rattle.dart_grammar.specs.declared.declarations.Constructor.{Constructor}
use Rattle.dart_grammar.specs.declared.declarations.Member.{Member}
use Rattle.dart_grammar.specs.declared.declarations.Member.TheVariants as m
use Rattle.selectors.specs.Tables.{Table, numbered}
use Rattle.super_rules.specs.Takers.{constructor_name, first_named}
use Rattle.super_rules.specs.Tables.{put_first, with_member, with_members, constructor_at, named_in}

-- ---- one name put to a table

or_nothing : {A : Type 0} (o : Option A) → option_or o None ≡ o
or_nothing None = refl
or_nothing (Some x) = refl

or_joined : {A : Type 0} (o p q : Option A) → option_or (option_or o p) q ≡ option_or o (option_or p q)
or_joined None p q = refl
or_joined (Some x) p q = refl

looked_up : (name y : List ℕ) (k : ℕ) (table : Table) → numbered name (table ++ (y, k) ∷ []) ≡ option_or (numbered name table) (cond (bytes_eq name y) (Some k) None)
looked_up name y k [] = refl
looked_up name y k (e ∷ table) = by (bytes_eq name e.0) (looked_up name y k table) where
  by : (b : Bool) → numbered name (table ++ (y, k) ∷ []) ≡ option_or (numbered name table) (cond (bytes_eq name y) (Some k) None)
      → cond b (Some e.1) (numbered name (table ++ (y, k) ∷ [])) ≡ option_or (cond b (Some e.1) (numbered name table)) (cond (bytes_eq name y) (Some k) None)
  by true more = refl
  by false more = more

there_already : {A : Type 0} (o p : Option A) → is_some o ≡ true → o ≡ option_or o p
there_already None p e = absurd (true≢false (sym e))
there_already (Some x) p e = refl

put_is : (name y : List ℕ) (k : ℕ) (table : Table) → numbered name (put_first table y k) ≡ option_or (numbered name table) (cond (bytes_eq name y) (Some k) None)
put_is name y k table = by (is_some (numbered y table)) refl where
  there : is_some (numbered y table) ≡ true → (b : Bool) → bytes_eq name y ≡ b → numbered name table ≡ option_or (numbered name table) (cond b (Some k) None)
  there e true f = there_already (numbered name table) (Some k) (ap (λ z. is_some (numbered z table)) ((bytes_eq-Decides name y).0 f) ∙ e)
  there e false f = sym (or_nothing (numbered name table))

  by : (b : Bool) → is_some (numbered y table) ≡ b → numbered name (cond b table (table ++ (y, k) ∷ [])) ≡ option_or (numbered name table) (cond (bytes_eq name y) (Some k) None)
  by true e = there e (bytes_eq name y) refl
  by false e = looked_up name y k table

-- ---- all of them: the number of the first one, where the members are numbered from k on

abbrev first_number : List ℕ → ℕ → List Member → Option ℕ
first_number name k [] = None
first_number name k (m.Constructor f ∷ xs) = cond (bytes_eq name (constructor_name f)) (Some k) (first_number name (suc k) xs)
first_number name k (m.Function is_static f ∷ xs) = first_number name (suc k) xs
first_number name k (m.Getter is_static f ∷ xs) = first_number name (suc k) xs
first_number name k (m.Setter is_static f ∷ xs) = first_number name (suc k) xs
first_number name k (m.Fields is_static at vs ∷ xs) = first_number name (suc k) xs
first_number name k (m.Operator f ∷ xs) = first_number name (suc k) xs

or_first : (b : Bool) (k : ℕ) (more : Option ℕ) → option_or (cond b (Some k) None) more ≡ cond b (Some k) more
or_first true k more = refl
or_first false k more = refl

all_put : (name : List ℕ) (table : Table) (k : ℕ) (xs : List Member) → numbered name (with_members table k xs) ≡ option_or (numbered name table) (first_number name k xs)
all_put name table k [] = sym (or_nothing (numbered name table))
all_put name table k (m.Constructor f ∷ xs) =
    all_put name (put_first table (constructor_name f) k) (suc k) xs
    ∙ ap (λ o. option_or o (first_number name (suc k) xs)) (put_is name (constructor_name f) k table)
    ∙ or_joined (numbered name table) (cond (bytes_eq name (constructor_name f)) (Some k) None) (first_number name (suc k) xs)
    ∙ ap (option_or (numbered name table)) (or_first (bytes_eq name (constructor_name f)) k (first_number name (suc k) xs))
all_put name table k (m.Function is_static f ∷ xs) = all_put name table (suc k) xs
all_put name table k (m.Getter is_static f ∷ xs) = all_put name table (suc k) xs
all_put name table k (m.Setter is_static f ∷ xs) = all_put name table (suc k) xs
all_put name table k (m.Fields is_static at vs ∷ xs) = all_put name table (suc k) xs
all_put name table k (m.Operator f ∷ xs) = all_put name table (suc k) xs

-- ---- the member of that number

abbrev onward : Option ℕ → Option ℕ
onward None = None
onward (Some k) = Some (suc k)

one_on : (b : Bool) (k : ℕ) (o p : Option ℕ) → p ≡ onward o → cond b (Some (suc k)) p ≡ onward (cond b (Some k) o)
one_on true k o p e = refl
one_on false k o p e = e

number_on : (name : List ℕ) (k : ℕ) (xs : List Member) → first_number name (suc k) xs ≡ onward (first_number name k xs)
number_on name k [] = refl
number_on name k (m.Constructor f ∷ xs) = one_on (bytes_eq name (constructor_name f)) k (first_number name (suc k) xs) (first_number name (suc (suc k)) xs) (number_on name (suc k) xs)
number_on name k (m.Function is_static f ∷ xs) = number_on name (suc k) xs
number_on name k (m.Getter is_static f ∷ xs) = number_on name (suc k) xs
number_on name k (m.Setter is_static f ∷ xs) = number_on name (suc k) xs
number_on name k (m.Fields is_static at vs ∷ xs) = number_on name (suc k) xs
number_on name k (m.Operator f ∷ xs) = number_on name (suc k) xs

past : (x : Member) (xs : List Member) (o p : Option ℕ) → p ≡ onward o → option_and_then (constructor_at (x ∷ xs)) p ≡ option_and_then (constructor_at xs) o
past x xs None p e = ap (option_and_then (constructor_at (x ∷ xs))) e
past x xs (Some k) p e = ap (option_and_then (constructor_at (x ∷ xs))) e

at_first : (name : List ℕ) (xs : List Member) → option_and_then (constructor_at xs) (first_number name 0 xs) ≡ first_named name xs
at_first name [] = refl
at_first name (m.Constructor f ∷ xs) = by (bytes_eq name (constructor_name f)) (past (m.Constructor f) xs (first_number name 0 xs) (first_number name 1 xs) (number_on name 0 xs) ∙ at_first name xs) where
  by : (b : Bool) → option_and_then (constructor_at (m.Constructor f ∷ xs)) (first_number name 1 xs) ≡ first_named name xs
      → option_and_then (constructor_at (m.Constructor f ∷ xs)) (cond b (Some 0) (first_number name 1 xs)) ≡ cond b (Some f) (first_named name xs)
  by true more = refl
  by false more = more
at_first name (m.Function is_static f ∷ xs) = past (m.Function is_static f) xs (first_number name 0 xs) (first_number name 1 xs) (number_on name 0 xs) ∙ at_first name xs
at_first name (m.Getter is_static f ∷ xs) = past (m.Getter is_static f) xs (first_number name 0 xs) (first_number name 1 xs) (number_on name 0 xs) ∙ at_first name xs
at_first name (m.Setter is_static f ∷ xs) = past (m.Setter is_static f) xs (first_number name 0 xs) (first_number name 1 xs) (number_on name 0 xs) ∙ at_first name xs
at_first name (m.Fields is_static at vs ∷ xs) = past (m.Fields is_static at vs) xs (first_number name 0 xs) (first_number name 1 xs) (number_on name 0 xs) ∙ at_first name xs
at_first name (m.Operator f ∷ xs) = past (m.Operator f) xs (first_number name 0 xs) (first_number name 1 xs) (number_on name 0 xs) ∙ at_first name xs

pub named_is : (xs : List Member) (name : List ℕ) → named_in (with_members [] 0 xs) xs name ≡ first_named name xs
named_is xs name = ap (option_and_then (constructor_at xs)) (all_put name [] 0 xs) ∙ at_first name xs
