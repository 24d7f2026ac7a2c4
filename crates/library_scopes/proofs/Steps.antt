-- Declarations, claims and places one list behind another.
use Rattle.std.proofs.Common.{◌≡◌, ◌<◌, ◌+◌, ℕ, Bool, true, false, cond, List, [], ◌∷◌, ◌++◌, length, get_or, drop, map, Option, Some, None, refl, sym, ap, ◌∙◌, subst}
use Rattle.std.specs.Prelude.{is_some, ◌||◌}
use Rattle.std.proofs.lemmas.List.{at_drop_more, map-append}
use Rattle.indexmap.specs.IndexMap.{insert_entry}
use Rattle.library_scopes.specs.Names.{Table, meaning, with_name, is_among, with_one}
use Rattle.std.specs.List.{flat_map, list_any, filter_map, filter}
use Rattle.std.specs.Map.{lookup}
use Rattle.std.specs.Str.{bytes_eq}
use Rattle.dart_grammar.specs.declared.trees.Variable.{Variable}
use Rattle.library_scopes.specs.Uses.{is_member, has_text}
use Rattle.dart_program.specs.Declares.{variable_name, Declared, AVariable, AField, DeclaredMember, declared_by, declared_by_member}
use Rattle.library_scopes.specs.declared.named.Named.{Named}
use Rattle.library_scopes.specs.declared.reading.Declaring.{Declaring}
use Rattle.library_scopes.specs.declared.doubles.Doubling.{Doubling}
use Rattle.library_scopes.specs.declared.taken.Taken.{Taken}
use Rattle.library_scopes.specs.Reading.{declared_all}
use Rattle.dart_grammar.specs.declared.trees.Name.{Name}
use Rattle.dart_grammar.specs.declared.trees.Body.TheOpen.{Variable-F}
use Rattle.library_scopes.specs.Taken.{Claim, declared_claim, member_claim, is_taken, with_claim, with_claims, doubles, place_if}
use Rattle.library_scopes.specs.Doubling.{claimed, claimed_all, variable_claim}
use Rattle.library_scopes.specs.Rules.{is_main, is_long_main}
use Rattle.library_scopes.specs.Least.{least_with, lesser}

pub declared_behind : (s : Declaring) (xs ys : List Declared) → declared_all s (xs ++ ys) ≡ declared_all (declared_all s xs) ys
declared_behind s [] ys = refl
declared_behind s (x ∷ xs) ys = declared_behind (declared_all s (x ∷ [])) xs ys

pub claimed_behind : (s : Doubling) (xs ys : List Claim) → claimed_all s (xs ++ ys) ≡ claimed_all (claimed_all s xs) ys
claimed_behind s [] ys = refl
claimed_behind s (x ∷ xs) ys = claimed_behind (claimed s x) xs ys

pub least_behind : (o : Option ℕ) (xs ys : List ℕ) → least_with o (xs ++ ys) ≡ least_with (least_with o xs) ys
least_behind o [] ys = refl
least_behind o (x ∷ xs) ys = least_behind (lesser o x) xs ys

pub least_placed : (flag : Bool) (at : ℕ) (o : Option ℕ) (ps : List ℕ) → least_with o (place_if flag at ++ ps) ≡ least_with (cond flag (lesser o at) o) ps
least_placed true at o ps = refl
least_placed false at o ps = refl

-- the first of the claims that come when they are taken one by one
pub claimed_first : (s : Doubling) (xs : List Claim) → (claimed_all s xs).first ≡ least_with s.first (doubles s.taken xs)
claimed_first s [] = refl
claimed_first s (x ∷ xs) = claimed_first (claimed s x) xs ∙ sym (least_placed (is_taken s.taken x.text x.by_what) x.at s.first (doubles (with_claim s.taken x) xs))

pub meaning_is : {K : Type 0} (text : K → List ℕ) (x : List ℕ) (es : List (K × Named)) → lookup (bytes_eq x) (map (λ e. (text e.0, e.1)) es) ≡ lookup (λ k. bytes_eq x (text k)) es
meaning_is text x [] = refl
meaning_is text x (e ∷ es) = ap (cond (bytes_eq x (text e.0)) (Some e.1)) (meaning_is text x es)

-- ---- loops over what gives several

pub flat_step : {A B S : Type 0} (run : S → List B → S) → ((s : S) (xs ys : List B) → run s (xs ++ ys) ≡ run (run s xs) ys) → (f : A → List B) (xs : List A) (i : ℕ) (x : A) (s new whole : S)
    → i < length xs → x ≡ get_or xs i x → new ≡ run s (f x) → run s (flat_map f (drop i xs)) ≡ whole → run new (flat_map f (drop (i + 1) xs)) ≡ whole
flat_step run law f xs i x s new whole lt is step before =
    ap (λ t. run t (flat_map f (drop (i + 1) xs))) step
    ∙ sym (law s (f x) (flat_map f (drop (i + 1) xs)))
    ∙ ap (λ y. run s (f y ++ flat_map f (drop (i + 1) xs))) is
    ∙ sym (at_drop_more (λ ys. run s (flat_map f ys)) xs i x lt)
    ∙ before

pub claims_behind : {A : Type 0} (f : A → Claim) (s : Doubling) (xs ys : List A) → claimed_all s (map f (xs ++ ys)) ≡ claimed_all (claimed_all s (map f xs)) (map f ys)
claims_behind f s xs ys = ap (claimed_all s) (map-append f xs ys) ∙ claimed_behind s (map f xs) (map f ys)

pub taken_behind : (s : Taken) (xs ys : List Claim) → with_claims s (xs ++ ys) ≡ with_claims (with_claims s xs) ys
taken_behind s [] ys = refl
taken_behind s (x ∷ xs) ys = taken_behind (with_claim s x) xs ys

-- ---- variables

pub variables_claimed : (is_final : Bool) (xs : List Variable) → map declared_claim (map (AVariable is_final) xs) ≡ map variable_claim xs
variables_claimed is_final [] = refl
variables_claimed is_final (x ∷ xs) = ap (λ ys. variable_claim x ∷ ys) (variables_claimed is_final xs)

pub fields_claimed : (class : Name) (is_static is_final : Bool) (xs : List Variable) → map (member_claim class) (map (AField is_static is_final) xs) ≡ map variable_claim xs
fields_claimed class is_static is_final [] = refl
fields_claimed class is_static is_final (x ∷ xs) = ap (λ ys. variable_claim x ∷ ys) (fields_claimed class is_static is_final xs)

-- ---- names in tables

pub among_is : {K : Type 0} (text : K → List ℕ) (x : List ℕ) (ks : List K) → is_among x (map text ks) ≡ list_any (λ k. bytes_eq x (text k)) ks
among_is text x [] = refl
among_is text x (k ∷ ks) = ap (λ b. bytes_eq x (text k) || b) (among_is text x ks)

pub with_one_there : (x : List ℕ) (names : List (List ℕ)) → is_among x names ≡ true → names ≡ with_one x names
unfolding with_one
with_one_there x names e = ap (λ b. cond b names (names ++ x ∷ [])) (sym e)

choice_mapped : {K : Type 0} (text : K → List ℕ) (ks : List K) (k : K) (b : Bool) → map text (cond b ks (ks ++ k ∷ [])) ≡ cond b (map text ks) (map text ks ++ text k ∷ [])
choice_mapped text ks k true = refl
choice_mapped text ks k false = map-append text ks (k ∷ [])

pub one_inserted : {K : Type 0} (text : K → List ℕ) (ks new : List K) (k : K) (x : List ℕ) (names : List (List ℕ)) → new ≡ cond (list_any (λ y. bytes_eq (text k) (text y)) ks) ks (ks ++ k ∷ []) → text k ≡ x → map text ks ≡ names → map text new ≡ with_one x names
unfolding with_one
one_inserted text ks new k x names e f g =
    ap (map text) e
    ∙ choice_mapped text ks k (list_any (λ y. bytes_eq (text k) (text y)) ks)
    ∙ ap (λ b. cond b (map text ks) (map text ks ++ text k ∷ [])) (sym (among_is text (text k) ks))
    ∙ ap (λ y. cond (is_among y (map text ks)) (map text ks) (map text ks ++ y ∷ [])) f
    ∙ ap (λ ys. cond (is_among x ys) ys (ys ++ x ∷ [])) g

absent_last : {K : Type 0} (text : K → List ℕ) (es : List (K × Named)) (k : K) (v : Named) → lookup (λ y. bytes_eq (text k) (text y)) es ≡ None → insert_entry (λ a b. bytes_eq (text a) (text b)) es k v ≡ es ++ (k, v) ∷ []
absent_last text [] k v e = refl
absent_last text (y ∷ ys) k v e = by (bytes_eq (text k) (text y.0)) e (λ h. absent_last text ys k v h) where
  by : (b : Bool) → cond b (Some y.1) (lookup (λ z. bytes_eq (text k) (text z)) ys) ≡ None → (lookup (λ z. bytes_eq (text k) (text z)) ys ≡ None → insert_entry (λ a c. bytes_eq (text a) (text c)) ys k v ≡ ys ++ (k, v) ∷ []) → cond b ((y.0, v) ∷ ys) (y ∷ insert_entry (λ a c. bytes_eq (text a) (text c)) ys k v) ≡ y ∷ ys ++ (k, v) ∷ []
  by true e rest = cc
  by false e rest = ap (λ zs. y ∷ zs) (rest e)

pub name_inserted : {K : Type 0} (text : K → List ℕ) (es new : List (K × Named)) (k : K) (v : Named) (x : List ℕ) (table : Table) → new ≡ insert_entry (λ a b. bytes_eq (text a) (text b)) es k v → text k ≡ x → map (λ e. (text e.0, e.1)) es ≡ table → is_some (meaning x table) ≡ false
    → map (λ e. (text e.0, e.1)) new ≡ with_name x v table
unfolding with_name
name_inserted text es new k v x table e f g none =
    let absent : lookup (λ y. bytes_eq (text k) (text y)) es ≡ None = sym (meaning_is text (text k) es) ∙ ap (λ y. meaning y (map (λ e. (text e.0, e.1)) es)) f ∙ ap (meaning x) g ∙ is_none (meaning x table) none in
    ap (map (λ e. (text e.0, e.1))) (e ∙ absent_last text es k v absent)
    ∙ map-append (λ e. (text e.0, e.1)) es ((k, v) ∷ [])
    ∙ ap (λ y. map (λ e. (text e.0, e.1)) es ++ (y, v) ∷ []) f
    ∙ ap (λ ys. ys ++ (x, v) ∷ []) g
    ∙ ap (λ b. cond b table (table ++ (x, v) ∷ [])) (sym none)
  where
    is_none : (o : Option Named) → is_some o ≡ false → o ≡ None
    is_none None h = refl
    is_none (Some y) h = cc

pub with_name_there : (x : List ℕ) (v : Named) (table : Table) → is_some (meaning x table) ≡ true → table ≡ with_name x v table
unfolding with_name
with_name_there x v table e = ap (λ b. cond b table (table ++ (x, v) ∷ [])) (sym e)

-- ---- whether any of several

pub or_false : (b : Bool) → (b || false) ≡ b
or_false true = refl
or_false false = refl

any_joined : {A : Type 0} (p : A → Bool) (xs ys : List A) → list_any p (xs ++ ys) ≡ (list_any p xs || list_any p ys)
any_joined p [] ys = refl
any_joined p (x ∷ xs) ys = by (p x) (any_joined p xs ys) where
  by : (b : Bool) → list_any p (xs ++ ys) ≡ (list_any p xs || list_any p ys) → (b || list_any p (xs ++ ys)) ≡ ((b || list_any p xs) || list_any p ys)
  by true e = refl
  by false e = e

pub any_step : {A B : Type 0} (p : B → Bool) (f : A → List B) (xs : List A) (i : ℕ) (x : A) → i < length xs → x ≡ get_or xs i x → list_any p (flat_map f (drop i xs)) ≡ (list_any p (f x) || list_any p (flat_map f (drop (i + 1) xs)))
any_step p f xs i x lt is =
    at_drop_more (λ ys. list_any p (flat_map f ys)) xs i x lt
    ∙ ap (λ y. list_any p (f y ++ flat_map f (drop (i + 1) xs))) (sym is)
    ∙ any_joined p (f x) (flat_map f (drop (i + 1) xs))

pub any_here : {A B : Type 0} (p : B → Bool) (f : A → List B) (xs : List A) (i : ℕ) (x : A) → i < length xs → x ≡ get_or xs i x → list_any p (f x) ≡ true → list_any p (flat_map f (drop i xs)) ≡ true
any_here p f xs i x lt is e = any_step p f xs i x lt is ∙ ap (λ b. b || list_any p (flat_map f (drop (i + 1) xs))) e

pub any_past : {A B : Type 0} (p : B → Bool) (f : A → List B) (xs : List A) (i : ℕ) (x : A) → i < length xs → x ≡ get_or xs i x → list_any p (f x) ≡ false → list_any p (flat_map f (drop i xs)) ≡ list_any p (flat_map f (drop (i + 1) xs))
any_past p f xs i x lt is e = any_step p f xs i x lt is ∙ ap (λ b. b || list_any p (flat_map f (drop (i + 1) xs))) e

-- Variables are no functions.
pub no_main : (is_final : Bool) (xs : List Variable) → list_any is_main (map (AVariable is_final) xs) ≡ false
no_main is_final [] = refl
no_main is_final (x ∷ xs) = no_main is_final xs

pub no_long_main : (is_final : Bool) (xs : List Variable) → list_any is_long_main (map (AVariable is_final) xs) ≡ false
no_long_main is_final [] = refl
no_long_main is_final (x ∷ xs) = no_long_main is_final xs

-- Fields have their names.
pub fields_named : (x : List ℕ) (class : Name) (is_static is_final : Bool) (vs : List Variable) → list_any (is_member x class) (map (AField is_static is_final) vs) ≡ list_any (λ v. has_text x (variable_name v)) vs
fields_named x class is_static is_final [] = refl
fields_named x class is_static is_final (v ∷ vs) = ap (λ b. has_text x (variable_name v) || b) (fields_named x class is_static is_final vs)
