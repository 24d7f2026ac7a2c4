-- Names put into sets, and settings taken one by one.
use Rattle.std.proofs.Common.{◌≡◌, ◌≤◌, ℕ, Bool, true, false, cond, List, [], ◌∷◌, ◌++◌, length, drop, Option, refl, sym, ap, ◌∙◌}
use Rattle.std.specs.Prelude.{not, ◌||◌, option_to_list}
use Rattle.std.specs.Bool.{then_some}
use Rattle.std.specs.List.{flat_map}
use Rattle.std.specs.Str.{bytes_eq}
use Rattle.std.proofs.lemmas.List.{drop_all}
use Rattle.std.proofs.lemmas.List.Folds.{list_any-append}
use Rattle.std.proofs.lemmas.Slice.Eq.{bytes_eq-Decides}
use Rattle.dart_grammar.specs.declared.declarations.Class.{Class}
use Rattle.dart_grammar.specs.declared.declarations.Member.{Member}
use Rattle.dart_grammar.specs.declared.declarations.Member.TheVariants as m
use Rattle.dart_syntax.specs.declared.rules.Rule.TheVariants.{B9}
use Rattle.dart_syntax.specs.declared.rules.Refusal.{Refusal}
use Rattle.dart_program.specs.Sooner.{sooner, first_with}
use Rattle.library_scopes.specs.Names.{is_among, with_one}
use Rattle.library_scopes.specs.Rules.{refusal}
use Rattle.field_rules.specs.declared.settings.Constructing.{Constructing}
use Rattle.field_rules.specs.Fields.{fields_of, Setting, settings, is_wrong, wrong_settings, wrong_in_member}
use Rattle.field_rules.specs.Rules.{faults, class_faults}
use Rattle.field_rules.specs.Steps.{with_all, set_one, set_all}

-- ---- one behind another

pub all_behind : (set xs ys : List (List ℕ)) → with_all set (xs ++ ys) ≡ with_all (with_all set xs) ys
all_behind set [] ys = refl
all_behind set (x ∷ xs) ys = all_behind (with_one x set) xs ys

pub set_behind : (fields : List (List ℕ)) (v : Constructing) (xs ys : List Setting) → set_all fields v (xs ++ ys) ≡ set_all fields (set_all fields v xs) ys
unfolding set_all
set_behind fields v [] ys = refl
set_behind fields v (x ∷ xs) ys = set_behind fields (set_one fields v x) xs ys

pub set_in_order : (fields : List (List ℕ)) (v : Constructing) (xs ys zs : List Setting) → set_all fields (set_all fields (set_all fields v xs) ys) zs ≡ set_all fields v (xs ++ (ys ++ zs))
set_in_order fields v xs ys zs = sym (set_behind fields v xs (ys ++ zs) ∙ set_behind fields (set_all fields v xs) ys zs)

-- behind the last one
pub none_left : {A : Type 0} (fields : List (List ℕ)) (f : A → List Setting) (xs : List A) (i : ℕ) (v whole : Constructing) → length xs ≤ i → set_all fields v (flat_map f (drop i xs)) ≡ whole → v ≡ whole
unfolding set_all
none_left fields f xs i v whole past e = sym (ap (λ ys. set_all fields v (flat_map f ys)) (drop_all i xs past)) ∙ e

-- ---- which names are in a set

or_none : (a : Bool) → a ≡ (a || false)
or_none true = refl
or_none false = refl

or_all : (a : Bool) → true ≡ (a || true)
or_all true = refl
or_all false = refl

or_joined : (a b c : Bool) → ((a || b) || c) ≡ (a || (b || c))
or_joined true b c = refl
or_joined false b c = refl

behind_all : (x y : List ℕ) (set : List (List ℕ)) → is_among x (set ++ y ∷ []) ≡ (is_among x set || bytes_eq x y)
behind_all x y set = list_any-append (bytes_eq x) set (y ∷ []) ∙ ap (λ b. is_among x set || b) (sym (or_none (bytes_eq x y)))

among_one : (x y : List ℕ) (set : List (List ℕ)) → is_among x (with_one y set) ≡ (is_among x set || bytes_eq x y)
unfolding with_one
among_one x y set = by (is_among y set) refl where
  there : is_among y set ≡ true → (b : Bool) → bytes_eq x y ≡ b → is_among x set ≡ (is_among x set || b)
  there e true f = ap (λ z. is_among z set) ((bytes_eq-Decides x y).0 f) ∙ e ∙ or_all (is_among x set)
  there e false f = or_none (is_among x set)

  by : (b : Bool) → is_among y set ≡ b → is_among x (cond b set (set ++ y ∷ [])) ≡ (is_among x set || bytes_eq x y)
  by true e = there e (bytes_eq x y) refl
  by false e = behind_all x y set

among_all : (x : List ℕ) (xs set : List (List ℕ)) → is_among x (with_all set xs) ≡ (is_among x set || is_among x xs)
among_all x [] set = or_none (is_among x set)
among_all x (y ∷ ys) set = among_all x ys (with_one y set) ∙ ap (λ b. b || is_among x ys) (among_one x y set) ∙ or_joined (is_among x set) (bytes_eq x y) (is_among x ys)

-- ---- sets with the same names

abbrev AreSame : List (List ℕ) → List (List ℕ) → Type 0
AreSame a b = (x : List ℕ) → is_among x a ≡ is_among x b

same_wrong : (a b before : List (List ℕ)) (xs : List Setting) → AreSame a b → wrong_settings a before xs ≡ wrong_settings b before xs
same_wrong a b before [] same = refl
same_wrong a b before (x ∷ xs) same =
    ap (λ is. option_to_list (then_some (not is || is_among x.name before) x.at) ++ wrong_settings a (before ++ x.name ∷ []) xs) (same x.name)
    ∙ ap (λ rest. option_to_list (then_some (is_wrong b before x.name) x.at) ++ rest) (same_wrong a b (before ++ x.name ∷ []) xs same)

same_in_member : (a b : List (List ℕ)) (x : Member) → AreSame a b → wrong_in_member a x ≡ wrong_in_member b x
same_in_member a b (m.Constructor f) same = same_wrong a b [] (settings f) same
same_in_member a b (m.Function is_static f) same = refl
same_in_member a b (m.Getter is_static f) same = refl
same_in_member a b (m.Setter is_static f) same = refl
same_in_member a b (m.Fields is_static at xs) same = refl
same_in_member a b (m.Operator f) same = refl

same_in_members : (n : ℕ) (a b : List (List ℕ)) (xs : List Member) → AreSame a b → flat_map (λ x. faults n (wrong_in_member a x)) xs ≡ flat_map (λ x. faults n (wrong_in_member b x)) xs
same_in_members n a b [] same = refl
same_in_members n a b (x ∷ xs) same =
    ap (λ places. faults n places ++ flat_map (λ x. faults n (wrong_in_member a x)) xs) (same_in_member a b x same)
    ∙ ap (λ rest. faults n (wrong_in_member b x) ++ rest) (same_in_members n a b xs same)

-- by the set of the fields of the class
pub by_set : (n : ℕ) (c : Class) (set : List (List ℕ)) (xs : List Member) (first found : Option Refusal) → set ≡ with_all [] (fields_of c) → xs ≡ c.members → first ≡ first_with found (flat_map (λ x. faults n (wrong_in_member set x)) xs) → first ≡ first_with found (class_faults n c)
by_set n c set xs first found e g f =
    f ∙ ap (λ ys. first_with found (flat_map (λ x. faults n (wrong_in_member set x)) ys)) g ∙ ap (first_with found) (same_in_members n set (fields_of c) c.members (λ x. ap (is_among x) e ∙ among_all x (fields_of c) []))

-- ---- the first wrong setting

first_set : (fields before : List (List ℕ)) (v : Constructing) (xs : List Setting) → AreSame v.set before → (set_all fields v xs).first ≡ first_with v.first (faults v.file (wrong_settings fields before xs))
unfolding set_all
first_set fields before v [] same = refl
first_set fields before v (x ∷ xs) same =
    first_set fields (before ++ x.name ∷ []) (set_one fields v x) xs (λ y. among_one y x.name v.set ∙ ap (λ b. b || bytes_eq y x.name) (same y) ∙ sym (behind_all y x.name before))
    ∙ ap (λ b. first_with (cond (not (is_among x.name fields) || b) (sooner v.first (refusal B9 v.file x.at)) v.first) rest) (same x.name)
    ∙ by (is_wrong fields before x.name) where
      rest : List Refusal
      rest = faults v.file (wrong_settings fields (before ++ x.name ∷ []) xs)

      by : (b : Bool) → first_with (cond b (sooner v.first (refusal B9 v.file x.at)) v.first) rest ≡ first_with v.first (faults v.file (option_to_list (then_some b x.at) ++ wrong_settings fields (before ++ x.name ∷ []) xs))
      by true = refl
      by false = refl

pub first_wrong : (fields : List (List ℕ)) (found : Option Refusal) (n : ℕ) (xs : List Setting) (v : Constructing) → v ≡ set_all fields (record { file = n; first = found; set = [] }) xs → v.first ≡ first_with found (faults n (wrong_settings fields [] xs))
first_wrong fields found n xs v e = ap (λ (v : Constructing). v.first) e ∙ first_set fields [] (record { file = n; first = found; set = [] }) xs (λ x. refl)
