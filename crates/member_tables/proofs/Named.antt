-- What the numbers of names tell: a member is found under the selector of each of them, and under no other one.
use Rattle.std.proofs.Common.{◌≡◌, ℕ, zero, suc, ◌<◌, ◌≤◌, ◌^◌, ◌==◌, Bool, true, false, cond, List, [], ◌∷◌, length, map, Option, Some, None, inl, inr, refl, sym, ap, ◌∙◌, subst, arith}
use Rattle.std.specs.Prelude.{◌⊎◌, ◌||◌, if◌then◌else◌, slice_get}
use Rattle.std.specs.List.{list_any}
use Rattle.std.specs.Option.{option_map}
use Rattle.std.proofs.lemmas.Bool.{true≢false, cases_Bool, eq-eqb}
use Rattle.std.proofs.lemmas.Bool.Decides.{eqb_tells}
use Rattle.std.proofs.lemmas.Option.{none-some, same_Some, slice_get-map, slice_get_within}
use Rattle.dart_grammar.specs.declared.trees.Variable.{Variable}
use Rattle.dart_program.specs.declared.files.SourceFile.{SourceFile}
use Rattle.dart_program.specs.Declares.{DeclaredMember, AField, variable_name}
use Rattle.persistent_maps.specs.declared.maps.Maps.{Maps}
use Rattle.persistent_maps.specs.Maps.{bits_of}
use Rattle.selectors.specs.declared.selector.Selector.{Selector}
use Rattle.selectors.specs.Selectors.{selector_in, same_selector, selectors, with_setter, number_in, number_of, selector_number}
use Rattle.selectors.proofs.Same.{selector_same, selector_from_same}
use Rattle.selectors.proofs.Laws.{number_at_place, selector_at_number}
use Rattle.class_heads.specs.Sources.{Sources}
use Rattle.class_members.specs.declared.members.MemberNode.{MemberNode}
use Rattle.class_members.specs.Members.{members}
use Rattle.class_members.specs.Owners.{is_number}
use Rattle.member_tables.specs.Lookup.{found_under, declared_by_node, names_of, answers_if, answers_at}
use Rattle.member_tables.specs.Keys.{numbers_of, declared_keys, member_keys, keys_if, keys_at, is_among}
use Rattle.member_tables.specs.Filling.{AreKeys}

-- ---- what a member of a body declares under a number

pub declared_alone : (listed : List Selector) (file : ℕ) (x : DeclaredMember) (number : ℕ) (keys : List (Option ℕ)) → keys ≡ numbers_of listed file (found_under x) → (if number == 0 then keys else []) ≡ declared_keys listed file (slice_get (x ∷ []) number)
declared_alone listed file x zero keys e = e
declared_alone listed file x (suc number) keys e = elim (eqb_tells (suc number) 0) [ inl same ↦ absurd (omega (arith, same.1)) | inr apart ↦ ap (λ b. cond b keys []) apart.0 ]

module _ (listed : List Selector) (file : ℕ) (is_static is_final : Bool) (fields : List Variable) (number : ℕ) where
  abbrev declared : Option DeclaredMember
  declared = slice_get (map (AField is_static is_final) fields) number

  declared_is : declared ≡ option_map (AField is_static is_final) (slice_get fields number)
  declared_is = slice_get-map (AField is_static is_final) fields number

  pub no_field : None ≡ slice_get fields number → [] ≡ declared_keys listed file declared
  no_field e = sym (ap (declared_keys listed file) (declared_is ∙ ap (option_map (AField is_static is_final)) (sym e)))

  pub field_there : (x : Variable) → Some x ≡ slice_get fields number → numbers_of listed file (if is_static then [] else with_setter is_final (variable_name x).text) ≡ declared_keys listed file declared
  field_there x e = sym (ap (declared_keys listed file) (declared_is ∙ ap (option_map (AField is_static is_final)) (sym e)))

-- ---- one name

module _ (files : List SourceFile) (file : ℕ) (text : List ℕ) where
  abbrev name : Selector
  name = selector_in file text

  at_number : (n : ℕ) → number_in 0 name (selectors files) ≡ Some n → slice_get (selectors files) n ≡ Some name
  unfolding selector_number
  at_number n e = selector_at_number files file text n e

  -- The number of a name tells whether a selector is that name.
  number_tells : (n : ℕ) (s : Selector) → slice_get (selectors files) n ≡ Some s → is_number n (number_of file text (selectors files)) ≡ same_selector s name
  number_tells n s e = by (cases_Bool (same_selector s name)) where
    other : same_selector s name ≡ false → (o : Option ℕ) → number_in 0 name (selectors files) ≡ o → is_number n o ≡ false
    other not None is = refl
    other not (Some m) is =
        elim (eqb_tells n m) [
          | inl same ↦ absurd (true≢false (sym (selector_from_same s name (same_Some s name (sym e ∙ ap (slice_get (selectors files)) same.1 ∙ at_number m is))) ∙ not))
          | inr apart ↦ apart.0
        ]

    by : (same_selector s name ≡ true) ⊎ (same_selector s name ≡ false) → is_number n (number_of file text (selectors files)) ≡ same_selector s name
    by (inl same) = ap (is_number n) (ap (λ t. number_in 0 t (selectors files)) (sym (selector_same s name same)) ∙ number_at_place files n s e) ∙ eq-eqb n n refl ∙ sym same
    by (inr not) = other not (number_in 0 name (selectors files)) refl ∙ sym not

  -- What is no number of a selector is that of no name.
  no_number : (n : ℕ) → slice_get (selectors files) n ≡ None → is_number n (number_of file text (selectors files)) ≡ false
  no_number n e = by (number_in 0 name (selectors files)) refl where
    by : (o : Option ℕ) → number_in 0 name (selectors files) ≡ o → is_number n o ≡ false
    by None is = refl
    by (Some m) is =
        elim (eqb_tells n m) [
          | inl same ↦ absurd (none-some name (sym e ∙ ap (slice_get (selectors files)) same.1 ∙ at_number m is))
          | inr apart ↦ apart.0
        ]

-- ---- all names of a member

keys_tell : (files : List SourceFile) (file n : ℕ) (s : Selector) (texts : List (List ℕ)) → slice_get (selectors files) n ≡ Some s → is_among n (numbers_of (selectors files) file texts) ≡ list_any (λ text. same_selector s (selector_in file text)) texts
keys_tell files file n s [] e = refl
keys_tell files file n s (x ∷ xs) e =
    ap (λ b. b || is_among n (numbers_of (selectors files) file xs)) (number_tells files file x n s e)
    ∙ ap (λ b. same_selector s (selector_in file x) || b) (keys_tell files file n s xs e)

no_keys : (files : List SourceFile) (file n : ℕ) (texts : List (List ℕ)) → slice_get (selectors files) n ≡ None → is_among n (numbers_of (selectors files) file texts) ≡ false
no_keys files file n [] e = refl
no_keys files file n (x ∷ xs) e = ap (λ b. b || is_among n (numbers_of (selectors files) file xs)) (no_number files file x n e) ∙ no_keys files file n xs e

-- Numbers of names are keys of maps that have room for all selectors.
names_are_keys : (files : List SourceFile) (file : ℕ) (texts : List (List ℕ)) (maps : Maps) → length (selectors files) ≤ 2 ^ bits_of maps → AreKeys maps (numbers_of (selectors files) file texts)
names_are_keys files file texts maps le = record { each = λ n among. by n among (slice_get (selectors files) n) refl } where
  by : (n : ℕ) → is_among n (numbers_of (selectors files) file texts) ≡ true → (o : Option Selector) → slice_get (selectors files) n ≡ o → n < 2 ^ bits_of maps
  by n among None e = absurd (true≢false (sym among ∙ no_keys files file n texts e))
  by n among (Some s) e = omega (arith, slice_get_within (selectors files) n s e, le)

pub keys_are_keys : (p : Sources) (listed : List Selector) (x : MemberNode) (keys : List (Option ℕ)) (maps : Maps) → keys ≡ member_keys p listed x → listed ≡ selectors p.files → length listed ≤ 2 ^ bits_of maps → AreKeys maps keys
keys_are_keys p listed x keys maps e same le =
    subst (AreKeys maps) (sym (e ∙ ap (λ l. member_keys p l x) same)) (names_are_keys p.files x.file (names_of (declared_by_node p x)) maps (subst (λ l. length l ≤ 2 ^ bits_of maps) same le))

-- ---- by the numbers of selectors and of members

-- as the walk upwards asks it
abbrev pub answers_to : Sources → Option Selector → ℕ → Bool
answers_to p None = λ m. false
answers_to p (Some s) = answers_at p s

abbrev asked : Sources → Option Selector → Option MemberNode → Bool
asked p None x = false
asked p (Some s) x = answers_if p s x

asked_is : (p : Sources) (o : Option Selector) (m : ℕ) → asked p o (slice_get (members p) m) ≡ answers_to p o m
asked_is p None m = refl
asked_is p (Some s) m = refl

keys_asked : (p : Sources) (n : ℕ) (x : Option MemberNode) (o : Option Selector) → slice_get (selectors p.files) n ≡ o → is_among n (keys_if p x) ≡ asked p o x
keys_asked p n None None e = refl
keys_asked p n None (Some s) e = refl
keys_asked p n (Some x) None e = no_keys p.files x.file n (names_of (declared_by_node p x)) e
keys_asked p n (Some x) (Some s) e = keys_tell p.files x.file n s (names_of (declared_by_node p x)) e

pub keys_answer : (p : Sources) (n m : ℕ) → is_among n (keys_at p m) ≡ answers_to p (slice_get (selectors p.files) n) m
keys_answer p n m = keys_asked p n (slice_get (members p) m) (slice_get (selectors p.files) n) refl ∙ asked_is p (slice_get (selectors p.files) n) m
