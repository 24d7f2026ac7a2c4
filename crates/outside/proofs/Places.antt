-- Files in a list, found, replaced and added.
use Rattle.std.proofs.Common.{Bool, not, ◌≡◌, ◌≢◌, ℕ, zero, suc, ◌<◌, ◌≤◌, true, false, cond, List, [], ◌∷◌, ◌++◌, length, get_or, Some, None, refl, sym, ap, ◌∙◌, subst, ⊎_elim, arith}
use Rattle.std.specs.Prelude.{slice_set}
use Rattle.std.proofs.lemmas.Slice.Eq.{bytes_eq-Decides}
use Rattle.std.specs.Char.Utf16.{has_unpaired_surrogate}
use Rattle.std.specs.Str.{IsUtf8}
use Rattle.std.specs.Cmp.Derive.{both_true}
use Rattle.std.proofs.str.Laws.{both}
use Rattle.code_units.specs.Text.{units_of, utf8_of}
use Rattle.code_units.proofs.TextLaws.{utf8_comes_back, reads_pairs}
use Rattle.std.proofs.lemmas.Bool.{cases_Bool}
use Rattle.code_units.specs.declared.lists.NamedFile.{NamedFile}
use Rattle.outside.specs.Outside.{Puts}
use Rattle.outside.specs.InMemory.{is_named, held_in}
use Rattle.outside.specs.Places.{IsFirstOf, IsPassed}

pub passed_more : (files : List NamedFile) (name : List ℕ) (i : ℕ) (file : NamedFile) → i < length files → file ≡ get_or files i file → is_named file name ≡ false → IsPassed files name i → IsPassed files name (suc i)
passed_more [] name i file lt is differs passed = tt
passed_more (f ∷ files) name zero file lt is differs passed = (subst (λ (f : NamedFile). is_named f name ≡ false) is differs, tt)
passed_more (f ∷ files) name (suc i) file lt is differs passed =
    let lt' : i < length files = omega arith in
    (passed.0, passed_more files name i file lt' is differs passed.1)

pub first_here : (files : List NamedFile) (name : List ℕ) (i : ℕ) (file : NamedFile) → i < length files → file ≡ get_or files i file → is_named file name ≡ true → IsPassed files name i → IsFirstOf files name i
first_here [] name i file lt is equal passed = absurd (omega arith)
first_here (f ∷ files) name zero file lt is equal passed = subst (λ (f : NamedFile). is_named f name ≡ true) is equal
first_here (f ∷ files) name (suc i) file lt is equal passed =
    let lt' : i < length files = omega arith in
    (passed.0, first_here files name i file lt' is equal passed.1)

miss : (file : NamedFile) (files : List NamedFile) (name : List ℕ) → is_named file name ≡ false → held_in (file ∷ files) name ≡ held_in files name
miss file files name differs = ap (λ b. cond b (Some file.bytes) (held_in files name)) differs

hit : (file : NamedFile) (files : List NamedFile) (name : List ℕ) → is_named file name ≡ true → held_in (file ∷ files) name ≡ Some file.bytes
hit file files name equal = ap (λ b. cond b (Some file.bytes) (held_in files name)) equal

pub none_held : (files : List NamedFile) (name : List ℕ) (i : ℕ) → length files ≤ i → IsPassed files name i → held_in files name ≡ None
none_held [] name i le passed = refl
none_held (f ∷ files) name zero le passed = absurd (omega arith)
none_held (f ∷ files) name (suc i) le passed =
    let le' : length files ≤ i = omega arith in
    miss f files name passed.0 ∙ none_held files name i le' passed.1

pub held_at_first : (files : List NamedFile) (name : List ℕ) (i : ℕ) (file : NamedFile) → file ≡ get_or files i file → IsFirstOf files name i → held_in files name ≡ Some file.bytes
held_at_first [] name i file is first = absurd first
held_at_first (f ∷ files) name zero file is first = hit f files name first ∙ ap (λ (f : NamedFile). Some f.bytes) (sym is)
held_at_first (f ∷ files) name (suc i) file is first = miss f files name first.0 ∙ held_at_first files name i file is first.1

-- one file has one name
one_name : (file : NamedFile) (a b : List ℕ) → is_named file a ≡ true → is_named file b ≡ true → a ≡ b
one_name file a b named_a named_b =
    sym ((bytes_eq-Decides (utf8_of file.name) a).0 (both _ _ named_a).1) ∙ (bytes_eq-Decides (utf8_of file.name) b).0 (both _ _ named_b).1

-- a file that has the name has no other
other_name : (file : NamedFile) (name other : List ℕ) → is_named file name ≡ true → other ≢ name → is_named file other ≡ false
other_name file name other named ne =
    ⊎_elim (λ (equal : is_named file other ≡ true). absurd (ne (one_name file other name equal named))) (λ (differs : is_named file other ≡ false). differs) (cases_Bool (is_named file other))

-- what a comparison of the name with a text says
pub named_from_spelled : (file : NamedFile) (name : List ℕ) → (has_unpaired_surrogate file.name ≡ false) × (utf8_of file.name ≡ name) → is_named file name ≡ true
named_from_spelled file name spelled = both_true (ap not spelled.0) ((bytes_eq-Decides (utf8_of file.name) name).1 spelled.1)

pub unnamed_from_unspelled : (file : NamedFile) (name : List ℕ) → ¬ ((has_unpaired_surrogate file.name ≡ false) × (utf8_of file.name ≡ name)) → is_named file name ≡ false
unnamed_from_unspelled file name unspelled =
    ⊎_elim
    (λ (named : is_named file name ≡ true).
    let parts = both _ _ named in
    absurd (unspelled (no_true (has_unpaired_surrogate file.name) parts.0, (bytes_eq-Decides (utf8_of file.name) name).0 parts.1)))
    (λ (unnamed : is_named file name ≡ false). unnamed)
    (cases_Bool (is_named file name)) where
      no_true : (b : Bool) → not b ≡ true → b ≡ false
      no_true true e = cc
      no_true false e = refl

pub named_by_units : (file : NamedFile) (name : List ℕ) → IsUtf8 name → file.name ≡ units_of name → is_named file name ≡ true
named_by_units file name utf8 units =
    named_from_spelled file name (ap has_unpaired_surrogate units ∙ reads_pairs name utf8, ap utf8_of units ∙ utf8_comes_back name utf8)

module _ (file : NamedFile) (name : List ℕ) (named : is_named file name ≡ true) where
  set_there : (files : List NamedFile) (i : ℕ) → IsFirstOf files name i → held_in (slice_set files i file) name ≡ Some file.bytes
  set_there [] i first = absurd first
  set_there (f ∷ files) zero first = hit file files name named
  set_there (f ∷ files) (suc i) first = miss f (slice_set files i file) name first.0 ∙ set_there files i first.1

  set_others : (files : List NamedFile) (i : ℕ) → IsFirstOf files name i → (other : List ℕ) → other ≢ name → held_in (slice_set files i file) other ≡ held_in files other
  set_others [] i first other ne = absurd first
  set_others (f ∷ files) zero first other ne =
      miss file files other (other_name file name other named ne) ∙ sym (miss f files other (other_name f name other first ne))
  set_others (f ∷ files) (suc i) first other ne = ap (λ r. cond (is_named f other) (Some f.bytes) r) (set_others files i first.1 other ne)

  pub puts_set : (files : List NamedFile) (i : ℕ) → IsFirstOf files name i → Puts name file.bytes (held_in files) (held_in (slice_set files i file))
  puts_set files i first = record { put = set_there files i first; others = set_others files i first }

  push_there : (files : List NamedFile) → held_in files name ≡ None → held_in (files ++ file ∷ []) name ≡ Some file.bytes
  push_there [] none = hit file [] name named
  push_there (f ∷ files) none =
      ⊎_elim
      (λ (equal : is_named f name ≡ true). let e : Some f.bytes ≡ None = sym (hit f files name equal) ∙ none in absurd (cc e))
      (λ (differs : is_named f name ≡ false). miss f (files ++ file ∷ []) name differs ∙ push_there files (sym (miss f files name differs) ∙ none))
      (cases_Bool (is_named f name))

  push_others : (files : List NamedFile) (other : List ℕ) → other ≢ name → held_in (files ++ file ∷ []) other ≡ held_in files other
  push_others [] other ne = miss file [] other (other_name file name other named ne)
  push_others (f ∷ files) other ne = ap (λ r. cond (is_named f other) (Some f.bytes) r) (push_others files other ne)

  pub puts_push : (files : List NamedFile) → held_in files name ≡ None → Puts name file.bytes (held_in files) (held_in (files ++ file ∷ []))
  puts_push files none = record { put = push_there files none; others = push_others files }
