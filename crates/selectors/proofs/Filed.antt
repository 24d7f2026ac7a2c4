-- Tables of files, one file more, and of a program.
use Rattle.std.proofs.Common.{◌≡◌, ℕ, suc, Bool, true, false, cond, List, [], ◌∷◌, ◌++◌, length, Some, None, refl, sym, ap, ◌∙◌, subst, arith}
use Rattle.std.specs.Prelude.{◌==◌, slice_get, option_and_then}
use Rattle.std.specs.List.{flat_map}
use Rattle.std.proofs.lemmas.Bool.{eqb-true, eqb-false}
use Rattle.std.proofs.lemmas.List.{length-append}
use Rattle.dart_program.specs.declared.files.SourceFile.{SourceFile}
use Rattle.dart_sites.specs.Files.{sites_of_file}
use Rattle.dart_sites.specs.Visits.{visited}
use Rattle.library_scopes.specs.Lookups.{is_public}
use Rattle.selectors.specs.declared.selector.Selector.{Selector}
use Rattle.selectors.specs.declared.tables.Tables.{Tables}
use Rattle.selectors.specs.Selectors.{selectors_at, selectors_from, first_seen, selectors, number_in, number_of}
use Rattle.selectors.specs.Tables.{Table, numbered, entries, table_at, AreTables, number_by}
use Rattle.selectors.specs.Collecting.{noted_at, opened, closed, with_file, with_files, no_tables}
use Rattle.selectors.proofs.Same.{made}
use Rattle.selectors.proofs.Seen.{seen_behind}
use Rattle.selectors.proofs.Entries.{numbered_is, table_past, table_last, table_other, table_found}
use Rattle.selectors.proofs.Collected.{collector, tabled, sites_noted, other_sites}

-- ---- one file more

-- the selectors behind this file
abbrev pub seen_with : Tables → SourceFile → List Selector
seen_with t file = first_seen t.listed (flat_map (selectors_at (length t.private)) (sites_of_file file.tree))

opened_is : (t : Tables) → AreTables t → opened t ≡ tabled (length t.private) t.listed
opened_is t a =
    ap (λ p. collector (length t.private) t.listed p []) a.public_is
    ∙ ap (collector (length t.private) t.listed (entries 0 None t.listed)) (sym (table_past t.private) ∙ a.private_is (length t.private))

filed : (t : Tables) (file : SourceFile) → AreTables t → with_file t file ≡ closed t.private (tabled (length t.private) (seen_with t file))
filed t file a = ap (closed t.private) (ap (visited noted_at (sites_of_file file.tree)) (opened_is t a) ∙ sites_noted (length t.private) t.listed (sites_of_file file.tree))

are_tables : (t : Tables) (file : SourceFile) → AreTables t → AreTables (closed t.private (tabled (length t.private) (seen_with t file)))
are_tables t file a = record {
  public_is = refl;
  private_is = λ i. by i (i == length t.private) refl;
} where
  own : Table
  own = entries 0 (Some (length t.private)) (seen_with t file)

  by : (i : ℕ) (b : Bool) → (i == length t.private) ≡ b → table_at (t.private ++ entries 0 (Some (length t.private)) (seen_with t file) ∷ []) i ≡ entries 0 (Some i) (seen_with t file)
  by i true e =
      let here : i ≡ length t.private = eqb-true i (length t.private) e in
      ap (table_at (t.private ++ entries 0 (Some (length t.private)) (seen_with t file) ∷ [])) here
      ∙ table_last t.private (entries 0 (Some (length t.private)) (seen_with t file))
      ∙ ap (λ k. entries 0 (Some k) (seen_with t file)) (sym here)
  by i false e =
      table_other t.private (entries 0 (Some (length t.private)) (seen_with t file)) i (eqb-false i (length t.private) e)
      ∙ a.private_is i
      ∙ sym (other_sites i (length t.private) t.listed (sites_of_file file.tree) e)

-- ---- all files

-- tables, and the list that they have
pub record AreFiled (t : Tables) (l : List Selector) : Type 0 where
  pub tables : AreTables t
  pub listed : t.listed ≡ l

all_filed : (t : Tables) (files : List SourceFile) → AreTables t → AreFiled (with_files t files) (first_seen t.listed (selectors_from (length t.private) files))
all_filed t [] a = record { tables = a; listed = refl }
all_filed t (file ∷ files) a =
    let own : Table = entries 0 (Some (length t.private)) (seen_with t file) in
    let more : length (t.private ++ own ∷ []) ≡ suc (length t.private) = length-append t.private (own ∷ []) ∙ omega arith in
    let later = all_filed (closed t.private (tabled (length t.private) (seen_with t file))) files (are_tables t file a) in
    let P : Tables → Type 0 = λ u. AreFiled (with_files u files) (first_seen t.listed (selectors_from (length t.private) (file ∷ files))) in
    subst P (sym (filed t file a)) (record {
      tables = later.tables;
      listed =
          later.listed
          ∙ ap (λ n. first_seen (seen_with t file) (selectors_from n files)) more
          ∙ sym (seen_behind t.listed (flat_map (selectors_at (length t.private)) (sites_of_file file.tree)) (selectors_from (suc (length t.private)) files));
    })

no_tables_are : AreTables no_tables
no_tables_are = record { public_is = refl; private_is = λ i. refl }

pub program_tables : (t : Tables) (files : List SourceFile) → t ≡ with_files no_tables files → AreTables t
program_tables t files e = subst AreTables (sym e) (all_filed no_tables files no_tables_are).tables

pub program_listed : (t : Tables) (files : List SourceFile) → t ≡ with_files no_tables files → t.listed ≡ selectors files
unfolding selectors
program_listed t files e = ap (λ u. u.listed) e ∙ (all_filed no_tables files no_tables_are).listed

-- ---- numbers

pub number_by_is : (t : Tables) (file : ℕ) (x : List ℕ) → AreTables t → number_by t file x ≡ number_of file x t.listed
number_by_is t file x a = by (is_public x) where
  by : (b : Bool) → cond b (numbered x t.public) (option_and_then (numbered x) (slice_get t.private file)) ≡ number_in 0 (made x (cond b None (Some file))) t.listed
  by true = ap (numbered x) a.public_is ∙ numbered_is x None 0 t.listed
  by false = table_found x t.private file ∙ ap (numbered x) (a.private_is file) ∙ numbered_is x (Some file) 0 t.listed
