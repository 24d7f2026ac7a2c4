-- What is asked for is asked for by the files.
use Rattle.std.proofs.Common.{◌≡◌, ℕ, zero, suc, ◌+◌, ◌≤◌, ◌<◌, Bool, true, false, cond, List, [], ◌∷◌, ◌++◌, length, Option, Some, None, refl, sym, ap, ◌∙◌, subst, arith}
use Rattle.std.specs.Prelude.{not, flat_map, slice_get}
use Rattle.std.specs.List.{AllByRecursion}
use Rattle.dart_grammar.specs.declared.declarations.Import.{Import}
use Rattle.dart_program.specs.declared.files.SourceFile.{SourceFile}
use Rattle.dart_program.specs.Paths.{is_core, named_from}
use Rattle.dart_program.specs.Loading.{Asked, asked_first, asked_by, asked_from, asks_for, each_once, asked}
use Rattle.source_loading.proofs.Names.{all_filtered}

abbrev pub IsWithin : ℕ → ℕ → Asked → Type 0
IsWithin low high x = (low ≤ x.file) × (x.file ≤ high)

all_once : (P : Asked → Type 0) (xs : List Asked) → AllByRecursion P xs → AllByRecursion P (each_once xs)
all_once P [] all = tt
all_once P (x ∷ xs) all = (all.0, all_filtered P (λ y. not (asks_for x.name y)) (each_once xs) (all_once P xs all.1))

all_both : {X : Type 0} (P : X → Type 0) (xs ys : List X) → AllByRecursion P xs → AllByRecursion P ys → AllByRecursion P (xs ++ ys)
all_both P [] ys a b = b
all_both P (x ∷ xs) ys a b = (a.0, all_both P xs ys a.1 b)

import_within : (low high n : ℕ) (name : List ℕ) (i : Import) → low ≤ n → n ≤ high → AllByRecursion (IsWithin low high) (asked_by n name i)
import_within low high n name i l h = by (is_core i.uri) where
  by : (b : Bool) → AllByRecursion (IsWithin low high) (cond b [] (record { name = named_from name i.uri; file = n; at = i.uri_span.from } ∷ []))
  by true = tt
  by false = ((l, h), tt)

imports_within : (low high n : ℕ) (name : List ℕ) (is : List Import) → low ≤ n → n ≤ high → AllByRecursion (IsWithin low high) (flat_map (asked_by n name) is)
imports_within low high n name [] l h = tt
imports_within low high n name (i ∷ is) l h = all_both (IsWithin low high) (asked_by n name i) (flat_map (asked_by n name) is) (import_within low high n name i l h) (imports_within low high n name is l h)

files_within : (low high n : ℕ) (files : List SourceFile) → low ≤ n → n + length files ≤ suc high → AllByRecursion (IsWithin low high) (asked_from n files)
files_within low high n [] l h = tt
files_within low high n (f ∷ files) l h =
    let here : n ≤ high = omega arith in
    let more : suc n + length files ≤ suc high = omega arith in
    let later : low ≤ suc n = omega arith in
    all_both (IsWithin low high) (flat_map (asked_by n f.name) f.tree.imports) (asked_from (suc n) files) (imports_within low high n f.name f.tree.imports l here) (files_within low high (suc n) files later more)

-- by a file that is loaded, where there is one
pub asked_within : (entry : List ℕ) (files : List SourceFile) → 1 ≤ length files → AllByRecursion (IsWithin 1 (length files)) (asked entry files)
unfolding asked
asked_within entry files some =
    let one : 1 ≤ 1 = omega arith in
    let all : 1 + length files ≤ suc (length files) = omega arith in
    all_once (IsWithin 1 (length files)) (asked_first entry ∷ asked_from 1 files) ((one, some), files_within 1 (length files) 1 files one all)

-- the entry alone, where there is none
pub asked_alone : (entry : List ℕ) (x : Asked) → slice_get (asked entry []) 0 ≡ Some x → asked_first entry ≡ x
unfolding asked
asked_alone entry x e = cc

pub alone : (entry : List ℕ) → slice_get (asked entry []) 0 ≡ Some (asked_first entry)
unfolding asked
alone entry = refl
