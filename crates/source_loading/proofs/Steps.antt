-- From what is loaded so far to one file more, or to what stops it.
use Rattle.std.proofs.Common.{◌≡◌, ℕ, zero, suc, ◌+◌, ◌≤◌, ◌<◌, List, [], ◌∷◌, ◌++◌, length, map, Option, Some, None, Result, Ok, Err, refl, sym, ap, ◌∙◌, subst, arith}
use Rattle.std.specs.Prelude.{slice_get, option_map}
use Rattle.std.specs.List.{AllByRecursion}
use Rattle.std.proofs.lemmas.List.{map-append, length-map, length_push}
use Rattle.std.proofs.lemmas.Option.{slice_get-map, none-some}
use Rattle.outside.specs.Outside.{Held}
use Rattle.dart_syntax.specs.declared.rules.Rule.{Rule}
use Rattle.dart_syntax.specs.declared.rules.Refusal.{Refusal}
use Rattle.dart_program.specs.declared.files.SourceFile.{SourceFile}
use Rattle.dart_program.specs.Paths.{entry_name}
use Rattle.dart_program.specs.Loading.{Asked, asked, asked_first, content, Loads, none, next, IsFine, Breaks, most_files, most_in_all}
use Rattle.source_loading.specs.declared.files.LoadedFile.{LoadedFile}
use Rattle.source_loading.specs.declared.files.FileFault.{FileFault}
use Rattle.source_loading.specs.declared.files.FileFault.TheVariants as file
use Rattle.source_loading.specs.declared.loading.Loading.{Loading}
use Rattle.source_loading.specs.declared.programs.LoadFault.{LoadFault}
use Rattle.source_loading.specs.declared.programs.LoadFault.TheVariants.{Refused, ReadFault, Memory}
use Rattle.source_loading.specs.Tells.{Agrees, IsNameOf, of_word, of_file, LoadCause}
use Rattle.source_loading.specs.Reading.{ComesBack}
use Rattle.source_loading.specs.Files.{unlinked, OfSome, IsFineFile, FileTells, FileCause}
use Rattle.source_loading.specs.Progress.{file_of, own_name, name_or, asker_name, Progress, IsStopped, FaultTells, IsToldAs}
use Rattle.source_loading.proofs.Names.{all_push, all_at, asked_at}
use Rattle.source_loading.proofs.Held.{fine_held, breaks_held, IsJoined, joined}
use Rattle.source_loading.proofs.Askers.{IsWithin, asked_within, asked_alone, alone}

-- ---- the name of the asker

there : {X : Type 0} (xs : List X) (i : ℕ) → i < length xs → slice_get xs i ≡ None → ⊥
there [] i below e = absurd (omega arith)
there (x ∷ xs) zero below e = none-some x (sym e)
there (x ∷ xs) (suc i) below e = there xs i (omega arith) e

file_there : (files : List LoadedFile) (k : ℕ) → 1 ≤ k → k ≤ length files → file_of files k ≡ None → ⊥
file_there files zero low high e = absurd (omega arith)
file_there files (suc i) low high e = there files i (omega arith) e

file_named : (held : Held) (entry : List ℕ) (files : List LoadedFile) (size k : ℕ) (f : LoadedFile) → Loads held entry (map unlinked files) size → file_of files k ≡ Some f → IsNameOf held entry k f.name
file_named held entry files size zero f loads e = absurd (none-some f e)
file_named held entry files size (suc i) f loads e = go (asked_at held entry (map unlinked files) size i (unlinked f) loads (slice_get-map unlinked files i ∙ ap (λ (o : Option LoadedFile). option_map unlinked o) e)) where
  go : ((y : Asked) × (slice_get (asked entry (map unlinked files)) i ≡ Some y) × (y.name ≡ Some f.name)) → IsNameOf held entry (suc i) f.name
  go (y, at, name) = of_file loads at name

entry_named : (held : Held) (entry : List ℕ) (name : Option (List ℕ)) → entry_name entry ≡ name → IsNameOf held entry 1 (own_name name entry)
entry_named held entry None e = of_word e
entry_named held entry (Some name) e = of_file none (alone entry) e

asker_named : (held : Held) (entry : List ℕ) (files : List LoadedFile) (size : ℕ) (x : Asked) → Loads held entry (map unlinked files) size → slice_get (asked entry (map unlinked files)) (length files) ≡ Some x
    → IsNameOf held entry x.file (asker_name files entry x)
asker_named held entry files size x loads at = by (file_of files x.file) refl where
  alone_named : asked_first entry ≡ x → IsNameOf held entry x.file (own_name x.name entry)
  alone_named e = subst (λ (y : Asked). IsNameOf held entry y.file (own_name y.name entry)) e (entry_named held entry (entry_name entry) refl)

  first : (fs : List LoadedFile) → slice_get (asked entry (map unlinked fs)) (length fs) ≡ Some x → file_of fs x.file ≡ None → IsNameOf held entry x.file (own_name x.name entry)
  first [] g e = alone_named (asked_alone entry x g)
  first (f ∷ fs) g e =
      let some : 1 ≤ length (map unlinked (f ∷ fs)) = omega arith in
      let within : IsWithin 1 (length (map unlinked (f ∷ fs))) x = all_at (IsWithin 1 (length (map unlinked (f ∷ fs)))) (asked entry (map unlinked (f ∷ fs))) (length (f ∷ fs)) x (asked_within entry (map unlinked (f ∷ fs)) some) g in
      let len : length (map unlinked (f ∷ fs)) ≡ length (f ∷ fs) = length-map (f ∷ fs) unlinked in
      absurd (file_there (f ∷ fs) x.file within.0 (omega arith) e)

  by : (o : Option LoadedFile) → file_of files x.file ≡ o → IsNameOf held entry x.file (name_or o (own_name x.name entry))
  by None e = first files at e
  by (Some f) e = file_named held entry files size x.file f loads e

-- ---- one step

all_unlinked : (files : List LoadedFile) → AllByRecursion (λ f. ComesBack f.name) files → AllByRecursion (λ f. ComesBack f.name) (map unlinked files)
all_unlinked [] all = tt
all_unlinked (f ∷ files) all = (all.0, all_unlinked files all.1)

module _ (told : Option Held) (entry : List ℕ) (files : List LoadedFile) (size : ℕ) (x : Asked) (p : Progress told entry files size) (at : slice_get (asked entry (map unlinked files)) (length files) ≡ Some x) where
  as_next : slice_get (asked entry (map unlinked files)) (length (map unlinked files)) ≡ Some x
  as_next = ap (slice_get (asked entry (map unlinked files))) (length-map files unlinked) ∙ at

  join : (P : Held → Type 0) (some : OfSome told x P) → IsJoined told entry (map unlinked files) size x (content some.held x)
  join P some = joined told p.held some.held entry (map unlinked files) size x p.agrees some.agrees p.loads as_next some.back (all_unlinked files p.back)

  pub advanced : (file : LoadedFile) → OfSome told x (IsFineFile (suc (length files)) size x file) → Progress told entry (files ++ file ∷ []) (size + file.length)
  advanced file some = go (join (IsFineFile (suc (length files)) size x file) some) where
    go : IsJoined told entry (map unlinked files) size x (content some.held x) → Progress told entry (files ++ file ∷ []) (size + file.length)
    go j =
        let fine : IsFine j.held (suc (length files)) size x some.so.bytes (unlinked file) = fine_held j.held some.held (suc (length files)) size x some.so.bytes (unlinked file) j.content_is some.so.fine in
        let fine_next : IsFine j.held (suc (length (map unlinked files))) size x some.so.bytes (unlinked file) = subst (λ k. IsFine j.held (suc k) size x some.so.bytes (unlinked file)) (sym (length-map files unlinked)) fine in
        let few : suc (length files) ≤ most_files = fine.few in
        let room : size + length some.so.bytes ≤ most_in_all = fine.room in
        let len : file.length ≡ length some.so.bytes = some.so.length_is in
        record {
          held = j.held;
          agrees = j.agrees;
          loads = subst (λ fs. Loads j.held entry fs (size + file.length)) (sym (map-append unlinked files (file ∷ [])))
              (subst (λ k. Loads j.held entry (map unlinked files ++ unlinked file ∷ []) (size + k)) (sym len) (next j.loads as_next fine_next));
          back = all_push (λ (f : LoadedFile). ComesBack f.name) files file p.back (some.back file.name fine.name);
          few = rw (length_push files file) (omega arith);
          room = omega arith;
        }

  stopped : (rule : Rule) (number place : ℕ) (name : List ℕ) (some : OfSome told x (λ held. Breaks held (suc (length files)) size x rule number place))
      → ((held : Held) → Loads held entry (map unlinked files) size → IsNameOf held entry number name) → IsStopped told entry (record { rule = rule; file = number; at = place }) name
  stopped rule number place name some named = go (join (λ held. Breaks held (suc (length files)) size x rule number place) some) where
    go : IsJoined told entry (map unlinked files) size x (content some.held x) → IsStopped told entry (record { rule = rule; file = number; at = place }) name
    go j = record {
      held = j.held;
      agrees = j.agrees;
      files = map unlinked files;
      size = size;
      x = x;
      loads = j.loads;
      next = as_next;
      breaks = subst (λ k. Breaks j.held (suc k) size x rule number place) (sym (length-map files unlinked)) (breaks_held j.held some.held (suc (length files)) size x rule number place j.content_is some.so);
      named = named j.held j.loads;
    }

  told_so : (refusal other : Refusal) (name own : List ℕ) → refusal ≡ other → name ≡ own → IsStopped told entry other own → IsStopped told entry refusal name
  told_so refusal other name own e f s = subst (λ r. IsStopped told entry r name) (sym e) (subst (IsStopped told entry other) (sym f) s)

  -- what a fault of the next file is told as
  pub fault_told : (fault : FileFault) (r : LoadFault) → FileTells told (suc (length files)) size x (Err fault) → IsToldAs files entry x fault r → FaultTells told entry r
  fault_told (file.WhereAsked rule) (Refused refusal name) some (e, f) =
      told_so refusal (record { rule = rule; file = x.file; at = x.at }) name (asker_name files entry x) e f
      (stopped rule x.file x.at (asker_name files entry x) some (λ held loads. asker_named held entry files size x loads at))
  fault_told (file.WhereAsked rule) (ReadFault name) some is = absurd is
  fault_told (file.WhereAsked rule) Memory some is = tt
  fault_told (file.Within rule place own) (Refused refusal name) some (e, f) =
      told_so refusal (record { rule = rule; file = suc (length files); at = place }) name own e f
      (stopped rule (suc (length files)) place own some.1 (λ held loads. of_file loads at some.0))
  fault_told (file.Within rule place own) (ReadFault name) some is = absurd is
  fault_told (file.Within rule place own) Memory some is = absurd is
  fault_told (file.ReadFault own) (Refused refusal name) some is = absurd is
  fault_told (file.ReadFault own) (ReadFault name) some is = tt
  fault_told (file.ReadFault own) Memory some is = absurd is
  fault_told file.Memory (Refused refusal name) some is = absurd is
  fault_told file.Memory (ReadFault name) some is = absurd is
  fault_told file.Memory Memory some is = tt

pub fault_cause : (files : List LoadedFile) (entry : List ℕ) (x : Asked) (before now : ℕ) (fault : FileFault) (r : LoadFault) → FileCause {T = LoadedFile} before now (Err fault) → IsToldAs files entry x fault r
    → LoadCause {T = Option LoadedFile} before now (Err r)
fault_cause files entry x before now (file.WhereAsked rule) (Refused refusal name) cause is = cause
fault_cause files entry x before now (file.WhereAsked rule) (ReadFault name) cause is = absurd is
fault_cause files entry x before now (file.WhereAsked rule) Memory cause is = cause
fault_cause files entry x before now (file.Within rule place own) (Refused refusal name) cause is = cause
fault_cause files entry x before now (file.Within rule place own) (ReadFault name) cause is = absurd is
fault_cause files entry x before now (file.Within rule place own) Memory cause is = absurd is
fault_cause files entry x before now (file.ReadFault own) (Refused refusal name) cause is = absurd is
fault_cause files entry x before now (file.ReadFault own) (ReadFault name) cause is = cause
fault_cause files entry x before now (file.ReadFault own) Memory cause is = absurd is
fault_cause files entry x before now file.Memory (Refused refusal name) cause is = absurd is
fault_cause files entry x before now file.Memory (ReadFault name) cause is = absurd is
fault_cause files entry x before now file.Memory Memory cause is = cause
