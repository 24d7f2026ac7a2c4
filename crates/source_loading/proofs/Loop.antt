-- The state at the start, and with one file more.
use Rattle.std.proofs.Common.{◌≡◌, ℕ, suc, ◌+◌, ◌-◌, ◌≤◌, ◌<◌, List, [], ◌∷◌, ◌++◌, length, map, Option, refl, sym, ap, ◌∙◌, subst, arith}
use Rattle.std.specs.Prelude.{flat_map}
use Rattle.std.proofs.lemmas.List.{map-append, length-map, length_push}
use Rattle.outside.specs.Outside.{Held}
use Rattle.dart_program.specs.declared.files.SourceFile.{SourceFile}
use Rattle.dart_program.specs.Loading.{Asked, asked, asked_first, asked_by, none, most_files, most_in_all}
use Rattle.source_loading.specs.declared.files.LoadedFile.{LoadedFile}
use Rattle.source_loading.specs.declared.loading.Loading.{Loading}
use Rattle.source_loading.specs.Tells.{Agrees}
use Rattle.source_loading.specs.Asking.{with_all}
use Rattle.source_loading.specs.Files.{unlinked}
use Rattle.source_loading.specs.Progress.{Progress, IsLoading}
use Rattle.source_loading.proofs.Once.{asked_push, asked_none}
use Rattle.source_loading.proofs.Told.{some_held}

nothing_yet : (told : Option Held) (entry : List ℕ) → Progress told entry [] 0
nothing_yet told entry = go (some_held told) where
  go : ((held : Held) × Agrees told held) → Progress told entry [] 0
  go (held, agrees) = record { held = held; agrees = agrees; loads = none; back = tt; few = omega arith; room = omega arith }

pub begun : (told : Option Held) (entry : List ℕ) (l : Loading) → l.files.items ≡ [] → l.asks ≡ asked_first entry ∷ [] → l.size ≡ 0 → IsLoading told entry l
begun told entry l files asks size = record {
  progress = subst (λ (fs : List LoadedFile). Progress told entry fs l.size) (sym files) (subst (Progress told entry []) (sym size) (nothing_yet told entry));
  asks_are = asks ∙ sym (asked_none entry) ∙ ap (λ fs. asked entry (map unlinked fs)) (sym files);
}

pub one_loaded : (told : Option Held) (entry : List ℕ) (l l2 : Loading) (file : LoadedFile) → IsLoading told entry l → Progress told entry (l.files.items ++ file ∷ []) (l.size + file.length)
    → l2.files.items ≡ l.files.items ++ file ∷ [] → l2.size ≡ l.size + file.length → l2.asks ≡ with_all l.asks (flat_map (asked_by (suc (length l.files.items)) file.name) file.tree.imports) → IsLoading told entry l2
one_loaded told entry l l2 file was p files size asks =
    record {
      progress = subst (λ (gs : List LoadedFile). Progress told entry gs l2.size) (sym files) (subst (Progress told entry (l.files.items ++ file ∷ [])) (sym size) p);
      asks_are =
          asks
          ∙ ap (λ xs. with_all xs (flat_map (asked_by (suc (length l.files.items)) file.name) file.tree.imports)) was.asks_are
          ∙ ap (λ k. with_all (asked entry (map unlinked l.files.items)) (flat_map (asked_by (suc k) file.name) file.tree.imports)) (sym (length-map l.files.items unlinked))
          ∙ sym (asked_push entry (map unlinked l.files.items) (unlinked file))
          ∙ ap (asked entry) (sym (map-append unlinked l.files.items (file ∷ [])))
          ∙ ap (λ gs. asked entry (map unlinked gs)) (sym files);
    }

-- so the measure falls
pub fewer_left : (told : Option Held) (entry : List ℕ) (files files2 : List LoadedFile) (size : ℕ) (file : LoadedFile) → Progress told entry (files ++ file ∷ []) size → files2 ≡ files ++ file ∷ [] → 257 - length files2 < 257 - length files
fewer_left told entry files files2 size file p e =
    let few : length (files ++ file ∷ []) ≤ most_files = p.few in
    let one : length (files ++ file ∷ []) ≡ length files + 1 = length_push files file in
    let same : length files2 ≡ length (files ++ file ∷ []) = ap length e in
    omega arith
