-- From all files that are loaded to a program.
use Rattle.std.proofs.Common.{◌≡◌, ℕ, zero, suc, ◌+◌, ◌≤◌, ◌<◌, false, List, [], ◌∷◌, ◌++◌, length, map, Option, Some, None, Result, Ok, Err, refl, sym, ap, ◌∙◌, subst, arith}
use Rattle.std.specs.Prelude.{slice_get, flat_map}
use Rattle.std.proofs.lemmas.List.{map-append, length-map}
use Rattle.outside.specs.Outside.{Held}
use Rattle.dart_syntax.specs.declared.rules.Refusal.{Refusal}
use Rattle.dart_grammar.specs.declared.declarations.FileTree.{FileTree}
use Rattle.dart_program.specs.declared.files.SourceFile.{SourceFile}
use Rattle.dart_program.specs.Programs.{IsProgram}
use Rattle.dart_program.specs.Prelude.{prelude_name}
use Rattle.dart_program.specs.Loading.{Asked, asked, asked_first, asked_by, asked_from, each_once, Loads, none, next, IsFine, AreLinked, IsTreeOf, IsPrelude, IsLoadedFrom, in_prelude, in_files, most_files}
use Rattle.dart_program.proofs.Linked.{loaded_are_programs}
use Rattle.source_loading.specs.declared.files.LoadedFile.{LoadedFile}
use Rattle.source_loading.specs.declared.loading.Loading.{Loading}
use Rattle.source_loading.specs.declared.programs.LoadFault.{LoadFault}
use Rattle.source_loading.specs.declared.programs.LoadFault.TheVariants.{Refused, ReadFault, Memory}
use Rattle.source_loading.specs.Tells.{Agrees, IsNameOf, of_prelude, LoadsProgram, Refuses, LoadTells}
use Rattle.source_loading.specs.First.{PreludeTells}
use Rattle.source_loading.specs.Files.{unlinked}
use Rattle.source_loading.specs.Progress.{IsLoading, FaultTells, IsAllLoaded, linked}
use Rattle.source_loading.proofs.Names.{loads_asked}
use Rattle.source_loading.proofs.Told.{some_held}

-- ---- the links of files don't matter to what they ask for

asked_from_linked : (n : ℕ) (xs : List Asked) (files : List LoadedFile) → asked_from n (map (linked xs) files) ≡ asked_from n (map unlinked files)
asked_from_linked n xs [] = refl
asked_from_linked n xs (f ∷ files) = ap (λ ys. flat_map (asked_by n f.name) f.tree.imports ++ ys) (asked_from_linked (suc n) xs files)

asked_linked : (entry : List ℕ) (xs : List Asked) (files : List LoadedFile) → asked entry (map (linked xs) files) ≡ asked entry (map unlinked files)
unfolding asked
asked_linked entry xs files = ap (λ ys. each_once (asked_first entry ∷ ys)) (asked_from_linked 1 xs files)

-- files that end with one
pub record EndsWith (before : List SourceFile) (g : SourceFile) (files : List LoadedFile) : Type 0 where
  pub front : List LoadedFile
  pub last : LoadedFile
  pub files_are : files ≡ front ++ last ∷ []
  pub before_is : before ≡ map unlinked front
  pub last_is : g ≡ unlinked last

ends_with : (before : List SourceFile) (g : SourceFile) (files : List LoadedFile) → before ++ g ∷ [] ≡ map unlinked files → EndsWith before g files
ends_with [] g [] e = absurd cc
ends_with [] g (f ∷ []) e = record { front = []; last = f; files_are = refl; before_is = refl; last_is = cc }
ends_with [] g (f ∷ h ∷ files) e = let none : [] ≡ unlinked h ∷ map unlinked files = cc in absurd cc
ends_with (b ∷ before) g [] e = absurd cc
ends_with (b ∷ before) g (f ∷ files) e =
    let head : b ≡ unlinked f = cc in
    let tail : before ++ g ∷ [] ≡ map unlinked files = cc in
    more head (ends_with before g files tail)
  where
    more : b ≡ unlinked f → EndsWith before g files → EndsWith (b ∷ before) g (f ∷ files)
    more head r = record {
      front = f ∷ r.front;
      last = r.last;
      files_are = ap (λ fs. f ∷ fs) r.files_are;
      before_is = ap (λ c. c ∷ before) head ∙ ap (λ bs. unlinked f ∷ bs) r.before_is;
      last_is = r.last_is;
    }

module _ (held : Held) (entry : List ℕ) (xs : List Asked) where
  relinked_next : (before : List SourceFile) (size : ℕ) (x : Asked) (bytes : List ℕ) (g : SourceFile) (files : List LoadedFile) → EndsWith before g files
      → ((fs : List LoadedFile) → before ≡ map unlinked fs → Loads held entry (map (linked xs) fs) size)
      → slice_get (asked entry before) (length before) ≡ Some x → IsFine held (suc (length before)) size x bytes g → Loads held entry (map (linked xs) files) (size + length bytes)
  relinked_next before size x bytes g files ends rest at fine =
      let long : length before ≡ length (map (linked xs) ends.front) = ap length ends.before_is ∙ length-map ends.front unlinked ∙ sym (length-map ends.front (linked xs)) in
      let same : asked entry before ≡ asked entry (map (linked xs) ends.front) = ap (asked entry) ends.before_is ∙ sym (asked_linked entry xs ends.front) in
      subst (λ fs. Loads held entry (map (linked xs) fs) (size + length bytes)) (sym ends.files_are)
      (subst (λ fs. Loads held entry fs (size + length bytes)) (sym (map-append (linked xs) ends.front (ends.last ∷ [])))
      (next (rest ends.front ends.before_is)
      (subst (λ k. slice_get (asked entry (map (linked xs) ends.front)) k ≡ Some x) long (subst (λ ys. slice_get ys (length before) ≡ Some x) same at))
      (record {
        name = fine.name ∙ ap (λ (f : SourceFile). Some f.name) ends.last_is;
        held_so = fine.held_so;
        few = subst (λ k. suc k ≤ most_files) long fine.few;
        small = fine.small;
        room = fine.room;
        tree = subst (λ (f : SourceFile). IsTreeOf false bytes f.tree) ends.last_is fine.tree;
      })))

  relinked : (gs : List SourceFile) (size : ℕ) (files : List LoadedFile) → Loads held entry gs size → gs ≡ map unlinked files → Loads held entry (map (linked xs) files) size
  relinked gs size [] none e = none
  relinked gs size (f ∷ files) none e = absurd cc
  relinked gs size files (next {files = before} {size = sum} {x = x} {bytes = bytes} {file = g} l at fine) e =
      relinked_next before sum x bytes g files (ends_with before g files e) (λ fs d. relinked before sum fs l d) at fine

all_linked : (xs : List Asked) (files : List LoadedFile) → AreLinked xs (map (linked xs) files)
all_linked xs [] = tt
all_linked xs (f ∷ files) = (refl, all_linked xs files)

-- ---- the program

pub few_asked : (told : Option Held) (entry : List ℕ) (l : Loading) → IsAllLoaded told entry l → length l.asks ≤ most_files
few_asked told entry l all = let few : length l.files.items ≤ most_files = all.loading.progress.few in let most : length l.asks ≤ length l.files.items = all.all in omega arith

pub all_loaded : (told : Option Held) (entry : List ℕ) (prelude : SourceFile) (l : Loading) (program : List SourceFile) → IsPrelude prelude → IsAllLoaded told entry l → program ≡ prelude ∷ map (linked l.asks) l.files.items → LoadsProgram told entry program
all_loaded told entry prelude l program first all e =
    let asks_are : asked entry (map (linked l.asks) l.files.items) ≡ l.asks = asked_linked entry l.asks l.files.items ∙ sym all.loading.asks_are in
    let loads : Loads all.loading.progress.held entry (map (linked l.asks) l.files.items) l.size = relinked all.loading.progress.held entry l.asks (map unlinked l.files.items) l.size l.files.items all.loading.progress.loads refl in
    let many : length (map (linked l.asks) l.files.items) ≤ length (asked entry (map (linked l.asks) l.files.items)) = loads_asked all.loading.progress.held entry (map (linked l.asks) l.files.items) l.size loads in
    let no_more : length l.asks ≤ length l.files.items = all.all in
    let as_many : length (map (linked l.asks) l.files.items) ≡ length l.files.items = length-map l.files.items (linked l.asks) in
    let so_many : length (asked entry (map (linked l.asks) l.files.items)) ≡ length l.asks = ap length asks_are in
    record {
      held = all.loading.progress.held;
      agrees = all.loading.progress.agrees;
      loaded = record {
        prelude = prelude;
        files = map (linked l.asks) l.files.items;
        size = l.size;
        parts = e;
        first = first;
        loads = loads;
        whole = omega arith;
        linked = subst (λ xs. AreLinked xs (map (linked l.asks) l.files.items)) (sym asks_are) (all_linked l.asks l.files.items);
      };
    }

pub is_program : (told : Option Held) (entry : List ℕ) (program : List SourceFile) → LoadsProgram told entry program → IsProgram program
is_program told entry program loads = loaded_are_programs program (loads.held, entry, loads.loaded)

-- ---- faults

pub prelude_told : (told : Option Held) (entry : List ℕ) (fault : LoadFault) → PreludeTells (Err fault) → LoadTells told entry (Err fault)
prelude_told told entry (Refused refusal name) (at, breaks, is) = go (some_held told) where
  go : ((held : Held) × Agrees told held) → Refuses told entry refusal name
  go (held, agrees) = record {
    held = held;
    agrees = agrees;
    refused = in_prelude at breaks;
    named = subst (λ k. IsNameOf held entry k name) (sym at) (subst (IsNameOf held entry 0) (sym is) of_prelude);
  }
prelude_told told entry (ReadFault name) is = absurd is
prelude_told told entry Memory is = tt

pub stop_told : (told : Option Held) (entry : List ℕ) (prelude : SourceFile) (fault : LoadFault) → IsPrelude prelude → FaultTells told entry fault → LoadTells told entry (Err fault)
stop_told told entry prelude (Refused refusal name) first s = record { held = s.held; agrees = s.agrees; refused = in_files first.tree s.loads s.next s.breaks; named = s.named }
stop_told told entry prelude (ReadFault name) first s = tt
stop_told told entry prelude Memory first s = tt
