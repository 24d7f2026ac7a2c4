-- What is told to be a program is one.
use Rattle.std.proofs.Common.{◌≡◌, ◌<◌, ◌≤◌, ℕ, Bool, true, false, List, [], ◌∷◌, length, refl, arith}
use Rattle.std.specs.Prelude.{◌==◌, ◌&&◌, nat_lt}
use Rattle.std.specs.List.{AllByRecursion, list_all}
use Rattle.std.proofs.lemmas.Bool.{ltb-true, eqb-true}
use Rattle.std.proofs.lemmas.List.Elements.{All-from_recursion}
use Rattle.dart_program.specs.declared.files.SourceFile.{SourceFile}
use Rattle.dart_program.specs.Programs.{IsLinked, IsProgram}
use Rattle.source_programs.specs.Linked.{are_below, is_linked, are_linked, is_program}

both : (a b : Bool) → (a && b) ≡ true → (a ≡ true) × (b ≡ true)
both true b e = (refl, e)
both false b e = cc

below : (count : ℕ) (links : List ℕ) → are_below count links ≡ true → AllByRecursion (λ link. link < count) links
below count [] e = tt
below count (x ∷ xs) e = let h = both (nat_lt x count) (are_below count xs) e in (ltb-true x count h.0, below count xs h.1)

linked : (count : ℕ) (file : SourceFile) → is_linked count file ≡ true → IsLinked count file
linked count file e =
    let h = both (length file.links == length file.tree.imports) (are_below count file.links) e in
    record { each = eqb-true (length file.links) (length file.tree.imports) h.0; here = All-from_recursion (λ link. link < count) file.links (below count file.links h.1) }

all_linked : (count : ℕ) (files : List SourceFile) → are_linked count files ≡ true → AllByRecursion (IsLinked count) files
all_linked count [] e = tt
all_linked count (x ∷ xs) e = let h = both (is_linked count x) (are_linked count xs) e in (linked count x h.0, all_linked count xs h.1)

pub program_told : (files : List SourceFile) → is_program files ≡ true → IsProgram files
program_told files e =
    let h = both (nat_lt 1 (length files)) (are_linked (length files) files) e in
    record { two = omega (arith, ltb-true 1 (length files) h.0); linked = All-from_recursion (IsLinked (length files)) files (all_linked (length files) files h.1) }
