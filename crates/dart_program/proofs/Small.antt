-- Small programs.
use Rattle.std.proofs.Common.{◌≡◌, ◌<◌, ℕ, [], ◌∷◌, ◌++◌, length, sym, ap, ◌∙◌, arith}
use Rattle.std.proofs.lemmas.List.Elements.{All-from_recursion}
use Rattle.dart_program.specs.declared.files.SourceFile.{SourceFile}
use Rattle.dart_program.specs.Programs.{IsLinked, IsProgram}

-- a file with no imports
empty_linked : (n : ℕ) (f : SourceFile) → f.links ≡ [] → f.tree.imports ≡ [] → IsLinked n f
empty_linked n f l i = record {
  each = ap length l ∙ sym (ap length i);
  here = rw l (All-from_recursion (λ link. link < n) [] tt);
}

pub two_are_a_program : (f g : SourceFile) → f.links ≡ [] → f.tree.imports ≡ [] → g.links ≡ [] → g.tree.imports ≡ [] → IsProgram (([] ++ f ∷ []) ++ g ∷ [])
two_are_a_program f g l i m j = record {
  two = omega arith;
  linked = All-from_recursion (IsLinked 2) (f ∷ g ∷ []) (empty_linked 2 f l i, (empty_linked 2 g m j, tt));
}
