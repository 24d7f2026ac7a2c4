-- Rules that are told from a file and its number.
use Rattle.std.specs.Prelude.{ℕ, suc, ◌⊎◌, List, [], ◌∷◌}
use Rattle.dart_grammar.specs.declared.declarations.FileTree.{FileTree}
use Rattle.dart_program.specs.declared.files.SourceFile.{SourceFile}
use Rattle.dart_program.specs.First.{Broken}

-- in one of these files, the first of which has number n
abbrev pub InFiles : (ℕ → FileTree → Broken) → ℕ → List SourceFile → Broken
InFiles broken n [] rule file at = ⊥
InFiles broken n (x ∷ xs) rule file at = broken n x.tree rule file at ⊎ InFiles broken (suc n) xs rule file at
