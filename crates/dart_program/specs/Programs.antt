-- The files of a program.
use Rattle.std.specs.Prelude.{◌≡◌, ◌<◌, ◌≤◌, ℕ, List, length, All}
use Rattle.dart_program.specs.declared.files.SourceFile.{SourceFile}

-- a file has one link for each of its imports, and each link is the number of one of so many files
pub record IsLinked (count : ℕ) (file : SourceFile) : Type 0 where
  pub each : length file.links ≡ length file.tree.imports
  pub here : All (λ link. link < count) file.links

pub record IsProgram (files : List SourceFile) : Type 0 where
  pub two : 2 ≤ length files
  pub linked : All (IsLinked (length files)) files
