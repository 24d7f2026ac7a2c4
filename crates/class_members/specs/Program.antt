-- A program with its classes.
use Rattle.std.specs.Prelude.{◌≡◌, List}
use Rattle.dart_program.specs.declared.files.SourceFile.{SourceFile}
use Rattle.library_scopes.specs.declared.libraries.Scopes.{Scopes}
use Rattle.class_heads.specs.declared.nodes.ClassNode.{ClassNode}
use Rattle.class_heads.specs.declared.written.WrittenClass.{WrittenClass}
use Rattle.class_heads.specs.Sources.{Sources, classes_in, written_in}

abbrev pub sources : List SourceFile → Scopes → Sources
sources files scopes = record { files = files; scopes = scopes }

-- These are its classes, by their numbers and as they are written.
pub record HasClasses (p : Sources) (classes : List ClassNode) (written : List WrittenClass) : Type 0 where
  pub numbered : classes ≡ classes_in p
  pub as_written : written ≡ written_in p
