-- What classes are made of: the files of a program, and what names mean in its libraries.
use Rattle.std.specs.Prelude.{ℕ, List, Option, slice_get}
use Rattle.dart_program.specs.declared.files.SourceFile.{SourceFile}
use Rattle.library_scopes.specs.declared.libraries.Scopes.{Scopes}
use Rattle.class_heads.specs.declared.nodes.ClassNode.{ClassNode}
use Rattle.class_heads.specs.declared.naming.Naming.{Naming}
use Rattle.class_heads.specs.declared.written.WrittenClass.{WrittenClass}
use Rattle.class_heads.specs.Written.{written, class_numbers}
use Rattle.class_heads.specs.Heads.{naming}
use Rattle.class_heads.specs.Classes.{classes}

pub record Sources : Type 0 where
  pub files : List SourceFile
  pub scopes : Scopes

-- the classes by their numbers
unfoldable pub classes_in : Sources → List ClassNode
classes_in p = classes p.files p.scopes

-- the classes as they are written
abbrev pub written_in : Sources → List WrittenClass
written_in p = written p.files

abbrev pub naming_in : Sources → Naming
naming_in p = naming p.files p.scopes

-- the number of a class, by its number as it is written
unfoldable pub class_number : Sources → ℕ → Option ℕ
class_number p k = slice_get (class_numbers p.files) k
