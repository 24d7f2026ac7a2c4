-- The rules of bodies, and where a program breaks them.
use Rattle.std.specs.Prelude.{ℕ}
use Rattle.dart_grammar.specs.declared.declarations.FileTree.{FileTree}
use Rattle.dart_program.specs.First.{Broken, EitherOf}
use Rattle.class_heads.specs.Sources.{Sources}
use Rattle.body_rules.specs.Rules as bodies
use Rattle.field_rules.specs.Rules as fields
use Rattle.super_rules.specs.Rules as supers
use Rattle.name_rules.specs.Rules as names
use Rattle.program_rules.specs.Files.{InFiles}

-- those that are told from the file of number n, alone or with what names mean in it
abbrev pub InFile : Sources → ℕ → FileTree → Broken
InFile p n file = EitherOf (EitherOf (bodies.IsBroken n file) (fields.IsBroken n file)) (names.IsBroken p n file)

-- The rule of super calls looks at the whole program.
unfoldable pub IsBroken : Sources → Broken
IsBroken p = EitherOf (InFiles (InFile p) 0 p.files) (supers.IsBroken p)
