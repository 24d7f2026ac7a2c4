-- What the supertypes in the head of a class mean.
use Rattle.std.specs.Prelude.{ℕ, Bool, false, if◌then◌else◌, List, [], ◌∷◌, slice_get, Option, Some, None, option_and_then, is_some, codes}
use Rattle.std.specs.List.{list_any}
use Rattle.dart_grammar.specs.declared.trees.Name.{Name}
use Rattle.dart_program.specs.declared.files.SourceFile.{SourceFile}
use Rattle.library_scopes.specs.declared.named.Named.{Named}
use Rattle.library_scopes.specs.declared.named.Named.TheVariants as n
use Rattle.library_scopes.specs.declared.libraries.Scopes.{Scopes}
use Rattle.library_scopes.specs.Libraries.{number_of}
use Rattle.library_scopes.specs.Lookups.{lookup, behind, deferred}
use Rattle.library_scopes.specs.Uses.{has_text}
use Rattle.class_heads.specs.declared.written.WrittenClass.{WrittenClass}
use Rattle.class_heads.specs.declared.naming.Naming.{Naming}
use Rattle.class_heads.specs.Written.{type_parameters, class_numbers}

-- a class, by its number as it is written
abbrev pub class_named : Named → Option ℕ
class_named (n.Class k) = Some k
class_named _ = None

-- In the head of a class its type parameters are nearer than what its library has, and what it declares is not in scope.
abbrev pub looked_up : Scopes → ℕ → List Name → Name → Option Named
looked_up scopes file parameters x = if list_any (has_text x.text) parameters then None else lookup scopes file x.text

-- the prefix that a name stands for
abbrev pub prefix_at : Scopes → ℕ → List Name → Name → Option ℕ
prefix_at scopes file parameters p = option_and_then number_of (looked_up scopes file parameters p)

abbrev pub class_behind : Scopes → Name → ℕ → Option ℕ
class_behind scopes x prefix = option_and_then class_named (behind scopes prefix x.text)

-- the class that a supertype names, where it names one
unfoldable pub class_meant : Scopes → ℕ → List Name → List Name → Option ℕ
class_meant scopes file parameters (x ∷ []) = option_and_then class_named (looked_up scopes file parameters x)
class_meant scopes file parameters (p ∷ x ∷ []) = option_and_then (class_behind scopes x) (prefix_at scopes file parameters p)
class_meant scopes file parameters _ = None

-- whether it stands behind a deferred prefix
unfoldable pub is_behind_deferred : Scopes → ℕ → List Name → List Name → Bool
is_behind_deferred scopes file parameters (p ∷ x ∷ rest) = is_some (option_and_then (deferred scopes) (prefix_at scopes file parameters p))
is_behind_deferred scopes file parameters _ = false

-- ---- in numbers of classes

unfoldable pub object_number : Scopes → List ℕ → Option ℕ
object_number scopes numbers = option_and_then (slice_get numbers) (option_and_then class_named (lookup scopes 0 (codes "Object")))

abbrev pub naming : List SourceFile → Scopes → Naming
naming files scopes = let numbers = class_numbers files in record { scopes = scopes; numbers = numbers; object = object_number scopes numbers }

-- the class that a supertype in this head names
abbrev pub meant : Naming → WrittenClass → List Name → Option ℕ
meant h w names = option_and_then (slice_get h.numbers) (class_meant h.scopes w.file (type_parameters w.class) names)
