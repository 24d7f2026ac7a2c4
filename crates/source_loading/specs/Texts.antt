-- What the bytes of a file come to.
use Rattle.std.specs.Prelude.{ℕ, Bool, List, Result, Ok, Err}
use Rattle.dart_grammar.specs.declared.declarations.FileTree.{FileTree}
use Rattle.dart_program.specs.Loading.{IsTreeOf, BreaksText}
use Rattle.source_loading.specs.declared.texts.TextFault.{TextFault}
use Rattle.source_loading.specs.declared.texts.TextFault.TheVariants.{Broken, Memory}

abbrev pub TextTells : Bool → List ℕ → Result FileTree TextFault → Type 0
TextTells native bytes (Ok tree) = IsTreeOf native bytes tree
TextTells native bytes (Err (Broken rule at)) = BreaksText native bytes rule at
TextTells native bytes (Err Memory) = Unit {0}
