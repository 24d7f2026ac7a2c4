-- The parser of files finds the tree that the grammar has for tokens.
use Rattle.std.specs.Prelude.{◌≡◌, Bool, Some}
use Rattle.dart_grammar.specs.declared.declarations.FileTree.{FileTree}
use Rattle.dart_grammar.specs.Marks.{Tokens}
use Rattle.dart_grammar.specs.Declarations.{IsFile}
use Rattle.decl_parser.specs.Files.{file_at}

-- What is parsed is derived.
abbrev pub FilesAreDerived : Type 0
FilesAreDerived = (native : Bool) (ts : Tokens) (a : FileTree) → file_at native ts ≡ Some a → IsFile native ts a

-- What is derived is parsed.
abbrev pub FilesAreParsed : Type 0
FilesAreParsed = (native : Bool) (ts : Tokens) (a : FileTree) → IsFile native ts a → file_at native ts ≡ Some a
