-- The parser of files and the grammar agree.
use Rattle.std.proofs.Common.{◌≡◌, Bool, Some, None, sym, ◌∙◌}
use Rattle.dart_grammar.specs.declared.declarations.FileTree.{FileTree}
use Rattle.dart_grammar.specs.Marks.{Tokens}
use Rattle.dart_grammar.specs.Declarations.{IsFile}
use Rattle.expr_parser.proofs.Tools.{answered, some_is}
use Rattle.decl_parser.specs.Files.{file_at}
use Rattle.decl_parser.specs.Parsed.{HasNoTree, OneFile}
use Rattle.decl_parser.specs.ParsingLaws.{FilesAreDerived, FilesAreParsed}
use Rattle.decl_parser.proofs.FilesSound.{file_sound}
use Rattle.decl_parser.proofs.FilesComplete.{file_complete}

pub one_file_here : OneFile
one_file_here native ts a b d e = some_is a b (sym (file_complete d) ∙ file_complete e)

pub is_file : FilesAreDerived
is_file native ts a = answered (IsFile native ts) (file_at native ts) a (file_sound native ts)

pub is_parsed : FilesAreParsed
is_parsed native ts a d = file_complete d

pub has_no_tree : (native : Bool) (ts : Tokens) → file_at native ts ≡ None → HasNoTree native ts
has_no_tree native ts found = record { none = λ a d. some_is_none a (sym (file_complete d) ∙ found) }
  where
    some_is_none : (a : FileTree) → Some a ≡ None → ⊥
    some_is_none a e = absurd cc
