-- Whether files are a program, as it is told when it runs.
use Rattle.std.specs.Prelude.{ℕ, ◌==◌, Bool, ◌&&◌, nat_lt, List, length}
use Rattle.std.specs.List.{list_all}
use Rattle.dart_program.specs.declared.files.SourceFile.{SourceFile}

abbrev pub are_below : ℕ → List ℕ → Bool
are_below count links = list_all (λ link. nat_lt link count) links

abbrev pub is_linked : ℕ → SourceFile → Bool
is_linked count file = (length file.links == length file.tree.imports) && are_below count file.links

abbrev pub are_linked : ℕ → List SourceFile → Bool
are_linked count files = list_all (is_linked count) files

abbrev pub is_program : List SourceFile → Bool
is_program files = nat_lt 1 (length files) && are_linked (length files) files
