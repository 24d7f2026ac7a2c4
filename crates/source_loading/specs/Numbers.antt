-- Names with their numbers.
use Rattle.std.specs.Prelude.{ℕ, List, Option}
use Rattle.std.specs.Map.{lookup}
use Rattle.std.specs.Str.{bytes_eq}

abbrev pub Table : Type 0
Table = List (List ℕ × ℕ)

abbrev pub numbered : List ℕ → Table → Option ℕ
numbered name table = lookup (bytes_eq name) table
