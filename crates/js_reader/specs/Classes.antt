-- Classes of bytes.
use Rattle.std.specs.Prelude.{ℕ, Bool}
use Rattle.js_tree.specs.Tokens.{is_part, is_blank}
use Rattle.js_reader.specs.declared.bytes.Class.{Class}
use Rattle.js_reader.specs.declared.bytes.Class.TheVariants.{Blank, Part}

abbrev pub is_of : Class → ℕ → Bool
is_of Blank b = is_blank b
is_of Part b = is_part b
