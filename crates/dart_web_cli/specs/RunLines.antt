-- What is said of a run, and the status that it ends with.
use Rattle.std.specs.Prelude.{ℕ, true, false, List, [], ◌∷◌, ◌++◌, codes, decimal, Option, Some, None, slice_get}
use Rattle.std.specs.Fmt.{signed_decimal}
use Rattle.code_units.specs.Text.{utf8_of}
use Rattle.code_units.specs.declared.ends.Shown.{Shown}
use Rattle.code_units.specs.declared.ends.Shown.TheVariants as shows
use Rattle.code_units.specs.declared.ends.End.{End}
use Rattle.code_units.specs.declared.ends.End.TheVariants as ends
use Rattle.code_units.specs.declared.ends.RunEnd.{RunEnd}
use Rattle.dart_web_cli.specs.declared.top.Status.{Status}
use Rattle.dart_web_cli.specs.declared.top.Status.TheVariants as s

-- a line: it ends with LF
abbrev pub line : List ℕ → List ℕ
line text = text ++ 10 ∷ []

-- each printed text in UTF-8, on a line of its own
abbrev pub printed : List (List ℕ) → List ℕ
printed [] = []
printed (text ∷ texts) = line (utf8_of text) ++ printed texts

-- a value that nothing caught
abbrev pub shown_text : Shown → List ℕ
shown_text shows.Null = codes "null"
shown_text (shows.Bool true) = codes "true"
shown_text (shows.Bool false) = codes "false"
shown_text (shows.Int z) = signed_decimal z
shown_text (shows.Str text) = utf8_of text
shown_text (shows.Class name) = utf8_of name

abbrev pub name_found : Option (List ℕ) → List ℕ
name_found None = []
name_found (Some name) = utf8_of name

-- the name of the file of this number, in UTF-8
abbrev pub name_at : List (List ℕ) → ℕ → List ℕ
name_at names file = name_found (slice_get names file)

-- the line of an end, where a run had so many steps and files of these names
abbrev pub end_line : ℕ → List (List ℕ) → End → List ℕ
end_line steps names ends.Done = []
end_line steps names (ends.Threw shown) = line (codes "uncaught " ++ shown_text shown)
end_line steps names ends.Spent = line (codes "spent " ++ decimal steps)
end_line steps names ends.Left = line (codes "left")
end_line steps names ends.Deep = line (codes "deep")
end_line steps names (ends.Stuck file at) = line (codes "stuck " ++ (name_at names file ++ (32 ∷ decimal at)))

-- all that is said of a run
abbrev pub run_text : ℕ → List (List ℕ) → RunEnd → List ℕ
run_text steps names run = printed run.output ++ end_line steps names run.end

abbrev pub end_status : End → Status
end_status ends.Done = s.Ok
end_status (ends.Threw shown) = s.Threw
end_status ends.Spent = s.Spent
end_status ends.Left = s.Left
end_status ends.Deep = s.Deep
end_status (ends.Stuck file at) = s.Stuck
