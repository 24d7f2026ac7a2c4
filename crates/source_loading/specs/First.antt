-- What file 0 comes to.
use Rattle.std.specs.Prelude.{◌≡◌, true, Result, Ok, Err}
use Rattle.dart_program.specs.declared.files.SourceFile.{SourceFile}
use Rattle.dart_program.specs.Prelude.{prelude_name, prelude_text}
use Rattle.dart_program.specs.Loading.{BreaksText, IsPrelude}
use Rattle.source_loading.specs.declared.programs.LoadFault.{LoadFault}
use Rattle.source_loading.specs.declared.programs.LoadFault.TheVariants.{Refused, ReadFault, Memory}

abbrev pub PreludeTells : Result SourceFile LoadFault → Type 0
PreludeTells (Ok file) = IsPrelude file
PreludeTells (Err (Refused refusal name)) = (refusal.file ≡ 0) × BreaksText true prelude_text refusal.rule refusal.at × (name ≡ prelude_name)
PreludeTells (Err (ReadFault name)) = ⊥
PreludeTells (Err Memory) = Unit {0}
