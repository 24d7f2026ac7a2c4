-- File 0.
use Rattle.std.proofs.Common.{◌≡◌, ℕ, ◌<◌, ◌^◌, true, List, length, map, lit<, refl, sym, ap, ◌∙◌, subst}
use Rattle.std.specs.Prelude.{codes}
use Rattle.std.specs.Str.{chars}
use Rattle.code_units.specs.Text.{units_of}
use Rattle.dart_syntax.specs.declared.rules.Rule.{Rule}
use Rattle.dart_grammar.specs.declared.declarations.FileTree.{FileTree}
use Rattle.dart_grammar.specs.declared.declarations.Import.{Import}
use Rattle.dart_program.specs.declared.files.SourceFile.{SourceFile}
use Rattle.dart_program.specs.Prelude.{prelude_name, prelude_text, prelude_lines}
use Rattle.dart_program.specs.Loading.{IsTreeOf, BreaksText, IsPrelude}

prelude_fits : length prelude_text < 2 ^ 32
unfolding prelude_text prelude_lines
prelude_fits = lit< tt

pub prelude_short : (bytes : List ℕ) → bytes ≡ prelude_text → length bytes < 2 ^ 32
prelude_short bytes is = subst (λ (bs : List ℕ). length bs < 2 ^ 32) (sym is) prelude_fits

pub core_units : units_of (codes "dart:core") ≡ prelude_name
unfolding chars
core_units = refl

pub is_prelude_file : (file : SourceFile) (bytes : List ℕ) (imports : List Import) → file.name ≡ units_of (codes "dart:core") → bytes ≡ prelude_text → IsTreeOf true bytes file.tree → file.links ≡ map (λ (i : Import). 0) imports
    → imports ≡ file.tree.imports → IsPrelude file
is_prelude_file file bytes imports name is of links imports_are = record {
  name = name ∙ core_units;
  tree = subst (λ (bs : List ℕ). IsTreeOf true bs file.tree) is of;
  links = links ∙ ap (map (λ (i : Import). 0)) imports_are;
}

pub prelude_breaks : (bytes : List ℕ) (rule : Rule) (at : ℕ) → bytes ≡ prelude_text → BreaksText true bytes rule at → BreaksText true prelude_text rule at
prelude_breaks bytes rule at is breaks = subst (λ (bs : List ℕ). BreaksText true bs rule at) is breaks
