-- The lines that are said, and what an entry comes to.
use Rattle.std.specs.Prelude.{◌≡◌, ℕ, ◌≤◌, false, List, [], ◌∷◌, ◌++◌, codes, decimal, Option, None, IfSome}
use Rattle.outside.specs.Outside.{Held, Rose}
use Rattle.dart_syntax.specs.declared.rules.Rule.{Rule}
use Rattle.dart_syntax.specs.declared.tokens.Token.{Token}
use Rattle.dart_syntax.specs.Rules.{name_of}
use Rattle.dart_grammar.specs.declared.declarations.FileTree.{FileTree}
use Rattle.dart_grammar.specs.Loads.{first_overload}
use Rattle.dart_grammar.specs.Declarations.{IsFile}
use Rattle.dart_meaning.specs.declared.program.Statement.{Statement}
use Rattle.dart_meaning.specs.Program.{IsProgram}
use Rattle.dart_web_cli.specs.declared.load.Loaded.{Loaded}
use Rattle.dart_web_cli.specs.declared.load.Loaded.TheVariants.{Translated, Broken, Failed, Memory}
use Rattle.dart_web_cli.specs.Translation.{translation, RunsAs}
use Rattle.dart_web_cli.specs.Refusals.{BreaksGrammar, BreaksFile, IsBroken, IsFirst, IsFine}

-- Each line ends with LF.

abbrev pub usage_line : List ℕ
usage_line = codes "usage" ++ (10 ∷ [])

-- the rule, the entry, and the place in decimal digits
abbrev pub refused_line : Rule → List ℕ → ℕ → List ℕ
refused_line rule entry at = codes "refused " ++ (name_of rule ++ (32 ∷ (entry ++ (32 ∷ (decimal at ++ (10 ∷ []))))))

abbrev pub cannot_line : List ℕ → List ℕ
cannot_line entry = codes "cannot read " ++ (entry ++ (10 ∷ []))

-- the file, and the place where it shows that it is not in the subset
abbrev pub outside_line : List ℕ → ℕ → List ℕ
outside_line name at = codes "not in profile " ++ (name ++ (32 ∷ (decimal at ++ (10 ∷ []))))

-- what tokens of a file that isn't the prelude come to
abbrev pub JudgesTokens : List Token → Loaded → Type 0
JudgesTokens tokens (Translated out) =
    (tree : FileTree) × (p : List Statement) × (first_overload tokens ≡ None) × IsFile false tokens tree × IsProgram tokens p × (out ≡ translation p) × ((name : List ℕ) → RunsAs p name (translation p))
JudgesTokens tokens (Broken rule at) = BreaksGrammar tokens rule at
JudgesTokens tokens Failed = ⊥
JudgesTokens tokens Memory = Unit {0}

-- what a file's bytes come to
abbrev pub Judges : List ℕ → Loaded → Type 0
Judges bytes (Translated out) = (p : List Statement) × (out ≡ translation p) × ((name : List ℕ) → RunsAs p name (translation p)) × IsFirst bytes p
Judges bytes (Broken rule at) = BreaksFile bytes rule at
Judges bytes Failed = ⊥
Judges bytes Memory = Unit {0}

-- what an entry comes to
abbrev pub LoadTells : Option Held → List ℕ → Loaded → Type 0
LoadTells held entry (Translated out) = (p : List Statement) × (out ≡ translation p) × ((name : List ℕ) → RunsAs p name (translation p)) × IfSome held (λ files. IsFine files entry p)
LoadTells held entry (Broken rule at) = IfSome held (λ files. IsBroken files entry rule at)
LoadTells held entry Failed = Unit {0}
LoadTells held entry Memory = Unit {0}

abbrev pub LoadCause : ℕ → ℕ → Loaded → Type 0
LoadCause before now (Translated out) = now ≡ before
LoadCause before now (Broken rule at) = now ≡ before
LoadCause before now Failed = (before ≤ now) × Rose before now
LoadCause before now Memory = now ≡ before
