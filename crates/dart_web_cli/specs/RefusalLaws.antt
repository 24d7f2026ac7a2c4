-- What holds of the rules that an entry breaks.
use Rattle.std.specs.Prelude.{◌≡◌, ◌⊎◌, ℕ, false, List}
use Rattle.outside.specs.Outside.{Held}
use Rattle.dart_syntax.specs.declared.rules.Rule.{Rule}
use Rattle.dart_syntax.specs.declared.tokens.Token.{Token}
use Rattle.dart_grammar.specs.declared.declarations.FileTree.{FileTree}
use Rattle.dart_grammar.specs.Declarations.{IsFile}
use Rattle.dart_meaning.specs.declared.program.Statement.{Statement}
use Rattle.dart_meaning.specs.Program.{IsProgram}
use Rattle.dart_web_cli.specs.Refusals.{IsBroken, IsFine}

-- at most one rule is the first broken one, at one place
abbrev pub OneRefusal : Type 0
OneRefusal = (files : Held) (entry : List ℕ) (rule other : Rule) (at place : ℕ) → IsBroken files entry rule at → IsBroken files entry other place → (rule ≡ other) × (at ≡ place)

-- an entry that has a program breaks no rule
abbrev pub FineBreaksNone : Type 0
FineBreaksNone = (files : Held) (entry : List ℕ) (program : List Statement) (rule : Rule) (at : ℕ) → IsFine files entry program → IsBroken files entry rule at → ⊥

-- an entry has a program, or it breaks a rule
abbrev pub FineOrBroken : Type 0
FineOrBroken = (files : Held) (entry : List ℕ) → ((program : List Statement) × IsFine files entry program) ⊎ ((rule : Rule) × (at : ℕ) × IsBroken files entry rule at)

-- the tokens of a first program have a tree, so that none is refused for want of one
abbrev pub FirstProgramsAreFiles : Type 0
FirstProgramsAreFiles = (tokens : List Token) (program : List Statement) → IsProgram tokens program → (tree : FileTree) × IsFile false tokens tree
