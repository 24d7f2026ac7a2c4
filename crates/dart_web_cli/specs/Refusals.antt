-- The first rule that an entry breaks, and where: U1, N2, one of S1 to S7, G2, G1, in this order, so that each is said to be
-- broken only where none before it is. Places are offsets in bytes.
use Rattle.std.specs.Prelude.{◌≡◌, ℕ, ◌<◌, ◌≤◌, false, List, length, Some, None}
use Rattle.outside.specs.Outside.{Held}
use Rattle.dart_syntax.specs.declared.rules.Rule.{Rule}
use Rattle.dart_syntax.specs.declared.rules.Rule.TheVariants.{U1, N2, G1, G2}
use Rattle.dart_syntax.specs.declared.tokens.Token.{Token}
use Rattle.dart_syntax.specs.Tokens.{IsTokens}
use Rattle.dart_syntax.specs.Faults.{IsFirstBroken}
use Rattle.dart_grammar.specs.declared.declarations.FileTree.{FileTree}
use Rattle.dart_grammar.specs.Loads.{first_overload}
use Rattle.dart_grammar.specs.Declarations.{IsFile}
use Rattle.decl_parser.specs.Parsed.{HasNoTree}
use Rattle.dart_meaning.specs.declared.program.Statement.{Statement}
use Rattle.dart_meaning.specs.Program.{IsProgram}
use Rattle.dart_web_cli.specs.declared.load.TheConstants.{MAX_FILE}

-- these tokens are no first program
abbrev pub HasNoProgram : List Token → Type 0
HasNoProgram tokens = (program : List Statement) → IsProgram tokens program → ⊥

-- Of the tokens of a file that isn't the prelude.
pub data BreaksGrammar (tokens : List Token) : Rule → ℕ → Type 0 where
  -- the first token that is nested too deep begins there
  too_deep : {at : ℕ} → first_overload tokens ≡ Some at → BreaksGrammar tokens G2 at
  -- no tree derives the tokens
  no_tree : first_overload tokens ≡ None → HasNoTree false tokens → BreaksGrammar tokens G1 0
  -- so far first programs alone are translated
  no_first_program : first_overload tokens ≡ None → HasNoProgram tokens → BreaksGrammar tokens G1 0

-- Of a file of these bytes.
pub data BreaksFile (bytes : List ℕ) : Rule → ℕ → Type 0 where
  too_long : MAX_FILE < length bytes → BreaksFile bytes N2 0
  -- one of S1 to S7
  on_tokens : {rule : Rule} {at : ℕ} → length bytes ≤ MAX_FILE → IsFirstBroken bytes at rule → BreaksFile bytes rule at
  on_grammar : {tokens : List Token} {rule : Rule} {at : ℕ} → length bytes ≤ MAX_FILE → IsTokens bytes tokens → BreaksGrammar tokens rule at → BreaksFile bytes rule at

-- Of the entry, where these files are held.
pub data IsBroken (files : Held) (entry : List ℕ) : Rule → ℕ → Type 0 where
  absent : files entry ≡ None → IsBroken files entry U1 0
  in_file : {content : List ℕ} {rule : Rule} {at : ℕ} → files entry ≡ Some content → BreaksFile content rule at → IsBroken files entry rule at

-- The bytes of a file that breaks no rule, and its program.
pub record IsFirst (bytes : List ℕ) (program : List Statement) : Type 0 where
  pub short : length bytes ≤ MAX_FILE
  pub tokens : List Token
  pub scanned : IsTokens bytes tokens
  pub shallow : first_overload tokens ≡ None
  pub tree : FileTree
  pub derived : IsFile false tokens tree
  pub is : IsProgram tokens program

-- The entry breaks no rule, and this is its program.
pub record IsFine (files : Held) (entry : List ℕ) (program : List Statement) : Type 0 where
  pub content : List ℕ
  pub held : files entry ≡ Some content
  pub first : IsFirst content program
