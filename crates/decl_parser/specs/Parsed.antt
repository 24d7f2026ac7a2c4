-- What the parser of files promises.
use Rattle.std.specs.Prelude.{◌≡◌, ℕ, Bool, ◌==◌, Some, None}
use Rattle.dart_grammar.specs.declared.declarations.FileTree.{FileTree}
use Rattle.dart_grammar.specs.Marks.{Tokens}
use Rattle.dart_grammar.specs.Loads.{first_overload}
use Rattle.dart_grammar.specs.Declarations.{IsFile}
use Rattle.expr_parser.specs.declared.fault.SyntaxFault.{SyntaxFault}
use Rattle.expr_parser.specs.declared.fault.SyntaxFault.TheVariants as fault

-- bodies may be native in the prelude alone, which is file 0
abbrev pub is_prelude : ℕ → Bool
is_prelude file = file == 0

-- no tree derives these tokens
pub record HasNoTree (native : Bool) (ts : Tokens) : Type 0 where
  pub none : (a : FileTree) → IsFile native ts a → ⊥

-- What a fault says. Where no tree derives the tokens, the place is 0 so far.
abbrev pub IsFaultOf : Bool → Tokens → SyntaxFault → Type 0
IsFaultOf native ts (fault.NotDerived at) = (first_overload ts ≡ None) × HasNoTree native ts × (at ≡ 0)
IsFaultOf native ts (fault.TooDeep at) = first_overload ts ≡ Some at
IsFaultOf native ts fault.Memory = Unit {0}

-- Tokens are those of at most one file.
abbrev pub OneFile : Type 0
OneFile = (native : Bool) (ts : Tokens) (a b : FileTree) → IsFile native ts a → IsFile native ts b → a ≡ b
