-- What the bytes of a file come to, answer by answer.
use Rattle.std.proofs.Common.{◌≡◌, ℕ, Bool, List, Some, None, sym, subst}
use Rattle.dart_syntax.specs.declared.rules.Rule.{Rule}
use Rattle.dart_syntax.specs.declared.rules.Rule.TheVariants.{G1, G2}
use Rattle.dart_syntax.specs.declared.tokens.Token.{Token}
use Rattle.dart_syntax.specs.Tokens.{IsTokens}
use Rattle.dart_syntax.specs.Faults.{IsFirstBroken}
use Rattle.dart_grammar.specs.declared.declarations.FileTree.{FileTree}
use Rattle.dart_grammar.specs.Loads.{first_overload}
use Rattle.dart_grammar.specs.Declarations.{IsFile}
use Rattle.decl_parser.specs.Parsed.{is_prelude, HasNoTree}
use Rattle.dart_program.specs.Loading.{IsTreeOf, BreaksText, scan, deep, underived}

pub scan_broken : (native : Bool) (bytes : List ℕ) (rule : Rule) (at : ℕ) → IsFirstBroken bytes at rule → BreaksText native bytes rule at
scan_broken native bytes rule at broken = scan broken

pub too_deep : (native : Bool) (bytes : List ℕ) (tokens : List Token) (at : ℕ) → IsTokens bytes tokens → first_overload tokens ≡ Some at → BreaksText native bytes G2 at
too_deep native bytes tokens at scanned overload = deep scanned overload

pub not_derived : (number file : ℕ) (bytes : List ℕ) (tokens : List Token) (at : ℕ) → IsTokens bytes tokens → HasNoTree (is_prelude file) tokens → file ≡ number → first_overload tokens ≡ None → at ≡ 0
    → BreaksText (is_prelude number) bytes G1 at
not_derived number file bytes tokens at scanned none is shallow start =
    subst (BreaksText (is_prelude number) bytes G1) (sym start) (underived scanned shallow (subst (λ (n : ℕ). HasNoTree (is_prelude n) tokens) is none).none)

pub spelled : (number file : ℕ) (bytes : List ℕ) (tokens : List Token) (tree : FileTree) → IsTokens bytes tokens → IsFile (is_prelude file) tokens tree → file ≡ number → first_overload tokens ≡ None
    → IsTreeOf (is_prelude number) bytes tree
spelled number file bytes tokens tree scanned derived is shallow = record { tokens = tokens; scanned = scanned; shallow = shallow; derived = subst (λ (n : ℕ). IsFile (is_prelude n) tokens tree) is derived }
