-- What parsing an expression of a file answers.
use Rattle.std.specs.Prelude.{◌≡◌, ◌≤◌, ℕ, length, drop}
use Rattle.dart_grammar.specs.declared.trees.Expr.{Expr}
use Rattle.dart_grammar.specs.Marks.{Tokens, looseness}
use Rattle.dart_grammar.specs.Grammar.{IsExpr}
use Rattle.expr_parser.specs.declared.fault.SyntaxFault.{SyntaxFault}
use Rattle.expr_parser.specs.declared.fault.SyntaxFault.TheVariants as fault

-- The tokens from number `from` up to, and without, number `to` spell the expression, and no joining token follows.
pub record IsExpressionAt (ts : Tokens) (from : ℕ) (a : Expr) (to : ℕ) : Type 0 where
  pub in_order : from ≤ to
  pub within : to ≤ length ts
  pub derived : IsExpr (drop from ts) a (drop to ts)
  pub ended : looseness (drop to ts) ≡ 10

pub record HasNoExpression (ts : Tokens) (from : ℕ) : Type 0 where
  pub none : (a : Expr) (to : ℕ) → IsExpressionAt ts from a to → ⊥

-- What a fault says. Nothing is nested too deep where no load is too great, and the place is 0 so far.
abbrev pub IsFaultOf : Tokens → ℕ → SyntaxFault → Type 0
IsFaultOf ts from (fault.NotDerived at) = HasNoExpression ts from × (at ≡ 0)
IsFaultOf ts from (fault.TooDeep at) = ⊥
IsFaultOf ts from fault.Memory = Unit {0}

-- A place begins at most one expression.
abbrev pub OneExpressionAt : Type 0
OneExpressionAt = (ts : Tokens) (from i j : ℕ) (a b : Expr) → IsExpressionAt ts from a i → IsExpressionAt ts from b j → (a ≡ b) × (i ≡ j)
