-- What is derived is parsed, to a depth of as many tokens.
use Rattle.std.proofs.Common.{ℕ, zero, suc, arith}
use Rattle.expr_parser.specs.Knot.{inner_at}
use Rattle.expr_parser.proofs.Shrinks.{expr_shrinks}
use Rattle.expr_parser.proofs.PartsComplete.{Complete, parameters_complete, two_parameter_tokens}
use Rattle.expr_parser.proofs.OperatorsComplete.{ended_complete}
use Rattle.expr_parser.proofs.StatementsComplete.{statement_complete}

pub all_complete : (n : ℕ) → Complete n (inner_at n)
unfolding inner_at
all_complete zero = record {
  expr = λ d l h. absurd (omega (arith, l, expr_shrinks d));
  stmt = λ d l. absurd (omega (arith, l));
  parameters = λ d l. absurd (omega (arith, l, two_parameter_tokens d));
}
all_complete (suc n) = record {
  expr = λ d l h. ended_complete (inner_at n) n (all_complete n) d l h;
  stmt = λ d l. statement_complete (inner_at n) n (all_complete n) d (omega (arith, l));
  parameters = λ d l. parameters_complete (inner_at n) n (all_complete n) d l;
}
