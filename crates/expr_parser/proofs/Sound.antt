-- What is parsed to a depth is derived.
use Rattle.std.proofs.Common.{ℕ, zero, suc}
use Rattle.expr_parser.specs.Knot.{inner_at}
use Rattle.expr_parser.proofs.Tools.{none}
use Rattle.expr_parser.proofs.PartsSound.{Sound, parameters_sound}
use Rattle.expr_parser.proofs.OperatorsSound.{ended_sound}
use Rattle.expr_parser.proofs.StatementsSound.{statement_sound}

pub all_sound : (n : ℕ) → Sound (inner_at n)
unfolding inner_at
all_sound zero = record { expr = λ ts. none; stmt = λ ts. none; parameters = λ ts. none }
all_sound (suc n) = record { expr = ended_sound (inner_at n) (all_sound n); stmt = statement_sound (inner_at n) (all_sound n); parameters = parameters_sound (inner_at n) (all_sound n) }
