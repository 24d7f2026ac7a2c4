-- Loops that count turns up, beside recursions that count them down.
use Rattle.std.proofs.Common.{◌≡◌, ℕ, suc, ◌+◌, ◌-◌, ◌<◌, ◌≤◌, List, length, arith}
use Rattle.std.proofs.lemmas.List.{length-map}
use Rattle.dart_syntax.specs.declared.tokens.Token.{Token}
use Rattle.dart_meaning.specs.Program.{forms_of}

pub one_turn : (n at : ℕ) → at < n → n - at ≡ suc (n - (at + 1))
one_turn n at below = omega arith

pub no_turn : (n at : ℕ) → n ≤ at → n - at ≡ 0
no_turn n at done = omega arith

-- a token has one form
pub as_many : (tokens : List Token) → length (forms_of tokens) ≡ length tokens
as_many tokens = length-map tokens _
