-- What is open behind one token of a default.
use Rattle.std.proofs.Common.{◌≡◌, ◌<◌, ℕ, zero, suc, ◌-◌, ◌+◌, Bool, true, false, not, ◌&&◌, ◌||◌, if◌then◌else◌, ◌∷◌, Some, refl, arith}
use native.Mathlib.Numerals.{unary_clauses}
use Rattle.dart_syntax.specs.declared.tokens.Token.{Token}
use Rattle.dart_syntax.specs.declared.words.Sign.TheVariants as s
use Rattle.dart_grammar.specs.Marks.{Tokens, is_sign}
use Rattle.dart_grammar.specs.Shapes.{opens, closes, ends_operand, is_in_type, default_end}

pub in_brackets : (n a : ℕ) (o t : Bool) (x : Token) (ts : Tokens) → 0 < n → default_end n a o t (x ∷ ts)
    ≡ (if opens x.form then default_end (n + 1) a o t ts else if closes x.form then default_end (n - 1) a true false ts else default_end n a o t ts)
unfolding default_end
in_brackets zero a o t x ts some = absurd (omega arith)
in_brackets (suc n) a o t x ts some = simp unary_clauses refl

pub in_angles : (a : ℕ) (o t : Bool) (x : Token) (ts : Tokens) → 0 < a → default_end 0 a o t (x ∷ ts)
    ≡ (if is_sign s.Less x.form then default_end 0 (a + 1) o t ts else if is_sign s.Greater x.form then default_end 0 (a - 1) o t ts else default_end 0 a o t ts)
unfolding default_end
in_angles zero o t x ts some = absurd (omega arith)
in_angles (suc a) o t x ts some = simp unary_clauses refl

pub outside : (o t : Bool) (x : Token) (ts : Tokens) → default_end 0 0 o t (x ∷ ts)
    ≡ (if is_sign s.Comma x.form || closes x.form then Some (x ∷ ts)
    else if opens x.form then default_end 1 0 o t ts
    else if is_sign s.Less x.form && (t || not o) then default_end 0 1 o t ts
    else default_end 0 0 (ends_operand o x.form) (is_in_type o t x.form) ts)
unfolding default_end
outside o t x ts = refl
