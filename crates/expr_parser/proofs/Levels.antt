-- A level begins with an operand of the one below, and goes on with an operator and another.
use Rattle.std.proofs.Common.{◌≡◌, ℕ, zero, suc, ◌-◌, ◌≤◌, ◌==◌, Bool, true, false, if◌then◌else◌, length, Option, Some, None, refl, sym, ap, ◌∙◌, arith}
use Rattle.std.proofs.lemmas.Bool.{eq-eqb}
use Rattle.dart_syntax.specs.declared.words.Word.TheVariants as w
use Rattle.dart_grammar.specs.declared.trees.Expr.{Expr}
use Rattle.dart_grammar.specs.declared.trees.Expr.TheVariants as e
use Rattle.dart_grammar.specs.declared.trees.Operator.{Operator}
use Rattle.dart_grammar.specs.Marks.{Tokens, is_named, next, next_word, behind, as_word, looseness}
use Rattle.dart_grammar.specs.Shapes.{◌>>=◌}
use Rattle.dart_grammar.specs.Trees.{joined, fits}
use Rattle.dart_grammar.specs.Grammar.{is_once}
use Rattle.expr_parser.specs.Cursor.{Found, Parser}
use Rattle.expr_parser.specs.Inner.{Inner}
use Rattle.expr_parser.specs.Operators.{level, operated_from, operation, spells, form_operator}

pub level_begins : (inner : Inner) (k : ℕ) (ts : Tokens) (a : Expr) (rest : Tokens) → 2 ≤ k → level inner (k - 1) ts ≡ Some (a, rest)
    → level inner k ts ≡ operated_from (level inner (k - 1)) k (length rest - 0) a rest
unfolding level
level_begins inner zero ts a rest two h = absurd (omega arith)
level_begins inner (suc zero) ts a rest two h = absurd (omega arith)
level_begins inner (suc (suc n)) ts a rest two h =
    let one : suc (suc n) - 1 ≡ suc n = omega arith in
    let none : length rest - 0 ≡ length rest = omega arith in
    rw (one, none) (let first : level inner (suc n) ts ≡ Some (a, rest) = rw one at h in rw first refl)

-- an operator of the level, and the operand behind it
pub an_operation : (p : Parser Expr) (a d : Expr) (o : Operator) (ts rest : Tokens) (r : Found Expr) → spells form_operator ts ≡ Some o → p (behind ts) ≡ Some (d, rest)
    → (if fits o a d then Some (e.Operated (joined a d) o a d, rest) else None) ≡ r → operation p a ts ≡ r
unfolding operation
an_operation p a d o ts rest r s h j = rw s (rw h j)

pub goes_on : (p : Parser Expr) (k n : ℕ) (a : Expr) (ts : Tokens) (r : Found Expr) → looseness ts ≡ k → next_word w.Is ts ≡ false → next (is_named as_word) ts ≡ false → operation p a ts ≡ r
    → operated_from p k (suc n) a ts ≡ (r >>= λ d. if is_once k then Some (d.0, d.1) else operated_from p k n d.0 d.1)
unfolding operated_from
goes_on p k n a ts r l i s h =
    let same : (looseness ts == k) ≡ true = eq-eqb (looseness ts) k l in
    rw same (rw i (rw s (rw h refl)))
