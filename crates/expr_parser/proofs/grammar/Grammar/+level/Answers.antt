use Rattle.std.proofs.Common.{rules, ◌≡◌, ◌≤◌, ◌<◌, ◌-◌, ◌+◌, suc, ℕ, true, false, Some, None, if◌then◌else◌, ap, ◌∙◌, refl, sym, arith}
use Rattle.dart_syntax.specs.declared.words.Word.TheVariants as w
use Rattle.dart_grammar.specs.Marks.{is_named, next, next_word, behind, as_word, looseness}
use Rattle.dart_grammar.specs.Trees.{joined, fits}
use Rattle.dart_grammar.specs.Grammar.{is_once}
use Rattle.dart_grammar.specs.declared.trees.Expr.TheVariants as e
use Rattle.expr_parser.specs.Knot.{inner_at}
use Rattle.expr_parser.specs.Operators as spec
use Rattle.expr_parser.proofs.Turns.{one_turn}
use Rattle.expr_parser.proofs.Levels.{level_begins, an_operation, goes_on}
use Rattle.expr_parser.proofs.grammar.Grammar.+level.Goals as goal

pub loop-turn-init : goal.loop-turn-init
loop-turn-init g t c = level_begins (inner_at c.args.self.now.depth) c.args.level c.args.ts.now _ _ (omega arith) c.in_ok-left.ensures

pub returns-then-is_once : goal.returns-then-is_once
returns-then-is_once g t c =
    let inner = inner_at c.args.self.now.depth in
    let p = spec.level inner (c.args.level - 1) in
    let loose : looseness c.loop-turn.rest.now ≡ c.args.level = search rules in
    let not_is : next_word w.Is c.loop-turn.rest.now ≡ false = search rules in
    let not_as : next (is_named as_word) c.loop-turn.rest.now ≡ false = search rules in
    let operator : spec.spells spec.form_operator c.loop-turn.rest.now ≡ Some c.in-Some.operator = search rules in
    let right : p (behind c.loop-turn.rest.now) ≡ Some (c.in_ok-right.right, c.in_ok-right.after.now) = search rules in
    let fitting : (if fits c.in-Some.operator c.loop-turn.left c.in_ok-right.right then Some (e.Operated (joined c.loop-turn.left c.in_ok-right.right) c.in-Some.operator c.loop-turn.left c.in_ok-right.right, c.in_ok-right.after.now) else None)
    ≡ Some (c.in_ok-left-2.field-0-0, c.in_ok-left-2.field-0-1.now) = search rules in
    let once : is_once c.args.level ≡ true = search rules in
    let step = an_operation p c.loop-turn.left c.in_ok-right.right c.in-Some.operator c.loop-turn.rest.now c.in_ok-right.after.now _ operator right fitting in
    c.loop-turn.invariant ∙ (ap (λ (n : ℕ). spec.operated_from p c.args.level n c.loop-turn.left c.loop-turn.rest.now) (one_turn _ _ (omega (arith, c.loop-turn-test.true))) ∙ (goes_on p c.args.level _ c.loop-turn.left c.loop-turn.rest.now _ loose not_is not_as step ∙ rw once refl))
