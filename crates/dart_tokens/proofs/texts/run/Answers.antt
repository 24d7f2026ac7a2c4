use Rattle.std.proofs.Common.{ℕ, ◌++◌, List, length, sym, ap, ◌∙◌, subst, arith}
use Rattle.code_units.specs.Text.{units_of}
use Rattle.dart_syntax.specs.Table.{back}
use Rattle.dart_syntax.specs.Texts.{is_own, IsRun}
use Rattle.dart_syntax.proofs.Parts.{run_stretch, escape_shrinks}
use Rattle.dart_tokens.specs.Answers.{units_in}
use Rattle.dart_tokens.proofs.Turns.{stretch_shrinks, taken_is}
use Rattle.dart_tokens.proofs.texts.run.Goals as goal

pub run-smaller-then-own : goal.run-smaller-then-own
run-smaller-then-own c = stretch_shrinks (is_own c.args.double c.args.raw) c.run.rest.now c.in-Some.more.now c.past-after.result.now c.in-Some.b c.in-Some.ensures (sym c.if-own.ensures) c.past-after.ensures.rest

pub run-preserved-then-own : goal.run-preserved-then-own
run-preserved-then-own c =
    subst (λ (xs : List ℕ). IsRun c.args.double c.args.raw c.args.bytes.now c.push_units.new.units xs) (sym c.past-after.ensures.rest)
    (subst (λ (us : List ℕ). IsRun c.args.double c.args.raw c.args.bytes.now us (back (is_own c.args.double c.args.raw) c.run.rest.now))
    (sym (c.in_ok-push_units.ensures ∙ ap (λ (t : List ℕ). c.run.units ++ units_of t) (c.before-then-own.ensures ∙ taken_is (is_own c.args.double c.args.raw) c.run.rest.now c.past-after.result.now c.past-after.ensures.rest)))
    (run_stretch c.args.double c.args.raw c.args.bytes.now c.run.rest.now c.in-Some.more.now c.run.units c.in-Some.b c.run.invariant c.in-Some.ensures (sym c.if-own.ensures)))

pub run-smaller : goal.run-smaller
run-smaller c = omega (arith, ap length c.in-Some.ensures, escape_shrinks c.in-Some.more.now (units_in c.in-Some-escape.escaped) c.in-Some-escape.after.now c.in-Some-escape.ensures)
