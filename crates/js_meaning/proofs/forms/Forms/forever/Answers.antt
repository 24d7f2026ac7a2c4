use Rattle.std.proofs.Common.{rules, ◌≡◌, ◌≢◌, sym, subst, Ok, Err, Result}
use Rattle.js_meaning.specs.declared.state.Jump.{Jump}
use Rattle.js_meaning.specs.declared.state.Jump.TheVariants.{Stop}
use Rattle.js_meaning.specs.declared.state.Stop.TheVariants.{Memory}
use Rattle.js_meaning.specs.Machine.{Turn, Done, Ends, jumps}
use Rattle.js_meaning.specs.Prog as prog
use Rattle.js_meaning.specs.Meaning.{to}
use Rattle.js_meaning.specs.Statements as spec
use Rattle.js_meaning.specs.Nests.{IsOutcome, at}
use Rattle.js_meaning.proofs.Settle.{handed_on}
use Rattle.js_meaning.proofs.Loops.{turn_ends, turn_leaves}
use Rattle.js_meaning.proofs.forms.Forms.forever.Goals as goal

pub returns-in_err-turn : goal.returns-in_err-turn
returns-in_err-turn g c =
    let from : c.from_residual.result ≡ Err c.in_err-turn.field-0.0 = handed_on _ _ c.from_residual.ensures.1 in
    subst (λ (r : Result (Unit {0}) Jump). IsOutcome (at (spec.forever c.args.around.now c.args.labels.now c.args.body.now) c.args.self.now.level.depth c.args.state.now) r c.turn.new.state) (sym from)
    (turn_leaves (to c.args.self.now.level.depth) c.args.state.now.steps c.loop-turn.turn (Turn c.args.around.now c.args.labels.now c.args.body.now) c.loop-turn.state c.turn.new.state c.in_err-turn.field-0.0 _ c.loop-turn-test.true c.loop-turn.invariant c.in_err-turn.ensures)

pub loop-turn-preserved : goal.loop-turn-preserved
loop-turn-preserved g c = turn_ends (to c.args.self.now.level.depth) c.args.state.now.steps c.loop-turn.turn (Turn c.args.around.now c.args.labels.now c.args.body.now) c.loop-turn.state c.turn.new.state c.in_ok-turn.field-0 _ c.loop-turn-test.true c.loop-turn.invariant c.in_ok-turn.ensures
