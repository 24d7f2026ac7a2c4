use Rattle.std.proofs.Common.{◌<◌, ◌≤◌, length, sym, ap, ◌∙◌, arith}
use Rattle.std.specs.Prelude.{map}
use Rattle.meanings.specs.Act.{Fin, Spent, Cut, Left}
use Rattle.meanings.specs.Ends.{run_end_of}
use Rattle.dart_meaning.specs.Meaning.{Normal, Store}
use Rattle.dart_meaning.specs.Runner.{datum_of, turned, turn}
use Rattle.dart_meaning.proofs.Running.{run_none, run_next, run_stops, run_ends}
use Rattle.dart_meaning.proofs.run.run_program.Goals as goal

pub returns-then-steps-eq0 : goal.returns-then-steps-eq0
returns-then-steps-eq0 c order = sym (ap run_end_of (run_none c.args.program.now order c.args.steps (Spent c.new-output.result) (omega arith) (ap Spent c.new-output.ensures)))

pub returns-in-Spends : goal.returns-in-Spends
returns-in-Spends c order =
    let some : 0 < c.args.steps = omega arith in
    let lt : c.loop-item.item-index < length c.args.program.now = c.loop-item-test.true in
    let before : Store = map datum_of c.loop-item.values.items in
    let after : Store = map datum_of c.statement.new.values.items in
    sym (ap run_end_of (run_stops c.args.program.now order c.args.steps before c.loop-item.output c.loop-item.item-index c.loop-item.left c.item-item.result (Spent c.statement.new.output) some lt c.item-item.is c.loop-item.invariant
    (sym c.in_ok-next.ensures ∙ ap (turned after c.statement.new.output) c.in-Spends.is)))

pub returns-in-Leaves : goal.returns-in-Leaves
returns-in-Leaves c order =
    let some : 0 < c.args.steps = omega arith in
    let lt : c.loop-item.item-index < length c.args.program.now = c.loop-item-test.true in
    let before : Store = map datum_of c.loop-item.values.items in
    let after : Store = map datum_of c.statement.new.values.items in
    sym (ap run_end_of (run_stops c.args.program.now order c.args.steps before c.loop-item.output c.loop-item.item-index c.loop-item.left c.item-item.result (Cut Left c.statement.new.output) some lt c.item-item.is c.loop-item.invariant
    (sym c.in_ok-next.ensures ∙ ap (turned after c.statement.new.output) c.in-Leaves.is)))

pub loop-item-preserved : goal.loop-item-preserved
loop-item-preserved c =
    let lt : c.loop-item.item-index < length c.args.program.now = c.loop-item-test.true in
    let before : Store = map datum_of c.loop-item.values.items in
    let after : Store = map datum_of c.statement.new.values.items in
    sym (run_next c.args.program.now c.loop-item.item-index c.item-item.result before c.loop-item.left c.loop-item.output (Fin Normal after c.in-Next.next c.statement.new.output) lt
    (ap (λ s. turn s before c.loop-item.left c.loop-item.output) (sym c.item-item.is) ∙ (sym c.in_ok-next.ensures ∙ ap (turned after c.statement.new.output) c.in-Next.is)))
    ∙ c.loop-item.invariant

pub returns : goal.returns
returns c order =
    let some : 0 < c.args.steps = omega arith in
    let all : length c.args.program.now ≤ c.loop-item.item-index = omega arith in
    sym (ap run_end_of (run_ends c.args.program.now order c.args.steps (map datum_of c.loop-item.values.items) c.loop-item.output c.loop-item.item-index c.loop-item.left some all c.loop-item.invariant))
