use Rattle.std.proofs.Common.{◌≡◌, List, [], ℕ, ap, subst, ◌∙◌}
use Rattle.js_meaning.specs.declared.state.State.{State}
use Rattle.js_meaning.specs.declared.state.Realm.{Realm}
use Rattle.js_meaning.specs.Machine.{Texts}
use Rattle.js_meaning.specs.Files.{whole, begins}
use Rattle.js_meaning.specs.Nests.{IsOutcome, at}
use Rattle.js_meaning.proofs.Whole.{whole_run, fresh}
use Rattle.js_meaning.proofs.run.run_in.Goals as goal

abbrev state_of : ℕ → Realm → Texts → State
state_of steps realm output = record { steps = steps; realm = realm; output = output }

pub returns : goal.returns
returns c =
    let starts : state_of c.args.steps c.in_ok-begins.field-0 c.new.result ≡ fresh c.args.files.now c.args.order.now c.args.steps = ap (λ (r : Realm). state_of c.args.steps r c.new.result) c.in_ok-begins.ensures ∙ ap (λ (o : Texts). state_of c.args.steps (begins c.args.files.now c.args.order.now) o) c.new.ensures in
    whole_run c.args.files.now c.args.order.now c.args.level.depth c.args.steps c.whole-outcome.result c.whole-outcome.new.state c.in_ok-end.end
    (subst (λ (s : State). IsOutcome (at (whole c.args.files.now c.args.steps) c.args.level.depth s) c.whole-outcome.result c.whole-outcome.new.state) starts c.whole-outcome.ensures)
    c.in_ok-end.ensures
