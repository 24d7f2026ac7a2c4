-- What is caught of an outcome is the outcome of catching.
use Rattle.std.proofs.Common.{◌≡◌, Result, Ok, Err, IsErrAnd, ap, refl}
use Rattle.js_meaning.specs.declared.state.Jump.{Jump}
use Rattle.js_meaning.specs.declared.state.Jump.TheVariants.{Stop, Leave}
use Rattle.js_meaning.specs.declared.state.Stop.TheVariants.{Memory, Range, NoRule, Steps, Depth}
use Rattle.js_meaning.specs.declared.state.State.{State}
use Rattle.js_meaning.specs.Machine.{Out, attempted}
use Rattle.js_meaning.specs.Nests.{IsOutcome, settled}

pub settles : (out : Out (Unit {0})) (r : Result (Unit {0}) Jump) (s : State) → IsOutcome out r s → IsOutcome (attempted out) (settled r) s
settles out (Ok a) s h = ap attempted h
settles out (Err (Leave l)) s h = ap attempted (h (λ e. cc))
settles out (Err (Stop Range)) s h = λ n. ap attempted (h n)
settles out (Err (Stop (NoRule spot))) s h = λ n. ap attempted (h n)
settles out (Err (Stop Steps)) s h = λ n. ap attempted (h n)
settles out (Err (Stop Depth)) s h = λ n. ap attempted (h n)
settles out (Err (Stop Memory)) s h = λ n. absurd (n refl)

-- what `?` hands on
pub handed_on : {T : Type 0} (r : Result T Jump) (j : Jump) → IsErrAnd r (λ e. e ≡ j) → r ≡ Err j
handed_on (Ok a) j is = absurd is
handed_on (Err e) j is = ap Err is
