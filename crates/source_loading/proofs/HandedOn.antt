-- The error that `?` hands on.
use Rattle.std.proofs.Common.{◌≡◌, Result, Ok, Err, ap}
use Rattle.std.specs.Prelude.{IsErrAnd}

pub handed_on : {T E : Type 0} (r : Result T E) (e : E) → IsErrAnd r (λ f. f ≡ e) → r ≡ Err e
handed_on (Ok x) e is = absurd is
handed_on (Err f) e is = ap Err is
