-- How a run shows that ended early.
use Rattle.std.specs.Prelude.{◌≡◌, ◌≢◌, Option, Some, None, Result, Ok, Err}
use Rattle.code_units.specs.declared.ends.Shown.{Shown}
use Rattle.code_units.specs.declared.ends.End.{End}
use Rattle.code_units.specs.declared.ends.End.TheVariants as ends
use Rattle.js_store.specs.declared.store.Store.{Store}
use Rattle.js_meaning.specs.declared.state.Spot.{Spot}
use Rattle.js_meaning.specs.declared.state.Jump.{Jump}
use Rattle.js_meaning.specs.declared.state.Jump.TheVariants.{Stop, Leave}
use Rattle.js_meaning.specs.declared.state.Leave.TheVariants.{Break, Return, Throw}
use Rattle.js_meaning.specs.declared.state.Stop.TheVariants.{Memory, Range, NoRule, Steps, Depth}
use Rattle.js_meaning.specs.Stored.{shown_as}

abbrev pub stuck_end : Spot → End
stuck_end spot = ends.Stuck spot.file spot.at

abbrev pub threw : Spot → Option Shown → End
threw from (Some shown) = ends.Threw shown
threw from None = stuck_end from

-- nothing is said of a run that memory failed, and no file is left by a `break` or a `return`
abbrev pub ends_as : Store → Result (Unit {0}) Jump → End
ends_as st (Ok u) = ends.Done
ends_as st (Err (Stop Memory)) = ends.Done
ends_as st (Err (Stop Range)) = ends.Left
ends_as st (Err (Stop (NoRule spot))) = stuck_end spot
ends_as st (Err (Stop Steps)) = ends.Spent
ends_as st (Err (Stop Depth)) = ends.Deep
ends_as st (Err (Leave (Throw v from))) = threw from (shown_as st v)
ends_as st (Err (Leave (Return v))) = ends.Done
ends_as st (Err (Leave (Break label))) = ends.Done

pub record IsEnd (st : Store) (outcome : Result (Unit {0}) Jump) (end : End) : Type 0 where
  pub memory : outcome ≢ Err (Stop Memory)
  pub is : end ≡ ends_as st outcome
