use Rattle.std.proofs.Common.{◌≡◌, drop}
use Rattle.std.specs.List.{list_all}
use Rattle.library_scopes.specs.Lookups.{selects}
use Rattle.library_scopes.proofs.lookups.selected_by_all.Given as goal

abbrev pub invariant-loop-selection : goal.invariant-loop-selection
invariant-loop-selection l = list_all (selects l.name) l.selections ≡ list_all (selects l.name) (drop l.selection-index l.selections)
