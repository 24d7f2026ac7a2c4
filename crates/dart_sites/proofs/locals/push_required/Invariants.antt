use Rattle.std.proofs.Common.{◌≡◌, ◌++◌, drop}
use Rattle.std.specs.List.{flat_map}
use Rattle.dart_sites.specs.Functions.{parameter_locals}
use Rattle.dart_sites.proofs.locals.push_required.Given as goal

abbrev pub invariant-loop-parameter : goal.invariant-loop-parameter
invariant-loop-parameter l = l.locals ++ flat_map parameter_locals (drop l.parameter-index l.required) ≡ l.fn.locals ++ flat_map parameter_locals l.required
