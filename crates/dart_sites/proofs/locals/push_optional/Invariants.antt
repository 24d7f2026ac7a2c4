use Rattle.std.proofs.Common.{◌≡◌, ◌++◌, map, drop}
use Rattle.std.specs.List.{flat_map}
use Rattle.dart_sites.specs.Functions.{parameter_locals}
use Rattle.dart_sites.specs.Trees.{optional_in}
use Rattle.dart_sites.proofs.locals.push_optional.Given as goal

abbrev pub invariant-loop-parameter : goal.invariant-loop-parameter
invariant-loop-parameter l = l.locals ++ flat_map (λ y. parameter_locals y.parameter) (map optional_in (drop l.parameter-index l.optional)) ≡ l.fn.locals ++ flat_map (λ y. parameter_locals y.parameter) (map optional_in l.optional)
