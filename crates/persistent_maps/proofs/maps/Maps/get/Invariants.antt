use Rattle.std.proofs.Common.{◌≡◌, ◌-◌}
use Rattle.persistent_maps.specs.Lookup.{value_at}
use Rattle.persistent_maps.proofs.maps.Maps.get.Given as goal

abbrev pub invariant-loop : goal.invariant-loop
invariant-loop l = value_at l.self.nodes (l.end - l.counter) l.root l.key ≡ value_at l.self.nodes l.end l.fn.map.root l.fn.key
