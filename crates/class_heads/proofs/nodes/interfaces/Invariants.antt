use Rattle.std.proofs.Common.{◌≡◌, ◌++◌, drop}
use Rattle.std.specs.List.{filter_map}
use Rattle.class_heads.specs.Heads.{meant}
use Rattle.class_heads.specs.Written.{interface_names}
use Rattle.class_heads.proofs.nodes.interfaces.Given as goal

abbrev pub invariant-loop-names : goal.invariant-loop-names
invariant-loop-names l = l.numbers ++ filter_map (meant l.naming l.written) (drop l.names-index l.names-items) ≡ filter_map (meant l.naming l.written) (interface_names l.written.class)
