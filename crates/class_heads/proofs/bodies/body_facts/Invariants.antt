use Rattle.std.proofs.Common.{◌≡◌, ◌++◌, map, drop}
use Rattle.class_heads.specs.Faults.{node_facts}
use Rattle.class_heads.proofs.bodies.body_facts.Given as goal

abbrev pub invariant-loop-class : goal.invariant-loop-class
invariant-loop-class l = l.facts ++ map (node_facts l.written) (drop l.class-index l.classes) ≡ map (node_facts l.written) l.classes
