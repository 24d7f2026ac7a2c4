use Rattle.std.proofs.Common.{◌≡◌, drop, None}
use Rattle.dart_program.specs.Sooner.{first_with}
use Rattle.class_heads.specs.Faults.{faults_from}
use Rattle.class_heads.proofs.known.Known.first_fault.Given as goal

abbrev pub invariant-loop-class : goal.invariant-loop-class
invariant-loop-class l = first_with l.found (faults_from l.self l.first (drop l.class-index l.written)) ≡ first_with None (faults_from l.self 0 l.written)
