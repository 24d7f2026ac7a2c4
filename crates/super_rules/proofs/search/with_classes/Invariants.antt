use Rattle.std.proofs.Common.{◌≡◌, None, drop}
use Rattle.std.specs.List.{flat_map}
use Rattle.dart_program.specs.Sooner.{first_with}
use Rattle.super_rules.specs.Tables.{class_faults_by}
use Rattle.super_rules.proofs.search.with_classes.Given as goal

abbrev pub invariant-loop-written : goal.invariant-loop-written
invariant-loop-written l = first_with l.first (flat_map (class_faults_by l.program l.tables l.numbers) (drop l.written-index l.classes)) ≡ first_with None (flat_map (class_faults_by l.program l.tables l.numbers) l.classes)
