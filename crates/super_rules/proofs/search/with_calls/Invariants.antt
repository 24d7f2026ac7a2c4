use Rattle.std.proofs.Common.{◌≡◌, drop}
use Rattle.std.specs.List.{flat_map}
use Rattle.dart_program.specs.Sooner.{first_with}
use Rattle.super_rules.specs.Tables.{call_faults_by}
use Rattle.super_rules.proofs.search.with_calls.Given as goal

abbrev pub invariant-loop-call : goal.invariant-loop-call
invariant-loop-call l = first_with l.first (flat_map (call_faults_by l.file l.above) (drop l.call-index l.calls)) ≡ first_with l.fn.found (flat_map (call_faults_by l.file l.above) l.calls)
