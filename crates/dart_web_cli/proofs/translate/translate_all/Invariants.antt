use Rattle.std.proofs.Common.{◌≡◌, ◌≤◌, [], ◌++◌, length, drop}
use Rattle.dart_web_cli.specs.Translation.{statements_from}
use Rattle.dart_web_cli.proofs.translate.translate_all.Given as goal

abbrev pub invariant-loop-statement : goal.invariant-loop-statement
invariant-loop-statement l = record {
  text : l.body ++ statements_from l.operators l.kinds.items (drop l.statement-index l.program) ≡ statements_from 0 [] l.program;
  few : l.operators ≤ length l.body;
}
