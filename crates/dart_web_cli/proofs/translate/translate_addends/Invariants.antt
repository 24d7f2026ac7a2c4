use Rattle.std.proofs.Common.{◌≡◌, ◌≤◌, ◌++◌, length, drop}
use Rattle.dart_web_cli.specs.Translation.{Behind, addends_then}
use Rattle.dart_web_cli.proofs.translate.translate_addends.Given as goal

abbrev pub invariant-loop-addend : goal.invariant-loop-addend
invariant-loop-addend l = record {
  lets : (behind : Behind) → l.body ++ addends_then l.operators l.value (drop l.addend-index l.addends) behind ≡ l.fn.body ++ addends_then l.fn.operators l.fn.value l.addends behind;
  few : l.operators ≤ length l.body;
}
