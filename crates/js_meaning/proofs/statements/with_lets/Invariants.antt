use Rattle.std.proofs.Common.{◌≡◌, drop}
use Rattle.js_meaning.specs.Statements as spec
use Rattle.js_meaning.proofs.statements.with_lets.Given as goal

abbrev pub invariant-loop-c : goal.invariant-loop-c
invariant-loop-c l = spec.with_lets l.scope (drop l.c-index l.body) ≡ spec.with_lets l.fn.scope l.body
