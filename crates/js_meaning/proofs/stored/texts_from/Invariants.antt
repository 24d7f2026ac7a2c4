use Rattle.std.proofs.Common.{◌≡◌, [], drop}
use Rattle.js_meaning.specs.Stored as spec
use Rattle.js_meaning.proofs.stored.texts_from.Given as goal

abbrev pub invariant-loop-value : goal.invariant-loop-value
invariant-loop-value l = spec.texts_from l.texts (drop l.value-index l.values) ≡ spec.texts_from [] l.values
