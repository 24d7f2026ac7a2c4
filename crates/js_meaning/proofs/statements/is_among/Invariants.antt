use Rattle.std.proofs.Common.{◌≡◌, drop}
use Rattle.std.specs.List.{list_any}
use Rattle.js_store.specs.Names.{same_name}
use Rattle.js_meaning.proofs.statements.is_among.Given as goal

abbrev pub invariant-loop-other : goal.invariant-loop-other
invariant-loop-other l = list_any (λ other. same_name other l.label) (drop l.other-index l.labels) ≡ list_any (λ other. same_name other l.label) l.labels
