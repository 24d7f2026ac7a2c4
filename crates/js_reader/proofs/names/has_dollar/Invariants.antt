use Rattle.std.proofs.Common.{◌≡◌, length}
use Rattle.std.specs.Prelude.{◌==◌}
use Rattle.std.specs.List.{list_any}
use Rattle.js_reader.proofs.names.has_dollar.Given as goal

abbrev pub invariant-text : goal.invariant-text
invariant-text l = list_any (λ c. c == 36) l.rest ≡ list_any (λ c. c == 36) l.fn.text

abbrev pub decreases-text : goal.decreases-text
decreases-text l = length l.rest
