use Rattle.std.proofs.Common.{◌≡◌, drop}
use Rattle.store_lists.specs.Text.{same_text}
use Rattle.store_lists.proofs.text.SharedText.has_units.Given as goal

abbrev pub invariant-loop-at : goal.invariant-loop-at
invariant-loop-at l = same_text (drop l.at l.self) (drop l.at l.other) ≡ same_text l.self l.other
