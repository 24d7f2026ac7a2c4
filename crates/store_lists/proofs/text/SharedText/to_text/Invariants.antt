use Rattle.std.proofs.Common.{◌≡◌, ◌++◌, drop}
use Rattle.store_lists.specs.Parts.{flat}
use Rattle.store_lists.proofs.text.SharedText.to_text.Given as goal

abbrev pub invariant-loop-part : goal.invariant-loop-part
invariant-loop-part l = l.text ++ flat (drop l.part-index l.part-items) ≡ flat l.part-items
