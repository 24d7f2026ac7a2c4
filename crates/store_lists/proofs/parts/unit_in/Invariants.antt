use Rattle.std.proofs.Common.{◌≡◌, ◌++◌, drop, slice_get}
use Rattle.store_lists.specs.Parts.{flat}
use Rattle.store_lists.proofs.parts.unit_in.Given as goal

abbrev pub invariant-loop-part : goal.invariant-loop-part
invariant-loop-part l = slice_get (flat (drop l.part-index l.front) ++ l.last) l.rest ≡ slice_get (flat l.front ++ l.last) l.at
