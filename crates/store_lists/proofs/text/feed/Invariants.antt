use Rattle.std.proofs.Common.{◌≡◌, ◌++◌, drop, fold}
use Rattle.std.specs.List.{flat_map}
use Rattle.std.specs.Hash as fed
use Rattle.store_lists.specs.Parts.{flat}
use Rattle.store_lists.proofs.text.feed.Given as goal

abbrev pub invariant-loop-part : goal.invariant-loop-part
invariant-loop-part g l = fold g.H.Hasher.write l.state (flat_map fed.u16 (flat (drop l.part-index l.front) ++ l.back)) ≡ fold g.H.Hasher.write l.fn.state (flat_map fed.u16 (flat l.front ++ l.back))
