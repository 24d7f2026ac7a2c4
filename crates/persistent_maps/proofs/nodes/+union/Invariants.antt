use Rattle.persistent_maps.proofs.nodes.+union.Given as goal

abbrev pub decreases-union : goal.decreases-union
decreases-union l = l.bits
