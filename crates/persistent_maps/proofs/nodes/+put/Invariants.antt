use Rattle.persistent_maps.proofs.nodes.+put.Given as goal

abbrev pub decreases-put : goal.decreases-put
decreases-put l = l.bits
