use Rattle.persistent_maps.proofs.Growing.{bits_are_enough, bits_are_least}
use Rattle.persistent_maps.proofs.maps.Maps.for_keys.Goals as goal

pub returns-clause-enough : goal.returns-clause-enough
returns-clause-enough c = bits_are_enough c.args.count c.saturating_sub.result c.new.result.bits c.saturating_sub.ensures c.saturating_sub.type_inv c.new.ensures.bits

pub returns-clause-least : goal.returns-clause-least
returns-clause-least c bits h = bits_are_least c.args.count c.saturating_sub.result c.new.result.bits bits c.saturating_sub.ensures c.saturating_sub.type_inv c.new.ensures.bits h
