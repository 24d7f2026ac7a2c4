use Rattle.persistent_maps.proofs.Giving.{empty_gives}
use Rattle.persistent_maps.proofs.maps.Map.empty.Goals as goal

pub returns : goal.returns
returns c = empty_gives
