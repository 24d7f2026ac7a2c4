-- Going through sites one behind another.
use Rattle.std.proofs.Common.{◌≡◌, List, [], ◌∷◌, ◌++◌, refl}
use Rattle.dart_sites.specs.declared.sites.Site.{Site}
use Rattle.dart_sites.specs.declared.surroundings.Surroundings.{Surroundings}
use Rattle.dart_sites.specs.Visits.{visited}

pub visited_append : {V : Type 0} (step : V → Surroundings → Site → V) (xs ys : List (Surroundings × Site)) (v : V) → visited step (xs ++ ys) v ≡ visited step ys (visited step xs v)
visited_append step [] ys v = refl
visited_append step (x ∷ xs) ys v = visited_append step xs ys (step v x.0 x.1)
