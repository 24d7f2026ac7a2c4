-- Going through sites with a state that each one moves.
use Rattle.std.specs.Prelude.{true, false, List, [], ◌∷◌, Option}
use Rattle.dart_sites.specs.declared.place.Place.{Place}
use Rattle.dart_sites.specs.declared.scopes.Scope.{Scope}
use Rattle.dart_sites.specs.declared.sites.Site.{Site}
use Rattle.dart_sites.specs.declared.surroundings.Owner.{Owner}
use Rattle.dart_sites.specs.declared.surroundings.Within.{Within}
use Rattle.dart_sites.specs.declared.surroundings.Surroundings.{Surroundings}

-- the first site first
abbrev pub visited : {V : Type 0} → (V → Surroundings → Site → V) → List (Surroundings × Site) → V → V
visited step [] v = v
visited step (y ∷ ys) v = visited step ys (step v y.0 y.1)

-- ---- a place and the scopes around it

abbrev pub around : Place → List Scope → Surroundings
around p scopes = record { class = p.class; within = p.within; in_function = p.in_function; in_loop = p.in_loop; in_catch = p.in_catch; scopes = scopes }

abbrev pub placed : Option Owner → Within → Place
placed class within = record { class = class; within = within; in_function = false; in_loop = false; in_catch = false }

abbrev pub looped : Place → Place
looped p = record p { in_loop = true }

abbrev pub caught : Place → Place
caught p = record p { in_catch = true }

abbrev pub functioned : Place → Place
functioned p = record p { in_function = true; in_loop = false; in_catch = false }
