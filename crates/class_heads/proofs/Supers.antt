-- Whether `super` stands in a class, found site by site.
use Rattle.std.proofs.Common.{◌≡◌, Bool, true, false, List, [], ◌∷◌, refl, ◌∙◌}
use Rattle.std.specs.Prelude.{◌||◌}
use Rattle.std.specs.List.{list_any}
use Rattle.dart_sites.specs.declared.sites.Site.{Site}
use Rattle.dart_sites.specs.declared.surroundings.Surroundings.{Surroundings}
use Rattle.dart_sites.specs.Visits.{visited}
use Rattle.class_heads.specs.declared.bodies.SuperSearch.{SuperSearch}
use Rattle.class_heads.specs.Rules.{names_super}
use Rattle.class_heads.specs.Faults.{super_seen}

joined : (a b c : Bool) → ((a || b) || c) ≡ (a || (b || c))
joined true b c = refl
joined false b c = refl

or_none : (a : Bool) → a ≡ (a || false)
or_none true = refl
or_none false = refl

seen_from : (ys : List (Surroundings × Site)) (v : SuperSearch) → (visited super_seen ys v).is_found ≡ (v.is_found || list_any (λ y. names_super y.1) ys)
seen_from [] v = or_none v.is_found
seen_from (y ∷ ys) v = seen_from ys (super_seen v y.0 y.1) ∙ joined v.is_found (names_super y.1) (list_any (λ y. names_super y.1) ys)

pub super_is_found : (ys : List (Surroundings × Site)) → (visited super_seen ys (record { is_found = false })).is_found ≡ list_any (λ y. names_super y.1) ys
super_is_found ys = seen_from ys (record { is_found = false })
