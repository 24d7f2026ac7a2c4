-- What the search of a file makes of each site.
use Rattle.dart_program.specs.Sooner.{first_with}
use Rattle.dart_sites.specs.declared.sites.Site.{Site}
use Rattle.dart_sites.specs.declared.surroundings.Surroundings.{Surroundings}
use Rattle.body_rules.specs.declared.search.Search.{Search}
use Rattle.body_rules.specs.Rules.{faults_at}

abbrev pub searched : Search → Surroundings → Site → Search
searched v s y = record { number = v.number; first = first_with v.first (faults_at v.number s y) }
