-- What the code makes of the sites of a file, one after another.
use Rattle.dart_program.specs.Sooner.{first_with}
use Rattle.dart_sites.specs.declared.sites.Site.{Site}
use Rattle.dart_sites.specs.declared.surroundings.Surroundings.{Surroundings}
use Rattle.name_rules.specs.declared.search.Search.{Search}
use Rattle.name_rules.specs.Rules.{faults_at}

abbrev pub searched : Search → Surroundings → Site → Search
searched v s y = record v { first = first_with v.first (faults_at v.meanings v.number s y) }
