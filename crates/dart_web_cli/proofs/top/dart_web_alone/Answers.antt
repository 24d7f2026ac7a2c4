use Rattle.dart_web_cli.proofs.Complete.{complete}
use Rattle.dart_web_cli.proofs.top.dart_web_alone.Goals as goal

pub returns-clause-complete : goal.returns-clause-complete
returns-clause-complete g c = complete _ _ c.carry_out.ensures
