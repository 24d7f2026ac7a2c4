use Rattle.dart_program.proofs.Names.{is_first, is_second}
use Rattle.dart_program.proofs.paths.is_core.Goals as goal

pub returns-then-is : goal.returns-then-is
returns-then-is c = is_first c.args.uri.now c.is.result c.is.ensures.units c.if-is.true

pub returns-else-is : goal.returns-else-is
returns-else-is c = is_second c.args.uri.now c.is.result c.is-else-is.result c.is.ensures.units c.if-is.false c.is-else-is.ensures.units
