use Rattle.member_tables.specs.Origins.{AreOriginsTo}
use Rattle.member_tables.proofs.origins.find_origins.Given as goal

abbrev pub invariant-loop-class : goal.invariant-loop-class
invariant-loop-class l = AreOriginsTo l.program l.order l.class-index l.origins
