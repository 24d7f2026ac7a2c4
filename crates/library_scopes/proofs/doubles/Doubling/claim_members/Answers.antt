use Rattle.std.proofs.Common.{map}
use Rattle.library_scopes.proofs.Steps.{flat_step, claims_behind}
use Rattle.dart_program.specs.Declares.{declared_by_member}
use Rattle.library_scopes.specs.Taken.{member_claim}
use Rattle.library_scopes.specs.Doubling.{claimed_all}
use Rattle.library_scopes.proofs.doubles.Doubling.claim_members.Goals as goal

pub loop-member-preserved : goal.loop-member-preserved
loop-member-preserved c = flat_step (λ s ds. claimed_all s (map (member_claim c.args.class.now) ds)) (claims_behind (member_claim c.args.class.now)) declared_by_member c.args.members.now c.loop-member.member-index c.member-item.result c.loop-member.self c.claim_member.new.self _ c.loop-member-test.true c.member-item.is c.in_ok-claim_member.ensures c.loop-member.invariant
