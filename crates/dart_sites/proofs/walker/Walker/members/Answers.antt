use Rattle.std.proofs.Common.{◌∙◌}
use Rattle.dart_sites.specs.Files.{member_in}
use Rattle.dart_sites.proofs.Loops.{plain_turn}
use Rattle.dart_sites.proofs.walker.Walker.members.Goals as goal

pub loop-member-preserved : goal.loop-member-preserved
loop-member-preserved g c = record {
  sites = plain_turn g.V.Visitor.step (member_in c.args.class.now) _ _ _ _ _ _ c.member-item.is c.loop-member-test.true c.in_ok-class_member.ensures.sites c.loop-member.invariant.sites;
  scopes = c.in_ok-class_member.ensures.scopes ∙ c.loop-member.invariant.scopes;
}
