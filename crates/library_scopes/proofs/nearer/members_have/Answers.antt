use Rattle.std.proofs.Common.{sym, ◌∙◌}
use Rattle.dart_program.specs.Declares.{declared_by_member}
use Rattle.library_scopes.specs.Uses.{is_member}
use Rattle.library_scopes.proofs.Steps.{any_here, any_past}
use Rattle.library_scopes.proofs.nearer.members_have.Goals as goal

pub returns-then-member_has : goal.returns-then-member_has
returns-then-member_has c = sym (c.loop-member.invariant ∙ any_here (is_member c.args.text.now c.args.class.now) declared_by_member c.args.members.now c.loop-member.member-index c.member-item.result c.loop-member-test.true c.member-item.is (sym c.member_has.ensures ∙ c.if-member_has.true))

pub loop-member-preserved : goal.loop-member-preserved
loop-member-preserved c = c.loop-member.invariant ∙ any_past (is_member c.args.text.now c.args.class.now) declared_by_member c.args.members.now c.loop-member.member-index c.member-item.result c.loop-member-test.true c.member-item.is (sym c.member_has.ensures ∙ c.if-member_has.false)
