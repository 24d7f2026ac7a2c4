use Rattle.std.proofs.Common.{◌≡◌, drop}
use Rattle.std.specs.List.{list_any, flat_map}
use Rattle.dart_program.specs.Declares.{declared_by_member}
use Rattle.library_scopes.specs.Uses.{is_member}
use Rattle.library_scopes.proofs.nearer.members_have.Given as goal

abbrev pub invariant-loop-member : goal.invariant-loop-member
invariant-loop-member l = list_any (is_member l.text l.class) (flat_map declared_by_member l.members) ≡ list_any (is_member l.text l.class) (flat_map declared_by_member (drop l.member-index l.members))
