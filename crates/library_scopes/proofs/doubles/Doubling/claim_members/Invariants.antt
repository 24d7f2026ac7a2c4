use Rattle.std.proofs.Common.{◌≡◌, drop, map}
use Rattle.std.specs.List.{flat_map}
use Rattle.dart_program.specs.Declares.{declared_by_member}
use Rattle.library_scopes.specs.Taken.{member_claim}
use Rattle.library_scopes.specs.Doubling.{claimed_all}
use Rattle.library_scopes.proofs.doubles.Doubling.claim_members.Given as goal

abbrev pub invariant-loop-member : goal.invariant-loop-member
invariant-loop-member l = claimed_all l.self (map (member_claim l.class) (flat_map declared_by_member (drop l.member-index l.members))) ≡ claimed_all l.fn.self (map (member_claim l.class) (flat_map declared_by_member l.members))
