use Rattle.std.proofs.Common.{◌≡◌, ◌-◌, [], length}
use Rattle.expr_parser.specs.Knot.{inner_at}
use Rattle.decl_parser.specs.Members.{members, members_from}
use Rattle.decl_parser.proofs.context.Context.members.Given as goal

abbrev pub invariant-loop-turn : goal.invariant-loop-turn
invariant-loop-turn l = members (inner_at l.self.depth) l.self.native l.fn.name l.fn.ts ≡ members_from (inner_at l.self.depth) l.self.native l.name (l._turn-end - l._turn) l.found l.rest
