use Rattle.std.proofs.Common.{◌≡◌, ◌-◌, [], length}
use Rattle.expr_parser.specs.Knot.{inner_at}
use Rattle.decl_parser.specs.Files.{declarations_from}
use Rattle.decl_parser.proofs.context.Context.declarations.Given as goal

abbrev pub invariant-loop-turn : goal.invariant-loop-turn
invariant-loop-turn l = declarations_from (inner_at l.self.depth) l.self.native (length l.fn.ts) [] l.fn.ts ≡ declarations_from (inner_at l.self.depth) l.self.native (l._turn-end - l._turn) l.found l.rest
