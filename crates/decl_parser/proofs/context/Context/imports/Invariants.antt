use Rattle.std.proofs.Common.{◌≡◌, ◌-◌, [], length}
use Rattle.expr_parser.specs.Knot.{inner_at}
use Rattle.decl_parser.specs.Files.{imports_from}
use Rattle.decl_parser.proofs.context.Context.imports.Given as goal

abbrev pub invariant-loop-turn : goal.invariant-loop-turn
invariant-loop-turn l = imports_from (inner_at l.self.depth) (length l.fn.ts) [] l.fn.ts ≡ imports_from (inner_at l.self.depth) (l._turn-end - l._turn) l.found l.rest
