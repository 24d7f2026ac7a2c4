use Rattle.std.proofs.Common.{◌≡◌, ◌++◌, map, drop}
use Rattle.std.specs.List.{flat_map}
use Rattle.dart_sites.specs.Trees.{stmt_in}
use Rattle.dart_sites.proofs.locals.block_locals.Given as goal

abbrev pub invariant-loop-stmt : goal.invariant-loop-stmt
invariant-loop-stmt l = l.locals ++ flat_map (λ y. y.locals) (map stmt_in (drop l.stmt-index l.stmts)) ≡ flat_map (λ y. y.locals) (map stmt_in l.stmts)
