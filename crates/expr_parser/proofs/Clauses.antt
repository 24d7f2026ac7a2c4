-- A `try` that has clauses.
use Rattle.std.proofs.Common.{◌≡◌, ℕ, List, [], ◌∷◌, Some, refl}
use Rattle.dart_grammar.specs.declared.trees.Stmt.{Stmt}
use Rattle.dart_grammar.specs.declared.trees.Stmt.TheVariants as c
use Rattle.dart_grammar.specs.declared.trees.Catch.{Catch}
use Rattle.dart_grammar.specs.Marks.{Tokens}
use Rattle.dart_grammar.specs.Trees.{span}
use Rattle.expr_parser.specs.Statements.{without_finally}

pub with_clauses : (from : ℕ) (xs : List Stmt) (ds : List Catch) (j : ℕ) (ts : Tokens) → (ds ≡ [] → ⊥) → without_finally from xs ds j ts ≡ Some (c.Try (span from j) xs ds, ts)
with_clauses from xs [] j ts some = absurd (some refl)
with_clauses from xs (d ∷ ds) j ts some = refl
