-- What the functions that a walker is passed give.
use Rattle.std.specs.Prelude.{◌≡◌, ℕ, List, [], ◌∷◌, ◌++◌, Result, OnOk}
use Rattle.std.specs.declared.alloc.AllocError.{AllocError}
use denote.Ref.{Bor, MutBor}
use Rattle.dart_grammar.specs.declared.trees.Expr.{Expr}
use Rattle.dart_grammar.specs.declared.trees.Stmt.{Stmt}
use Rattle.dart_sites.specs.declared.place.Place.{Place}
use Rattle.dart_sites.specs.declared.sites.Site.{Site}
use Rattle.dart_sites.specs.declared.surroundings.Surroundings.{Surroundings}
use Rattle.dart_sites.specs.declared.tour.Tour.{Tour}
use Rattle.dart_grammar.specs.declared.trees.Parameter.{Parameter}
use Rattle.dart_sites.specs.declared.scopes.Scope.{Scope}
use Rattle.dart_sites.specs.declared.scopes.ScopeKind.TheVariants as k
use Rattle.dart_sites.specs.declared.sites.Site.TheVariants as x
use Rattle.dart_sites.specs.Expressions.{ExprSites}
use Rattle.dart_sites.specs.Functions.{ParametersSites, parameter_sites}
use Rattle.dart_sites.specs.Sites.{Sites, here, ◌▸◌}
use Rattle.dart_sites.specs.Trees.{expr_in, stmt_in}
use Rattle.dart_sites.specs.Visits.{visited, around}

abbrev pub Step : Type 0 → Type 0
Step V = V → Surroundings → Site → V

-- the visitor behind these sites
abbrev pub past : {V : Type 0} → Step V → Sites → Place → Tour V → V
past step sites place tour = visited step (sites (around place tour.scopes)) tour.visitor

pub record Walks {V : Type 0} (step : Step V) (depth : ℕ)
    (expr_pre : ℕ → MutBor (Tour V) → Bor Place → Bor Expr → Type 0) (expr_post : ℕ → MutBor (Tour V) → Bor Place → Bor Expr → Result (Unit {0}) AllocError → MutBor (Tour V) → Type 0)
    (stmt_pre : ℕ → MutBor (Tour V) → Bor Place → Bor Stmt → Type 0) (stmt_post : ℕ → MutBor (Tour V) → Bor Place → Bor Stmt → Result (Unit {0}) AllocError → MutBor (Tour V) → Type 0) : Type 0 where
  pub can_expr : (old : MutBor (Tour V)) (place : Bor Place) (a : Bor Expr) → expr_pre depth old place a
  pub exprs : (old new : MutBor (Tour V)) (place : Bor Place) (a : Bor Expr) (r : Result (Unit {0}) AllocError) → expr_post depth old place a r new
      → OnOk r (new.now.visitor ≡ past step (expr_in a.now).sites place.now old.now)
  pub exprs_keep : (old new : MutBor (Tour V)) (place : Bor Place) (a : Bor Expr) (r : Result (Unit {0}) AllocError) → expr_post depth old place a r new
      → OnOk r (new.now.scopes ≡ old.now.scopes)
  pub can_stmt : (old : MutBor (Tour V)) (place : Bor Place) (a : Bor Stmt) → stmt_pre depth old place a
  pub stmts : (old new : MutBor (Tour V)) (place : Bor Place) (a : Bor Stmt) (r : Result (Unit {0}) AllocError) → stmt_post depth old place a r new
      → OnOk r (new.now.visitor ≡ past step (stmt_in a.now).sites place.now old.now)
  pub stmts_keep : (old new : MutBor (Tour V)) (place : Bor Place) (a : Bor Stmt) (r : Result (Unit {0}) AllocError) → stmt_post depth old place a r new
      → OnOk r (new.now.scopes ≡ old.now.scopes)

-- ---- sites with two surroundings

-- a parameter's name inside of the function, and its default outside
abbrev pub with_default : Parameter → ExprSites → Surroundings → Surroundings → List (Surroundings × Site)
with_default p a outside inside = parameter_sites p inside ++ (here (x.Default a.span a.is_constant) ▸ a.sites) outside

-- a function's parameters and body, by the two places and the scopes around it
abbrev pub with_parameters : ParametersSites → Sites → Place → Place → List Scope → List (Surroundings × Site)
with_parameters ps body outside inside scopes =
    (ps.sites (around outside scopes) ▸ body) (around inside (scopes ++ record { kind = k.Parameters; locals = ps.locals } ∷ []))
