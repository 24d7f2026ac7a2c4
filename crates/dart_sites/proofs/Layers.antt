-- The two forms of `for` with expressions behind, whose test may be absent.
use Rattle.std.proofs.Common.{◌≡◌, List, map, Option, Some, None, sym, ap, ◌∙◌}
use Rattle.dart_grammar.specs.declared.trees.Span.{Span}
use Rattle.dart_grammar.specs.declared.trees.Body.{Body}
use Rattle.dart_grammar.specs.declared.trees.Expr.{Expr}
use Rattle.dart_grammar.specs.declared.trees.Head.{Head}
use Rattle.dart_grammar.specs.declared.trees.OptionalParameter.{OptionalParameter}
use Rattle.dart_grammar.specs.declared.trees.Selector.{Selector}
use Rattle.dart_grammar.specs.declared.trees.Target.{Target}
use Rattle.dart_grammar.specs.declared.trees.Variable.{Variable}
use Rattle.dart_grammar.specs.declared.trees.Arguments.{Arguments}
use Rattle.dart_grammar.specs.declared.trees.Catch.{Catch}
use Rattle.dart_grammar.specs.declared.trees.Chain.{Chain}
use Rattle.dart_grammar.specs.declared.trees.Entry.{Entry}
use Rattle.dart_grammar.specs.declared.trees.Interpolation.{Interpolation}
use Rattle.dart_grammar.specs.declared.trees.Parameters.{Parameters}
use Rattle.dart_grammar.specs.declared.trees.Variables.{Variables}
use Rattle.dart_grammar.specs.declared.trees.Stmt.{Stmt, roll-Stmt, fold-roll-Stmt}
use Rattle.dart_grammar.specs.declared.trees.Stmt.TheVariants as c
use Rattle.dart_grammar.specs.declared.trees.Body.TheOpen.{Stmt-F}
use Rattle.dart_grammar.specs.declared.trees.Body.TheFolds.{map-Stmt}
use Rattle.dart_grammar.specs.Trees.{StmtLevel}
use Rattle.dart_sites.specs.declared.sites.Use.{Use}
use Rattle.dart_sites.specs.Sites.{Sites, each, if_any, both}
use Rattle.dart_sites.specs.Expressions.{ExprSites, ChainSites, HeadSites, SelectorSites, ArgumentsSites}
use Rattle.dart_sites.specs.Functions.{ParametersSites, OptionalSites}
use Rattle.dart_sites.specs.Statements.{StmtSites, VariableSites, VariablesSites, block, for_sites, turn}
use Rattle.dart_sites.specs.Trees.{Parts, body_in, expr_in, head_in, optional_in, selector_in, stmt_in, target_in, variable_in, arguments_in, catch_in, chain_in, entry_in, interpolation_in, parameters_in, variables_in, body_form, expr_form, head_form, optional_form, selector_form, stmt_form, target_form, variable_form, arguments_form, catch_form, chain_form, entry_form, interpolation_form, parameters_form, variables_form}

abbrev pub stmt_read : StmtLevel → Parts Stmt-F
stmt_read = map-Stmt Body Expr Head OptionalParameter Selector Stmt Target Variable Arguments Catch Chain Entry Interpolation Parameters Variables Sites ExprSites HeadSites OptionalSites SelectorSites StmtSites (Use → Sites) VariableSites ArgumentsSites Sites ChainSites Sites Sites ParametersSites VariablesSites body_in expr_in head_in optional_in selector_in stmt_in target_in variable_in arguments_in catch_in chain_in entry_in interpolation_in parameters_in variables_in

rolled_stmt : (y : StmtLevel) {a : Stmt} → roll-Stmt y ≡ a → stmt_in a ≡ stmt_form (stmt_read y)
rolled_stmt y rolls = ap stmt_in (sym rolls) ∙ fold-roll-Stmt Sites ExprSites HeadSites OptionalSites SelectorSites StmtSites (Use → Sites) VariableSites ArgumentsSites Sites ChainSites Sites Sites ParametersSites VariablesSites body_form expr_form head_form optional_form selector_form stmt_form target_form variable_form arguments_form catch_form chain_form entry_form interpolation_form parameters_form variables_form y

pub for_declared_layer : (at : Span) (vs : Variables) (o : Option Expr) (us : List Expr) (y : Stmt) → (stmt_in (c.ForDeclared at vs o us y)).sites
    ≡ for_sites (variables_in vs) (both (if_any (λ z. (expr_in z).sites) o) (each (λ z. z.sites) (map expr_in us))) (stmt_in y)
for_declared_layer at vs None us y = ap (λ z. z.sites) (rolled_stmt (Stmt-F.ForDeclared at vs None us y) (c.rolls-ForDeclared at vs None us y))
for_declared_layer at vs (Some a) us y = ap (λ z. z.sites) (rolled_stmt (Stmt-F.ForDeclared at vs (Some a) us y) (c.rolls-ForDeclared at vs (Some a) us y))

pub for_layer : (at : Span) (xs : List Expr) (o : Option Expr) (us : List Expr) (y : Stmt) → (stmt_in (c.For at xs o us y)).sites
    ≡ both (each (λ z. z.sites) (map expr_in xs)) (both (if_any (λ z. (expr_in z).sites) o) (both (each (λ z. z.sites) (map expr_in us)) (turn (stmt_in y))))
for_layer at xs None us y = ap (λ z. z.sites) (rolled_stmt (Stmt-F.For at xs None us y) (c.rolls-For at xs None us y))
for_layer at xs (Some a) us y = ap (λ z. z.sites) (rolled_stmt (Stmt-F.For at xs (Some a) us y) (c.rolls-For at xs (Some a) us y))

pub try_finally_layer : (at : Span) (xs : List Stmt) (cs : List Catch) (ys : List Stmt) → (stmt_in (c.TryFinally at xs cs ys)).sites
    ≡ both (block (map stmt_in xs)) (both (each (λ z. z) (map catch_in cs)) (block (map stmt_in ys)))
try_finally_layer at xs cs ys = ap (λ z. z.sites) (rolled_stmt (Stmt-F.TryFinally at xs cs ys) (c.rolls-TryFinally at xs cs ys))
