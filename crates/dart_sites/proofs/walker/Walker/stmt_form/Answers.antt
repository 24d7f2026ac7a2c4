use Rattle.std.proofs.Common.{◌≡◌, map, sym, ap, ◌∙◌, subst}
use Rattle.std.specs.Prelude.{OnOk}
use Rattle.dart_sites.specs.Sites.{both, each, if_any}
use Rattle.dart_sites.specs.Statements.{block, for_sites}
use Rattle.dart_sites.specs.Trees.{expr_in, stmt_in, catch_in, variables_in}
use Rattle.dart_sites.specs.Walks.{past}
use Rattle.dart_sites.proofs.Layers.{for_declared_layer, try_finally_layer}
use Rattle.dart_sites.proofs.walker.Walker.stmt_form.Goals as goal

pub returns-in-ForDeclared-clause-sites : goal.returns-in-ForDeclared-clause-sites
returns-in-ForDeclared-clause-sites g c =
    subst (λ k. OnOk c.for_declared.result (c.for_declared.new.tour.visitor ≡ past g.V.Visitor.step k c.args.place.now c.args.tour.now))
    (ap (λ us. for_sites (variables_in c.in-ForDeclared.variables) (both (if_any (λ y. (expr_in y).sites) c.in-ForDeclared.test) (each (λ y. y.sites) (map expr_in us))) (stmt_in c.get-in-ForDeclared.result.now)) c.as_slice-in-ForDeclared.ensures
    ∙ ap (λ b. for_sites (variables_in c.in-ForDeclared.variables) (both (if_any (λ y. (expr_in y).sites) c.in-ForDeclared.test) (each (λ y. y.sites) (map expr_in c.in-ForDeclared.updates))) (stmt_in b)) c.get-in-ForDeclared.ensures
    ∙ sym (ap (λ z. (stmt_in z).sites) c.in-ForDeclared.is ∙ for_declared_layer _ _ _ _ _))
    c.for_declared.ensures.sites

pub returns-in-TryFinally-clause-sites : goal.returns-in-TryFinally-clause-sites
returns-in-TryFinally-clause-sites g c =
    subst (λ k. OnOk c.try_finally.result (c.try_finally.new.tour.visitor ≡ past g.V.Visitor.step k c.args.place.now c.args.tour.now))
    (ap (λ xs. both (block (map stmt_in xs)) (both (each (λ y. y) (map catch_in c.as_slice-in-TryFinally-2.result.now)) (block (map stmt_in c.as_slice-in-TryFinally-3.result.now)))) c.as_slice-in-TryFinally.ensures
    ∙ ap (λ xs. both (block (map stmt_in c.in-TryFinally.body)) (both (each (λ y. y) (map catch_in xs)) (block (map stmt_in c.as_slice-in-TryFinally-3.result.now)))) c.as_slice-in-TryFinally-2.ensures
    ∙ ap (λ xs. both (block (map stmt_in c.in-TryFinally.body)) (both (each (λ y. y) (map catch_in c.in-TryFinally.clauses)) (block (map stmt_in xs)))) c.as_slice-in-TryFinally-3.ensures
    ∙ sym (ap (λ z. (stmt_in z).sites) c.in-TryFinally.is ∙ try_finally_layer _ _ _ _))
    c.try_finally.ensures.sites
