use Rattle.std.proofs.Common.{map, sym, ap, ◌∙◌, arith}
use Rattle.std.specs.List.{flat_map}
use Rattle.dart_sites.specs.declared.sites.Site.TheVariants as x
use Rattle.dart_sites.specs.Sites.{here, both}
use Rattle.dart_sites.specs.Trees.{variable_in}
use Rattle.dart_sites.specs.Visits.{visited, around}
use Rattle.dart_sites.proofs.Loops.{later_turn, last_turn}
use Rattle.dart_sites.proofs.Parts.{local_variables_of}
use Rattle.dart_sites.proofs.walker.Walker.local_variables.Goals as goal

pub loop-variable-preserved : goal.loop-variable-preserved
loop-variable-preserved g c = record {
  sites = later_turn g.V.Visitor.step variable_in (λ s y. both (here (x.Local y.name)) y.value (around c.args.place.now s)) _ _ _ _ _ _ _ _ c.variable-item.is c.loop-variable-test.true c.loop-variable.invariant.scopes c.in_ok-local_variable.ensures.sites c.loop-variable.invariant.sites;
  scopes = c.in_ok-local_variable.ensures.scopes ∙ c.loop-variable.invariant.scopes;
}

pub returns-clause-sites : goal.returns-clause-sites
returns-clause-sites g c =
    last_turn g.V.Visitor.step variable_in (λ y. both (here (x.Local y.name)) y.value (around c.args.place.now c.args.tour.now.scopes)) c.as_slice-variable-items.result.now c.loop-variable.variable-index _ _ (omega (arith, c.loop-variable-test.false)) c.loop-variable.invariant.sites
    ∙ ap (λ ys. visited g.V.Visitor.step (flat_map (λ y. both (here (x.Local y.name)) y.value (around c.args.place.now c.args.tour.now.scopes)) (map variable_in ys)) c.args.tour.now.visitor) c.as_slice-variable-items.ensures
    ∙ sym (ap (λ k. visited g.V.Visitor.step (k (around c.args.place.now c.args.tour.now.scopes)) c.args.tour.now.visitor) (local_variables_of c.args.variables.now))
