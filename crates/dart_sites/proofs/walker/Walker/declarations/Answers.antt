use Rattle.std.proofs.Common.{◌∙◌}
use Rattle.dart_sites.specs.Files.{declaration_in}
use Rattle.dart_sites.proofs.Loops.{plain_turn}
use Rattle.dart_sites.proofs.walker.Walker.declarations.Goals as goal

pub loop-declaration-preserved : goal.loop-declaration-preserved
loop-declaration-preserved g c = record {
  sites = plain_turn g.V.Visitor.step declaration_in _ _ _ _ _ _ c.declaration-item.is c.loop-declaration-test.true c.in_ok-declaration.ensures.sites c.loop-declaration.invariant.sites;
  scopes = c.in_ok-declaration.ensures.scopes ∙ c.loop-declaration.invariant.scopes;
}
