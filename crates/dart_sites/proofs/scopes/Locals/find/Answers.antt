use Rattle.std.proofs.Common.{ap, ◌∙◌}
use Rattle.std.specs.List.{find}
use Rattle.dart_sites.specs.Names.{has_name}
use Rattle.dart_sites.proofs.Indexed.{at_place, leads}
use Rattle.dart_sites.proofs.scopes.Locals.find.Goals as goal

pub returns-in-Some : goal.returns-in-Some
returns-in-Some c =
    c.get-in-Some.ensures.value
    ∙ ap (at_place c.self.inside.items) (c.in-Some.ensures.value ∙ c.self.invariant.places c.args.name.now)
    ∙ leads c.args.name.now c.self.inside.items
    ∙ ap (find (has_name c.args.name.now)) c.self.view_is

pub returns-in-None : goal.returns-in-None
returns-in-None c =
    ap (at_place c.self.inside.items) (c.in-None.ensures.value ∙ c.self.invariant.places c.args.name.now)
    ∙ leads c.args.name.now c.self.inside.items
    ∙ ap (find (has_name c.args.name.now)) c.self.view_is
