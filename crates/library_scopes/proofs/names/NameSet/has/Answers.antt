use Rattle.std.proofs.Common.{ap, sym, ◌∙◌}
use Rattle.library_scopes.specs.Names.{is_among}
use Rattle.library_scopes.proofs.Steps.{among_is}
use Rattle.library_scopes.proofs.names.NameSet.has.Goals as goal

pub returns : goal.returns
returns c = c.contains.ensures ∙ sym (among_is (λ k. k.items) c.args.name.now c.self.inside.names.keys) ∙ ap (is_among c.args.name.now) c.self.view_is
