use Rattle.std.proofs.Common.{ap, sym, ◌∙◌}
use Rattle.library_scopes.specs.Names.{meaning}
use Rattle.library_scopes.proofs.Steps.{meaning_is}
use Rattle.library_scopes.proofs.names.Names.find.Goals as goal

pub returns : goal.returns
returns c = c.copied.ensures ∙ c.get.ensures.value ∙ sym (meaning_is (λ k. k.items) c.args.name.now c.self.inside.entries.entries) ∙ ap (meaning c.args.name.now) c.self.view_is
