use Rattle.std.proofs.Common.{ap, sym, ◌∙◌}
use Rattle.library_scopes.specs.Names.{meaning}
use Rattle.library_scopes.proofs.Steps.{name_inserted, with_name_there}
use Rattle.library_scopes.proofs.names.Names.put.Goals as goal

pub returns-in_ok-insert : goal.returns-in_ok-insert
returns-in_ok-insert c = name_inserted (λ k. k.items) c.self.inside.entries.entries c.insert.new.self.entries c.in_ok-name.name c.args.named c.args.name.now c.args.self.now c.in_ok-insert.ensures.entries c.in_ok-name.ensures.items c.self.view_is (sym c.has.ensures ∙ c.if-not-has.true)

pub returns-else-not-has : goal.returns-else-not-has
returns-else-not-has c = with_name_there c.args.name.now c.args.named c.args.self.now (sym c.has.ensures ∙ c.if-not-has.false)
