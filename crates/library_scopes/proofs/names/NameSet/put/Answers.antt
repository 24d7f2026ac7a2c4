use Rattle.std.proofs.Common.{sym, ◌∙◌}
use Rattle.library_scopes.proofs.Steps.{one_inserted, with_one_there}
use Rattle.library_scopes.proofs.names.NameSet.put.Goals as goal

pub returns-in_ok-insert : goal.returns-in_ok-insert
returns-in_ok-insert c = one_inserted (λ k. k.items) c.self.inside.names.keys c.insert.new.self.keys c.in_ok-name.name c.args.name.now c.args.self.now c.in_ok-insert.ensures.keys c.in_ok-name.ensures.items c.self.view_is

pub returns-else-not-has : goal.returns-else-not-has
returns-else-not-has c = with_one_there c.args.name.now c.args.self.now (sym c.has.ensures ∙ c.if-not-has.false)
