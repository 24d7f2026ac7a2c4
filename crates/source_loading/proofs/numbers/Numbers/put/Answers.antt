use Rattle.source_loading.proofs.Inserted.{inserted}
use Rattle.source_loading.proofs.numbers.Numbers.put.Goals as goal

pub returns-clause-ok : goal.returns-clause-ok
returns-clause-ok c = inserted (λ k. k.items) c.self.inside.entries.entries c.insert.new.self.entries c.in_ok-name.name c.args.number c.args.name.now c.args.self.now c.in_ok-insert.ensures.entries c.in_ok-name.ensures.items c.self.view_is c.requires
