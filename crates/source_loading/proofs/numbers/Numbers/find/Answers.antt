use Rattle.std.proofs.Common.{ap, sym, ◌∙◌}
use Rattle.source_loading.specs.Numbers.{numbered}
use Rattle.source_loading.proofs.Inserted.{lookup_is}
use Rattle.source_loading.proofs.numbers.Numbers.find.Goals as goal

pub returns : goal.returns
returns c = c.copied.ensures ∙ c.get.ensures.value ∙ sym (lookup_is (λ k. k.items) c.args.name.now c.self.inside.entries.entries) ∙ ap (numbered c.args.name.now) c.self.view_is
