use Rattle.std.proofs.Common.{◌≡◌, ◌+◌, List, ℕ, length, map, sym, ap, ◌∙◌}
use Rattle.std.proofs.lemmas.List.{length-map}
use Rattle.dart_program.specs.Loading.{number_from}
use Rattle.source_loading.specs.Numbers.{numbered}
use Rattle.source_loading.specs.Asking.{asked_of}
use Rattle.source_loading.proofs.Numbering.{number_last}
use Rattle.source_loading.proofs.asks.Asks.number_of.Goals as goal

pub returns-in-None : goal.returns-in-None
returns-in-None c =
    number_last c.self.inside.numbers (map asked_of c.self.inside.files.items) c.args.name.now c.len.result c.self.invariant
    (ap (λ n. numbered n c.self.inside.numbers) (sym c.as_slice.ensures) ∙ sym c.find.ensures ∙ c.in-None.is)
    (c.len.ensures ∙ c.self.inside.files.ok.0 ∙ sym (length-map c.self.inside.files.items asked_of))
    ∙ ap (number_from 1 c.args.name.now) c.self.view_is
