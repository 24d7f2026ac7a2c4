use Rattle.std.proofs.Common.{◌≡◌, Option, Some, None, List, ℕ, sym, ap, ◌∙◌, subst}
use Rattle.std.specs.Prelude.{is_some}
use Rattle.source_loading.specs.Numbers.{numbered}
use Rattle.source_loading.specs.Asking.{asks_already, asked_of}
use Rattle.source_loading.proofs.Numbering.{has_number, already_is}
use Rattle.source_loading.proofs.asks.Asks.has.Goals as goal

pub returns-in-Some : goal.returns-in-Some
returns-in-Some c =
    c.has.ensures
    ∙ ap (λ n. is_some (numbered n c.self.inside.numbers)) c.as_slice.ensures
    ∙ ap (λ o. has_number o c.self.inside.numbers) (sym c.in-Some.is)
    ∙ already_is c.self.inside.numbers _ c.args.file.now.name c.args.file.now.file c.args.file.now.at c.self.invariant
    ∙ ap (λ xs. asks_already xs (asked_of c.args.file.now)) c.self.view_is

pub returns-in-None : goal.returns-in-None
returns-in-None c =
    ap (λ o. has_number o c.self.inside.numbers) (sym c.in-None.is)
    ∙ already_is c.self.inside.numbers _ c.args.file.now.name c.args.file.now.file c.args.file.now.at c.self.invariant
    ∙ ap (λ xs. asks_already xs (asked_of c.args.file.now)) c.self.view_is
