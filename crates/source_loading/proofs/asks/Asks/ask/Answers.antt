use Rattle.std.proofs.Common.{◌≡◌, ◌+◌, ◌++◌, ◌∷◌, [], List, ℕ, false, map, sym, ap, ◌∙◌}
use Rattle.source_loading.specs.Asking.{asked_of, asks_already}
use Rattle.source_loading.proofs.Numbering.{not_yet, still_numbered}
use Rattle.source_loading.proofs.asks.Asks.ask.Goals as goal

pub put_number-requires : goal.put_number-requires
put_number-requires c =
    not_yet c.self.inside.numbers (map asked_of c.self.inside.files.items) c.args.file.name c.args.file.file c.args.file.at c.self.invariant
    (ap (λ xs. asks_already xs (asked_of c.args.file)) c.self.view_is ∙ sym c.has.ensures ∙ c.if-has.false)

pub invariant_of-self-2 : goal.invariant_of-self-2
invariant_of-self-2 c =
    still_numbered c.self.inside.numbers c.put_number.new.numbers c.self.inside.files.items c.push.new.self.items c.args.file (c.len.result + 1)
    c.in_ok-put_number.ensures.ok
    (c.in_ok-push.ensures.items ∙ ap (λ fs. fs ++ c.args.file ∷ []) c.in_ok-reserve.ensures.items)
    (ap (λ n. n + 1) (c.len.ensures ∙ c.in_ok-reserve.ensures.len ∙ c.self.inside.files.ok.0))
    c.self.invariant
