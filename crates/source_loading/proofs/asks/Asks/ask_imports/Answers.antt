use Rattle.std.proofs.Common.{◌≡◌, ◌+◌, ◌++◌, drop, sym, ap, ◌∙◌}
use Rattle.std.specs.Prelude.{flat_map}
use Rattle.std.proofs.lemmas.List.{drop_more}
use Rattle.dart_program.specs.Loading.{asked_by}
use Rattle.source_loading.specs.Asking.{with_all}
use Rattle.source_loading.proofs.Once.{with_all-append}
use Rattle.source_loading.proofs.asks.Asks.ask_imports.Goals as goal

pub loop-import-preserved : goal.loop-import-preserved
loop-import-preserved c =
    ap (λ xs. with_all xs (flat_map (asked_by c.args.number c.args.name.now) (drop (c.loop-import.import-index + 1) c.args.imports.now))) c.in_ok-ask_import.ensures
    ∙ sym (with_all-append c.loop-import.self (asked_by c.args.number c.args.name.now c.import-item.result) (flat_map (asked_by c.args.number c.args.name.now) (drop (c.loop-import.import-index + 1) c.args.imports.now)))
    ∙ ap (λ y. with_all c.loop-import.self (asked_by c.args.number c.args.name.now y ++ flat_map (asked_by c.args.number c.args.name.now) (drop (c.loop-import.import-index + 1) c.args.imports.now))) c.import-item.is
    ∙ sym (ap (λ is. with_all c.loop-import.self (flat_map (asked_by c.args.number c.args.name.now) is)) (drop_more c.args.imports.now c.loop-import.import-index c.import-item.result c.loop-import-test.true))
    ∙ c.loop-import.invariant
