use Rattle.std.proofs.Common.{◌≡◌, drop}
use Rattle.std.specs.Prelude.{flat_map}
use Rattle.dart_program.specs.Loading.{asked_by}
use Rattle.source_loading.specs.Asking.{with_all}
use Rattle.source_loading.proofs.asks.Asks.ask_imports.Given as goal

-- what is asked for so far, and what is left
abbrev pub invariant-loop-import : goal.invariant-loop-import
invariant-loop-import l =
    with_all l.self (flat_map (asked_by l.number l.name) (drop l.import-index l.imports)) ≡ with_all l.fn.self (flat_map (asked_by l.number l.name) l.imports)
