use Rattle.std.proofs.Common.{◌≡◌, drop}
use Rattle.library_scopes.specs.Libraries.{all_prefixed}
use Rattle.library_scopes.proofs.reading.Prefixing.take_all.Given as goal

abbrev pub invariant-loop-import : goal.invariant-loop-import
invariant-loop-import l = all_prefixed l.library l.self (drop l.import-index l.imports) ≡ all_prefixed l.library l.fn.self l.imports
