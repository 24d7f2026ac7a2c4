use Rattle.std.proofs.Common.{◌≡◌, ◌++◌, drop}
use Rattle.library_scopes.specs.Libraries.{all_imported}
use Rattle.library_scopes.proofs.reading.all_imported.Given as goal

abbrev pub invariant-loop-import : goal.invariant-loop-import
invariant-loop-import l = l.all ++ all_imported l.prefixes (drop l.import-index l.imports) l.rest ≡ all_imported l.prefixes l.imports l.links
