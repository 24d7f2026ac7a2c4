use Rattle.std.proofs.Common.{◌≡◌, drop}
use Rattle.library_scopes.specs.Lookups.{first, given_by}
use Rattle.library_scopes.proofs.libraries.Scopes.first_given.Given as goal

abbrev pub invariant-loop-import : goal.invariant-loop-import
invariant-loop-import l = first (given_by l.of_prelude l.self l.side l.name l.prefix l.imports) ≡ first (given_by l.of_prelude l.self l.side l.name l.prefix (drop l.import-index l.imports))
