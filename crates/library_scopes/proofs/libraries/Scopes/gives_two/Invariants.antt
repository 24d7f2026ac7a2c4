use Rattle.std.proofs.Common.{◌≡◌, drop, false}
use Rattle.library_scopes.specs.Lookups.{given_by}
use Rattle.library_scopes.specs.Rules.{are_two}
use Rattle.library_scopes.specs.First.{are_two_behind}
use Rattle.library_scopes.proofs.libraries.Scopes.gives_two.Given as goal

abbrev pub invariant-loop-import : goal.invariant-loop-import
invariant-loop-import l = are_two_behind l.first (given_by false l.self l.side l.name l.prefix (drop l.import-index l.imports)) ≡ are_two (given_by false l.self l.side l.name l.prefix l.imports)
