use Rattle.std.proofs.Common.{◌≡◌, drop}
use Rattle.library_scopes.specs.Rules.{reuses, none_used}
use Rattle.library_scopes.specs.Least.{least, least_with}
use Rattle.library_scopes.proofs.reuses.reuse.Given as goal

abbrev pub invariant-loop-import : goal.invariant-loop-import
invariant-loop-import l = least_with l.first (reuses l.used (drop l.import-index l.imports)) ≡ least (reuses none_used l.imports)
