use Rattle.std.proofs.Common.{◌≡◌, ℕ, ◌++◌, drop, map}
use Rattle.dart_grammar.specs.declared.declarations.Import.{Import}
use Rattle.source_loading.proofs.first.own_links.Given as goal

-- the links so far, and those that are left
abbrev pub invariant-loop-import : goal.invariant-loop-import
invariant-loop-import l = l.links ++ map (λ (i : Import). 0) (drop l._import-index l.imports) ≡ map (λ (i : Import). 0) l.imports
