use Rattle.std.proofs.Common.{◌≡◌, take, map}
use Rattle.dart_program.specs.Loading as spec
use Rattle.source_loading.proofs.asks.Asks.links.Given as goal

abbrev pub invariant-loop-import : goal.invariant-loop-import
invariant-loop-import l = l.links ≡ map (spec.link l.self l.name) (take l.import-index l.imports)
