use Rattle.std.proofs.Common.{◌≡◌}
use Rattle.dart_web_cli.proofs.Shards.{ShardsSoFar}
use Rattle.dart_web_cli.proofs.scripts.read_shards.Given as goal

abbrev pub invariant-loop-i : goal.invariant-loop-i
invariant-loop-i g l = record {
  files : g.S.Source.files l.source ≡ g.S.Source.files l.fn.source;
  faults : g.S.Source.faults l.source ≡ g.S.Source.faults l.fn.source;
  so : ShardsSoFar (g.S.Source.files l.fn.source) l.fn.out l.shards l.i;
}
