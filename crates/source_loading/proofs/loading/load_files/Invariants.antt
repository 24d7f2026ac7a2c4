use Rattle.std.proofs.Common.{◌≡◌, ◌-◌, length}
use Rattle.source_loading.specs.Progress.{IsLoading}
use Rattle.source_loading.proofs.loading.load_files.Given as goal

abbrev pub invariant-loop-loading : goal.invariant-loop-loading
invariant-loop-loading g l = record {
  files : g.S.Source.files l.source ≡ g.S.Source.files l.fn.source;
  faults : g.S.Source.faults l.source ≡ g.S.Source.faults l.fn.source;
  so : IsLoading (g.S.Source.files l.fn.source) l.entry l.loading;
}

abbrev pub decreases-loop-loading : goal.decreases-loop-loading
decreases-loop-loading g l = 257 - length l.loading.files.items
