use Rattle.std.proofs.Common.{◌≡◌, ◌∷◌, map}
use Rattle.source_loading.specs.Progress.{linked}
use Rattle.source_loading.proofs.loading.Loading.into_files.Given as goal

abbrev pub invariant-loop-file : goal.invariant-loop-file
invariant-loop-file l = l.files ≡ l.fn.prelude ∷ map (linked l.fn.self.asks) l.yielded
