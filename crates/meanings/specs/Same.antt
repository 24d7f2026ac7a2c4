-- The laws of the same run, for programs that print texts.
use Rattle.std.specs.Prelude.{◌≡◌, ℕ, List}
use Rattle.meanings.specs.Runs.{Over, IsMeaning, SameRun, Follows}
use Rattle.meanings.specs.Ends.{Ending, ProgramRun}

-- Each run of the one is matched by one of the other as soon as the second follows the first: one half is enough.
abbrev pub HalfIsEnough : Type 0
HalfIsEnough = (F G : ℕ → ProgramRun) → IsMeaning F → IsMeaning G → Follows F G → SameRun F G

abbrev pub SameRunIsSymmetric : Type 0
SameRunIsSymmetric = (F G : ℕ → ProgramRun) → SameRun F G → SameRun G F

abbrev pub SameRunsJoin : Type 0
SameRunsJoin = (F G H : ℕ → ProgramRun) → SameRun F G → SameRun G H → SameRun F H

-- Two meanings that come to one end with the same texts have the same run.
abbrev pub OneConclusionIsEnough : Type 0
OneConclusionIsEnough = (F G : ℕ → ProgramRun) → IsMeaning F → IsMeaning G → (n m : ℕ) (texts : List (List ℕ)) (end : Ending)
    → F n ≡ record { texts = texts; end = Over end } → G m ≡ record { texts = texts; end = Over end } → SameRun F G
