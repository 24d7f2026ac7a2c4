-- Lists of impacts that workers hand back.
use Rattle.std.specs.Prelude.{ℕ, ◌<◌, List, length, slice_index_or, Vec}
use Rattle.std.specs.List.{AllByRecursion}
use Rattle.std.specs.declared.alloc.Global.{Global}
use Rattle.world_state.specs.declared.impact.Impact.{Impact}
use Rattle.enqueuer_core.specs.Least.{Meaning, IsOneOf}

-- each impact of the list is one of m
abbrev pub AllOneOf : Meaning → List Impact → Type 0
AllOneOf m js = AllByRecursion (λ j. IsOneOf m j) js

-- each impact of each list is one of m
abbrev pub AreAllOf : Meaning → List (Vec Impact Global) → Type 0
AreAllOf m lists = (k : ℕ) (d : Vec Impact Global) → k < length lists → AllOneOf m (slice_index_or lists k d).items
