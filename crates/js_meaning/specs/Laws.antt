-- What holds of the runs of any files.
use Rattle.std.specs.Prelude.{◌≡◌, ◌≢◌, ℕ, List, [], ◌∷◌}
use Rattle.code_units.specs.declared.ends.End.TheVariants as ends
use Rattle.meanings.specs.Runs.{IsMeaning}
use Rattle.meanings.specs.Ends.{run_end_of}
use Rattle.js_tree.specs.declared.tree.NamedTree.{NamedTree}
use Rattle.js_meaning.specs.Meaning.{js, js_to}

-- Loads ask for files by name, so no two files have the same one.
abbrev pub IsNoName : List ℕ → List NamedTree → Type 0
IsNoName name [] = Unit {0}
IsNoName name (file ∷ files) = (name ≢ file.name) × IsNoName name files

abbrev pub HaveOwnNames : List NamedTree → Type 0
HaveOwnNames [] = Unit {0}
HaveOwnNames (file ∷ files) = IsNoName file.name files × HaveOwnNames files

-- no steps print nothing, a further step prints at most one text, an end stays
abbrev pub RunsAreOfAMeaning : Type 0
RunsAreOfAMeaning = (files : List NamedTree) (order : List ℕ) → IsMeaning (js files order)

-- where so few steps may be nested, a run is what the files mean, or it is too deep
abbrev pub MeantOrTooDeep : Type 0
MeantOrTooDeep = (files : List NamedTree) (order : List ℕ) (depth steps : ℕ) → (js_to files depth order steps).end ≢ ends.Deep → js_to files depth order steps ≡ run_end_of (js files order steps)
