-- The names of files.
use Rattle.std.proofs.Common.{ℕ, List, map}
use Rattle.js_tree.specs.declared.tree.NamedTree.{NamedTree}

abbrev pub names_of : List NamedTree → List (List ℕ)
names_of files = map (λ tree. tree.name) files
