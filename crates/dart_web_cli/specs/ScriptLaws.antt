-- What holds of the scripts of OUT.
use Rattle.std.specs.Prelude.{◌≡◌, ◌⊎◌, ℕ, List, None}
use Rattle.outside.specs.Outside.{Held}
use Rattle.js_tree.specs.declared.tree.NamedTree.{NamedTree}
use Rattle.dart_web_cli.specs.Scripts.{AreScripts, IsOutside}

-- OUT has one list of trees at most, and none where it is absent
pub record OneRun : Type 0 where
  pub one : (files : Held) (out : List ℕ) (trees others : List NamedTree) → AreScripts files out trees → AreScripts files out others → trees ≡ others
  pub held : (files : Held) (out : List ℕ) (trees : List NamedTree) → AreScripts files out trees → files out ≡ None → ⊥

-- at most one file is the first that is not in the subset, at one place; then OUT has no list of trees, and is not absent
pub record OneOutside : Type 0 where
  pub one : (files : Held) (out name other : List ℕ) (at place : ℕ) → IsOutside files out name at → IsOutside files out other place → (name ≡ other) × (at ≡ place)
  pub no_run : (files : Held) (out name : List ℕ) (at : ℕ) (trees : List NamedTree) → IsOutside files out name at → AreScripts files out trees → ⊥
  pub held : (files : Held) (out name : List ℕ) (at : ℕ) → IsOutside files out name at → files out ≡ None → ⊥

-- OUT is absent, or it has a list of trees, or some file is the first that is not in the subset
abbrev pub RunOrOutside : Type 0
RunOrOutside = (files : Held) (out : List ℕ) → (files out ≡ None) ⊎ (((trees : List NamedTree) × AreScripts files out trees) ⊎ ((name : List ℕ) × (at : ℕ) × IsOutside files out name at))
