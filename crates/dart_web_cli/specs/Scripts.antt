-- The scripts that `runjs` reads: OUT, and then the shards OUT_1.part.js, OUT_2.part.js and so on, up to the first that is
-- absent. Each is checked before the next one is read.
use Rattle.std.specs.Prelude.{◌≡◌, ◌<◌, ◌≤◌, ℕ, zero, suc, List, [], ◌∷◌, ◌++◌, length, codes, decimal, Some, None}
use Rattle.code_units.specs.Text.{units_of}
use Rattle.outside.specs.Outside.{Held}
use Rattle.js_tree.specs.declared.tree.JsFile.{JsFile}
use Rattle.js_tree.specs.declared.tree.NamedTree.{NamedTree}
use Rattle.js_tree.specs.Spelling.{IsSpelled}
use Rattle.js_reader.specs.declared.fault.JsFault.TheVariants.{NotInProfile as NoFile}
use Rattle.js_reader.specs.Faults.{IsFaultOf}
use Rattle.dart_web_cli.specs.declared.scripts.TheConstants.{MAX_SCRIPT, MAX_SHARDS}

-- the shard of this number
abbrev pub shard_name : List ℕ → ℕ → List ℕ
shard_name out i = out ++ (codes "_" ++ (decimal i ++ codes ".part.js"))

-- held under this name, no longer than a script may be, and a spelling of this tree
pub record IsScript (files : Held) (name : List ℕ) (tree : JsFile) : Type 0 where
  pub content : List ℕ
  pub held : files name ≡ Some content
  pub short : length content ≤ MAX_SCRIPT
  pub spelled : IsSpelled content tree

-- held under this name, and not in the subset, as shows at this offset in bytes
pub data IsNoScript (files : Held) (name : List ℕ) : ℕ → Type 0 where
  too_long : {content : List ℕ} → files name ≡ Some content → MAX_SCRIPT < length content → IsNoScript files name MAX_SCRIPT
  no_tree : {content : List ℕ} {at : ℕ} → files name ≡ Some content → length content ≤ MAX_SCRIPT → IsFaultOf content (NoFile at) → IsNoScript files name at

abbrev pub named : List ℕ → JsFile → NamedTree
named name tree = record { name = units_of name; tree = tree }

-- Shards from number i on, of which so many at most are looked for.
pub data AreShards (files : Held) (out : List ℕ) : (i most : ℕ) → List NamedTree → Type 0 where
  enough : {i : ℕ} → AreShards files out i zero []
  absent : {i most : ℕ} → files (shard_name out i) ≡ None → AreShards files out i (suc most) []
  shard : {i most : ℕ} {tree : JsFile} {trees : List NamedTree} → IsScript files (shard_name out i) tree → AreShards files out (suc i) most trees → AreShards files out i (suc most) (named (shard_name out i) tree ∷ trees)

-- the first of them that is not in the subset
pub data IsFirstBad (files : Held) (out : List ℕ) : (i most : ℕ) → (name : List ℕ) → (at : ℕ) → Type 0 where
  here : {i most at : ℕ} → IsNoScript files (shard_name out i) at → IsFirstBad files out i (suc most) (shard_name out i) at
  later : {i most at : ℕ} {name : List ℕ} {tree : JsFile} → IsScript files (shard_name out i) tree → IsFirstBad files out (suc i) most name at → IsFirstBad files out i (suc most) name at

-- The files of the run: the shards, and OUT as the main file behind them.
pub record AreScripts (files : Held) (out : List ℕ) (trees : List NamedTree) : Type 0 where
  pub main : JsFile
  pub shards : List NamedTree
  pub main_is : IsScript files out main
  pub shards_are : AreShards files out 1 MAX_SHARDS shards
  pub all : trees ≡ shards ++ named out main ∷ []

-- The first file, in the order of reading, that is not in the subset.
pub data IsOutside (files : Held) (out : List ℕ) : (name : List ℕ) → (at : ℕ) → Type 0 where
  in_main : {at : ℕ} → IsNoScript files out at → IsOutside files out out at
  in_shard : {at : ℕ} {name : List ℕ} {tree : JsFile} → IsScript files out tree → IsFirstBad files out 1 MAX_SHARDS name at → IsOutside files out name at

-- a file that may be read
pub data IsReadFor (out : List ℕ) : List ℕ → Type 0 where
  reads_main : IsReadFor out out
  reads_shard : {i : ℕ} → i ≤ MAX_SHARDS → IsReadFor out (shard_name out i)
