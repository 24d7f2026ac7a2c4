-- What a script, its shards and all of them come to.
use Rattle.std.specs.Prelude.{◌≡◌, ◌⊎◌, ℕ, ◌<◌, ◌≤◌, ◌+◌, suc, List, [], ◌∷◌, length, Option, Some, None, IfSome, Result, Ok, Err, string_bytes}
use Rattle.outside.specs.Outside.{Held, Rose}
use Rattle.code_units.specs.Text.{units_of}
use Rattle.js_tree.specs.declared.tree.JsFile.{JsFile}
use Rattle.js_tree.specs.declared.tree.NamedTree.{NamedTree}
use Rattle.js_tree.specs.Spelling.{IsSpelled}
use Rattle.js_reader.specs.declared.fault.JsFault.TheVariants.{NotInProfile as NoFile}
use Rattle.js_reader.specs.Faults.{IsFaultOf}
use Rattle.dart_web_cli.specs.declared.scripts.Script.{Script}
use Rattle.dart_web_cli.specs.declared.scripts.Script.TheVariants as a
use Rattle.dart_web_cli.specs.declared.scripts.ScriptFault.{ScriptFault}
use Rattle.dart_web_cli.specs.declared.scripts.ScriptFault.TheVariants as f
use Rattle.dart_web_cli.specs.declared.scripts.TheConstants.{MAX_SCRIPT, MAX_SHARDS}
use Rattle.dart_web_cli.specs.Scripts.{shard_name, IsScript, IsNoScript, named, AreShards, IsFirstBad, AreScripts, IsOutside, IsReadFor}

-- ---- one script

-- these bytes are too long, or spell no tree
abbrev pub IsNoSpelling : List ℕ → ℕ → Type 0
IsNoSpelling bytes at = ((MAX_SCRIPT < length bytes) × (at ≡ MAX_SCRIPT)) ⊎ ((length bytes ≤ MAX_SCRIPT) × IsFaultOf bytes (NoFile at))

-- what bytes come to
abbrev pub JudgesScript : List ℕ → Script → Type 0
JudgesScript bytes (a.Tree tree) = (length bytes ≤ MAX_SCRIPT) × IsSpelled bytes tree
JudgesScript bytes a.Absent = ⊥
JudgesScript bytes (a.Outside at) = IsNoSpelling bytes at
JudgesScript bytes a.Failed = ⊥
JudgesScript bytes a.Memory = Unit {0}

-- what a name comes to
abbrev pub ReadsScript : Option Held → List ℕ → Script → Type 0
ReadsScript held name (a.Tree tree) = IfSome held (λ files. IsScript files name tree)
ReadsScript held name a.Absent = IfSome held (λ files. files name ≡ None)
ReadsScript held name (a.Outside at) = IfSome held (λ files. IsNoScript files name at)
ReadsScript held name a.Failed = Unit {0}
ReadsScript held name a.Memory = Unit {0}

-- the count of the source rises exactly where the read failed
abbrev pub ScriptCause : ℕ → ℕ → Script → Type 0
ScriptCause before now (a.Tree tree) = now ≡ before
ScriptCause before now a.Absent = now ≡ before
ScriptCause before now (a.Outside at) = now ≡ before
ScriptCause before now a.Failed = (before ≤ now) × Rose before now
ScriptCause before now a.Memory = now ≡ before

-- ---- more than one

-- Where nothing is to be run, the count rises where a read failed; memory can be wanting behind that too.
abbrev pub FaultCause : {T : Type 0} → ℕ → ℕ → Result T ScriptFault → Type 0
FaultCause before now (Ok read) = now ≡ before
FaultCause before now (Err f.Absent) = now ≡ before
FaultCause before now (Err (f.Outside name at)) = now ≡ before
FaultCause before now (Err (f.Failed name)) = (before ≤ now) × Rose before now
FaultCause before now (Err f.Memory) = before ≤ now

abbrev pub ReadsMain : Option Held → List ℕ → Result NamedTree ScriptFault → Type 0
ReadsMain held out (Ok main) = (tree : JsFile) × (main ≡ named out tree) × IfSome held (λ files. IsScript files out tree)
ReadsMain held out (Err f.Absent) = IfSome held (λ files. files out ≡ None)
ReadsMain held out (Err (f.Outside name at)) = (string_bytes name ≡ out) × IfSome held (λ files. IsNoScript files out at)
ReadsMain held out (Err (f.Failed name)) = string_bytes name ≡ out
ReadsMain held out (Err f.Memory) = Unit {0}

abbrev pub ReadsShard : Option Held → List ℕ → ℕ → Result (Option NamedTree) ScriptFault → Type 0
ReadsShard held out i (Ok (Some shard)) = (tree : JsFile) × (shard ≡ named (shard_name out i) tree) × IfSome held (λ files. IsScript files (shard_name out i) tree)
ReadsShard held out i (Ok None) = IfSome held (λ files. files (shard_name out i) ≡ None)
ReadsShard held out i (Err f.Absent) = ⊥
ReadsShard held out i (Err (f.Outside name at)) = (string_bytes name ≡ shard_name out i) × IfSome held (λ files. IsNoScript files (shard_name out i) at)
ReadsShard held out i (Err (f.Failed name)) = string_bytes name ≡ shard_name out i
ReadsShard held out i (Err f.Memory) = Unit {0}

-- they are named as the shards from number i on
abbrev pub HaveShardNames : List ℕ → ℕ → List NamedTree → Type 0
HaveShardNames out i [] = Unit {0}
HaveShardNames out i (shard ∷ shards) = (shard.name ≡ units_of (shard_name out i)) × HaveShardNames out (suc i) shards

-- the shards that are read
pub record IsShardList (held : Option Held) (out : List ℕ) (shards : List NamedTree) : Type 0 where
  pub names : HaveShardNames out 1 shards
  pub few : length shards ≤ MAX_SHARDS
  pub are : IfSome held (λ files. AreShards files out 1 MAX_SHARDS shards)

abbrev pub ReadsShards : Option Held → List ℕ → Result (List NamedTree) ScriptFault → Type 0
ReadsShards held out (Ok shards) = IsShardList held out shards
ReadsShards held out (Err f.Absent) = ⊥
ReadsShards held out (Err (f.Outside name at)) = IfSome held (λ files. IsFirstBad files out 1 MAX_SHARDS (string_bytes name) at)
ReadsShards held out (Err (f.Failed name)) = IsReadFor out (string_bytes name)
ReadsShards held out (Err f.Memory) = Unit {0}

abbrev pub ReadsScripts : Option Held → List ℕ → Result (List NamedTree) ScriptFault → Type 0
ReadsScripts held out (Ok trees) = IfSome held (λ files. AreScripts files out trees)
ReadsScripts held out (Err f.Absent) = IfSome held (λ files. files out ≡ None)
ReadsScripts held out (Err (f.Outside name at)) = IfSome held (λ files. IsOutside files out (string_bytes name) at)
ReadsScripts held out (Err (f.Failed name)) = IsReadFor out (string_bytes name)
ReadsScripts held out (Err f.Memory) = Unit {0}
