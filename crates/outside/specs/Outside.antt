-- What the calls of a source and of a sink do.
use Rattle.std.specs.Prelude.{◌≡◌, ◌≢◌, ◌⊎◌, ℕ, ◌-◌, ◌^◌, ◌<◌, ◌≤◌, take, List, ◌++◌, length, Option, Some, None, Result, OnOk, OnErr}
use Rattle.outside.specs.declared.traits.Read.{Read}
use Rattle.outside.specs.declared.traits.Read.TheVariants.{Got, Absent, Failed, Memory}

-- files by name: from the UTF-8 bytes of a name to the bytes of the file that is held under it
abbrev pub Held : Type 0
Held = List ℕ → Option (List ℕ)

-- a count is greater than before, or stands at its last value
abbrev pub Rose : ℕ → ℕ → Type 0
Rose before now = (before < now) ⊎ (now ≡ 2 ^ 64 - 1)

-- a refusal comes only where the count of faults rose, all else leaves it as it was, and it never falls
pub record HasCause {T E : Type 0} (before now : ℕ) (result : Result T E) : Type 0 where
  pub later : before ≤ now
  pub failed : OnErr result (Rose before now)
  pub kept : OnOk result (now ≡ before)

-- the same of a read
abbrev pub ReadCause : ℕ → ℕ → Read → Type 0
ReadCause before now (Got bytes) = now ≡ before
ReadCause before now Absent = now ≡ before
ReadCause before now Failed = (before ≤ now) × Rose before now
ReadCause before now Memory = now ≡ before

-- What the answer of a read tells of the files that are held: the front of the named file, up to the limit; or that
-- no file has this name.
abbrev pub ReadTells : Held → List ℕ → ℕ → Read → Type 0
ReadTells files name limit (Got bytes) = (content : List ℕ) × (files name ≡ Some content) × (bytes ≡ take limit content)
ReadTells files name limit Absent = files name ≡ None
ReadTells files name limit Failed = Unit {0}
ReadTells files name limit Memory = Unit {0}

-- no more bytes came than the limit
abbrev pub WithinLimit : ℕ → Read → Type 0
WithinLimit limit (Got bytes) = length bytes ≤ limit
WithinLimit limit Absent = Unit {0}
WithinLimit limit Failed = Unit {0}
WithinLimit limit Memory = Unit {0}

-- what tells goes on telling, and its parts before and now are so related; what doesn't tell doesn't begin to
abbrev pub Told : {A : Type 0} → Option A → Option A → (A → A → Type 0) → Type 0
Told None None R = Unit {0}
Told None (Some now) R = ⊥
Told (Some before) None R = ⊥
Told (Some before) (Some now) R = R before now

-- all files but that of this name are as before
abbrev pub OthersStay : List ℕ → Held → Held → Type 0
OthersStay name before now = (other : List ℕ) → other ≢ name → now other ≡ before other

-- the named file has exactly these bytes, and all other files are as before
pub record Puts (name bytes : List ℕ) (before now : Held) : Type 0 where
  pub put : now name ≡ Some bytes
  pub others : OthersStay name before now

-- a front of these bytes was added at the end
abbrev pub AddsFront : List ℕ → List ℕ → List ℕ → Type 0
AddsFront bytes before now = (k : ℕ) × (now ≡ before ++ take k bytes)
