-- The tables of all classes, as maps of the same nodes.
use Rattle.std.specs.Prelude.{◌≡◌, ℕ, slice_get, Option, option_and_then}
use Rattle.persistent_maps.specs.Maps.{value_of}
use Rattle.class_heads.specs.Sources.{Sources}
use Rattle.member_tables.specs.declared.tables.MemberTables.{MemberTables}
use Rattle.member_tables.specs.Lookup.{find_of}

-- the member that the table of a class has under the selector of this number
abbrev pub found : MemberTables → ℕ → ℕ → Option ℕ
found t c n = option_and_then (λ table. value_of t.maps table n) (slice_get t.tables c)

-- They have what the walk upwards finds, and nothing for what is no class or no selector.
pub record AreTables (p : Sources) (t : MemberTables) : Type 0 where
  pub each : (c n : ℕ) → found t c n ≡ find_of p c n
