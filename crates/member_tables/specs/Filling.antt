-- How the code makes the table of a class from that of its superclass.
use Rattle.std.specs.Prelude.{◌≡◌, ◌<◌, ◌≤◌, ◌^◌, ℕ, true, if◌then◌else◌, List, [], length, slice_get, slice_index_or, Option, Some, None, option_and_then}
use Rattle.std.specs.Option.{option_or}
use Rattle.persistent_maps.specs.declared.maps.Map.{Map}
use Rattle.persistent_maps.specs.declared.maps.Maps.{Maps}
use Rattle.persistent_maps.specs.Maps.{bits_of, value_of, IsMapOf}
use Rattle.persistent_maps.specs.Keeps.{Keeps}
use Rattle.selectors.specs.Selectors.{selectors}
use Rattle.class_heads.specs.Sources.{Sources, classes_in}
use Rattle.class_heads.specs.Bodies.{class_count}
use Rattle.class_heads.specs.Origins.{superclass_of}
use Rattle.class_members.specs.declared.owners.Owners.{Owners}
use Rattle.member_tables.specs.declared.tables.MemberTables.{MemberTables}
use Rattle.member_tables.specs.Lookup.{first_of, find_of}
use Rattle.member_tables.specs.Keys.{keys_at, is_among}
use Rattle.member_tables.specs.Tables.{found}

-- ---- members in a table

-- this member at each of the keys
abbrev pub with_member : List (Option ℕ) → ℕ → (ℕ → Option ℕ) → ℕ → Option ℕ
with_member keys m f n = if is_among n keys then Some m else f n

-- at each key the first of these members that has it
abbrev pub with_members : Sources → List ℕ → (ℕ → Option ℕ) → ℕ → Option ℕ
with_members p ms f n = option_or (first_of (λ m. is_among n (keys_at p m)) ms) (f n)

-- keys that maps can have
pub record AreKeys (maps : Maps) (keys : List (Option ℕ)) : Type 0 where
  pub each : (n : ℕ) → is_among n keys ≡ true → n < 2 ^ bits_of maps

-- ---- the tables of classes

-- the members of a class; none has no members
abbrev pub listed_for : Owners → Option ℕ → List ℕ
listed_for x None = []
listed_for x (Some c) = slice_index_or x.of_classes c []

-- what the table of the superclass has
abbrev pub found_above : Sources → MemberTables → ℕ → ℕ → Option ℕ
found_above p t c n = option_and_then (λ d. found t d n) (superclass_of (classes_in p) c)

pub record AreMaps (t : MemberTables) : Type 0 where
  pub each : (c : ℕ) (table : Map) → slice_get t.tables c ≡ Some table → IsMapOf t.maps table

pub record KeepsTables (old new : MemberTables) : Type 0 where
  pub tables : new.tables ≡ old.tables
  pub maps : Keeps old.maps new.maps

-- these members, over what the table of the superclass has
pub record IsTableOf (p : Sources) (own : List ℕ) (old new : MemberTables) (c : ℕ) (made : Map) : Type 0 where
  pub is_map : IsMapOf new.maps made
  pub values : (n : ℕ) → value_of new.maps made n ≡ with_members p own (found_above p old c) n

-- There is a table for each class, and selectors are keys.
pub record HasTables (p : Sources) (t : MemberTables) : Type 0 where
  pub long : length t.tables ≡ class_count p
  pub keys : length (selectors p.files) ≤ 2 ^ bits_of t.maps
  pub maps : AreMaps t

-- the tables of the first classes of an order are done
pub record AreTablesTo (p : Sources) (order : List ℕ) (i : ℕ) (t : MemberTables) : Type 0 where
  pub tables : HasTables p t
  pub each : (j : ℕ) → j < i → (n : ℕ) → found t (slice_index_or order j 0) n ≡ find_of p (slice_index_or order j 0) n
