-- The room that a sink in memory was made with.
use Rattle.std.specs.Prelude.{ℕ, zero, suc, ◌+◌, ◌*◌, ◌<◌, ◌≤◌, List, [], ◌∷◌, length, vec_capacity}
use Rattle.outside.specs.declared.memory.Spare.{Spare}

-- the spare file holds a name and a content of as many bytes as it says
pub record IsWide (spare : Spare) : Type 0 where
  pub name : spare.room ≤ vec_capacity spare.name
  pub bytes : spare.room ≤ vec_capacity spare.bytes

-- Of the spare files, from the k-th on and counted from 0, the k-th holds the (k + 1)-th part of the room. So the first
-- holds all of the room; and where the last one that holds a file is taken for it, the others serve what is left.
abbrev pub Serve : ℕ → ℕ → List Spare → Type 0
Serve room k [] = Unit {0}
Serve room k (spare ∷ spares) = IsWide spare × (room < suc k * suc spare.room) × Serve room (suc k) spares

-- none of the spare files holds so many bytes
abbrev pub AreSmall : ℕ → List Spare → Type 0
AreSmall size [] = Unit {0}
AreSmall size (spare ∷ spares) = (spare.room < size) × AreSmall size spares

-- the text said, the list of files and the spare files have all the room that is left
pub record KeepsRoom (room said_len said_capacity files_len files_capacity : ℕ) (spares : List Spare) : Type 0 where
  pub said : said_len + room ≤ said_capacity
  pub files : files_len + length spares ≤ files_capacity
  pub serve : Serve room 0 spares

-- how many bytes the spare file at this place holds
abbrev pub room_at : List Spare → ℕ → ℕ
room_at [] i = 0
room_at (spare ∷ spares) zero = spare.room
room_at (spare ∷ spares) (suc i) = room_at spares i
