-- How one thing more is asked for.
use Rattle.std.specs.Prelude.{◌≡◌, ℕ, suc, Bool, false, ◌||◌, if◌then◌else◌, List, [], ◌∷◌, ◌++◌, Option, Some, None}
use Rattle.dart_program.specs.Loading.{Asked, is_name, asks_for}
use Rattle.source_loading.specs.declared.asks.AskedFile.{AskedFile}
use Rattle.source_loading.specs.Numbers.{Table, numbered}

abbrev pub asked_of : AskedFile → Asked
asked_of x = record { name = x.name; file = x.file; at = x.at }

-- whether one of these asks for the same name
abbrev pub asks_already : List Asked → Asked → Bool
asks_already [] y = false
asks_already (x ∷ xs) y = asks_for x.name y || asks_already xs y

-- with what is asked for besides, if it is new
abbrev pub with_asked : List Asked → Asked → List Asked
with_asked xs y = if asks_already xs y then xs else xs ++ y ∷ []

abbrev pub with_all : List Asked → List Asked → List Asked
with_all xs [] = xs
with_all xs (y ∷ ys) = with_all (with_asked xs y) ys

-- the number of the file that is asked for under this name, counted from n, if there is one
abbrev pub number_at : ℕ → List ℕ → List Asked → Option ℕ
number_at n name [] = None
number_at n name (x ∷ xs) = if is_name name x.name then Some n else number_at (suc n) name xs

abbrev pub numbered_entry : Option (List ℕ) → ℕ → Table
numbered_entry None number = []
numbered_entry (Some name) number = (name, number) ∷ []

-- the table has the number of each name
pub record AreNumbered (table : Table) (xs : List Asked) : Type 0 where
  pub numbers : (name : List ℕ) → numbered name table ≡ number_at 1 name xs
