-- Tables of the names of each home with their numbers.
use Rattle.std.specs.Prelude.{◌≡◌, ℕ, zero, suc, if◌then◌else◌, List, [], ◌∷◌, Option, Some, None, option_and_then, slice_get}
use Rattle.std.specs.Map.{lookup}
use Rattle.std.specs.Str.{bytes_eq}
use Rattle.library_scopes.specs.Lookups.{is_public}
use Rattle.selectors.specs.declared.selector.Selector.{Selector}
use Rattle.selectors.specs.declared.tables.Tables.{Tables}
use Rattle.selectors.specs.Selectors.{same_home}

abbrev pub Table : Type 0
Table = List (List ℕ × ℕ)

abbrev pub numbered : List ℕ → Table → Option ℕ
numbered x table = lookup (bytes_eq x) table

-- the names of one home with their numbers, where the first selector has number n
abbrev pub entries : ℕ → Option ℕ → List Selector → Table
entries n home [] = []
entries n home (s ∷ rest) = if same_home home s.home then (s.text, n) ∷ entries (suc n) home rest else entries (suc n) home rest

-- the table of a file; none has any behind the last one
abbrev pub table_at : List Table → ℕ → Table
table_at [] i = []
table_at (t ∷ ts) zero = t
table_at (t ∷ ts) (suc i) = table_at ts i

-- Each table has the names of its home.
pub record AreTables (t : Tables) : Type 0 where
  pub public_is : t.public ≡ entries 0 None t.listed
  pub private_is : (i : ℕ) → table_at t.private i ≡ entries 0 (Some i) t.listed

-- the number that the tables give a name as a file sees it
abbrev pub number_by : Tables → ℕ → List ℕ → Option ℕ
number_by t file x = if is_public x then numbered x t.public else option_and_then (numbered x) (slice_get t.private file)
