-- The worklist as one list of links.
use Rattle.std.specs.Prelude.{◌≡◌, ℕ, List, length}
use Rattle.index_links.specs.Lists.{Lists, nodes_in}

-- there is one list over so many members, and these stand in it
pub record IsWorklist (links : Lists) (members : ℕ) (in_order : List ℕ) : Type 0 where
  pub nodes : links.nodes ≡ members
  pub lists : length links.lists ≡ 1
  pub pending : nodes_in links 0 ≡ in_order
