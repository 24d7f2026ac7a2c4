-- Arrays of links, and the lists that they spell.
use Rattle.std.specs.Prelude.{◌≡◌, ℕ, zero, suc, ◌<◌, true, nat_eq, List, [], ◌∷◌, length, map, slice_index_or, slice_set, Option, Some, None, if◌then◌else◌}
use Rattle.std.specs.List.{IsDistinct}
use Rattle.index_links.specs.Lists.{is_in, first_of, node_after}

-- of each node the node behind it, the node before it and its list; of each list its first and its last node
pub record Arrays : Type 0 where
  pub next : List (Option ℕ)
  pub previous : List (Option ℕ)
  pub list : List (Option ℕ)
  pub first : List (Option ℕ)
  pub last : List (Option ℕ)

-- what an array has at a number
abbrev pub entry_at : List (Option ℕ) → ℕ → Option ℕ
entry_at xs i = slice_index_or xs i None

-- the link of a node leads elsewhere, if there is a node
abbrev pub pointed : List (Option ℕ) → Option ℕ → Option ℕ → List (Option ℕ)
pointed links None to = links
pointed links (Some node) to = slice_set links node to

-- the end of a list leads elsewhere, if there is no node
abbrev pub ended : List (Option ℕ) → ℕ → Option ℕ → Option ℕ → List (Option ℕ)
ended ends list None to = slice_set ends list to
ended ends list (Some node) to = ends

-- at most so many nodes from one on, along the links
abbrev pub nodes_along : ℕ → List (Option ℕ) → Option ℕ → List ℕ
nodes_along zero next at = []
nodes_along (suc k) next None = []
nodes_along (suc k) next (Some node) = node ∷ nodes_along k next (entry_at next node)

-- the lists that the arrays spell
abbrev pub spelled : Arrays → List (List ℕ)
spelled a = map (nodes_along (length a.next) a.next) a.first

-- the last of some nodes, or what stands before them
abbrev pub last_from : Option ℕ → List ℕ → Option ℕ
last_from before [] = before
last_from before (x ∷ xs) = last_from (Some x) xs

-- the node before a node, where the first has this one before it
abbrev pub before_from : Option ℕ → ℕ → List ℕ → Option ℕ
before_from before node [] = None
before_from before node (x ∷ xs) = if nat_eq node x then before else before_from (Some x) node xs

-- some nodes are threaded: both ends, and the links of each node
pub record IsThread (next previous : ℕ → Option ℕ) (xs : List ℕ) (first last : Option ℕ) : Type 0 where
  pub first_is : first ≡ first_of xs
  pub last_is : last ≡ last_from None xs
  pub next_is : (node : ℕ) → is_in node xs ≡ true → next node ≡ node_after node xs
  pub previous_is : (node : ℕ) → is_in node xs ≡ true → previous node ≡ before_from None node xs

-- what is in a list
abbrev pub at : List (List ℕ) → ℕ → List ℕ
at lists k = slice_index_or lists k []

-- the arrays spell these lists
pub record AreSpelled (a : Arrays) (lists : List (List ℕ)) : Type 0 where
  pub previous_room : length a.previous ≡ length a.next
  pub list_room : length a.list ≡ length a.next
  pub last_room : length a.last ≡ length a.first
  pub lists_room : length lists ≡ length a.first
  pub distinct : (k : ℕ) → IsDistinct nat_eq (at lists k)
  -- a node is in the list that its entry names, and in no other
  pub named : (k node : ℕ) → is_in node (at lists k) ≡ true → entry_at a.list node ≡ Some k
  pub holds : (k node : ℕ) → entry_at a.list node ≡ Some k → is_in node (at lists k) ≡ true
  pub threads : (k : ℕ) → k < length a.first → IsThread (entry_at a.next) (entry_at a.previous) (at lists k) (entry_at a.first k) (entry_at a.last k)
  -- a node of no list leads nowhere
  pub loose : (node : ℕ) → entry_at a.list node ≡ None → entry_at a.next node ≡ None
