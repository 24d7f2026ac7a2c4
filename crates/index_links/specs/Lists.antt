-- Lists over numbered nodes.
use Rattle.std.specs.Prelude.{◌≡◌, ℕ, ◌<◌, Bool, true, nat_eq, List, [], ◌∷◌, slice_index_or, slice_set, replicate, Option, Some, None, option_and_then, if◌then◌else◌, refl}
use Rattle.std.specs.List.{list_any, position_from, IsDistinct}
use Rattle.std.specs.Coded.{Coded, code_by, coded×, coded_ℕ, coded_list}

-- how many nodes there are, and the nodes of each list in order
pub record Lists : Type 0 where
  pub nodes : ℕ
  pub lists : List (List ℕ)

abbrev pub coded_Lists : Coded Lists
coded_Lists =
    code_by (ℕ × List (List ℕ)) (coded× coded_ℕ (coded_list (coded_list coded_ℕ)))
    (λ ls. (ls.nodes, ls.lists)) (λ p. record { nodes = p.0; lists = p.1 }) (λ _. refl)

-- the nodes of a list, in order
abbrev pub nodes_in : Lists → ℕ → List ℕ
nodes_in ls list = slice_index_or ls.lists list []

-- whether a node is among these
abbrev pub is_in : ℕ → List ℕ → Bool
is_in node xs = list_any (nat_eq node) xs

-- the list that a node is in
abbrev pub list_with : Lists → ℕ → Option ℕ
list_with ls node = position_from (is_in node) 0 ls.lists

-- the first of some nodes
abbrev pub first_of : List ℕ → Option ℕ
first_of [] = None
first_of (x ∷ xs) = Some x

-- the node behind a node
abbrev pub node_after : ℕ → List ℕ → Option ℕ
node_after node [] = None
node_after node (x ∷ xs) = if nat_eq node x then first_of xs else node_after node xs

-- the node behind a node in the list that it is in
abbrev pub next_of : Lists → ℕ → Option ℕ
next_of ls node = option_and_then (λ list. node_after node (nodes_in ls list)) (list_with ls node)

-- the nodes without this one
abbrev pub without_node : ℕ → List ℕ → List ℕ
without_node node [] = []
without_node node (x ∷ xs) = if nat_eq node x then xs else x ∷ without_node node xs

-- one list has these nodes, and every other list is as it was
abbrev pub with_list : Lists → ℕ → List ℕ → Lists
with_list ls list xs = record { nodes = ls.nodes; lists = slice_set ls.lists list xs }

-- a node is taken out of the list that it is in, and every other list is as it was
abbrev pub taken_out : Lists → ℕ → Option ℕ → Lists
taken_out ls node None = ls
taken_out ls node (Some list) = with_list ls list (without_node node (nodes_in ls list))

-- so many lists, all of them empty
abbrev pub empty_lists : ℕ → ℕ → Lists
empty_lists nodes lists = record { nodes = nodes; lists = replicate lists [] }

-- each node of a list exists, and stands in one place of one list
pub record IsApart (ls : Lists) : Type 0 where
  pub exists : (list node : ℕ) → is_in node (nodes_in ls list) ≡ true → node < ls.nodes
  pub once : (list : ℕ) → IsDistinct nat_eq (nodes_in ls list)
  pub one : (j k node : ℕ) → is_in node (nodes_in ls j) ≡ true → is_in node (nodes_in ls k) ≡ true → j ≡ k
