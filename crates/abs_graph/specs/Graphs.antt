-- Directed graphs: for each node the nodes to which an edge leads from it. A node is a number, and the first one is 0.
--
--   `Graph`, `successors`      all edges, and those of a node
--   `HasNodes`                 each edge leads to a node
--   `is_listed`                whether a list has a node
--   `Reaches`                  a node reaches another one in one step, or in more
--   `reaches`                  the same as a test, in at most as many steps as there are nodes
--   `on_cycles`                for each node, whether it reaches itself
--   `reach_marked`             for each node, whether it is marked or reaches a marked node
use Rattle.std.specs.Prelude.{◌≡◌, ℕ, zero, suc, ◌<◌, Bool, true, false, ◌||◌, ◌&&◌, List, [], length, get_or, map, All, nat_eq}
use Rattle.std.specs.List.{list_any, range_with_len}

abbrev pub Graph : Type 0
Graph = List (List ℕ)

-- the nodes to which an edge leads from a node
abbrev pub successors : Graph → ℕ → List ℕ
successors graph node = get_or graph node []

-- each edge leads to a node
abbrev pub HasNodes : Graph → Type 0
HasNodes graph = All (λ (row : List ℕ). All (λ (node : ℕ). node < length graph) row) graph

-- whether a list has a node
unfoldable pub is_listed : List ℕ → ℕ → Bool
is_listed nodes node = list_any (nat_eq node) nodes

-- an edge leads from a node to another one
abbrev pub leads : Graph → ℕ → ℕ → Bool
leads graph node next = list_any (λ other. nat_eq other next) (successors graph node)

-- A node reaches another one: an edge leads to it, or to a node that reaches it.
pub data Reaches (graph : Graph) (goal : ℕ) : ℕ → Type 0 where
  in_one : (node : ℕ) → leads graph node goal ≡ true → Reaches graph goal node
  in_more : (node next : ℕ) → leads graph node next ≡ true → Reaches graph goal next → Reaches graph goal node

-- whether a node reaches another one in at most so many steps
unfoldable pub reaches_within : ℕ → Graph → ℕ → ℕ → Bool
reaches_within zero graph node goal = false
reaches_within (suc steps) graph node goal =
    list_any (λ next. nat_eq next goal || reaches_within steps graph next goal) (successors graph node)

-- whether a node reaches another one: no path need be longer than there are nodes
abbrev pub reaches : Graph → ℕ → ℕ → Bool
reaches graph node goal = reaches_within (length graph) graph node goal

-- for each node, whether it reaches itself
abbrev pub on_cycles : Graph → List Bool
on_cycles graph = map (λ node. reaches graph node node) (range_with_len 0 (length graph))

-- whether a node is marked: one past the list is not
abbrev pub is_marked : List Bool → ℕ → Bool
is_marked marked node = get_or marked node false

-- whether a node is marked or reaches a marked node
unfoldable pub reaches_marked : Graph → List Bool → ℕ → Bool
reaches_marked graph marked node =
    is_marked marked node
    || list_any (λ goal. is_marked marked goal && reaches graph node goal) (range_with_len 0 (length graph))

-- for each node, whether it is marked or reaches a marked node
abbrev pub reach_marked : Graph → List Bool → List Bool
reach_marked graph marked = map (reaches_marked graph marked) (range_with_len 0 (length graph))
