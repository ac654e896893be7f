-- What a search found of the nodes of a graph, and what is checked of it.
--
--   `place_of`                 the place of a node
--   `Rises`                    no edge leads to a component with a lower number
--   `HasWays`                  each node has a way to the root of its component, and one from it
use Rattle.std.specs.Prelude.{◌≡◌, ℕ, ◌<◌, ◌≤◌, ◌⊎◌, true, List, length, get_or}
use Rattle.abs_graph.specs.Graphs.{Graph, leads}
use Rattle.abs_graph.specs.declared.certificate.Place.{Place}

-- the place of a node that has none
abbrev pub nowhere : Place
nowhere = record {
  component = 0;
  root = 0;
  toward_edge = 0;
  toward_rank = 0;
  from_node = 0;
  from_edge = 0;
  from_rank = 0;
}

-- the place of a node
abbrev pub place_of : List Place → ℕ → Place
place_of places node = get_or places node nowhere

-- An edge may lead from a node to another one: the component never falls, and nodes of one component have one root.
pub record IsRise (place next : Place) : Type 0 where
  pub never_falls : place.component ≤ next.component
  pub same_root : place.component ≡ next.component → place.root ≡ next.root

-- No edge leads to a component with a lower number.
pub record Rises (graph : Graph) (places : List Place) : Type 0 where
  pub rises : (node next : ℕ) → leads graph node next ≡ true → IsRise (place_of places node) (place_of places next)

-- An edge leads to a node of the same component that is nearer to the root.
pub record IsToward (graph : Graph) (places : List Place) (node next : ℕ) : Type 0 where
  pub edge : leads graph node next ≡ true
  pub root : (place_of places next).root ≡ (place_of places node).root
  pub falls : (place_of places next).toward_rank < (place_of places node).toward_rank

-- An edge leads from a node of the same component that is nearer to the root.
pub record IsFrom (graph : Graph) (places : List Place) (node before : ℕ) : Type 0 where
  pub edge : leads graph before node ≡ true
  pub root : (place_of places before).root ≡ (place_of places node).root
  pub falls : (place_of places before).from_rank < (place_of places node).from_rank

-- a node is a root, or an edge leads from it to a node nearer to the root
abbrev pub HasToward : Graph → List Place → ℕ → Type 0
HasToward graph places node =
    ((place_of places node).root ≡ node) ⊎ ((next : ℕ) × IsToward graph places node next)

-- a node is a root, or an edge leads to it from a node nearer to the root
abbrev pub HasFrom : Graph → List Place → ℕ → Type 0
HasFrom graph places node =
    ((place_of places node).root ≡ node) ⊎ ((before : ℕ) × IsFrom graph places node before)

-- Each node has a way to the root of its component, and one from it.
pub record HasWays (graph : Graph) (places : List Place) : Type 0 where
  pub toward : (node : ℕ) → node < length graph → HasToward graph places node
  pub from : (node : ℕ) → node < length graph → HasFrom graph places node
