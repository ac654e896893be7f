-- The network of pairs: the nodes at which pairs wait, and the nodes to which their targets lead. It serves proofs
-- only.
--
--   `node_of`                  the node at which a pair waits
--   `AreIn`, `KeepsComponent`  the component of each pair, and that chains stay in one
--   `LeadsTo`                  a kind that is waited for leads to a node
--   `waits_at`, `led_to`, `waiting_at`         the tables of a network
--   `AreMembers`, `AreBefore`  what its tables of nodes have
--   `IsNetwork`                what all of them say of some pairs
--   `group_of`                 the group of a node, which calls on `this` keep
--   `AreNumbers`               for each item, the number of its key
--   `IsGrouped`, `AreGrouped`  a node is in the row of its group, and each node is
--   `nodes_in`, `program_of`   what ways are over
--   `IsLed`, `AreLed`          a kind leads to the node with a number, and all such numbers
--   `LeadsAs`                  those to which the target of a pair leads
--   `IsCogNode`, `ReachesNode`, `IsNodeReached`        it leads there by its cog, or by calls on `this`
--   `TakesOneAtMost`           a list has one entry more at most, and keeps its room
use Rattle.std.specs.List.{AllZip}
use Rattle.std.specs.Prelude.{◌≡◌, ◌≤◌, ◌+◌, ◌↔◌, ℕ, List, length, vec_capacity, Contains, Option, Some, slice_get}
use Rattle.std.specs.declared.alloc.Global.{Global}
use Rattle.std.specs.declared.vec.Vec.{Vec}
use Rattle.abs_graph.specs.Graphs.{Graph, successors}
use Rattle.abs_graph.specs.Views.{graph_of}
use Rattle.abs_program.specs.NamedViews.{program_tree}
use Rattle.abs_tree.specs.Syntax.{ProgramTree}
use Rattle.circularity_test.specs.Numbers.{AreComponentsOf}
use Rattle.circularity_test.specs.declared.level_pairs.LevelPairs.{LevelPairs}
use Rattle.circularity_test.specs.declared.network.Group.{Group}
use Rattle.circularity_test.specs.declared.network.Group.TheVariants as group
use Rattle.circularity_test.specs.declared.network.Groups.{Groups}
use Rattle.circularity_test.specs.declared.network.Network.{Network}
use Rattle.circularity_test.specs.declared.network.Node.{Node}
use Rattle.circularity_test.specs.declared.network.Node.TheVariants as node
use Rattle.circularity_test.specs.declared.network.Ways.{Ways}
use Rattle.contract_terms.specs.Chains.{ClosesAt}
use Rattle.contract_terms.specs.PairLinks.{IsLinked, IsReachedByCalls}
use Rattle.contract_terms.specs.declared.pair.Mode.{Mode}
use Rattle.contract_terms.specs.declared.pair.Mode.TheVariants.{Get, Await}
use Rattle.contract_terms.specs.declared.pair.Pair.{Pair}
use Rattle.name_bounding.specs.Names.{cog_of}
use Rattle.name_bounding.specs.declared.kind.Kind.{Kind}
use Rattle.name_bounding.specs.declared.kind.Kind.TheVariants.{Main, Method}

abbrev pub node_by : Mode → Kind → ℕ → Node
node_by Get kind component = node.Cog (cog_of kind) component
node_by Await kind component = node.Waiting kind component

-- a pair waits at the cog that its source holds, or at its source, which lets the cog go, in its component
abbrev pub node_of : (Pair → ℕ) → Pair → Node
node_of component pair = node_by pair.mode pair.source (component pair)

-- these are the components of the pairs that stay in one
abbrev pub AreIn : (Pair → ℕ) → LevelPairs → Type 0
AreIn component found = AreComponentsOf component found.pairs found.components.items

-- a chain that leads back to its first pair stays in the component of this pair
abbrev pub KeepsComponent : ProgramTree → List Pair → (Pair → ℕ) → Type 0
KeepsComponent program pairs component = (first : Pair) (chain : List Pair) → ClosesAt program pairs first chain
    → (pair : Pair) → Contains chain pair → component pair ≡ component first

-- a kind that is waited for leads, in a component, to the cog that it needs, and to the kinds that it reaches by calls
-- on `this`
abbrev pub LeadsTo : ProgramTree → Kind → ℕ → Node → Type 0
LeadsTo program kind component (node.Cog name number) = (cog_of kind ≡ name) × (component ≡ number)
LeadsTo program kind component (node.Waiting other number) = IsReachedByCalls program kind other × (component ≡ number)

-- the number of the node at which the pair with an index waits
abbrev pub waits_at : Network → ℕ → Option ℕ
waits_at network index = slice_get network.entries.items index

-- the numbers of the nodes to which the target of the pair with an index leads
abbrev pub led_to : Network → ℕ → List ℕ
led_to network index = successors (graph_of network.exits.items) index

-- the indices of the pairs that wait at the node with a number
abbrev pub waiting_at : Network → ℕ → List ℕ
waiting_at network number = successors (graph_of network.members.items) number

-- A pair that waits at a node leads to another node.
pub record IsPassed (entries : List ℕ) (exits : Graph) (number next : ℕ) : Type 0 where
  pub index : ℕ
  pub waits : slice_get entries index ≡ Some number
  pub leads : Contains (successors exits index) next

-- For each list of numbers at an index, the numbers that have it.
abbrev pub AreMembers : List ℕ → Graph → Type 0
AreMembers entries members = (number index : ℕ) → Contains (successors members number) index
    ↔ (slice_get entries index ≡ Some number)

-- for each node, the nodes from which a pair leads to it
abbrev pub AreBefore : List ℕ → Graph → Graph → Type 0
AreBefore entries exits before = (number next : ℕ) → Contains (successors before next) number
    ↔ IsPassed entries exits number next

-- From one pair to another of its component there is a link just where the target of the one leads to the node at which
-- the other waits. Closed chains stay in a component.
pub record IsNetwork (program : ProgramTree) (pairs : List Pair) (network : Network) : Type 0 where
  pub component : Pair → ℕ
  pub keeps : KeepsComponent program pairs component
  pub count : length network.entries.items ≡ length pairs
  pub linked : (from to entry : ℕ) (one other : Pair) → slice_get pairs from ≡ Some one
      → slice_get pairs to ≡ Some other → waits_at network to ≡ Some entry
      → Contains (led_to network from) entry ↔ (IsLinked program one other × (component one ≡ component other))
  pub members : AreMembers network.entries.items (graph_of network.members.items)
  pub before : AreBefore network.entries.items (graph_of network.exits.items) (graph_of network.before.items)

-- the group of a kind in a component: calls on `this` lead to kinds of the same group
abbrev pub group_by : Kind → ℕ → Group
group_by Main component = group.Main
group_by (Method sign method) component = group.Object sign component

-- the group of a node
abbrev pub group_of : Node → Group
group_of (node.Cog name component) = group.Cogs
group_of (node.Waiting kind component) = group_by kind component

-- for each item, the number that its key has in a list of keys
abbrev pub AreNumbers : {A B : Type 0} → (A → B) → List A → List B → List ℕ → Type 0
AreNumbers key_of items keys numbers = AllZip (λ item number. slice_get keys number ≡ Some (key_of item)) items numbers

-- The number of a node is in the row of its group.
pub record IsGrouped (groups : Groups) (one : Node) (number : ℕ) : Type 0 where
  pub row : ℕ
  pub there : slice_get groups.groups.keys row ≡ Some (group_of one)
  pub inside : Contains (successors (graph_of groups.rows.items) row) number

-- the number of each node is in the row of its group
abbrev pub AreGrouped : List Node → Groups → Type 0
AreGrouped nodes groups = (number : ℕ) (one : Node) → slice_get nodes number ≡ Some one → IsGrouped groups one number

-- the nodes among which ways lead
abbrev pub nodes_in : Ways → List Node
nodes_in ways = ways.nodes.now.keys

-- the program of ways
abbrev pub program_of : Ways → ProgramTree
program_of ways = program_tree ways.program.now.checked.named

-- A kind leads in a component to the node with a number.
pub record IsLed (program : ProgramTree) (nodes : List Node) (kind : Kind) (component number : ℕ) : Type 0 where
  pub one : Node
  pub there : slice_get nodes number ≡ Some one
  pub leads : LeadsTo program kind component one

-- these are the numbers of the nodes to which a kind leads in a component
abbrev pub AreLed : ProgramTree → List Node → Kind → ℕ → List ℕ → Type 0
AreLed program nodes kind component numbers =
    (number : ℕ) → Contains numbers number ↔ IsLed program nodes kind component number

-- these are the numbers of the nodes to which the target of a pair leads
abbrev pub LeadsAs : ProgramTree → List Node → (Pair → ℕ) → Pair → List ℕ → Type 0
LeadsAs program nodes component pair numbers = AreLed program nodes pair.target (component pair) numbers

-- the node with a number is that of the cog that a kind needs, in a component
abbrev pub IsCogNode : List Node → Kind → ℕ → ℕ → Type 0
IsCogNode nodes kind component number = slice_get nodes number ≡ Some (node.Cog (cog_of kind) component)

-- A kind reaches the node with a number by calls on `this`, in a component.
pub record ReachesNode (program : ProgramTree) (nodes : List Node) (kind : Kind) (component number : ℕ) : Type 0 where
  pub other : Kind
  pub there : slice_get nodes number ≡ Some (node.Waiting other component)
  pub reached : IsReachedByCalls program kind other

-- A number is one of which this is so.
pub record IsNodeReached (program : ProgramTree) (nodes : List Node) (kind : Kind) (component number one : ℕ) : Type 0
  where
    pub same : number ≡ one
    pub reaches : ReachesNode program nodes kind component number

-- a list has one entry more at most, and its room is kept
abbrev pub TakesOneAtMost : Vec ℕ Global → Vec ℕ Global → Type 0
TakesOneAtMost before now =
    (length now.items ≤ length before.items + 1) × (vec_capacity before ≤ vec_capacity now)
