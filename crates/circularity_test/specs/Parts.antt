-- The graph of the parts of links. It serves proofs only.
--
--   `entry_part`, `own_edge`   where a pair waits, and the edge from there to its target
--   `joined`                   the edge between a kind and one of its methods
--   `AreKept`                  what has an index keeps it
--   `EdgeAt`, `HasEdge`        a graph has an edge, at an index
--   `TakesNumber`, `Joins`     a part has a number, and an edge was added
--   `Gets`                     all edges of which something holds were added
--   `AreOwn`                   the edges of pairs are there, in their order
use Rattle.std.specs.Prelude.{◌≡◌, ℕ, List, [], ◌∷◌, ◌++◌, Some, slice_get}
use Rattle.circularity_test.specs.declared.parts.Parts.{Parts}
use Rattle.circularity_test.specs.declared.parts.Part.{Part}
use Rattle.circularity_test.specs.declared.parts.Part.TheVariants as part
use Rattle.contract_terms.specs.declared.pair.Mode.{Mode}
use Rattle.contract_terms.specs.declared.pair.Mode.TheVariants.{Get, Await}
use Rattle.contract_terms.specs.declared.pair.Pair.{Pair}
use Rattle.name_bounding.specs.Names.{cog_of}
use Rattle.name_bounding.specs.declared.kind.Kind.{Kind}

abbrev pub part_by : Mode → Kind → Part
part_by Get kind = part.Cog (cog_of kind)
part_by Await kind = part.Running kind

-- a pair waits at the cog that its source holds, or at its source, which lets the cog go
abbrev pub entry_part : Pair → Part
entry_part pair = part_by pair.mode pair.source

-- the edge of a pair: from where it waits to its target
abbrev pub own_edge : Pair → Part × Part
own_edge pair = (entry_part pair, part.Target pair.target)

-- the edge between a kind and one of its methods: calls begin at a target, and lead to what runs
abbrev pub joined : Part → Part → Part × Part
joined (part.Target kind) method = (part.Target kind, method)
joined (part.Running kind) method = (method, part.Running kind)
joined (part.Cog name) method = (method, part.Cog name)
joined (part.Method sign class member) method = (method, part.Method sign class member)

-- what has an index keeps it
abbrev pub AreKept : {A : Type 0} → List A → List A → Type 0
AreKept {A} old new = (index : ℕ) (one : A) → slice_get old index ≡ Some one → slice_get new index ≡ Some one

-- The edge with an index leads from one part to another.
pub record EdgeAt (parts : Parts) (index : ℕ) (edge : Part × Part) : Type 0 where
  pub from : ℕ
  pub to : ℕ
  pub begins : slice_get parts.parts.keys from ≡ Some edge.0
  pub ends : slice_get parts.parts.keys to ≡ Some edge.1
  pub there : slice_get parts.edges.items index ≡ Some (record { from = from; to = to })

-- an edge leads from one part to another
abbrev pub HasEdge : Parts → Part × Part → Type 0
HasEdge parts edge = (index : ℕ) × EdgeAt parts index edge

-- A part has a number, and nothing else changes.
pub record TakesNumber (old new : Parts) (one : Part) (number : ℕ) : Type 0 where
  pub keys : AreKept old.parts.keys new.parts.keys
  pub there : slice_get new.parts.keys number ≡ Some one
  pub edges : new.edges ≡ old.edges

-- An edge was added, and nothing else but its parts.
pub record Joins (old new : Parts) (edge : Part × Part) : Type 0 where
  pub keys : AreKept old.parts.keys new.parts.keys
  pub from : ℕ
  pub to : ℕ
  pub begins : slice_get new.parts.keys from ≡ Some edge.0
  pub ends : slice_get new.parts.keys to ≡ Some edge.1
  pub edges : new.edges.items ≡ old.edges.items ++ record { from = from; to = to } ∷ []

-- All edges of which something holds are there, and all earlier ones.
pub record Gets (Is : Part × Part → Type 0) (old new : Parts) : Type 0 where
  pub keys : AreKept old.parts.keys new.parts.keys
  pub edges : AreKept old.edges.items new.edges.items
  pub has : (edge : Part × Part) → Is edge → ∥ HasEdge new edge ∥₁

-- the edges of some pairs are there, each with the index of its pair
abbrev pub AreOwn : Parts → List Pair → Type 0
AreOwn parts pairs = (index : ℕ) (pair : Pair) → slice_get pairs index ≡ Some pair
    → EdgeAt parts index (own_edge pair)
