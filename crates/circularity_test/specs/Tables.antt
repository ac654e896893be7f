-- Tables that are filled: each row is a list of numbers. It serves proofs only.
--
--   `Gains`                    the rows got just those numbers that are related to theirs
--   `IsWaiting`                one of the first pairs waits at a node
--   `IsPassedBelow`            one of the first pairs waits at a node and leads to another one
use Rattle.std.specs.Prelude.{◌≡◌, ◌<◌, ◌⊎◌, ℕ, List, length, Contains, Some, slice_get}
use Rattle.abs_graph.specs.Graphs.{Graph, successors}

-- Each row has the numbers that it had before, and those that are related to its own number, and no others.
pub record Gains (Is : ℕ → ℕ → Type 0) (old new : Graph) : Type 0 where
  pub count : length new ≡ length old
  pub kept : (number value : ℕ) → Contains (successors old number) value → Contains (successors new number) value
  pub only : (number value : ℕ) → Contains (successors new number) value
      → Contains (successors old number) value ⊎ Is number value
  pub all : (number value : ℕ) → Is number value → Contains (successors new number) value

-- A pair with an index below a bound waits at a node.
pub record IsWaiting (entries : List ℕ) (bound number index : ℕ) : Type 0 where
  pub below : index < bound
  pub waits : slice_get entries index ≡ Some number

-- A pair with an index below a bound waits at a node and leads to the next one.
pub record IsPassedBelow (entries : List ℕ) (exits : Graph) (bound next number : ℕ) : Type 0 where
  pub index : ℕ
  pub below : index < bound
  pub waits : slice_get entries index ≡ Some number
  pub leads : Contains (successors exits index) next
