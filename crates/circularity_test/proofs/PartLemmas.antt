-- How the graph of parts grows.
--
--   `kept_then`, `edge_kept`   what is kept twice, and an edge that is
--   `edges_kept`, `joined_at`, `joins_gets`, `joins_as`        one edge was added
--   `gets_none`, `gets_as`, `gets_then`        nothing was added, what was is told in other words, one after the other
--   `gets_each_none`, `gets_each_more`, `gets_each_all`        a loop over a list: at its start, one turn, at its end
use mathlib.Core.Logic.{∥∥₁_elim, ∥∥₁_prop}
use Rattle.std.proofs.Common.{◌≡◌, ◌⊎◌, ⊎_elim, ℕ, ◌+◌, ◌<◌, ◌≤◌, List, [], ◌∷◌, ◌++◌, length, take, slice_get, Some, sym, subst, arith}
use Rattle.std.proofs.Math.Logic.{∥∥₁_map}
use Rattle.std.specs.Prelude.{get_or}
use Rattle.std.proofs.lemmas.List.{take_all}
use Rattle.circularity_test.proofs.AddingLemmas.{each_cases}
use Rattle.circularity_test.specs.Adding.{OfEach}
use Rattle.circularity_test.specs.Parts.{AreKept, EdgeAt, Gets, HasEdge, Joins}
use Rattle.circularity_test.specs.declared.parts.Edge.{Edge}
use Rattle.circularity_test.specs.declared.parts.Part.{Part}
use Rattle.circularity_test.specs.declared.parts.Parts.{Parts}
use Rattle.list_facts.proofs.EntryLemmas.{slice_get-front, slice_get-next}

-- what is kept twice is kept
pub kept_then : {A : Type 0} (old between new : List A) → AreKept old between → AreKept between new → AreKept old new
kept_then old between new first second index one there = second index one (first index one there)

-- what is kept when more is added at the end
kept_front : {A : Type 0} (list more now : List A) → now ≡ list ++ more → AreKept list now
kept_front list more now is index one there =
    subst (λ all. slice_get all index ≡ Some one) (sym is) (slice_get-front list more index one there)

-- an edge is kept
pub edge_kept : (old new : Parts) → AreKept old.parts.keys new.parts.keys → AreKept old.edges.items new.edges.items
    → (index : ℕ) (edge : Part × Part) → EdgeAt old index edge → EdgeAt new index edge
edge_kept old new keys edges index edge at = record {
  from = at.from;
  to = at.to;
  begins = keys at.from edge.0 at.begins;
  ends = keys at.to edge.1 at.ends;
  there = edges index (record { from = at.from; to = at.to }) at.there;
}

pub has_kept : (old new : Parts) → AreKept old.parts.keys new.parts.keys → AreKept old.edges.items new.edges.items
    → (edge : Part × Part) → ∥ HasEdge old edge ∥₁ → ∥ HasEdge new edge ∥₁
has_kept old new keys edges edge has =
    ∥∥₁_map has (λ it. (it.0, edge_kept old new keys edges it.0 edge it.1))

-- the edges are kept when one is added
pub edges_kept : {old new : Parts} {edge : Part × Part} → Joins old new edge
    → AreKept old.edges.items new.edges.items
edges_kept {old} {new} joins =
    kept_front old.edges.items (record { from = joins.from; to = joins.to } ∷ []) new.edges.items joins.edges

-- the edge that was added has the last index
pub joined_at : {old new : Parts} {edge : Part × Part} → Joins old new edge
    → EdgeAt new (length old.edges.items) edge
joined_at {old} {new} {edge} joins = record {
  from = joins.from;
  to = joins.to;
  begins = joins.begins;
  ends = joins.ends;
  there = subst (λ (all : List Edge). slice_get all (length old.edges.items)
      ≡ Some (record { from = joins.from; to = joins.to })) (sym joins.edges)
      (slice_get-next old.edges.items (record { from = joins.from; to = joins.to }) []);
}

-- one edge was added
pub joins_gets : {old new : Parts} {edge : Part × Part} {Is : Part × Part → Type 0} → Joins old new edge
    → ((one : Part × Part) → Is one → one ≡ edge) → Gets Is old new
joins_gets {old} {new} {edge} joins same = record {
  keys = joins.keys;
  edges = edges_kept joins;
  has = λ one is. subst (λ it. ∥ HasEdge new it ∥₁) (sym (same one is)) ∣ (length old.edges.items, joined_at joins) ∣₁;
}

-- the edge that was added in other words
pub joins_as : {old new : Parts} {edge other : Part × Part} → Joins old new edge → edge ≡ other → Joins old new other
joins_as {old} {new} joins same = subst (Joins old new) same joins

-- nothing was added
pub gets_none : {parts : Parts} {Is : Part × Part → Type 0} → ((edge : Part × Part) → Is edge → ⊥)
    → Gets Is parts parts
gets_none none = record {
  keys = λ index one there. there;
  edges = λ index one there. there;
  has = λ edge is. absurd (none edge is);
}

-- what was added in other words
pub gets_as : {old new : Parts} {Is Other : Part × Part → Type 0} → Gets Is old new
    → ((edge : Part × Part) → Other edge → ∥ Is edge ∥₁) → Gets Other old new
gets_as gets from = record {
  keys = gets.keys;
  edges = gets.edges;
  has = λ edge other. ∥∥₁_elim (from edge other) ∥∥₁_prop (λ is. gets.has edge is);
}

-- one thing was added after the other
pub gets_then : {old between new : Parts} {Is Other Both : Part × Part → Type 0} → Gets Is old between
    → Gets Other between new → ((edge : Part × Part) → Both edge → Is edge ⊎ Other edge) → Gets Both old new
gets_then {old} {between} {new} first second split = record {
  keys = kept_then old.parts.keys between.parts.keys new.parts.keys first.keys second.keys;
  edges = kept_then old.edges.items between.edges.items new.edges.items first.edges second.edges;
  has = λ edge both. ⊎_elim
      (λ is. has_kept between new second.keys second.edges edge (first.has edge is))
      (λ other. second.has edge other)
      (split edge both);
}

module _ {A : Type 0} {Is : A → Part × Part → Type 0} where
  -- nothing was added before the first turn
  pub gets_each_none : {parts : Parts} (list : List A) → Gets (OfEach Is (take 0 list)) parts parts
  gets_each_none list = gets_none (λ edge each. omega (arith, each.inside.1))

  -- what one element more gives was added
  pub gets_each_more : {old between new : Parts} (list : List A) (index : ℕ) (item : A) → index < length list
      → item ≡ get_or list index item → Gets (OfEach Is (take index list)) old between → Gets (Is item) between new
      → Gets (OfEach Is (take (index + 1) list)) old new
  gets_each_more list index item within is so_far step =
      gets_then so_far step (λ edge each. each_cases list index item within is edge each)

  -- what all elements give was added
  pub gets_each_all : {old new : Parts} (list : List A) (index : ℕ) → length list ≤ index
      → Gets (OfEach Is (take index list)) old new → Gets (OfEach Is list) old new
  gets_each_all {old} {new} list index over gets =
      subst (λ part. Gets (OfEach Is part) old new) (take_all index list over) gets
