-- Dependency pairs: a task or a frame of one kind may wait for a task of another, at a `get` or an `await`.
--
--   `mode_of`                              how a statement with an effect waits
--   `IsPair`                               a pair comes of a statement, by some facts
--   `mode_order`, `kind_order`             the orders of modes and of kinds
--   `pair_order`, `ArePairs`               the order of pairs, and all pairs in this order
use Rattle.std.specs.Cmp.Lexicographic.{slice_cmp}
use Rattle.std.specs.List.Sorted.{IsStrictlySortedBy}
use Rattle.std.specs.Ordering.{nat_cmp, ordering_then}
use Rattle.std.specs.Prelude.{◌≡◌, ◌↔◌, ℕ, false, List, Contains, slice_get, Option, Some, None}
use Rattle.std.specs.declared.cmp.Ordering.{Ordering}
use Rattle.std.specs.declared.cmp.Ordering.TheVariants.{Less, Equal, Greater}
use Rattle.abs_program.specs.Flows.{Slots}
use Rattle.abs_program.specs.Instructions.{EffectTree, Awaits, Gets, effect_of}
use Rattle.abs_tree.specs.Syntax.{ProgramTree}
use Rattle.abs_tree.specs.SyntaxPlaces.{statement_place}
use Rattle.contract_terms.specs.KindBodies.{KindStatement}
use Rattle.contract_terms.specs.Settled.{settled_facts, named_slots}
use Rattle.contract_terms.specs.declared.fact.Atom.TheVariants.{Future}
use Rattle.contract_terms.specs.declared.fact.Fact.{Fact}
use Rattle.contract_terms.specs.declared.fact.Fact.TheVariants.{Live, Holds}
use Rattle.contract_terms.specs.declared.pair.Mode.{Mode}
use Rattle.contract_terms.specs.declared.pair.Mode.TheVariants.{Get, Await}
use Rattle.contract_terms.specs.declared.pair.Pair.{Pair}
use Rattle.name_bounding.specs.declared.kind.Kind.{Kind}
use Rattle.name_bounding.specs.declared.kind.Kind.TheVariants.{Main, Method}

-- how a statement with this effect waits for futures, if it does
abbrev pub mode_of : EffectTree → Option Mode
mode_of (Gets named target) = Some Get
mode_of (Awaits names) = Some Await
mode_of _ = None

-- A pair of a program, by facts that hold. Its source is live, and a statement of the source waits, at its place and in
-- its mode. The statement names a slot that is not settled there, and this slot may hold the future of the call.
pub record IsPair (program : ProgramTree) (Known : Fact → Type 0) (pair : Pair) : Type 0 where
  pub live : Known (Live pair.source)
  pub index : ℕ
  pub here : KindStatement program pair.source index
  pub place_is : pair.place ≡ (statement_place here.point.statement).offset
  pub mode_is : mode_of (effect_of here.point.statement) ≡ Some pair.mode
  pub slot : ℕ
  pub named : Contains (named_slots (effect_of here.point.statement)) slot
  pub settled : Slots
  pub settled_there : slice_get (settled_facts program.source) index ≡ Some settled
  pub unsettled : settled slot ≡ false
  pub held : Known (Holds pair.source slot (Future pair.call pair.target))

-- a `get` comes before an `await`
abbrev pub mode_order : Mode → Mode → Ordering
mode_order Get Get = Equal
mode_order Get Await = Less
mode_order Await Get = Greater
mode_order Await Await = Equal

-- Main comes first. Methods are ordered by the place of their object, then by the name of its cog, as a list, and then
-- by
-- the number of their symbol.
abbrev pub kind_order : Kind → Kind → Ordering
kind_order Main Main = Equal
kind_order Main (Method sign method) = Less
kind_order (Method sign method) Main = Greater
kind_order (Method sign method) (Method other its) =
    ordering_then (nat_cmp sign.place other.place)
    (ordering_then (slice_cmp nat_cmp sign.cog other.cog) (nat_cmp method.0 its.0))

-- Pairs are ordered by place, call, mode, source and target.
abbrev pub pair_order : Pair → Pair → Ordering
pair_order one other =
    ordering_then (nat_cmp one.place other.place)
    (ordering_then (nat_cmp one.call other.call)
    (ordering_then (mode_order one.mode other.mode)
    (ordering_then (kind_order one.source other.source) (kind_order one.target other.target))))

-- These are the pairs of a program by some facts, in ascending order, so each once.
pub record ArePairs (program : ProgramTree) (facts : List Fact) (pairs : List Pair) : Type 0 where
  pub each : (pair : Pair) → Contains pairs pair ↔ ∥ IsPair program (Contains facts) pair ∥₁
  pub rises : IsStrictlySortedBy pair_order pairs
