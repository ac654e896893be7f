-- The numbers of components let no part of a link fall.
--
--   `number_in`, `number_there`                the number of a part, by the index that it has
--   `numbers_of`, `numbers_rise`               numbers of kinds and cog names
use mathlib.Core.Logic.{∥∥₁_elim}
use denote.Struct.Props as logic
use Rattle.std.proofs.Common.{◌≡◌, ◌∙◌, ℕ, ◌≤◌, List, position, slice_get, Option, Some, None, Contains, refl, sym, ap, subst, arith}
use Rattle.std.specs.List.{IsDistinct}
use Rattle.abs_graph.specs.Components.{number_of}
use Rattle.abs_tree.specs.Syntax.{ProgramTree}
use Rattle.circularity_test.proofs.NodeLemmas.{number_found}
use Rattle.circularity_test.proofs.RisingLemmas.{continued_rises}
use Rattle.circularity_test.proofs.StepLemmas.{part_eq, part_eq_decides}
use Rattle.circularity_test.specs.Numbers.{AreRising, AwaitsAs, Numbers, RiseByCalls}
use Rattle.circularity_test.specs.Parts.{EdgeAt, HasEdge, entry_part, own_edge, part_by}
use Rattle.circularity_test.specs.Steps.{AreParts, IsAwaited}
use Rattle.circularity_test.specs.Steps.TargetStep.{needs, itself, begins}
use Rattle.circularity_test.specs.declared.parts.Part.{Part}
use Rattle.circularity_test.specs.declared.parts.Part.TheVariants as part
use Rattle.circularity_test.specs.declared.parts.Parts.{Parts}
use Rattle.contract_terms.specs.declared.pair.Mode.{Mode}
use Rattle.contract_terms.specs.declared.pair.Mode.TheVariants.{Get, Await}
use Rattle.contract_terms.specs.declared.pair.Pair.{Pair}
use Rattle.name_bounding.specs.Names.{cog_of}
use Rattle.name_bounding.specs.declared.kind.Kind.{Kind}
use Rattle.name_bounding.specs.declared.kind.Kind.TheVariants.{Main, Method}
use Rattle.name_bounding.specs.declared.kind.Sign.{Sign}
use Rattle.saturation.proofs.ImageLemmas.{contains_at}

abbrev number_if : List ℕ → Option ℕ → ℕ
number_if numbers None = 0
number_if numbers (Some index) = number_of numbers index

-- the number of a part: that of its index, and 0 where it has none
abbrev pub number_in : List Part → List ℕ → Part → ℕ
number_in keys numbers one = number_if numbers (position (part_eq one) keys)

-- numbers of kinds and cog names
abbrev pub numbers_of : List Part → List ℕ → Numbers
numbers_of keys numbers = record {
  target = λ kind. number_in keys numbers (part.Target kind);
  running = λ kind. number_in keys numbers (part.Running kind);
  cog = λ name. number_in keys numbers (part.Cog name);
}

-- the number of a part by its index
pub number_there : (keys : List Part) (numbers : List ℕ) → IsDistinct part_eq keys → (index : ℕ) (one : Part)
    → slice_get keys index ≡ Some one → number_in keys numbers one ≡ number_of numbers index
number_there keys numbers distinct index one there =
    ap (number_if numbers)
    ((number_found part_eq part_eq_decides keys distinct one (position (part_eq one) keys) refl index).1 there)

module _ (program : ProgramTree) (pairs : List Pair) (parts : Parts) (are : AreParts program pairs parts)
    (numbers : List ℕ)
    (rises : (edge : Part × Part) → HasEdge parts edge
    → number_in parts.parts.keys numbers edge.0 ≤ number_in parts.parts.keys numbers edge.1)
  where
    abbrev number : Part → ℕ
    number = number_in parts.parts.keys numbers

    -- what leads on from a part that is there has no lower number
    step_rises : (edge : Part × Part) → ∥ HasEdge parts edge ∥₁ → number edge.0 ≤ number edge.1
    step_rises edge has = ∥∥₁_elim has (Prim.hlevel logic.props) (rises edge)

    -- the edge of a pair is there
    own_there : (pair : Pair) → Contains pairs pair → (index : ℕ) × EdgeAt parts index (own_edge pair)
    own_there pair there =
        (there.0, are.own there.0 pair (contains_at pairs pair there))

    own_rises : (pair : Pair) → Contains pairs pair → number (entry_part pair) ≤ number (part.Target pair.target)
    own_rises pair there = rises (own_edge pair) (own_there pair there)

    own_rises_by : (mode : Mode) (pair : Pair) → pair.mode ≡ mode → Contains pairs pair
        → number (part_by mode pair.source) ≤ number (part.Target pair.target)
    own_rises_by mode pair is there =
        subst (λ it. number (part_by it pair.source) ≤ number (part.Target pair.target)) is (own_rises pair there)

    -- an `await` may be reached from its own source
    awaited : (kind : Kind) (next : Pair) → Contains pairs next → next.mode ≡ Await → next.source ≡ kind
        → IsAwaited (AwaitsAs pairs) kind
    awaited Main next there awaits is = tt
    awaited (Method sign method) next there awaits is =
        record { pair = next; there = there; awaits = awaits; method = method; source = is }

    -- a method that is a part leads to those that it calls, and any other one has the number 0
    call_rises : (sign : Sign) (class one other : ℕ) (found : Option ℕ)
        → position (part_eq (part.Method sign class one)) parts.parts.keys ≡ found
        → (((index : ℕ) → slice_get parts.parts.keys index ≡ Some (part.Method sign class one)
        → number (part.Method sign class one) ≤ number (part.Method sign class other)))
        → IsDistinct part_eq parts.parts.keys
        → number (part.Method sign class one) ≤ number (part.Method sign class other)
    call_rises sign class one other None found rises_there distinct =
        let low : number (part.Method sign class one) ≡ 0 = ap (number_if numbers) found in omega (arith, low)
    call_rises sign class one other (Some index) found rises_there distinct =
        rises_there index
        ((number_found part_eq part_eq_decides parts.parts.keys distinct (part.Method sign class one)
        (position (part_eq (part.Method sign class one)) parts.parts.keys) refl index).0 found)

    -- step by step along calls on `this` numbers do not fall
    rise_by_calls : IsDistinct part_eq parts.parts.keys
        → RiseByCalls program pairs (numbers_of parts.parts.keys numbers)
        (λ sign class member. number (part.Method sign class member))
    rise_by_calls distinct = record {
      itself = λ one next here there awaits same.
          subst (λ kind. number (part.Target one.target) ≤ number (part.Running kind)) (sym same)
          (let at = (own_there one here).1 in
          step_rises (part.Target one.target, part.Running one.target)
          (are.followed at.to (part.Target one.target) at.ends (part.Target one.target, part.Running one.target)
          (itself (awaited one.target next there awaits same))));
      begins = λ sign awaits pair there method class member is made.
          let at = (own_there pair there).1 in
          let target : slice_get parts.parts.keys at.to ≡ Some (part.Target (Method sign method)) =
          at.ends ∙ ap (λ kind. Some (part.Target kind)) is in
          subst (λ kind. number (part.Target kind) ≤ number (part.Method sign class member)) (sym is)
          (step_rises (part.Target (Method sign method), part.Method sign class member)
          (are.followed at.to (part.Target (Method sign method)) target
          (part.Target (Method sign method), part.Method sign class member)
          (begins (part.Target (Method sign method), part.Method sign class member) awaits
          (record { class = class; member = member; made = made; is = refl }))));
      calls = λ sign awaits class one other call.
          call_rises sign class one other (position (part_eq (part.Method sign class one)) parts.parts.keys) refl
          (λ index there. step_rises (part.Method sign class one, part.Method sign class other)
          (are.followed index (part.Method sign class one) there
          (part.Method sign class one, part.Method sign class other)
          (record { other = other; calls = call; is = refl }))) distinct;
      ends = λ pair there awaits sign method class member is made.
          let at = (own_there pair there).1 in
          let source : slice_get parts.parts.keys at.from ≡ Some (part.Running (Method sign method)) =
          at.begins ∙ (ap (λ mode. Some (part_by mode pair.source)) awaits
          ∙ ap (λ kind. Some (part.Running kind)) is) in
          subst (λ kind. number (part.Method sign class member) ≤ number (part.Running kind)) (sym is)
          (step_rises (part.Method sign class member, part.Running (Method sign method))
          (are.followed at.from (part.Running (Method sign method)) source
          (part.Method sign class member, part.Running (Method sign method))
          (record { class = class; member = member; made = made; is = refl })));
    }

    -- no part of a link leads to a lower number
    pub numbers_rise : IsDistinct part_eq parts.parts.keys
        → AreRising program pairs (numbers_of parts.parts.keys numbers)
    numbers_rise distinct = record {
      needs = λ pair there.
          let at = (own_there pair there).1 in
          step_rises (part.Target pair.target, part.Cog (cog_of pair.target))
          (are.followed at.to (part.Target pair.target) at.ends (part.Target pair.target, part.Cog (cog_of pair.target))
          needs);
      gets = λ pair there gets. own_rises_by Get pair gets there;
      continues = λ one next here there awaits continues.
          continued_rises program pairs (numbers_of parts.parts.keys numbers)
          (λ sign class member. number (part.Method sign class member)) (rise_by_calls distinct) one next here there
          awaits continues;
      awaits = λ pair there awaits. own_rises_by Await pair awaits there;
    }
