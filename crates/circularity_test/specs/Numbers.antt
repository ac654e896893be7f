-- Numbers that no part of a link lets fall. By them chains are ruled out before any search: one that leads back would
-- have to fall.
--
--   `Numbers`                  numbers of kinds and of cog names
--   `AreRising`                no part of a link between some pairs leads to a lower number
--   `AwaitsAs`, `RiseByCalls`  the same of what continues, step by step along calls on `this`
--   `entry_number`, `Climbs`   the number of where a pair waits, and whether that of its target is greater
--   `is_level`, `IsLevel`      the numbers of a pair are one number
--   `AreComponentsOf`, `HasComponents`         the components of pairs
use Rattle.std.specs.List.{AllZip}
use Rattle.std.specs.Prelude.{◌≡◌, ◌<◌, ◌≤◌, ℕ, Bool, List, Contains, nat_eq}
use Rattle.abs_tree.specs.Names.{name_of}
use Rattle.abs_tree.specs.Syntax.{ProgramTree}
use Rattle.abs_tree.specs.declared.symbol.Symbol.{Symbol}
use Rattle.contract_terms.specs.OwnCalls.{CallsOnThis}
use Rattle.contract_terms.specs.PairLinks.{Continues, MethodMade}
use Rattle.contract_terms.specs.declared.pair.Mode.{Mode}
use Rattle.contract_terms.specs.declared.pair.Mode.TheVariants.{Get, Await}
use Rattle.contract_terms.specs.declared.pair.Pair.{Pair}
use Rattle.name_bounding.specs.Names.{cog_of}
use Rattle.name_bounding.specs.declared.kind.Kind.{Kind}
use Rattle.name_bounding.specs.declared.kind.Kind.TheVariants.{Method}
use Rattle.name_bounding.specs.declared.kind.Sign.{Sign}

-- Numbers of kinds as targets, of kinds as what runs, and of cog names.
pub record Numbers : Type 0 where
  pub target : Kind → ℕ
  pub running : Kind → ℕ
  pub cog : List ℕ → ℕ

-- No part of a link between some pairs leads to a lower number. The parts lead from a target to the cog that it needs,
-- from a cog to the target of a `get` in it, from a target to what runs where this continues it, and from what runs to
-- the target of an `await` of it.
pub record AreRising (program : ProgramTree) (pairs : List Pair) (numbers : Numbers) : Type 0 where
  pub needs : (pair : Pair) → Contains pairs pair → numbers.target pair.target ≤ numbers.cog (cog_of pair.target)
  pub gets : (pair : Pair) → Contains pairs pair → pair.mode ≡ Get
      → numbers.cog (cog_of pair.source) ≤ numbers.target pair.target
  pub continues : (one next : Pair) → Contains pairs one → Contains pairs next → next.mode ≡ Await
      → Continues program one next → numbers.target one.target ≤ numbers.running next.source
  pub awaits : (pair : Pair) → Contains pairs pair → pair.mode ≡ Await
      → numbers.running pair.source ≤ numbers.target pair.target

-- An `await` among some pairs is in a method of objects with a sign.
pub record AwaitsAs (pairs : List Pair) (sign : Sign) : Type 0 where
  pub pair : Pair
  pub there : Contains pairs pair
  pub awaits : pair.mode ≡ Await
  pub method : Symbol
  pub source : pair.source ≡ Method sign method

-- What continues does not fall, step by step along calls on `this`. A method that runs for objects with a sign has a
-- number, by its class and its index among the members. The steps lead from a target to itself as what runs, from a
-- target to its methods, from a method to one that it calls on `this`, and from a method to its kind as what runs.
-- Nothing is asked of a sign without an `await`.
pub record RiseByCalls (program : ProgramTree) (pairs : List Pair) (numbers : Numbers)
    (method_number : Sign → ℕ → ℕ → ℕ) : Type 0 where
  pub itself : (one next : Pair) → Contains pairs one → Contains pairs next → next.mode ≡ Await
      → next.source ≡ one.target → numbers.target one.target ≤ numbers.running next.source
  pub begins : (sign : Sign) → AwaitsAs pairs sign → (pair : Pair) → Contains pairs pair
      → (method : Symbol) (class member : ℕ) → pair.target ≡ Method sign method
      → MethodMade program sign.place (name_of program.names method) class member
      → numbers.target pair.target ≤ method_number sign class member
  pub calls : (sign : Sign) → AwaitsAs pairs sign → (class one other : ℕ)
      → CallsOnThis program.source class one other
      → method_number sign class one ≤ method_number sign class other
  pub ends : (pair : Pair) → Contains pairs pair → pair.mode ≡ Await
      → (sign : Sign) (method : Symbol) (class member : ℕ) → pair.source ≡ Method sign method
      → MethodMade program sign.place (name_of program.names method) class member
      → method_number sign class member ≤ numbers.running pair.source

abbrev pub number_by : Numbers → Mode → Kind → ℕ
number_by numbers Get kind = numbers.cog (cog_of kind)
number_by numbers Await kind = numbers.running kind

-- the number of where a pair waits: that of the cog that its source holds, or that of its source, which lets the cog go
abbrev pub entry_number : Numbers → Pair → ℕ
entry_number numbers pair = number_by numbers pair.mode pair.source

-- the target of a pair has a greater number than where it waits
abbrev pub Climbs : Numbers → Pair → Type 0
Climbs numbers pair = entry_number numbers pair < numbers.target pair.target

-- whether the target of a pair has the number of where it waits
unfoldable pub is_level : Numbers → Pair → Bool
is_level numbers pair = nat_eq (entry_number numbers pair) (numbers.target pair.target)

-- The target of a pair, and where it waits, have this number.
pub record IsLevel (numbers : Numbers) (number : ℕ) (pair : Pair) : Type 0 where
  pub waits : entry_number numbers pair ≡ number
  pub target : numbers.target pair.target ≡ number

-- these are the components of pairs
abbrev pub AreComponentsOf : (Pair → ℕ) → List Pair → List ℕ → Type 0
AreComponentsOf component pairs numbers = AllZip (λ pair number. component pair ≡ number) pairs numbers

-- equal pairs have one component
abbrev pub HasComponents : List Pair → List ℕ → Type 0
HasComponents pairs numbers = (component : Pair → ℕ) × AreComponentsOf component pairs numbers
