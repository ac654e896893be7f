-- What rules ask for, lists of facts that are closed under them, and what is derived. The rules are over any facts: a
-- rule asks for a fact if some other facts hold.
--
--   `AllHold`              some facts hold
--   `AreDistinct`          no fact is there twice
--   `IsClosed`             what is asked from facts that hold, holds
--   `IsDerived`            a fact is in each closed list
--   `MoreThan`             more than so many facts are derived
--   `IsHandled`            what rests on some facts is among others
use Rattle.std.specs.Prelude.{◌≡◌, ◌<◌, ⊤, ℕ, List, [], ◌∷◌, length, Contains, All}
use Rattle.std.specs.List.{AllPairs}

-- each of these facts holds
abbrev pub AllHold : {Fact : Type 0} → (Fact → Type 0) → List Fact → Type 0
AllHold Holds [] = ⊤
AllHold Holds (fact ∷ others) = Holds fact × AllHold Holds others

-- no fact is there twice
abbrev pub AreDistinct : {Fact : Type 0} → List Fact → Type 0
AreDistinct facts = AllPairs (λ one other. one ≡ other → ⊥) facts

module _ {Fact : Type 0} (Asks : List Fact → Fact → Type 0) where
  -- What is asked from facts that hold, holds.
  abbrev pub IsClosed : (Fact → Type 0) → Type 0
  IsClosed Holds = (premises : List Fact) (fact : Fact) → Asks premises fact → AllHold Holds premises → Holds fact

  -- The fact is in each closed list.
  abbrev pub IsDerived : Fact → Type 0
  IsDerived fact = (facts : List Fact) → IsClosed (Contains facts) → Contains facts fact

  -- More than this many different facts are derived.
  pub record MoreThan (count : ℕ) : Type 0 where
    pub facts : List Fact
    pub distinct : AreDistinct facts
    pub derived : All IsDerived facts
    pub more : count < length facts

  -- What is asked from the facts of the first list is in the second.
  abbrev pub IsHandled : List Fact → List Fact → Type 0
  IsHandled done facts =
      (premises : List Fact) (fact : Fact) → Asks premises fact → AllHold (Contains done) premises → Contains facts fact
