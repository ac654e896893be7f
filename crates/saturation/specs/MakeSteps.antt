-- What a step adds that makes objects. It serves proofs only.
--
--   `Begun`            what the initial values of objects give, from facts that are known, is there
--   `Makes`            a step adds what is asked for, and goes through the initial values of objects that are new
use Rattle.std.specs.Prelude.{◌≡◌, ◌⊎◌, ℕ, List, ◌++◌, Contains}
use Rattle.abs_tree.specs.Syntax.{ProgramTree}
use Rattle.contract_terms.specs.declared.fact.Fact.{Fact}
use Rattle.contract_terms.specs.declared.terms.Terms.{Terms}
use Rattle.name_bounding.specs.declared.kind.Sign.{Sign}
use Rattle.saturation.specs.Rows.{Begins}
use Rattle.saturation.specs.Steps.{GoesOn, AreAmong}
use Rattle.saturation.specs.declared.derivation.Derivation.{Derivation}

module _ (program : ProgramTree) (terms : Terms) (depth : ℕ) where
  -- What the initial values of these objects give, from facts that are known, is there. An object is its sign with the
  -- index of its class.
  abbrev pub Begun : List (Sign × ℕ) → List Fact → List Fact → Type 0
  Begun made known facts = (sign : Sign) (class : ℕ) → Contains made (sign, class) → (fact : Fact)
      → Begins program terms depth class sign known fact → Contains facts fact

  -- A step adds facts at the end, as in `Adds`. `objects` tells which objects are made, and no others are. What their
  -- initial values give from facts that are known before is there after the step, if it was for those that were made
  -- before. What is asked for is there in any case.
  pub record Makes (asked : List Fact → Fact → Type 0) (objects : Sign → ℕ → Type 0) (made later : List (Sign × ℕ))
      (before now : Derivation) : Type 0 where
    pub more : List Fact
    pub grown : now.facts ≡ before.facts ++ more
    pub limit : now.limit ≡ before.limit
    pub went_on : GoesOn now → GoesOn before
    pub stays : (sign : Sign) (class : ℕ) → Contains made (sign, class) → Contains later (sign, class)
    pub only_made : (sign : Sign) (class : ℕ) → Contains later (sign, class)
        → Contains made (sign, class) ⊎ objects sign class
    pub only : (list : List Fact) → AreAmong before.facts list → ((fact : Fact) → asked list fact → Contains list fact)
        → ((sign : Sign) (class : ℕ) → objects sign class → (fact : Fact)
        → Begins program terms depth class sign list fact → Contains list fact)
        → Begun made list list → AreAmong now.facts list × Begun later list list
    pub all : GoesOn now → (known : List Fact) → AreAmong known before.facts
        → (Begun made known before.facts → Begun later known now.facts)
        × ((fact : Fact) → asked known fact → Contains now.facts fact)
    pub makes : GoesOn now → (sign : Sign) (class : ℕ) → objects sign class → Contains later (sign, class)
