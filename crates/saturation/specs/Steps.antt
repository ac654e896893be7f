-- What a step of the work adds, and what it finds. It serves proofs only.
--
--   `GoesOn`                   the work goes on
--   `AreAmong`                 some facts are among others
--   `Adds`                     a step adds what is asked for, and nothing else
--   `Nothing`, `Just`, `Either`        nothing, a fact, and one of two things is asked for
--   `Each`, `ForThere`         something is asked for of each element of a list, and of all that is there
--   `Finds`                    a step finds what there is, and adds nothing
--   `HasKey`, `Holding`        a fact is there with a key, and a fact with a key holds an atom
use Rattle.std.specs.Prelude.{◌≡◌, ◌≤◌, ◌⊎◌, false, List, ◌++◌, length, Contains, Option, Some, None}
use Rattle.contract_terms.specs.declared.fact.Atom.{Atom}
use Rattle.contract_terms.specs.declared.fact.Fact.{Fact}
use Rattle.contract_terms.specs.declared.fact.Fact.TheVariants.{Live, Holds, Field, Gives}
use Rattle.saturation.specs.Keys.{IsOf}
use Rattle.saturation.specs.declared.derivation.Derivation.{Derivation}
use Rattle.saturation.specs.declared.key.Key.{Key}

-- The work goes on: no allocation failed, and there are not too many facts.
abbrev pub GoesOn : Derivation → Type 0
GoesOn derivation = (derivation.failed ≡ false) × (length derivation.facts ≤ derivation.limit)

-- Each of some facts is among others.
abbrev pub AreAmong : List Fact → List Fact → Type 0
AreAmong some others = (fact : Fact) → Contains some fact → Contains others fact

-- A step adds facts at the end. `asked` tells what is asked for where some facts are known. All facts are in each list
-- that has those before the step and what is asked for there. If the work goes on after it, it went on before it, and
-- there is all that is asked for from facts before the step.
pub record Adds (asked : List Fact → Fact → Type 0) (before now : Derivation) : Type 0 where
  pub more : List Fact
  pub grown : now.facts ≡ before.facts ++ more
  pub limit : now.limit ≡ before.limit
  pub went_on : GoesOn now → GoesOn before
  pub only : (list : List Fact) → AreAmong before.facts list → ((fact : Fact) → asked list fact → Contains list fact)
      → AreAmong now.facts list
  pub all : GoesOn now → (known : List Fact) → AreAmong known before.facts
      → (fact : Fact) → asked known fact → Contains now.facts fact

-- nothing is asked for
abbrev pub Nothing : List Fact → Fact → Type 0
Nothing known fact = ⊥

-- a fact is asked for, if there is one
abbrev pub Just : Option Fact → List Fact → Fact → Type 0
Just one known fact = one ≡ Some fact

-- what one of two asks for is asked for
abbrev pub Either : (List Fact → Fact → Type 0) → (List Fact → Fact → Type 0) → List Fact → Fact → Type 0
Either One Other known fact = One known fact ⊎ Other known fact

-- what is asked for of an element of a list is asked for
pub record Each {A : Type 0} (Asked : A → List Fact → Fact → Type 0) (list : List A) (known : List Fact) (fact : Fact)
    : Type 0 where
  pub one : A
  pub inside : Contains list one
  pub asked : Asked one known fact

-- what is asked for of something that is there is asked for
pub record ForThere {A : Type 0} (There : List Fact → A → Type 0) (Asked : A → List Fact → Fact → Type 0)
    (known : List Fact) (fact : Fact) : Type 0 where
  pub one : A
  pub there : There known one
  pub asked : Asked one known fact

-- A step finds just what there is, by the facts, and adds nothing. If the work does not go on, something may be missing.
pub record Finds {A : Type 0} (There : List Fact → A → Type 0) (found : List A) (before now : Derivation) : Type 0 where
  pub same : now.facts ≡ before.facts
  pub limit : now.limit ≡ before.limit
  pub went_on : GoesOn now → GoesOn before
  pub only : (one : A) → Contains found one → There before.facts one
  pub all : GoesOn now → (one : A) → There before.facts one → Contains found one

-- The fact is there and has the key.
abbrev pub HasKey : Key → List Fact → Fact → Type 0
HasKey key facts fact = Contains facts fact × IsOf key fact

-- the atom that a fact says to be held or given
abbrev pub atom_of : Fact → Option Atom
atom_of (Live kind) = None
atom_of (Holds kind slot atom) = Some atom
atom_of (Field sign field atom) = Some atom
atom_of (Gives kind atom) = Some atom

-- A fact with the key is there, and says that the atom is held or given.
pub record Holding (key : Key) (facts : List Fact) (atom : Atom) : Type 0 where
  pub fact : Fact
  pub there : HasKey key facts fact
  pub holds : atom_of fact ≡ Some atom
