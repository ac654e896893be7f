-- What is added to a list, whatever its order. It serves proofs only.
--
--   `Adds`                     just those with a property were added
--   `OfEach`                   a property by an element of a list
use Rattle.std.specs.Prelude.{◌⊎◌, List, Contains}

-- The list has what it had before and all that has the property, and nothing else.
pub record Adds {A : Type 0} (Is : A → Type 0) (before now : List A) : Type 0 where
  pub kept : (one : A) → Contains before one → Contains now one
  pub only : (one : A) → Contains now one → Contains before one ⊎ Is one
  pub all : (one : A) → Is one → Contains now one

-- Something has the property by an element of a list.
pub record OfEach {A B : Type 0} (Is : A → B → Type 0) (list : List A) (one : B) : Type 0 where
  pub from : A
  pub inside : Contains list from
  pub is : Is from one
