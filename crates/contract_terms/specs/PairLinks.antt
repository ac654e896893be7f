-- Links: how one wait leads to another.
--
--   `MethodMade`               a method of a class of which objects are made at a place
--   `IsReachedByCalls`         a kind is reached from another one by calls on `this`
--   `Continues`, `IsHeld`      the two kinds of links
--   `IsLinked`                 a pair is linked to another one
use Rattle.std.specs.Prelude.{◌≡◌, ◌⊎◌, ℕ, Contains, Some}
use Rattle.abs_program.specs.Members.{method_of}
use Rattle.abs_program.specs.NameSpaces.{spaces_of}
use Rattle.abs_program.specs.Tables.{meaning_of}
use Rattle.abs_program.specs.declared.name_spaces.Taking.{Taking}
use Rattle.abs_tree.specs.Names.{name_of}
use Rattle.abs_tree.specs.Syntax.{Name, ProgramTree}
use Rattle.abs_tree.specs.declared.symbol.Symbol.{Symbol}
use Rattle.contract_terms.specs.Made.{classes_made}
use Rattle.contract_terms.specs.OwnCalls.{IsReached}
use Rattle.contract_terms.specs.declared.pair.Mode.TheVariants.{Get}
use Rattle.contract_terms.specs.declared.pair.Pair.{Pair}
use Rattle.name_bounding.specs.Names.{cog_of}
use Rattle.name_bounding.specs.declared.kind.Kind.{Kind}
use Rattle.name_bounding.specs.declared.kind.Kind.TheVariants.{Method}
use Rattle.name_bounding.specs.declared.kind.Sign.{Sign}

-- Objects of the class with an index are made at a place, and the member with an index is its method with this name.
pub record MethodMade (program : ProgramTree) (place : ℕ) (method : Name) (class member : ℕ) : Type 0 where
  pub name : Name
  pub made : Contains (classes_made program.source place) name
  pub taking : Taking
  pub named : meaning_of (spaces_of program.source.declarations).classes name ≡ Some taking
  pub class_is : taking.declaration ≡ class
  pub found : method_of program.source.declarations class method ≡ Some member

-- A kind is reached from itself. A method of objects with a sign is reached from another one of them if calls on `this`
-- lead there in the bodies of their class, whichever way they go.
pub data IsReachedByCalls (program : ProgramTree) : Kind → Kind → Type 0 where
  itself : (kind : Kind) → IsReachedByCalls program kind kind
  by_calls : (sign : Sign) (one other : Symbol) (class member reached : ℕ)
      → MethodMade program sign.place (name_of program.names one) class member
      → MethodMade program sign.place (name_of program.names other) class reached
      → ∥ IsReached program.source class member reached ∥₁
      → IsReachedByCalls program (Method sign one) (Method sign other)

-- A link continues: who waits in the second pair is for whom the first one waits, or is reached from there by calls on
-- `this`.
abbrev pub Continues : ProgramTree → Pair → Pair → Type 0
Continues program one other = IsReachedByCalls program one.target other.source

-- A link is held: who waits in the second pair holds the cog that the first one's target needs.
abbrev pub IsHeld : Pair → Pair → Type 0
IsHeld one other = (other.mode ≡ Get) × (cog_of other.source ≡ cog_of one.target)

-- a pair is linked to another one
abbrev pub IsLinked : ProgramTree → Pair → Pair → Type 0
IsLinked program one other = Continues program one other ⊎ IsHeld one other
