-- Scopes in which everything that an expression may read has its type.
--
--   `HoldsTyped`               a list of values has one of a type at an index
--   `ScopeHas`                 a scope has what a frame says of it
use Rattle.std.specs.Prelude.{◌≡◌, ℕ, List, length, slice_get, Some}
use Rattle.abs_tree.specs.Syntax.{Name, ProgramTree}
use Rattle.abs_types.specs.Applications.{replaced}
use Rattle.abs_types.specs.PlainTypes.{PlainType, PlainClass}
use Rattle.abs_types.specs.Typing.{Frame, known_at}
use Rattle.abs_values.specs.Scopes.{Scope}
use Rattle.abs_values.specs.ValueTrees.{ValueTree, ObjectValue}
use Rattle.type_sound.specs.Values.{World, ValueHas}

-- The list has a value at the index, which has the type.
pub record HoldsTyped (program : ProgramTree) (world : World) (values : List ValueTree) (index : ℕ) (type : PlainType)
    : Type 0 where
  pub value : ValueTree
  pub there : slice_get values index ≡ Some value
  pub has : ValueHas program world value type

-- A slot that is visible in the frame, a field and a bound variable hold a value of their type, in which type parameters
-- are replaced by these types; and the own object has the class of `this`.
pub record ScopeHas (program : ProgramTree) (world : World) (types : List PlainType) (frame : Frame)
    (bound : List PlainType) (scope : Scope) : Type 0 where
  pub slots : (slot : ℕ) (type : PlainType) → known_at frame.slots slot ≡ Some type
      → HoldsTyped program world scope.slots slot (replaced types type)
  pub fields : (field : ℕ) (type : PlainType) → slice_get frame.fields field ≡ Some type
      → HoldsTyped program world scope.fields field (replaced types type)
  pub bound_count : length scope.bound ≡ length bound
  pub bound_have : (depth : ℕ) (type : PlainType) → slice_get bound depth ≡ Some type
      → HoldsTyped program world scope.bound depth (replaced types type)
  pub this_has : (class : Name) → frame.this ≡ Some class
      → (object : ℕ) × (scope.this ≡ Some object) × ValueHas program world (ObjectValue object) (PlainClass class)
