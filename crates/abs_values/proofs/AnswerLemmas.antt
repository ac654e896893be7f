-- Which values are answers.
use Rattle.std.proofs.Common.{◌≡◌, ◌==◌, ℕ, false, List, [], ◌∷◌, length, None, refl}
use Rattle.abs_values.specs.Operations.{truth_of}
use Rattle.abs_tree.specs.Syntax.{Name}
use Rattle.abs_values.specs.ValueTrees.{BuiltValue, ValueTrees}
use Rattle.abs_values.specs.ValueViews.{value_trees}
use Rattle.abs_values.specs.declared.value.Value.{Value}

-- a constructor with parts is no answer
pub parts_not : (names : List Name) (constructor : ℕ) (values : List Value) (parts : ValueTrees)
    → (length values == 0) ≡ false → value_trees values ≡ parts → truth_of names (BuiltValue constructor parts) ≡ None
parts_not names constructor [] parts some is = absurd (cc)
parts_not names constructor (value ∷ values) parts some is = rw (← is) refl
