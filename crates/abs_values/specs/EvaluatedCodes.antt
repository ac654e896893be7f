-- A code of results, for types that keep one and are shown by a `Model`. It serves proofs only.
--
--   `value_of`             the value of the code that has a tree
--   `evaluated_code`       the code of results
use Rattle.std.specs.Prelude.{◌≡◌, ◌⊎◌, refl, ℕ, zero, suc}
use Rattle.std.specs.Coded.{Coded, code_by, coded_ℕ, coded⊎}
use Rattle.std.proofs.Common.{ap, inl, inr}
use Rattle.abs_values.specs.ValueCodes.{value_code}
use Rattle.abs_values.specs.ValueTrees.{ValueTree, IntValue, StringValue, BuiltValue, ObjectValue, FutureValue, NullValue}
use Rattle.abs_values.specs.ValueViews.{value_tree}
use Rattle.abs_values.specs.declared.evaluated.Evaluated.{Evaluated}
use Rattle.abs_values.specs.declared.evaluated.Evaluated.TheVariants as evaluated
use Rattle.abs_values.specs.declared.evaluated.Fault.{Fault}
use Rattle.abs_values.specs.declared.evaluated.Fault.TheVariants as fault
use Rattle.abs_values.specs.declared.value.Value.{Value}
use Rattle.abs_values.specs.declared.value.Value.TheVariants as value

-- the value of the code that has a tree
abbrev pub value_of : ValueTree → Value
value_of (IntValue number) = value.Int number
value_of (StringValue string) = value.Text string
value_of (BuiltValue constructor parts) = value.Built (record { 0 = constructor }) parts
value_of (ObjectValue object) = value.Object object
value_of (FutureValue task) = value.Future task
value_of NullValue = value.Null

-- the value that has the tree of a value is that value
pub value_of-tree : (found : Value) → value_of (value_tree found) ≡ found
value_of-tree (value.Int number) = refl
value_of-tree (value.Text string) = refl
value_of-tree (value.Built constructor parts) = refl
value_of-tree (value.Object object) = refl
value_of-tree (value.Future task) = refl
value_of-tree value.Null = refl

-- faults by numbers
abbrev pub fault_number : Fault → ℕ
fault_number fault.Null = 0
fault_number fault.Match = 1
fault_number fault.Zero = 2
fault_number fault.Overflow = 3
fault_number fault.Calls = 4
fault_number fault.Levels = 5
fault_number fault.Large = 6
fault_number fault.Mistyped = 7

abbrev pub fault_of : ℕ → Fault
fault_of zero = fault.Null
fault_of (suc zero) = fault.Match
fault_of (suc (suc zero)) = fault.Zero
fault_of (suc (suc (suc zero))) = fault.Overflow
fault_of (suc (suc (suc (suc zero)))) = fault.Calls
fault_of (suc (suc (suc (suc (suc zero))))) = fault.Levels
fault_of (suc (suc (suc (suc (suc (suc zero)))))) = fault.Large
fault_of (suc (suc (suc (suc (suc (suc (suc number))))))) = fault.Mistyped

-- the fault that has the number of a fault is that fault
pub fault_of-number : (cause : Fault) → fault_of (fault_number cause) ≡ cause
fault_of-number fault.Null = refl
fault_of-number fault.Match = refl
fault_of-number fault.Zero = refl
fault_of-number fault.Overflow = refl
fault_of-number fault.Calls = refl
fault_of-number fault.Levels = refl
fault_of-number fault.Large = refl
fault_of-number fault.Mistyped = refl

-- a result as the tree of its value or the number of its fault, and back
abbrev pub split : Evaluated → ValueTree ⊎ ℕ
split (evaluated.Good found) = inl (value_tree found)
split (evaluated.Bad cause) = inr (fault_number cause)

abbrev pub joined : ValueTree ⊎ ℕ → Evaluated
joined (inl tree) = evaluated.Good (value_of tree)
joined (inr number) = evaluated.Bad (fault_of number)

pub joined-split : (found : Evaluated) → joined (split found) ≡ found
joined-split (evaluated.Good found) = ap evaluated.Good (value_of-tree found)
joined-split (evaluated.Bad cause) = ap evaluated.Bad (fault_of-number cause)

-- the code of results
abbrev pub evaluated_code : Coded Evaluated
evaluated_code = code_by (ValueTree ⊎ ℕ) (coded⊎ value_code coded_ℕ) split joined joined-split
