-- What evaluation gives: values or a fault, without memory.
--
--   `Result`, `Results`                the result of an expression, and that of a list of expressions
--   `result_tree`, `results_tree`      the same of the code's results
--   `string_result`                    the result for a string that a run makes
--   `built_result`                     the result for a constructor with its parts
use Rattle.std.specs.Prelude.{ℕ, nat_le, List, length, Option, Some, None, if◌then◌else◌}
use Rattle.abs_tree.specs.Limits.{string_limit}
use Rattle.abs_values.specs.ValueTrees.{ValueTree, StringValue, ValueTrees, built_value}
use Rattle.abs_values.specs.ValueViews.{value_tree}
use Rattle.abs_values.specs.declared.evaluated.Evaluated.{Evaluated}
use Rattle.abs_values.specs.declared.evaluated.Evaluated.TheVariants as evaluated
use Rattle.abs_values.specs.declared.evaluated.Fault.{Fault}
use Rattle.abs_values.specs.declared.evaluated.Fault.TheVariants as fault
use Rattle.abs_values.specs.declared.evaluated.Output.{Output}
use Rattle.abs_values.specs.declared.evaluated.Output.TheVariants as output

-- the value of an expression, or the fault that ended its evaluation
pub data Result : Type 0 where
  Gives : (value : ValueTree) → Result
  Fails : (fault : Fault) → Result

-- the values of all expressions of a list, or the first fault
pub data Results : Type 0 where
  AllGive : (values : List ValueTree) → Results
  OneFails : (fault : Fault) → Results

-- the code's results without memory
abbrev pub result_tree : Evaluated → Result
result_tree (evaluated.Good value) = Gives (value_tree value)
result_tree (evaluated.Bad cause) = Fails cause

abbrev pub results_tree : Output → Results
results_tree (output.Values values) = AllGive values
results_tree (output.Bad cause) = OneFails cause

-- the result for a string that a run makes: one that is too long is the fault Large
abbrev pub string_result : List ℕ → Result
string_result bytes = if nat_le (length bytes) string_limit then Gives (StringValue bytes) else Fails fault.Large

-- the result for a constructor with its parts: one that is past a limit is the fault Large
abbrev pub built_result : ℕ → ValueTrees → Result
built_result constructor parts = large_unless (built_value constructor parts)
  where
    large_unless : Option ValueTree → Result
    large_unless (Some value) = Gives value
    large_unless None = Fails fault.Large
