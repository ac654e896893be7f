-- What matching adds to the bound variables. These words serve contracts of this crate alone. Variables are the trees
-- of their values.
--
--   `Begins`                           a list begins with another one
--   `is_number`, `is_string`           whether a value is this number, or this string
--   `parts_with`                       the parts of a value with this constructor
--   `Matches`                          whether a pattern matches, and the values of its variables were added if it does
--   `ChoosesFirst`                     the first branch whose pattern matches, if there is one
use Rattle.std.specs.Prelude.{◌≡◌, ℕ, ℤ, nat_eq, Bool, true, false, List, ◌++◌, drop, length, take, Option, Some, None, if◌then◌else◌}
use Rattle.std.specs.Ordering.{int_eq}
use Rattle.std.specs.Str.{bytes_eq}
use Rattle.abs_values.specs.Evaluation.{Outcome, branches_outcome, ends_with}
use Rattle.abs_values.specs.Results.{Fails}
use Rattle.abs_tree.specs.Syntax.{Name, ExprTree}
use Rattle.abs_tree.specs.SyntaxViews.{branches as branch_trees, expr_tree}
use Rattle.abs_values.specs.ValueTrees.{ValueTree, IntValue, StringValue, BuiltValue, ValueTrees}
use Rattle.abs_values.specs.declared.evaluated.Fault.TheVariants as fault
use Rattle.abs_tree.specs.declared.syntax.expression.Branch.{Branch}

-- a list begins with another one
abbrev pub Begins : List ValueTree → List ValueTree → Type 0
Begins before now = take (length before) now ≡ before

-- whether a value is this number, or this string
abbrev pub is_number : ℤ → ValueTree → Bool
is_number number (IntValue other) = int_eq number other
is_number number value = false

abbrev pub is_string : List ℕ → ValueTree → Bool
is_string string (StringValue other) = bytes_eq string other
is_string string value = false

-- the parts of a value with this constructor
abbrev pub parts_with : ℕ → ValueTree → Option ValueTrees
parts_with constructor (BuiltValue other parts) = if nat_eq constructor other then Some parts else None
parts_with constructor value = None

-- A pattern that takes these values matches, and they were added. If it takes none, some may have been added.
abbrev pub Matches : Option (List ValueTree) → Bool → List ValueTree → List ValueTree → Type 0
Matches (Some taken) answer before now = (answer ≡ true) × (now ≡ before ++ taken)
Matches None answer before now = (answer ≡ false) × Begins before now

-- The outcome of branches is that of the branch which is chosen, with the values that were added; and without such a
-- branch it is the fault Match.
abbrev pub ChoosesFirst : List Name → List Branch → ValueTree → Option Branch → List ValueTree → List ValueTree → Type 0
ChoosesFirst names branches value (Some branch) before now = Begins before now
    × ((give : List ValueTree → ExprTree → ℕ → Outcome) (made : ℕ)
    → branches_outcome names give (branch_trees names branches) value made
    ≡ give (drop (length before) now) (expr_tree names branch.value) made)
ChoosesFirst names branches value None before now = (give : List ValueTree → ExprTree → ℕ → Outcome) (made : ℕ)
    → branches_outcome names give (branch_trees names branches) value made ≡ ends_with (Fails fault.Match) made
