-- Signed numbers of 128 bits, and the operators on them.
--
--   `is_128_bit`               whether a number fits in 128 bits
--   `number_result`            the result for a number: itself, or the fault Overflow
--   `quotient_result`, `remainder_result`      those of `/` and of `%`
--   `arithmetic_result`        the result of an operator of arithmetic for two numbers
--   `number_comparison`        the answer of a comparison of two numbers
use Rattle.std.specs.Prelude.{◌^◌, nat_lt, Bool, ℤ, pos, negsuc, ◌+ℤ◌, ◌-ℤ◌, ◌*ℤ◌, int_lt, int_le, int_div, int_rem, Option, Some, None, if◌then◌else◌}
use Rattle.std.specs.Ordering.{int_eq}
use Rattle.abs_values.specs.Results.{Result, Gives, Fails}
use Rattle.abs_values.specs.ValueTrees.{IntValue}
use Rattle.abs_values.specs.declared.evaluated.Fault.TheVariants as fault
use Rattle.abs_tree.specs.declared.syntax.expression.Operator.{Operator}
use Rattle.abs_tree.specs.declared.syntax.expression.Operator.TheVariants as operator

-- whether a number fits in 128 bits: it is at least -2 ^ 127, and below 2 ^ 127
abbrev pub is_128_bit : ℤ → Bool
is_128_bit (pos n) = nat_lt n (2 ^ 127)
is_128_bit (negsuc n) = nat_lt n (2 ^ 127)

-- the result for a number: itself if it fits in 128 bits, and otherwise the fault Overflow
abbrev pub number_result : ℤ → Result
number_result number = if is_128_bit number then Gives (IntValue number) else Fails fault.Overflow

-- the quotient toward zero, and its remainder; a divisor 0 is the fault Zero
abbrev pub quotient_result : ℤ → ℤ → Result
quotient_result left right = if int_eq right (pos 0) then Fails fault.Zero else number_result (int_div left right)

abbrev pub remainder_result : ℤ → ℤ → Result
remainder_result left right = if int_eq right (pos 0) then Fails fault.Zero else number_result (int_rem left right)

-- the result of an operator of arithmetic for two numbers; of another operator there is none
abbrev pub arithmetic_result : Operator → ℤ → ℤ → Option Result
arithmetic_result operator.Plus left right = Some (number_result (left +ℤ right))
arithmetic_result operator.Minus left right = Some (number_result (left -ℤ right))
arithmetic_result operator.Times left right = Some (number_result (left *ℤ right))
arithmetic_result operator.Divide left right = Some (quotient_result left right)
arithmetic_result operator.Remainder left right = Some (remainder_result left right)
arithmetic_result _ left right = None

-- the answer of a comparison of two numbers; of another operator there is none
abbrev pub number_comparison : Operator → ℤ → ℤ → Option Bool
number_comparison operator.Less left right = Some (int_lt left right)
number_comparison operator.LessEqual left right = Some (int_le left right)
number_comparison operator.Greater left right = Some (int_lt right left)
number_comparison operator.GreaterEqual left right = Some (int_le right left)
number_comparison _ left right = None
