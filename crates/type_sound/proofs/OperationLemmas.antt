-- Operators on values of the types that they ask for.
--
--   `operation_has`            an operator on two values gives a value of its type, or a fault other than Mistyped
--   `prefix_has`               so does an operator before a value
use Rattle.std.proofs.Common.{◌≡◌, ◌≢◌, ℕ, ℤ, Bool, true, false, not, List, ◌++◌, Some, refl, sym, subst, length, int_eq, true≢false}
use Rattle.std.specs.Prelude.{pos, neg_ℤ, ◌+ℤ◌, ◌-ℤ◌, ◌*ℤ◌, int_div, int_rem, int_lt, int_le, nat_le, if◌then◌else◌}
use Rattle.std.proofs.lemmas.Bool.{cond_both}
use Rattle.abs_profile.specs.Accepted.{IsAcceptedProgram}
use Rattle.abs_tree.specs.Limits.{string_limit}
use Rattle.abs_tree.specs.Syntax.{ProgramTree}
use Rattle.abs_tree.specs.declared.syntax.expression.Operator.{Operator}
use Rattle.abs_tree.specs.declared.syntax.expression.Operator.TheVariants as operator
use Rattle.abs_tree.specs.declared.syntax.expression.Prefix.{Prefix}
use Rattle.abs_tree.specs.declared.syntax.expression.Prefix.TheVariants as prefix
use Rattle.abs_types.proofs.ReplacementLemmas.{fits-replaced}
use Rattle.abs_types.proofs.SubtypingLemmas.{fits_whole}
use Rattle.abs_types.specs.Applications.{replaced}
use Rattle.abs_types.specs.OperatorRules.{is_arithmetic, is_comparison, is_equality, is_logical, OperatorGives, PrefixGives}
use Rattle.abs_types.specs.OperatorRules.OperatorGives.{numbers, strings, bottom_number, bottom_string, number_bottom, string_bottom, bottoms, arithmetic, comparison, equality, logical}
use Rattle.abs_types.specs.OperatorRules.PrefixGives.{negated, tilde, minus}
use Rattle.abs_types.specs.OperatorTypes.{bool_type}
use Rattle.abs_types.specs.PlainTypes.{PlainType, PlainInt, PlainString}
use Rattle.abs_types.specs.Subtyping.{Fits, fits}
use Rattle.abs_values.specs.Numbers.{is_128_bit, number_result}
use Rattle.abs_values.specs.Operations.{answer_result, operation_result, opposite, prefix_result, truth_of}
use Rattle.abs_values.specs.Results.{Gives, Fails, string_result}
use Rattle.abs_values.specs.ValueTrees.{ValueTree, IntValue, StringValue, same_value}
use Rattle.abs_values.specs.declared.evaluated.Fault.TheVariants as fault
use Rattle.type_sound.proofs.PreludeLemmas.{truth_has, truth_found}
use Rattle.type_sound.proofs.ValueLemmas.{value_up, number_found, string_found, none_has_bottom}
use Rattle.type_sound.specs.Values.{World, ValueHas, ResultHas}

-- the faults of operators are not Mistyped
overflow_apart : fault.Overflow ≢ fault.Mistyped
overflow_apart same = cc

large_apart : fault.Large ≢ fault.Mistyped
large_apart same = cc

zero_apart : fault.Zero ≢ fault.Mistyped
zero_apart same = cc

-- the result for a number is of type Int
number_result_has : (program : ProgramTree) (world : World) (number : ℤ)
    → ResultHas program world (number_result number) PlainInt
unfolding ValueHas fits
number_result_has program world number =
    cond_both (is_128_bit number) (Gives (IntValue number)) (Fails fault.Overflow)
    (λ result. ResultHas program world result PlainInt) (λ _. refl) (λ _. overflow_apart)

-- that for a string is of type String
string_result_has : (program : ProgramTree) (world : World) (string : List ℕ)
    → ResultHas program world (string_result string) PlainString
unfolding ValueHas fits
string_result_has program world string =
    cond_both (nat_le (length string) string_limit) (Gives (StringValue string)) (Fails fault.Large)
    (λ result. ResultHas program world result PlainString) (λ _. refl) (λ _. large_apart)

-- that for a quotient or a remainder is of type Int, also if the divisor is 0
divided_has : (program : ProgramTree) (world : World) (divisor number : ℤ)
    → ResultHas program world (if int_eq divisor (pos 0) then Fails fault.Zero else number_result number) PlainInt
divided_has program world divisor number =
    cond_both (int_eq divisor (pos 0)) (Fails fault.Zero) (number_result number)
    (λ result. ResultHas program world result PlainInt) (λ _. zero_apart) (λ _. number_result_has program world number)

-- an operator of arithmetic on two numbers gives a number
arithmetic_has : (program : ProgramTree) (world : World) (op : Operator) (left right : ℤ) → is_arithmetic op ≡ true
    → ResultHas program world (operation_result program.names op (IntValue left) (IntValue right)) PlainInt
arithmetic_has program world operator.Minus left right is = number_result_has program world (left -ℤ right)
arithmetic_has program world operator.Times left right is = number_result_has program world (left *ℤ right)
arithmetic_has program world operator.Divide left right is = divided_has program world right (int_div left right)
arithmetic_has program world operator.Remainder left right is = divided_has program world right (int_rem left right)
arithmetic_has program world op left right is = absurd (true≢false (sym is))

-- a comparison of two numbers gives an answer
comparison_has : (program : ProgramTree) (world : World) → IsAcceptedProgram program → (op : Operator)
    (left right : ℤ) → is_comparison op ≡ true
    → ResultHas program world (operation_result program.names op (IntValue left) (IntValue right)) bool_type
comparison_has program world accepted operator.Less left right is =
    truth_has program world accepted (int_lt left right)
comparison_has program world accepted operator.LessEqual left right is =
    truth_has program world accepted (int_le left right)
comparison_has program world accepted operator.Greater left right is =
    truth_has program world accepted (int_lt right left)
comparison_has program world accepted operator.GreaterEqual left right is =
    truth_has program world accepted (int_le right left)
comparison_has program world accepted op left right is = absurd (true≢false (sym is))

-- so does an equality of two values
equality_has : (program : ProgramTree) (world : World) → IsAcceptedProgram program → (op : Operator)
    (first second : ValueTree) → is_equality op ≡ true
    → ResultHas program world (operation_result program.names op first second) bool_type
equality_has program world accepted operator.Equal first second is =
    truth_has program world accepted (same_value first second)
equality_has program world accepted operator.NotEqual first second is =
    truth_has program world accepted (not (same_value first second))
equality_has program world accepted op first second is = absurd (true≢false (sym is))

-- a value of a type that fits Int is a number
as_number : (program : ProgramTree) (world : World) (types : List PlainType) (given : PlainType) (value : ValueTree)
    → Fits program.source.declarations given PlainInt → ValueHas program world value (replaced types given)
    → (number : ℤ) × (value ≡ IntValue number)
unfolding replaced
as_number program world types given value fit has =
    number_found program world value
    (value_up program world value (replaced types given) PlainInt
    (fits-replaced program.source.declarations types given PlainInt (fits_whole fit)) has)

-- one of a type that fits Bool is an answer
as_truth : (program : ProgramTree) (world : World) → IsAcceptedProgram program → (types : List PlainType)
    (given : PlainType) (value : ValueTree) → Fits program.source.declarations given bool_type
    → ValueHas program world value (replaced types given)
    → (answer : Bool) × (truth_of program.names value ≡ Some answer)
unfolding replaced
as_truth program world accepted types given value fit has =
    truth_found program world accepted value
    (value_up program world value (replaced types given) bool_type
    (fits-replaced program.source.declarations types given bool_type (fits_whole fit)) has)

-- the result of an operator on two values is that on what they are
operated : (program : ProgramTree) (world : World) (op : Operator) (type : PlainType)
    (first second one other : ValueTree) → first ≡ one → second ≡ other
    → ResultHas program world (operation_result program.names op one other) type
    → ResultHas program world (operation_result program.names op first second) type
operated program world op type first second one other first_is second_is has =
    subst (λ (left : ValueTree). ResultHas program world (operation_result program.names op left second) type)
    (sym first_is)
    (subst (λ (right : ValueTree). ResultHas program world (operation_result program.names op one right) type)
    (sym second_is) has)

-- an operator gives a value of its type by the rule that it meets
rule_has : (program : ProgramTree) (world : World) → IsAcceptedProgram program → (types : List PlainType)
    {op : Operator} {left right type : PlainType} (first second : ValueTree)
    → OperatorGives program.source.declarations op left right type
    → ValueHas program world first (replaced types left) → ValueHas program world second (replaced types right)
    → is_logical op ≡ false
    → ResultHas program world (operation_result program.names op first second) (replaced types type)
unfolding replaced
rule_has program world accepted types first second numbers has_first has_second apart =
    let one = number_found program world first has_first in
    let other = number_found program world second has_second in
    operated program world operator.Plus PlainInt first second (IntValue one.0) (IntValue other.0) one.1 other.1
    (number_result_has program world (one.0 +ℤ other.0))
rule_has program world accepted types first second strings has_first has_second apart =
    let one = string_found program world first has_first in
    let other = string_found program world second has_second in
    operated program world operator.Plus PlainString first second (StringValue one.0) (StringValue other.0) one.1
    other.1
    (string_result_has program world (one.0 ++ other.0))
rule_has program world accepted types first second bottom_number has_first has_second apart =
    absurd (none_has_bottom program world first has_first)
rule_has program world accepted types first second bottom_string has_first has_second apart =
    absurd (none_has_bottom program world first has_first)
rule_has program world accepted types first second number_bottom has_first has_second apart =
    absurd (none_has_bottom program world second has_second)
rule_has program world accepted types first second string_bottom has_first has_second apart =
    absurd (none_has_bottom program world second has_second)
rule_has program world accepted types first second bottoms has_first has_second apart =
    absurd (none_has_bottom program world first has_first)
rule_has program world accepted types first second (arithmetic op left right is left_fits right_fits) has_first
    has_second apart =
    let one = as_number program world types left first left_fits has_first in
    let other = as_number program world types right second right_fits has_second in
    operated program world op PlainInt first second (IntValue one.0) (IntValue other.0) one.1 other.1
    (arithmetic_has program world op one.0 other.0 is)
rule_has program world accepted types first second (comparison op left right is left_fits right_fits) has_first
    has_second apart =
    let one = as_number program world types left first left_fits has_first in
    let other = as_number program world types right second right_fits has_second in
    operated program world op bool_type first second (IntValue one.0) (IntValue other.0) one.1 other.1
    (comparison_has program world accepted op one.0 other.0 is)
rule_has program world accepted types first second (equality op left right joined is join_is) has_first has_second
    apart =
    equality_has program world accepted op first second is
rule_has program world accepted types first second (logical op left right is left_fits right_fits) has_first has_second
    apart =
    absurd cc

-- an operator on two values of the types that it asks for gives a value of its type, or a fault other than Mistyped
pub operation_has : (program : ProgramTree) (world : World) → IsAcceptedProgram program → (types : List PlainType)
    (operator : Operator) (left right type : PlainType) (first second : ValueTree)
    → OperatorGives program.source.declarations operator left right type
    → ValueHas program world first (replaced types left) → ValueHas program world second (replaced types right)
    → (is_logical operator ≡ false)
    → ResultHas program world (operation_result program.names operator first second) (replaced types type)
operation_has program world accepted types operator left right type first second gives has_first has_second apart =
    rule_has program world accepted types first second gives has_first has_second apart

-- the opposite of an answer is an answer
opposite_has : (program : ProgramTree) (world : World) → IsAcceptedProgram program → (value : ValueTree)
    → (answer : Bool) × (truth_of program.names value ≡ Some answer)
    → ResultHas program world (answer_result program.names (opposite (truth_of program.names value))) bool_type
opposite_has program world accepted value answer =
    subst (λ told. ResultHas program world (answer_result program.names (opposite told)) bool_type) (sym answer.1)
    (truth_has program world accepted (not answer.0))

-- an operator before a value gives a value of its type by the rule that it meets
prefix_rule_has : (program : ProgramTree) (world : World) → IsAcceptedProgram program → (types : List PlainType)
    {before : Prefix} {operand type : PlainType} (value : ValueTree)
    → PrefixGives program.source.declarations before operand type
    → ValueHas program world value (replaced types operand)
    → ResultHas program world (prefix_result program.names before value) (replaced types type)
unfolding replaced
prefix_rule_has program world accepted types value (negated operand fit) has =
    opposite_has program world accepted value (as_truth program world accepted types operand value fit has)
prefix_rule_has program world accepted types value (tilde operand fit) has =
    opposite_has program world accepted value (as_truth program world accepted types operand value fit has)
prefix_rule_has program world accepted types value (minus operand fit) has =
    let number = as_number program world types operand value fit has in
    subst (λ (one : ValueTree). ResultHas program world (prefix_result program.names prefix.Minus one) PlainInt)
    (sym number.1) (number_result_has program world (neg_ℤ number.0))

-- an operator before a value of the type that it asks for gives a value of its type, or a fault other than Mistyped
pub prefix_has : (program : ProgramTree) (world : World) → IsAcceptedProgram program → (types : List PlainType)
    (prefix : Prefix) (operand type : PlainType) (value : ValueTree)
    → PrefixGives program.source.declarations prefix operand type
    → ValueHas program world value (replaced types operand)
    → ResultHas program world (prefix_result program.names prefix value) (replaced types type)
prefix_has program world accepted types prefix operand type value gives has =
    prefix_rule_has program world accepted types value gives has
