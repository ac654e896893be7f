-- The relations of operators agree with the functions that give their types.
--
--   `operator_found`, `operator_whole`     an operator between two operands
--   `prefix_found`, `prefix_whole`         an operator before an operand
use Rattle.std.proofs.Common.{◌≡◌, Bool, true, ◌&&◌, List, Some, is_some, refl, sym, subst, ◌∙◌, true≢false}
use Rattle.std.proofs.lemmas.Bool.{and_from, and_parts}
use Rattle.std.proofs.lemmas.Option.{none-some, same_Some}
use Rattle.abs_tree.specs.Syntax.{DeclTree}
use Rattle.abs_tree.specs.declared.syntax.expression.Operator.{Operator}
use Rattle.abs_tree.specs.declared.syntax.expression.Operator.TheVariants as operator
use Rattle.abs_tree.specs.declared.syntax.expression.Prefix.{Prefix}
use Rattle.abs_tree.specs.declared.syntax.expression.Prefix.TheVariants as prefix
use Rattle.abs_types.specs.Joins.{join_of}
use Rattle.abs_types.specs.OperatorRules.{is_arithmetic, is_comparison, is_equality, is_logical, OperatorGives, PrefixGives}
use Rattle.abs_types.specs.OperatorRules.OperatorGives.{numbers, strings, bottom_number, bottom_string, number_bottom, string_bottom, bottoms, arithmetic, comparison, equality, logical}
use Rattle.abs_types.specs.OperatorRules.PrefixGives.{negated, tilde, minus}
use Rattle.abs_types.specs.OperatorTypes.{bool_type, type_if, plus_type, both_are, equality_type, operator_type, prefix_type}
use Rattle.abs_types.specs.PlainTypes.{PlainType, PlainInt, PlainString, PlainBottom}
use Rattle.abs_types.specs.Subtyping.{Fits, fits}
use Rattle.abs_types.proofs.SubtypingLemmas.{fits_found, fits_whole}
use Rattle.list_facts.proofs.OptionLemmas.{is_some-found, is_some-reported, if-found, if-reported}

-- a type that there is reason for
type_if_found : (reason : Bool) (given type : PlainType) → type_if reason given ≡ Some type
    → (reason ≡ true) × (given ≡ type)
type_if_found reason given type reported =
    let both = if-found reason (Some given) type reported in
    (both.0, same_Some given type both.1)

-- where two operands of one type give another one, both fit it
both_found : (declarations : List DeclTree) (wanted given left right type : PlainType)
    → both_are declarations wanted given left right ≡ Some type
    → Fits declarations left wanted × Fits declarations right wanted × (given ≡ type)
both_found declarations wanted given left right type reported =
    let found = type_if_found (fits declarations left wanted && fits declarations right wanted) given type reported in
    let both = and_parts (fits declarations left wanted) (fits declarations right wanted) found.0 in
    (fits_found declarations left wanted both.0, fits_found declarations right wanted both.1, found.1)

-- two operands that fit one type give the other one
both_whole : (declarations : List DeclTree) (wanted given left right : PlainType) → Fits declarations left wanted
    → Fits declarations right wanted → both_are declarations wanted given left right ≡ Some given
both_whole declarations wanted given left right one other =
    if-reported (fits declarations left wanted && fits declarations right wanted) (Some given) given
    (and_from (fits declarations left wanted) (fits declarations right wanted) (fits_whole one) (fits_whole other))
    refl

-- the type of `+` has a rule
plus_found : (declarations : List DeclTree) (left right type : PlainType) → plus_type left right ≡ Some type
    → OperatorGives declarations operator.Plus left right type
plus_found declarations PlainInt PlainInt type reported =
    subst (OperatorGives declarations operator.Plus PlainInt PlainInt) (same_Some PlainInt type reported) numbers
plus_found declarations PlainString PlainString type reported =
    subst (OperatorGives declarations operator.Plus PlainString PlainString) (same_Some PlainString type reported) strings
plus_found declarations PlainBottom PlainInt type reported =
    subst (OperatorGives declarations operator.Plus PlainBottom PlainInt) (same_Some PlainInt type reported) bottom_number
plus_found declarations PlainBottom PlainString type reported =
    subst (OperatorGives declarations operator.Plus PlainBottom PlainString) (same_Some PlainString type reported)
    bottom_string
plus_found declarations PlainInt PlainBottom type reported =
    subst (OperatorGives declarations operator.Plus PlainInt PlainBottom) (same_Some PlainInt type reported) number_bottom
plus_found declarations PlainString PlainBottom type reported =
    subst (OperatorGives declarations operator.Plus PlainString PlainBottom) (same_Some PlainString type reported)
    string_bottom
plus_found declarations PlainBottom PlainBottom type reported =
    subst (OperatorGives declarations operator.Plus PlainBottom PlainBottom) (same_Some PlainBottom type reported) bottoms
plus_found declarations left right type reported = absurd (none-some type reported)

-- the type of an operator of numbers has a rule
arithmetic_found : (declarations : List DeclTree) (op : Operator) (left right type : PlainType)
    → is_arithmetic op ≡ true → both_are declarations PlainInt PlainInt left right ≡ Some type
    → OperatorGives declarations op left right type
arithmetic_found declarations op left right type is reported =
    let found = both_found declarations PlainInt PlainInt left right type reported in
    subst (OperatorGives declarations op left right) found.2 (arithmetic op left right is found.0 found.1)

-- so has that of a comparison
comparison_found : (declarations : List DeclTree) (op : Operator) (left right type : PlainType)
    → is_comparison op ≡ true → both_are declarations PlainInt bool_type left right ≡ Some type
    → OperatorGives declarations op left right type
comparison_found declarations op left right type is reported =
    let found = both_found declarations PlainInt bool_type left right type reported in
    subst (OperatorGives declarations op left right) found.2 (comparison op left right is found.0 found.1)

-- so has that of an equality
equality_found : (declarations : List DeclTree) (op : Operator) (left right type : PlainType)
    → is_equality op ≡ true → equality_type declarations left right ≡ Some type
    → OperatorGives declarations op left right type
equality_found declarations op left right type is reported =
    let found = type_if_found (is_some (join_of declarations left right)) bool_type type reported in
    let joined = is_some-found (join_of declarations left right) found.0 in
    subst (OperatorGives declarations op left right) found.1 (equality op left right joined.0 is joined.1)

-- so has that of a logical operator
logical_found : (declarations : List DeclTree) (op : Operator) (left right type : PlainType)
    → is_logical op ≡ true → both_are declarations bool_type bool_type left right ≡ Some type
    → OperatorGives declarations op left right type
logical_found declarations op left right type is reported =
    let found = both_found declarations bool_type bool_type left right type reported in
    subst (OperatorGives declarations op left right) found.2 (logical op left right is found.0 found.1)

-- the type of an operator between two operands has a rule
pub operator_found : (declarations : List DeclTree) (op : Operator) (left right type : PlainType)
    → operator_type declarations op left right ≡ Some type → OperatorGives declarations op left right type
unfolding operator_type
operator_found declarations operator.Plus left right type reported = plus_found declarations left right type reported
operator_found declarations operator.Minus left right type reported =
    arithmetic_found declarations operator.Minus left right type refl reported
operator_found declarations operator.Times left right type reported =
    arithmetic_found declarations operator.Times left right type refl reported
operator_found declarations operator.Divide left right type reported =
    arithmetic_found declarations operator.Divide left right type refl reported
operator_found declarations operator.Remainder left right type reported =
    arithmetic_found declarations operator.Remainder left right type refl reported
operator_found declarations operator.Less left right type reported =
    comparison_found declarations operator.Less left right type refl reported
operator_found declarations operator.LessEqual left right type reported =
    comparison_found declarations operator.LessEqual left right type refl reported
operator_found declarations operator.Greater left right type reported =
    comparison_found declarations operator.Greater left right type refl reported
operator_found declarations operator.GreaterEqual left right type reported =
    comparison_found declarations operator.GreaterEqual left right type refl reported
operator_found declarations operator.Equal left right type reported =
    equality_found declarations operator.Equal left right type refl reported
operator_found declarations operator.NotEqual left right type reported =
    equality_found declarations operator.NotEqual left right type refl reported
operator_found declarations operator.And left right type reported =
    logical_found declarations operator.And left right type refl reported
operator_found declarations operator.Or left right type reported =
    logical_found declarations operator.Or left right type refl reported

-- operators of numbers have one rule
arithmetic_rule : (declarations : List DeclTree) (op : Operator) (left right : PlainType) → is_arithmetic op ≡ true
    → operator_type declarations op left right ≡ both_are declarations PlainInt PlainInt left right
unfolding operator_type
arithmetic_rule declarations operator.Minus left right is = refl
arithmetic_rule declarations operator.Times left right is = refl
arithmetic_rule declarations operator.Divide left right is = refl
arithmetic_rule declarations operator.Remainder left right is = refl
arithmetic_rule declarations _ left right is = absurd (true≢false (sym is))

-- comparisons have one rule
comparison_rule : (declarations : List DeclTree) (op : Operator) (left right : PlainType) → is_comparison op ≡ true
    → operator_type declarations op left right ≡ both_are declarations PlainInt bool_type left right
unfolding operator_type
comparison_rule declarations operator.Less left right is = refl
comparison_rule declarations operator.LessEqual left right is = refl
comparison_rule declarations operator.Greater left right is = refl
comparison_rule declarations operator.GreaterEqual left right is = refl
comparison_rule declarations _ left right is = absurd (true≢false (sym is))

-- equalities have one rule
equality_rule : (declarations : List DeclTree) (op : Operator) (left right : PlainType) → is_equality op ≡ true
    → operator_type declarations op left right ≡ equality_type declarations left right
unfolding operator_type
equality_rule declarations operator.Equal left right is = refl
equality_rule declarations operator.NotEqual left right is = refl
equality_rule declarations _ left right is = absurd (true≢false (sym is))

-- logical operators have one rule
logical_rule : (declarations : List DeclTree) (op : Operator) (left right : PlainType) → is_logical op ≡ true
    → operator_type declarations op left right ≡ both_are declarations bool_type bool_type left right
unfolding operator_type
logical_rule declarations operator.And left right is = refl
logical_rule declarations operator.Or left right is = refl
logical_rule declarations _ left right is = absurd (true≢false (sym is))

-- each rule of an operator between two operands gives the type
pub operator_whole : {declarations : List DeclTree} {op : Operator} {left right type : PlainType}
    → OperatorGives declarations op left right type → operator_type declarations op left right ≡ Some type
unfolding operator_type
operator_whole numbers = refl
operator_whole strings = refl
operator_whole bottom_number = refl
operator_whole bottom_string = refl
operator_whole number_bottom = refl
operator_whole string_bottom = refl
operator_whole bottoms = refl
operator_whole {declarations} (arithmetic op left right is one other) =
    arithmetic_rule declarations op left right is ∙ both_whole declarations PlainInt PlainInt left right one other
operator_whole {declarations} (comparison op left right is one other) =
    comparison_rule declarations op left right is ∙ both_whole declarations PlainInt bool_type left right one other
operator_whole {declarations} (equality op left right joined is reported) =
    equality_rule declarations op left right is
    ∙ if-reported (is_some (join_of declarations left right)) (Some bool_type) bool_type
    (is_some-reported (join_of declarations left right) joined reported) refl
operator_whole {declarations} (logical op left right is one other) =
    logical_rule declarations op left right is ∙ both_whole declarations bool_type bool_type left right one other

-- the type of an operator before an operand has a rule
pub prefix_found : (declarations : List DeclTree) (op : Prefix) (operand type : PlainType)
    → prefix_type declarations op operand ≡ Some type → PrefixGives declarations op operand type
unfolding prefix_type
prefix_found declarations prefix.Not operand type reported =
    let found = type_if_found (fits declarations operand bool_type) bool_type type reported in
    subst (PrefixGives declarations prefix.Not operand) found.1
    (negated operand (fits_found declarations operand bool_type found.0))
prefix_found declarations prefix.Tilde operand type reported =
    let found = type_if_found (fits declarations operand bool_type) bool_type type reported in
    subst (PrefixGives declarations prefix.Tilde operand) found.1
    (tilde operand (fits_found declarations operand bool_type found.0))
prefix_found declarations prefix.Minus operand type reported =
    let found = type_if_found (fits declarations operand PlainInt) PlainInt type reported in
    subst (PrefixGives declarations prefix.Minus operand) found.1
    (minus operand (fits_found declarations operand PlainInt found.0))

-- each rule of an operator before an operand gives the type
pub prefix_whole : {declarations : List DeclTree} {op : Prefix} {operand type : PlainType}
    → PrefixGives declarations op operand type → prefix_type declarations op operand ≡ Some type
unfolding prefix_type
prefix_whole {declarations} (negated operand fit) =
    if-reported (fits declarations operand bool_type) (Some bool_type) bool_type (fits_whole fit) refl
prefix_whole {declarations} (tilde operand fit) =
    if-reported (fits declarations operand bool_type) (Some bool_type) bool_type (fits_whole fit) refl
prefix_whole {declarations} (minus operand fit) =
    if-reported (fits declarations operand PlainInt) (Some PlainInt) PlainInt (fits_whole fit) refl
