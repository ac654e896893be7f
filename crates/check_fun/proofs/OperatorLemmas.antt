-- The operators between two operands, by what a checker finds for these.
--
--   `int_sum`, `int_no_sum`, ..                operands of two shapes add up, or do not
--   `sum_is_left`, `sum_is_right`, `no_sum`    so an operand stands for the type of the sum, or there is none
--   `arithmetic_type`, ..                      the type of an operator of each kind
use Rattle.std.proofs.Common.{◌≡◌, List, Some, None, refl, sym, ap, ◌∙◌, ◌⊎◌, ⊎_elim}
use Rattle.abs_tree.specs.Syntax.{Name, DeclTree}
use Rattle.abs_tree.specs.declared.syntax.expression.Operator.{Operator}
use Rattle.abs_tree.specs.declared.syntax.expression.Operator.TheVariants as operator
use Rattle.abs_types.specs.OperatorTypes.{bool_type, both_are, equality_type, operator_type, plus_type}
use Rattle.abs_types.specs.PlainTypes.{PlainType, PlainInt}
use Rattle.abs_types.specs.TypeShapes.{shape_type, type_at}
use Rattle.abs_types.specs.TypeTables.{types_in}
use Rattle.abs_types.specs.declared.table.shape.Shape.{Shape}
use Rattle.abs_types.specs.declared.table.shape.Shape.TheVariants as shape
use Rattle.abs_types.specs.declared.table.shape.TypeIndex.{TypeIndex}
use Rattle.check_fun.proofs.FoundLemmas.{finds_none}
use Rattle.check_fun.proofs.RuleLemmas.{stands_for}
use Rattle.check_fun.specs.Contexts.{Finds}
use Rattle.check_fun.specs.declared.checker.Checker.{Checker}

-- a number and a number, or no value, give a number
pub int_sum : (names : List Name) (types : List PlainType) (other : Shape)
    → (other ≡ shape.Int) ⊎ (other ≡ shape.Bottom)
    → plus_type (shape_type names types shape.Int) (shape_type names types other)
    ≡ Some (shape_type names types shape.Int)
unfolding shape_type
int_sum names types other is = ⊎_elim (λ found. rw found refl) (λ found. rw found refl) is

-- a number and anything else do not add up
pub int_no_sum : (names : List Name) (types : List PlainType) (other : Shape) → (other ≡ shape.Int → ⊥)
    → (other ≡ shape.Bottom → ⊥) → plus_type (shape_type names types shape.Int) (shape_type names types other) ≡ None
unfolding shape_type
int_no_sum names types shape.Int not_int not_bottom = absurd (not_int refl)
int_no_sum names types shape.Bottom not_int not_bottom = absurd (not_bottom refl)
int_no_sum names types other not_int not_bottom = refl

-- a string and a string, or no value, give a string
pub string_sum : (names : List Name) (types : List PlainType) (other : Shape)
    → (other ≡ shape.String) ⊎ (other ≡ shape.Bottom)
    → plus_type (shape_type names types shape.String) (shape_type names types other)
    ≡ Some (shape_type names types shape.String)
unfolding shape_type
string_sum names types other is = ⊎_elim (λ found. rw found refl) (λ found. rw found refl) is

-- a string and anything else do not add up
pub string_no_sum : (names : List Name) (types : List PlainType) (other : Shape) → (other ≡ shape.String → ⊥)
    → (other ≡ shape.Bottom → ⊥)
    → plus_type (shape_type names types shape.String) (shape_type names types other) ≡ None
unfolding shape_type
string_no_sum names types shape.String not_string not_bottom = absurd (not_string refl)
string_no_sum names types shape.Bottom not_string not_bottom = absurd (not_bottom refl)
string_no_sum names types other not_string not_bottom = refl

-- no value and a number, a string or no value give the type of that
pub bottom_sum : (names : List Name) (types : List PlainType) (other : Shape)
    → (other ≡ shape.Int) ⊎ ((other ≡ shape.String) ⊎ (other ≡ shape.Bottom))
    → plus_type (shape_type names types shape.Bottom) (shape_type names types other)
    ≡ Some (shape_type names types other)
unfolding shape_type
bottom_sum names types other is =
    ⊎_elim (λ found. rw found refl) (λ more. ⊎_elim (λ found. rw found refl) (λ found. rw found refl) more) is

-- no value and anything else do not add up
pub bottom_no_sum : (names : List Name) (types : List PlainType) (other : Shape) → (other ≡ shape.Int → ⊥)
    → (other ≡ shape.String → ⊥) → (other ≡ shape.Bottom → ⊥)
    → plus_type (shape_type names types shape.Bottom) (shape_type names types other) ≡ None
unfolding shape_type
bottom_no_sum names types shape.Int not_int not_string not_bottom = absurd (not_int refl)
bottom_no_sum names types shape.String not_int not_string not_bottom = absurd (not_string refl)
bottom_no_sum names types shape.Bottom not_int not_string not_bottom = absurd (not_bottom refl)
bottom_no_sum names types other not_int not_string not_bottom = refl

-- anything else does not add up with anything
pub other_no_sum : (names : List Name) (types : List PlainType) (one other : Shape) → (one ≡ shape.Int → ⊥)
    → (one ≡ shape.String → ⊥) → (one ≡ shape.Bottom → ⊥)
    → plus_type (shape_type names types one) (shape_type names types other) ≡ None
unfolding shape_type
other_no_sum names types shape.Int other not_int not_string not_bottom = absurd (not_int refl)
other_no_sum names types shape.String other not_int not_string not_bottom = absurd (not_string refl)
other_no_sum names types shape.Bottom other not_int not_string not_bottom = absurd (not_bottom refl)
other_no_sum names types one other not_int not_string not_bottom = refl

-- the sum of two operands is that of the types of their shapes
sum_is : {checker : Checker} {left right : TypeIndex} {one other first second : PlainType}
    → type_at (types_in checker.table) left ≡ first → type_at (types_in checker.table) right ≡ second
    → Finds checker (Some left) (Some one) → Finds checker (Some right) (Some other)
    → plus_type one other ≡ plus_type first second
sum_is left_is right_is left_finds right_finds =
    rw (sym (stands_for left_finds), sym (stands_for right_finds), left_is, right_is) refl

-- where it is the type of the first operand, this one stands for it
pub sum_is_left : {checker : Checker} {left right : TypeIndex} {one other first second : PlainType}
    → type_at (types_in checker.table) left ≡ first → type_at (types_in checker.table) right ≡ second
    → plus_type first second ≡ Some first → Finds checker (Some left) (Some one)
    → Finds checker (Some right) (Some other) → Finds checker (Some left) (plus_type one other)
sum_is_left left_is right_is sum left_finds right_finds = record {
  found_is = left_finds.found_is;
  is = ap (λ (type : PlainType). Some type) left_is ∙ sym (sum_is left_is right_is left_finds right_finds ∙ sum);
}

-- where it is the type of the second operand, that one stands for it
pub sum_is_right : {checker : Checker} {left right : TypeIndex} {one other first second : PlainType}
    → type_at (types_in checker.table) left ≡ first → type_at (types_in checker.table) right ≡ second
    → plus_type first second ≡ Some second → Finds checker (Some left) (Some one)
    → Finds checker (Some right) (Some other) → Finds checker (Some right) (plus_type one other)
sum_is_right left_is right_is sum left_finds right_finds = record {
  found_is = right_finds.found_is;
  is = ap (λ (type : PlainType). Some type) right_is ∙ sym (sum_is left_is right_is left_finds right_finds ∙ sum);
}

-- where they do not add up, there is none
pub no_sum : {checker : Checker} {left right : TypeIndex} {one other first second : PlainType}
    → type_at (types_in checker.table) left ≡ first → type_at (types_in checker.table) right ≡ second
    → plus_type first second ≡ None → Finds checker (Some left) (Some one) → Finds checker (Some right) (Some other)
    → Finds checker None (plus_type one other)
no_sum left_is right_is sum left_finds right_finds =
    rw (sum_is left_is right_is left_finds right_finds ∙ sum) finds_none

-- the type of an operator between two numbers that gives a number
pub arithmetic_type : (declarations : List DeclTree) (one other : PlainType) (found : Operator)
    → (found ≡ operator.Minus) ⊎ ((found ≡ operator.Times) ⊎ ((found ≡ operator.Divide)
    ⊎ (found ≡ operator.Remainder)))
    → operator_type declarations found one other ≡ both_are declarations PlainInt PlainInt one other
unfolding operator_type
arithmetic_type declarations one other found is =
    ⊎_elim (λ reported. rw reported refl) (λ more. ⊎_elim (λ reported. rw reported refl)
    (λ last. ⊎_elim (λ reported. rw reported refl) (λ reported. rw reported refl) last) more) is

-- that of a comparison of two numbers
pub comparison_type : (declarations : List DeclTree) (one other : PlainType) (found : Operator)
    → (found ≡ operator.Less) ⊎ ((found ≡ operator.LessEqual) ⊎ ((found ≡ operator.Greater)
    ⊎ (found ≡ operator.GreaterEqual)))
    → operator_type declarations found one other ≡ both_are declarations PlainInt bool_type one other
unfolding operator_type
comparison_type declarations one other found is =
    ⊎_elim (λ reported. rw reported refl) (λ more. ⊎_elim (λ reported. rw reported refl)
    (λ last. ⊎_elim (λ reported. rw reported refl) (λ reported. rw reported refl) last) more) is

-- that of `==` and `!=`
pub equal_type : (declarations : List DeclTree) (one other : PlainType) (found : Operator)
    → (found ≡ operator.Equal) ⊎ (found ≡ operator.NotEqual)
    → operator_type declarations found one other ≡ equality_type declarations one other
unfolding operator_type
equal_type declarations one other found is = ⊎_elim (λ reported. rw reported refl) (λ reported. rw reported refl) is

-- that of `&&` and `||`
pub logical_type : (declarations : List DeclTree) (one other : PlainType) (found : Operator)
    → (found ≡ operator.And) ⊎ (found ≡ operator.Or)
    → operator_type declarations found one other ≡ both_are declarations bool_type bool_type one other
unfolding operator_type
logical_type declarations one other found is = ⊎_elim (λ reported. rw reported refl) (λ reported. rw reported refl) is
