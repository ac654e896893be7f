-- The derived comparisons of symbols, variables, places and operators are true exactly where their trees are the same.
-- The tree of a symbol is its name in a table, so two symbols are the same where they have the same name in each table.
--
--   `decided`, `decided_items`     what a test decides, by what it is
--   `apart_by`                     a test that is false, of trees that have different numbers
--   `symbol_equal-Decides`         symbols
--   `variable_equal-Decides`       variables
--   `place_equal-Decides`          places
--   `operator_equal-Decides`, `prefix_equal-Decides`       operators
use Rattle.std.proofs.Common.{◌≡◌, ℕ, zero, suc, Bool, false, eqb, List, [], ◌∷◌, slice_get, unwrap_or, Decides, refl, sym, ap, ◌∙◌}
use Rattle.std.proofs.lemmas.Bool.{false≢true, eqb-false}
use Rattle.std.proofs.lemmas.Bool.Decides.{Decides-and, Decides-at, Decides-eqb, Decides-like}
use Rattle.std.specs.Cmp.Lexicographic.{pointwise}
use Rattle.abs_tree.specs.Names.{name_of}
use Rattle.abs_tree.specs.Syntax.{Name, VariableTree, Unresolved, AtSlot, AtBound, AtField}
use Rattle.abs_tree.specs.SyntaxViews.{variable_tree}
use Rattle.abs_tree.specs.contracts.place.PlacePartialEq.TheImpl as place_impl
use Rattle.abs_tree.specs.contracts.symbol.SymbolPartialEq.TheImpl as symbol_impl
use Rattle.abs_tree.specs.contracts.syntax.expression.Operator as operator
use Rattle.abs_tree.specs.contracts.syntax.expression.OperatorPartialEq.TheImpl as operator_impl
use Rattle.abs_tree.specs.contracts.syntax.expression.Prefix as prefix
use Rattle.abs_tree.specs.contracts.syntax.expression.PrefixPartialEq.TheImpl as prefix_impl
use Rattle.abs_tree.specs.contracts.syntax.variable.VariablePartialEq.TheImpl as variable_impl
use Rattle.abs_tree.specs.declared.place.Place.{Place}
use Rattle.abs_tree.specs.declared.symbol.Symbol.{Symbol}
use Rattle.abs_tree.specs.declared.syntax.expression.Operator.{Operator}
use Rattle.abs_tree.specs.declared.syntax.expression.Prefix.{Prefix}
use Rattle.abs_tree.specs.declared.syntax.variable.Variable.{Variable}
use Rattle.abs_tree.specs.declared.syntax.variable.Variable.TheVariants as variable
use denote.Enum.Bare.{same_true, true_same}

-- what a test decides, by another test that it is the same as, and by what that decides
pub decided : {P Q : Type 0} {test other : Bool} → test ≡ other → Decides other P → (P → Q) → (Q → P) → Decides test Q
decided same decides forth back = (λ reported. forth (decides.0 (sym same ∙ reported)), λ so. same ∙ decides.1 (back so))

-- what the comparison of two lists decides, by that of two lists that they are
pub decided_items : {A Q : Type 0} (equal : A → A → Bool) {ones others row rest : List A} → ones ≡ row → others ≡ rest
    → Decides (pointwise equal row rest) Q → Decides (pointwise equal ones others) Q
decided_items equal same_ones same_others decides =
    Decides-at _ _ (λ i. pointwise equal (same_ones i) (same_others i)) decides

-- a test that is false tells trees that have different numbers
pub apart_by : {T : Type 0} (number : T → ℕ) (one other : List Name → T) (test : Bool) → test ≡ false
    → eqb (number (one [])) (number (other [])) ≡ false → Decides test ((names : List Name) → one names ≡ other names)
apart_by number one other test is_false apart = (
  λ reported. absurd (false≢true (sym is_false ∙ reported)),
  λ same. absurd (eqb-false (number (one [])) (number (other [])) apart (ap number (same []))),
)

-- a table in which one symbol alone has a name that is not empty
abbrev named_at : ℕ → List Name
named_at zero = (1 ∷ []) ∷ []
named_at (suc symbol) = [] ∷ named_at symbol

-- this symbol has that name there, and no other one has it
named_at-there : (symbol : ℕ) → unwrap_or (slice_get (named_at symbol) symbol) [] ≡ 1 ∷ []
named_at-there zero = refl
named_at-there (suc symbol) = named_at-there symbol

named_at-only : (symbol other : ℕ) → unwrap_or (slice_get (named_at symbol) other) [] ≡ 1 ∷ [] → symbol ≡ other
named_at-only zero zero there = refl
named_at-only zero (suc other) there = absurd (cc)
named_at-only (suc symbol) zero there = absurd (cc)
named_at-only (suc symbol) (suc other) there = ap suc (named_at-only symbol other there)

-- two symbols that have the same name in each table are the same
same_symbol : (one other : Symbol) → ((names : List Name) → name_of names one ≡ name_of names other) → one.0 ≡ other.0
same_symbol one other same = named_at-only one.0 other.0 (sym (same (named_at one.0)) ∙ named_at-there one.0)

-- symbols
pub symbol_equal-Decides : (one other : Symbol)
    → Decides (symbol_impl.ghosts.eq one other) ((names : List Name) → name_of names one ≡ name_of names other)
symbol_equal-Decides one other =
    Decides-like _ (λ same names. ap (λ (number : ℕ). unwrap_or (slice_get names number) []) same)
    (same_symbol one other) (Decides-eqb one.0 other.0)

-- a number for each constructor of a variable
abbrev variable_number : VariableTree → ℕ
variable_number (Unresolved name) = 0
variable_number (AtSlot slot) = 1
variable_number (AtBound depth) = 2
variable_number (AtField field) = 3

-- variables
pub variable_equal-Decides : (one other : Variable) → Decides (variable_impl.ghosts.eq one other)
    ((names : List Name) → variable_tree names one ≡ variable_tree names other)
variable_equal-Decides (variable.Unresolved one) (variable.Unresolved other) =
    Decides-like _ (λ same names. ap Unresolved (same names)) (λ same names. cc (same names))
    (symbol_equal-Decides one other)
variable_equal-Decides (variable.Slot one) (variable.Slot other) =
    Decides-like _ (λ same names. ap AtSlot same) (λ same. cc (same [])) (Decides-eqb one other)
variable_equal-Decides (variable.Bound one) (variable.Bound other) =
    Decides-like _ (λ same names. ap AtBound same) (λ same. cc (same [])) (Decides-eqb one other)
variable_equal-Decides (variable.Field one) (variable.Field other) =
    Decides-like _ (λ same names. ap AtField same) (λ same. cc (same [])) (Decides-eqb one other)
variable_equal-Decides one other =
    apart_by variable_number (λ names. variable_tree names one) (λ names. variable_tree names other) _ refl refl

-- places
pub place_equal-Decides : (one other : Place) → Decides (place_impl.ghosts.eq one other) (one ≡ other)
place_equal-Decides one other =
    Decides-like _ (λ same i. record { offset = same.0 i; line = same.1.0 i; column = same.1.1 i })
    (λ same. (
      ap (λ (place : Place). place.offset) same,
      (ap (λ (place : Place). place.line) same, ap (λ (place : Place). place.column) same),
    ))
    (Decides-and _ _ (Decides-eqb one.offset other.offset)
    (Decides-and _ _ (Decides-eqb one.line other.line) (Decides-eqb one.column other.column)))

-- operators between operands, and before one
pub operator_equal-Decides : (one other : Operator) → Decides (operator_impl.ghosts.eq one other) (one ≡ other)
operator_equal-Decides one other = (same_true operator.the_type tt one other, true_same operator.the_type one other)

pub prefix_equal-Decides : (one other : Prefix) → Decides (prefix_impl.ghosts.eq one other) (one ≡ other)
prefix_equal-Decides one other = (same_true prefix.the_type tt one other, true_same prefix.the_type one other)
