-- The derived comparison of expressions is true exactly where their trees are the same whatever names the symbols have.
--
--   `expr_equal-Decides`           the comparison of expressions
--   `exprs_equal-Decides`          that of lists of expressions
--   `shared_equal-Decides`         that of lists of expressions that are shared one by one
use Rattle.std.proofs.Common.{◌≡◌, ℕ, Bool, true, false, eqb, List, [], ◌∷◌, Decides, refl}
use Rattle.std.proofs.lemmas.Bool.Decides.{Decides-and, Decides-at, Decides-int_eq}
use Rattle.std.proofs.lemmas.Slice.Eq.{bytes_eq-Decides}
use Rattle.std.specs.Cmp.Lexicographic.{pointwise}
use Rattle.std.specs.declared.alloc.Global.{Global}
use Rattle.std.specs.declared.sync.Arc.{Arc}
use Rattle.abs_program.specs.InstructionViews.{shared_expr_trees}
use Rattle.abs_tree.specs.Syntax.{Name, ExprTree, LetIn, IfElse, OperatorsOf, Prefixed, NumberOf, StringOf, NullOf, DestinyOf, ThisOf, FieldOf, OwnCallOf, VariableOf, ApplyOf, BuildOf, CaseOf, ExprTrees, NoExpr, NextExpr, Operands, NoOperands, NextOperand, Branches, NoBranch, NextBranch}
use Rattle.abs_tree.specs.SyntaxViews.{expr_tree, expr_row, expr_trees, operand_row, branch_row}
use Rattle.abs_tree.specs.contracts.syntax.expression.ExprPartialEq.TheImpl as expr_impl
use Rattle.abs_tree.specs.contracts.syntax.expression.ExprPartialEq.TheImpl.Laws as expr_laws
use Rattle.abs_tree.specs.declared.syntax.expression.Branch.{Branch}
use Rattle.abs_tree.specs.declared.syntax.expression.Expr as code
use Rattle.abs_tree.specs.declared.syntax.expression.Expr.{Expr, out-Expr, Row_of-Expr, end_of-Expr, more_of-Expr, items-the_row-Expr, items_shown-the_row-Expr-1, Row_of-Operand, end_of-Operand, more_of-Operand, items-the_row-Operand, items_shown-the_row-Operand-0, Row_of-Branch, end_of-Branch, more_of-Branch, items-the_row-Branch, items_shown-the_row-Branch-2}
use Rattle.abs_tree.specs.declared.syntax.expression.Expr.TheBlock as block
use Rattle.abs_tree.specs.declared.syntax.expression.Operand.{Operand}
use Rattle.abs_program.proofs.EqualNameLemmas.{apart_by, decided, decided_items, place_equal-Decides, symbol_equal-Decides, variable_equal-Decides, operator_equal-Decides, prefix_equal-Decides}
use Rattle.abs_program.proofs.EqualPatternLemmas.{pattern_equal-Decides}
use Rattle.abs_program.proofs.EqualTypeLemmas.{type_equal-Decides}
use denote.Hole.Carrier.{Values, out}
use denote.Hole.Compared.{compared_is}

-- the comparisons of operators with their right operands, and of branches, and what they are
abbrev operand_equal : Operand → Operand → Bool
operand_equal = expr_laws.family block.member-Operand

abbrev branch_equal : Branch → Branch → Bool
branch_equal = expr_laws.family block.member-Branch

operand_is : (one other : Operand)
    → operand_equal one other ≡ expr_impl.the_step expr_laws.family block.member-Operand one other
operand_is =
    compared_is block.the_members (Values block.the_members block.the_sigs block.the_carrier) block.the_depth Bool true
    expr_impl.the_step expr_laws.local block.member-Operand

branch_is : (one other : Branch)
    → branch_equal one other ≡ expr_impl.the_step expr_laws.family block.member-Branch one other
branch_is =
    compared_is block.the_members (Values block.the_members block.the_sigs block.the_carrier) block.the_depth Bool true
    expr_impl.the_step expr_laws.local block.member-Branch

-- a number for each constructor of an expression, and of the lists in one
abbrev expr_number : ExprTree → ℕ
expr_number (LetIn place type variable_place variable value body) = 0
expr_number (IfElse place condition first second) = 1
expr_number (OperatorsOf place first row) = 2
expr_number (Prefixed place prefix operand) = 3
expr_number (NumberOf place number) = 4
expr_number (StringOf place string) = 5
expr_number (NullOf place) = 6
expr_number (DestinyOf place) = 7
expr_number (ThisOf place) = 8
expr_number (FieldOf place name_place name) = 9
expr_number (OwnCallOf place method arguments) = 10
expr_number (VariableOf place variable) = 11
expr_number (ApplyOf place function arguments) = 12
expr_number (BuildOf place constructor arguments) = 13
expr_number (CaseOf place subject row) = 14

abbrev exprs_number : ExprTrees → ℕ
exprs_number NoExpr = 0
exprs_number (NextExpr first others) = 1

abbrev operands_number : Operands → ℕ
operands_number NoOperands = 0
operands_number (NextOperand operator right others) = 1

abbrev branches_number : Branches → ℕ
branches_number NoBranch = 0
branches_number (NextBranch pattern value others) = 1

-- expressions of different constructors
exprs_apart : (one other : Expr) → expr_laws.unfolded one other ≡ false
    → eqb (expr_number (expr_tree [] one)) (expr_number (expr_tree [] other)) ≡ false
    → Decides (expr_impl.ghosts.eq one other) ((names : List Name) → expr_tree names one ≡ expr_tree names other)
exprs_apart one other is_false apart =
    Decides-at _ _ (expr_laws.is one other)
    (apart_by expr_number (λ names. expr_tree names one) (λ names. expr_tree names other) _ is_false apart)

mutual
  unfolding out-Expr out

  pub expr_equal-Decides : (one other : Expr) → Decides (expr_impl.ghosts.eq one other)
      ((names : List Name) → expr_tree names one ≡ expr_tree names other)
  expr_equal-Decides (code.Let' place type variable_place variable at_value value at_body body)
      (code.Let' other_place other_type other_variable_place other_variable other_at_value other_value other_at_body
      other_body) =
      decided (expr_laws.is _ _)
      (Decides-and _ _ (place_equal-Decides place other_place)
      (Decides-and _ _ (type_equal-Decides type.value other_type.value)
      (Decides-and _ _ (place_equal-Decides variable_place other_variable_place)
      (Decides-and _ _ (variable_equal-Decides variable other_variable)
      (Decides-and _ _ (expr_equal-Decides value other_value) (expr_equal-Decides body other_body))))))
      (λ same names i. LetIn (same.0 i) (same.1.0 names i) (same.1.1.0 i) (same.1.1.1.0 names i)
      (same.1.1.1.1.0 names i) (same.1.1.1.1.1 names i))
      (λ same. (
        cc (same []),
        (
          λ names. cc (same names),
          (
            cc (same []),
            (
              λ names. cc (same names),
              (λ names. cc (same names), λ names. cc (same names)),
            ),
          ),
        ),
      ))
  expr_equal-Decides (code.If' place at_condition condition at_first first at_second second)
      (code.If' other_place other_at_condition other_condition other_at_first other_first other_at_second
      other_second) =
      decided (expr_laws.is _ _)
      (Decides-and _ _ (place_equal-Decides place other_place)
      (Decides-and _ _ (expr_equal-Decides condition other_condition)
      (Decides-and _ _ (expr_equal-Decides first other_first) (expr_equal-Decides second other_second))))
      (λ same names i. IfElse (same.0 i) (same.1.0 names i) (same.1.1.0 names i) (same.1.1.1 names i))
      (λ same. (cc (same []), (λ names. cc (same names), (λ names. cc (same names), λ names. cc (same names)))))
  expr_equal-Decides (code.Operators' place at_first first shape row)
      (code.Operators' other_place other_at_first other_first other_shape others) =
      decided (expr_laws.is _ _)
      (Decides-and _ _ (place_equal-Decides place other_place)
      (Decides-and _ _ (expr_equal-Decides first other_first) (decided_items operand_equal
      (items_shown-the_row-Operand-0 shape row) (items_shown-the_row-Operand-0 other_shape others)
      (operands_in_row-Decides _ row _ others))))
      (λ same names i. OperatorsOf (same.0 i) (same.1.0 names i) (same.1.1 names i))
      (λ same. (cc (same []), (λ names. cc (same names), λ names. cc (same names))))
  expr_equal-Decides (code.Prefixed' place prefix at_operand operand)
      (code.Prefixed' other_place other_prefix other_at_operand other_operand) =
      decided (expr_laws.is _ _)
      (Decides-and _ _ (place_equal-Decides place other_place)
      (Decides-and _ _ (prefix_equal-Decides prefix other_prefix) (expr_equal-Decides operand other_operand)))
      (λ same names i. Prefixed (same.0 i) (same.1.0 i) (same.1.1 names i))
      (λ same. (cc (same []), (cc (same []), λ names. cc (same names))))
  expr_equal-Decides (code.Number place number) (code.Number other_place other_number) =
      decided (expr_laws.is _ _)
      (Decides-and _ _ (place_equal-Decides place other_place) (Decides-int_eq number other_number))
      (λ same names i. NumberOf (same.0 i) (same.1 i))
      (λ same. (cc (same []), cc (same [])))
  expr_equal-Decides (code.Text place text) (code.Text other_place other_text) =
      decided (expr_laws.is _ _)
      (Decides-and _ _ (place_equal-Decides place other_place) (bytes_eq-Decides text other_text))
      (λ same names i. StringOf (same.0 i) (same.1 i))
      (λ same. (cc (same []), cc (same [])))
  expr_equal-Decides (code.Null place) (code.Null other_place) =
      decided (expr_laws.is _ _) (place_equal-Decides place other_place)
      (λ same names i. NullOf (same i))
      (λ same. cc (same []))
  expr_equal-Decides (code.Destiny place) (code.Destiny other_place) =
      decided (expr_laws.is _ _) (place_equal-Decides place other_place)
      (λ same names i. DestinyOf (same i))
      (λ same. cc (same []))
  expr_equal-Decides (code.This place) (code.This other_place) =
      decided (expr_laws.is _ _) (place_equal-Decides place other_place)
      (λ same names i. ThisOf (same i))
      (λ same. cc (same []))
  expr_equal-Decides (code.Field place name_place symbol) (code.Field other_place other_name_place other_symbol) =
      decided (expr_laws.is _ _)
      (Decides-and _ _ (place_equal-Decides place other_place)
      (Decides-and _ _ (place_equal-Decides name_place other_name_place) (symbol_equal-Decides symbol other_symbol)))
      (λ same names i. FieldOf (same.0 i) (same.1.0 i) (same.1.1 names i))
      (λ same. (cc (same []), (cc (same []), λ names. cc (same names))))
  expr_equal-Decides (code.OwnCall' place symbol at_row shape row)
      (code.OwnCall' other_place other_symbol other_at_row other_shape others) =
      decided (expr_laws.is _ _)
      (Decides-and _ _ (place_equal-Decides place other_place)
      (Decides-and _ _ (symbol_equal-Decides symbol other_symbol) (decided_items expr_impl.ghosts.eq
      (items_shown-the_row-Expr-1 shape row) (items_shown-the_row-Expr-1 other_shape others)
      (exprs_in_row-Decides _ row _ others))))
      (λ same names i. OwnCallOf (same.0 i) (same.1.0 names i) (same.1.1 names i))
      (λ same. (cc (same []), (λ names. cc (same names), λ names. cc (same names))))
  expr_equal-Decides (code.Variable place variable) (code.Variable other_place other_variable) =
      decided (expr_laws.is _ _)
      (Decides-and _ _ (place_equal-Decides place other_place) (variable_equal-Decides variable other_variable))
      (λ same names i. VariableOf (same.0 i) (same.1 names i))
      (λ same. (cc (same []), λ names. cc (same names)))
  expr_equal-Decides (code.Apply' place symbol shape row)
      (code.Apply' other_place other_symbol other_shape others) =
      decided (expr_laws.is _ _)
      (Decides-and _ _ (place_equal-Decides place other_place)
      (Decides-and _ _ (symbol_equal-Decides symbol other_symbol) (decided_items expr_impl.ghosts.eq
      (items_shown-the_row-Expr-1 shape row) (items_shown-the_row-Expr-1 other_shape others)
      (exprs_in_row-Decides _ row _ others))))
      (λ same names i. ApplyOf (same.0 i) (same.1.0 names i) (same.1.1 names i))
      (λ same. (cc (same []), (λ names. cc (same names), λ names. cc (same names))))
  expr_equal-Decides (code.Build' place symbol shape row)
      (code.Build' other_place other_symbol other_shape others) =
      decided (expr_laws.is _ _)
      (Decides-and _ _ (place_equal-Decides place other_place)
      (Decides-and _ _ (symbol_equal-Decides symbol other_symbol) (decided_items expr_impl.ghosts.eq
      (items_shown-the_row-Expr-1 shape row) (items_shown-the_row-Expr-1 other_shape others)
      (exprs_in_row-Decides _ row _ others))))
      (λ same names i. BuildOf (same.0 i) (same.1.0 names i) (same.1.1 names i))
      (λ same. (cc (same []), (λ names. cc (same names), λ names. cc (same names))))
  expr_equal-Decides (code.Case' place at_subject subject shape row)
      (code.Case' other_place other_at_subject other_subject other_shape others) =
      decided (expr_laws.is _ _)
      (Decides-and _ _ (place_equal-Decides place other_place)
      (Decides-and _ _ (expr_equal-Decides subject other_subject) (decided_items branch_equal
      (items_shown-the_row-Branch-2 shape row) (items_shown-the_row-Branch-2 other_shape others)
      (branches_in_row-Decides _ row _ others))))
      (λ same names i. CaseOf (same.0 i) (same.1.0 names i) (same.1.1 names i))
      (λ same. (cc (same []), (λ names. cc (same names), λ names. cc (same names))))
  expr_equal-Decides one other = exprs_apart one other refl refl

  exprs_in_row-Decides : (n : _) (row : Row_of-Expr n) (m : _) (others : Row_of-Expr m)
      → Decides (pointwise expr_impl.ghosts.eq (items-the_row-Expr n row) (items-the_row-Expr m others))
      ((names : List Name) → expr_row names row ≡ expr_row names others)
  exprs_in_row-Decides n end_of-Expr m end_of-Expr = (λ reported names. refl, λ same. refl)
  exprs_in_row-Decides n (more_of-Expr one row) m (more_of-Expr other others) =
      decided refl (Decides-and _ _ (expr_equal-Decides one other) (exprs_in_row-Decides _ row _ others))
      (λ same names i. NextExpr (same.0 names i) (same.1 names i))
      (λ same. (λ names. cc (same names), λ names. cc (same names)))
  exprs_in_row-Decides n row m others =
      apart_by exprs_number (λ names. expr_row names row) (λ names. expr_row names others) _ refl refl

  operands_in_row-Decides : (n : _) (row : Row_of-Operand n) (m : _) (others : Row_of-Operand m)
      → Decides (pointwise operand_equal (items-the_row-Operand n row) (items-the_row-Operand m others))
      ((names : List Name) → operand_row names row ≡ operand_row names others)
  operands_in_row-Decides n end_of-Operand m end_of-Operand = (λ reported names. refl, λ same. refl)
  operands_in_row-Decides n (more_of-Operand operator right row) m (more_of-Operand other_operator other_right others) =
      decided refl
      (Decides-and _ _
      (Decides-at _ _ (operand_is _ _)
      (Decides-and _ _ (operator_equal-Decides operator other_operator) (expr_equal-Decides right other_right)))
      (operands_in_row-Decides _ row _ others))
      (λ same names i. NextOperand (same.0.0 i) (same.0.1 names i) (same.1 names i))
      (λ same. ((cc (same []), λ names. cc (same names)), λ names. cc (same names)))
  operands_in_row-Decides n row m others =
      apart_by operands_number (λ names. operand_row names row) (λ names. operand_row names others) _ refl refl

  branches_in_row-Decides : (n : _) (row : Row_of-Branch n) (m : _) (others : Row_of-Branch m)
      → Decides (pointwise branch_equal (items-the_row-Branch n row) (items-the_row-Branch m others))
      ((names : List Name) → branch_row names row ≡ branch_row names others)
  branches_in_row-Decides n end_of-Branch m end_of-Branch = (λ reported names. refl, λ same. refl)
  branches_in_row-Decides n (more_of-Branch pattern value row) m (more_of-Branch other_pattern other_value others) =
      decided refl
      (Decides-and _ _
      (Decides-at _ _ (branch_is _ _)
      (Decides-and _ _ (pattern_equal-Decides pattern other_pattern) (expr_equal-Decides value other_value)))
      (branches_in_row-Decides _ row _ others))
      (λ same names i. NextBranch (same.0.0 names i) (same.0.1 names i) (same.1 names i))
      (λ same. ((λ names. cc (same names), λ names. cc (same names)), λ names. cc (same names)))
  branches_in_row-Decides n row m others =
      apart_by branches_number (λ names. branch_row names row) (λ names. branch_row names others) _ refl refl

-- lists of expressions
pub exprs_equal-Decides : (ones others : List Expr) → Decides (pointwise expr_impl.ghosts.eq ones others)
    ((names : List Name) → expr_trees names ones ≡ expr_trees names others)
exprs_equal-Decides [] [] = (λ reported names. refl, λ same. refl)
exprs_equal-Decides (one ∷ ones) (other ∷ others) =
    decided refl (Decides-and _ _ (expr_equal-Decides one other) (exprs_equal-Decides ones others))
    (λ same names i. NextExpr (same.0 names i) (same.1 names i))
    (λ same. (λ names. cc (same names), λ names. cc (same names)))
exprs_equal-Decides ones others =
    apart_by exprs_number (λ names. expr_trees names ones) (λ names. expr_trees names others) _ refl refl

-- lists of expressions that are shared one by one
pub shared_equal-Decides : (ones others : List (Arc Expr Global))
    → Decides (pointwise (λ (one other : Arc Expr Global). expr_impl.ghosts.eq one.value other.value) ones others)
    ((names : List Name) → shared_expr_trees names ones ≡ shared_expr_trees names others)
shared_equal-Decides [] [] = (λ reported names. refl, λ same. refl)
shared_equal-Decides (one ∷ ones) (other ∷ others) =
    decided refl (Decides-and _ _ (expr_equal-Decides one.value other.value) (shared_equal-Decides ones others))
    (λ same names i. NextExpr (same.0 names i) (same.1 names i))
    (λ same. (λ names. cc (same names), λ names. cc (same names)))
shared_equal-Decides ones others =
    apart_by exprs_number (λ names. shared_expr_trees names ones) (λ names. shared_expr_trees names others) _ refl refl
