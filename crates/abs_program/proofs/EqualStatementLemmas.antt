-- The derived comparison of statements is true exactly where their trees are the same whatever names the symbols have.
--
--   `mode_equal-Decides`, `target_equal-Decides`       where a new object lives, where a value goes
--   `side_equal-Decides`, `maybe_side_equal-Decides`   right sides
--   `tests_equal-Decides`                              guards
--   `statement_equal-Decides`                          statements
--   `statements_equal-Decides`                         lists of statements
use Rattle.std.proofs.Common.{◌≡◌, ℕ, nat_eq, false, eqb, List, [], ◌∷◌, Option, Some, None, Decides, refl, ap}
use Rattle.std.proofs.lemmas.Bool.Decides.{Decides-and, Decides-at, Decides-eqb}
use Rattle.std.specs.Cmp.{booleans_Decides}
use Rattle.std.specs.Cmp.Lexicographic.{pointwise}
use Rattle.std.specs.Option.{option_eq}
use Rattle.std.specs.declared.alloc.Global.{Global}
use Rattle.std.specs.declared.vec.Vec.{Vec}
use Rattle.abs_tree.specs.Syntax.{Name, SideTree, NewOf, ValueOf, SendOf, GetOf, CallOf, Tests, NoTest, NextTest, TargetTree, ToVariable, ToField, MaybeSide, NoSide, SomeSide, Statement, BlockOf, SkipOf, SuspendOf, AwaitOf, ReturnOf, PrintOf, IfOf, WhileOf, DeclareOf, AssignOf, DoOf, MaybeStatements, NoElse, Else, Statements, NoStatement, NextStatement}
use Rattle.abs_tree.specs.SyntaxViews.{side_tree, maybe_side, tests, target_tree, statement, statement_row, else_held, statements}
use Rattle.abs_tree.specs.contracts.syntax.statement.ModePartialEq.TheImpl as mode_impl
use Rattle.abs_tree.specs.contracts.syntax.statement.RightSidePartialEq.TheImpl as side_impl
use Rattle.abs_tree.specs.contracts.syntax.statement.TargetPartialEq.TheImpl as target_impl
use Rattle.abs_tree.specs.contracts.syntax.statement.TestPartialEq.TheImpl as test_impl
use Rattle.abs_tree.specs.contracts.syntax.statement.StmtPartialEq.TheImpl as stmt_impl
use Rattle.abs_tree.specs.contracts.syntax.statement.StmtPartialEq.TheImpl.Laws as stmt_laws
use Rattle.abs_tree.specs.declared.syntax.statement.Mode.{Mode}
use Rattle.abs_tree.specs.declared.syntax.statement.Mode.TheVariants as mode
use Rattle.abs_tree.specs.declared.syntax.statement.RightSide.{RightSide}
use Rattle.abs_tree.specs.declared.syntax.statement.RightSide.TheVariants as side
use Rattle.abs_tree.specs.declared.syntax.statement.Target.{Target}
use Rattle.abs_tree.specs.declared.syntax.statement.Target.TheVariants as target
use Rattle.abs_tree.specs.declared.syntax.statement.Test.{Test}
use Rattle.abs_tree.specs.declared.syntax.statement.Stmt as code
use Rattle.abs_tree.specs.declared.syntax.statement.Stmt.{Stmt, out-Stmt, Row_of-Stmt, end_of-Stmt, more_of-Stmt, items-the_row-Stmt, items_shown-the_row-Stmt-0, Held-Stmt-If-4, view-Stmt-If-4}
use Rattle.abs_program.proofs.EqualExprLemmas.{expr_equal-Decides, exprs_equal-Decides}
use Rattle.abs_program.proofs.EqualNameLemmas.{apart_by, decided, decided_items, place_equal-Decides, symbol_equal-Decides, variable_equal-Decides}
use Rattle.abs_program.proofs.EqualTypeLemmas.{type_equal-Decides}
use denote.Hole.Carrier.{out}

-- a number for each way to make an object
abbrev mode_number : Mode → ℕ
mode_number mode.Plain = 0
mode_number mode.Cog = 1
mode_number (mode.Local place) = 2

-- where a new object lives
pub mode_equal-Decides : (one other : Mode) → Decides (mode_impl.ghosts.eq one other) (one ≡ other)
mode_equal-Decides mode.Plain mode.Plain = (λ reported. refl, λ same. refl)
mode_equal-Decides mode.Cog mode.Cog = (λ reported. refl, λ same. refl)
mode_equal-Decides (mode.Local place) (mode.Local other) =
    decided refl (place_equal-Decides place other) (λ same. ap mode.Local same) (λ same. cc)
mode_equal-Decides one other =
    decided refl (apart_by mode_number (λ names. one) (λ names. other) false refl refl) (λ same. same [])
    (λ same names. same)

-- a number for each constructor of a target, a right side, and a guard
abbrev target_number : TargetTree → ℕ
target_number (ToVariable place variable) = 0
target_number (ToField place name_place name) = 1

abbrev side_number : SideTree → ℕ
side_number (NewOf place mode class_place class arguments) = 0
side_number (ValueOf place value) = 1
side_number (SendOf place method operands) = 2
side_number (GetOf place get_place future) = 3
side_number (CallOf place method operands slot) = 4

abbrev maybe_side_number : MaybeSide → ℕ
maybe_side_number NoSide = 0
maybe_side_number (SomeSide side) = 1

abbrev tests_number : Tests → ℕ
tests_number NoTest = 0
tests_number (NextTest place value asks others) = 1

-- where a value goes
pub target_equal-Decides : (one other : Target) → Decides (target_impl.ghosts.eq one other)
    ((names : List Name) → target_tree names one ≡ target_tree names other)
target_equal-Decides (target.Variable place variable) (target.Variable other_place other_variable) =
    decided refl
    (Decides-and _ _ (place_equal-Decides place other_place) (variable_equal-Decides variable other_variable))
    (λ same names i. ToVariable (same.0 i) (same.1 names i))
    (λ same. (cc (same []), λ names. cc (same names)))
target_equal-Decides (target.Field place name_place symbol) (target.Field other_place other_name_place other_symbol) =
    decided refl
    (Decides-and _ _ (place_equal-Decides place other_place)
    (Decides-and _ _ (place_equal-Decides name_place other_name_place) (symbol_equal-Decides symbol other_symbol)))
    (λ same names i. ToField (same.0 i) (same.1.0 i) (same.1.1 names i))
    (λ same. (cc (same []), (cc (same []), λ names. cc (same names))))
target_equal-Decides one other =
    apart_by target_number (λ names. target_tree names one) (λ names. target_tree names other) _ refl refl

-- the slot of the result of a call
slot_equal-Decides : (one other : Option ℕ) → Decides (option_eq nat_eq one other) (one ≡ other)
slot_equal-Decides None None = (λ reported. refl, λ same. refl)
slot_equal-Decides None (Some other) = (λ reported. absurd (cc), λ same. absurd (cc))
slot_equal-Decides (Some one) None = (λ reported. absurd (cc), λ same. absurd (cc))
slot_equal-Decides (Some one) (Some other) =
    decided refl (Decides-eqb one other) (λ same. ap Some same) (λ same. cc)

-- right sides
pub side_equal-Decides : (one other : RightSide) → Decides (side_impl.ghosts.eq one other)
    ((names : List Name) → side_tree names one ≡ side_tree names other)
side_equal-Decides (side.New place mode class_place class arguments)
    (side.New other_place other_mode other_class_place other_class others) =
    decided refl
    (Decides-and _ _ (place_equal-Decides place other_place)
    (Decides-and _ _ (mode_equal-Decides mode other_mode)
    (Decides-and _ _ (place_equal-Decides class_place other_class_place)
    (Decides-and _ _ (symbol_equal-Decides class other_class)
    (exprs_equal-Decides arguments.value.items others.value.items)))))
    (λ same names i. NewOf (same.0 i) (same.1.0 i) (same.1.1.0 i) (same.1.1.1.0 names i) (same.1.1.1.1 names i))
    (λ same. (cc (same []), (cc (same []), (cc (same []), (λ names. cc (same names), λ names. cc (same names))))))
side_equal-Decides (side.Value place value) (side.Value other_place other_value) =
    decided refl
    (Decides-and _ _ (place_equal-Decides place other_place) (expr_equal-Decides value.value other_value.value))
    (λ same names i. ValueOf (same.0 i) (same.1 names i))
    (λ same. (cc (same []), λ names. cc (same names)))
side_equal-Decides (side.Send place method operands) (side.Send other_place other_method others) =
    decided refl
    (Decides-and _ _ (place_equal-Decides place other_place)
    (Decides-and _ _ (symbol_equal-Decides method other_method)
    (exprs_equal-Decides operands.value.items others.value.items)))
    (λ same names i. SendOf (same.0 i) (same.1.0 names i) (same.1.1 names i))
    (λ same. (cc (same []), (λ names. cc (same names), λ names. cc (same names))))
side_equal-Decides (side.Get place get_place future) (side.Get other_place other_get_place other_future) =
    decided refl
    (Decides-and _ _ (place_equal-Decides place other_place)
    (Decides-and _ _ (place_equal-Decides get_place other_get_place)
    (expr_equal-Decides future.value other_future.value)))
    (λ same names i. GetOf (same.0 i) (same.1.0 i) (same.1.1 names i))
    (λ same. (cc (same []), (cc (same []), λ names. cc (same names))))
side_equal-Decides (side.Call place method operands slot) (side.Call other_place other_method others other_slot) =
    decided refl
    (Decides-and _ _ (place_equal-Decides place other_place)
    (Decides-and _ _ (symbol_equal-Decides method other_method)
    (Decides-and _ _ (exprs_equal-Decides operands.value.items others.value.items)
    (slot_equal-Decides slot other_slot))))
    (λ same names i. CallOf (same.0 i) (same.1.0 names i) (same.1.1.0 names i) (same.1.1.1 i))
    (λ same. (cc (same []), (λ names. cc (same names), (λ names. cc (same names), cc (same [])))))
side_equal-Decides one other =
    apart_by side_number (λ names. side_tree names one) (λ names. side_tree names other) _ refl refl

-- right sides that may be missing
pub maybe_side_equal-Decides : (one other : Option RightSide) → Decides (option_eq side_impl.ghosts.eq one other)
    ((names : List Name) → maybe_side names one ≡ maybe_side names other)
maybe_side_equal-Decides None None = (λ reported names. refl, λ same. refl)
maybe_side_equal-Decides (Some one) (Some other) =
    decided refl (side_equal-Decides one other) (λ same names i. SomeSide (same names i)) (λ same names. cc (same names))
maybe_side_equal-Decides one other =
    apart_by maybe_side_number (λ names. maybe_side names one) (λ names. maybe_side names other) _ refl refl

-- guards
pub tests_equal-Decides : (ones others : List Test) → Decides (pointwise test_impl.ghosts.eq ones others)
    ((names : List Name) → tests names ones ≡ tests names others)
tests_equal-Decides [] [] = (λ reported names. refl, λ same. refl)
tests_equal-Decides (one ∷ ones) (other ∷ others) =
    decided refl
    (Decides-and _ _
    (Decides-and _ _ (place_equal-Decides one.place other.place)
    (Decides-and _ _ (expr_equal-Decides one.value.value other.value.value) (booleans_Decides one.asks other.asks)))
    (tests_equal-Decides ones others))
    (λ same names i. NextTest (same.0.0 i) (same.0.1.0 names i) (same.0.1.1 i) (same.1 names i))
    (λ same. ((cc (same []), (λ names. cc (same names), cc (same []))), λ names. cc (same names)))
tests_equal-Decides ones others =
    apart_by tests_number (λ names. tests names ones) (λ names. tests names others) _ refl refl

-- a number for each constructor of a statement, and of the lists in one
abbrev statement_number : Statement → ℕ
statement_number (BlockOf place block) = 0
statement_number (SkipOf index place) = 1
statement_number (SuspendOf index place) = 2
statement_number (AwaitOf index place guard) = 3
statement_number (ReturnOf index place value) = 4
statement_number (PrintOf index place value) = 5
statement_number (IfOf index place condition first second) = 6
statement_number (WhileOf index place condition body) = 7
statement_number (DeclareOf index place type variable_place variable initial) = 8
statement_number (AssignOf index place target side) = 9
statement_number (DoOf index place side) = 10

abbrev statements_number : Statements → ℕ
statements_number NoStatement = 0
statements_number (NextStatement first others) = 1

abbrev else_number : MaybeStatements → ℕ
else_number NoElse = 0
else_number (Else branch) = 1

-- statements of different constructors
statements_apart : (one other : Stmt) → stmt_laws.unfolded one other ≡ false
    → eqb (statement_number (statement [] one)) (statement_number (statement [] other)) ≡ false
    → Decides (stmt_impl.ghosts.eq one other) ((names : List Name) → statement names one ≡ statement names other)
statements_apart one other is_false apart =
    Decides-at _ _ (stmt_laws.is one other)
    (apart_by statement_number (λ names. statement names one) (λ names. statement names other) _ is_false apart)

-- statements
mutual
  unfolding out-Stmt out

  pub statement_equal-Decides : (one other : Stmt) → Decides (stmt_impl.ghosts.eq one other)
      ((names : List Name) → statement names one ≡ statement names other)
  statement_equal-Decides (code.Block' place shape row) (code.Block' other_place other_shape others) =
      decided (stmt_laws.is _ _)
      (Decides-and _ _ (place_equal-Decides place other_place) (decided_items stmt_impl.ghosts.eq
      (items_shown-the_row-Stmt-0 shape row) (items_shown-the_row-Stmt-0 other_shape others)
      (statements_in_row-Decides _ row _ others)))
      (λ same names i. BlockOf (same.0 i) (same.1 names i))
      (λ same. (cc (same []), λ names. cc (same names)))
  statement_equal-Decides (code.Skip index place) (code.Skip other_index other_place) =
      decided (stmt_laws.is _ _)
      (Decides-and _ _ (Decides-eqb index other_index) (place_equal-Decides place other_place))
      (λ same names i. SkipOf (same.0 i) (same.1 i))
      (λ same. (cc (same []), cc (same [])))
  statement_equal-Decides (code.Suspend index place) (code.Suspend other_index other_place) =
      decided (stmt_laws.is _ _)
      (Decides-and _ _ (Decides-eqb index other_index) (place_equal-Decides place other_place))
      (λ same names i. SuspendOf (same.0 i) (same.1 i))
      (λ same. (cc (same []), cc (same [])))
  statement_equal-Decides (code.Await index place guard) (code.Await other_index other_place other_guard) =
      decided (stmt_laws.is _ _)
      (Decides-and _ _ (Decides-eqb index other_index)
      (Decides-and _ _ (place_equal-Decides place other_place) (tests_equal-Decides guard.items other_guard.items)))
      (λ same names i. AwaitOf (same.0 i) (same.1.0 i) (same.1.1 names i))
      (λ same. (cc (same []), (cc (same []), λ names. cc (same names))))
  statement_equal-Decides (code.Return index place value) (code.Return other_index other_place other_value) =
      decided (stmt_laws.is _ _)
      (Decides-and _ _ (Decides-eqb index other_index)
      (Decides-and _ _ (place_equal-Decides place other_place) (expr_equal-Decides value.value other_value.value)))
      (λ same names i. ReturnOf (same.0 i) (same.1.0 i) (same.1.1 names i))
      (λ same. (cc (same []), (cc (same []), λ names. cc (same names))))
  statement_equal-Decides (code.Print index place value) (code.Print other_index other_place other_value) =
      decided (stmt_laws.is _ _)
      (Decides-and _ _ (Decides-eqb index other_index)
      (Decides-and _ _ (place_equal-Decides place other_place) (expr_equal-Decides value.value other_value.value)))
      (λ same names i. PrintOf (same.0 i) (same.1.0 i) (same.1.1 names i))
      (λ same. (cc (same []), (cc (same []), λ names. cc (same names))))
  statement_equal-Decides (code.If' index place condition shape first second)
      (code.If' other_index other_place other_condition other_shape other_first other_second) =
      decided (stmt_laws.is _ _)
      (Decides-and _ _ (Decides-eqb index other_index)
      (Decides-and _ _ (place_equal-Decides place other_place)
      (Decides-and _ _ (expr_equal-Decides condition.value other_condition.value)
      (Decides-and _ _ (decided_items stmt_impl.ghosts.eq (items_shown-the_row-Stmt-0 shape first)
      (items_shown-the_row-Stmt-0 other_shape other_first) (statements_in_row-Decides _ first _ other_first))
      (else_in_held-Decides second other_second)))))
      (λ same names i. IfOf (same.0 i) (same.1.0 i) (same.1.1.0 names i) (same.1.1.1.0 names i)
      (same.1.1.1.1 names i))
      (λ same. (
        cc (same []),
        (cc (same []), (λ names. cc (same names), (λ names. cc (same names), λ names. cc (same names)))),
      ))
  statement_equal-Decides (code.While' index place condition shape body)
      (code.While' other_index other_place other_condition other_shape other_body) =
      decided (stmt_laws.is _ _)
      (Decides-and _ _ (Decides-eqb index other_index)
      (Decides-and _ _ (place_equal-Decides place other_place)
      (Decides-and _ _ (expr_equal-Decides condition.value other_condition.value) (decided_items stmt_impl.ghosts.eq
      (items_shown-the_row-Stmt-0 shape body) (items_shown-the_row-Stmt-0 other_shape other_body)
      (statements_in_row-Decides _ body _ other_body)))))
      (λ same names i. WhileOf (same.0 i) (same.1.0 i) (same.1.1.0 names i) (same.1.1.1 names i))
      (λ same. (cc (same []), (cc (same []), (λ names. cc (same names), λ names. cc (same names)))))
  statement_equal-Decides (code.Declare index place type variable_place variable initial)
      (code.Declare other_index other_place other_type other_variable_place other_variable other_initial) =
      decided (stmt_laws.is _ _)
      (Decides-and _ _ (Decides-eqb index other_index)
      (Decides-and _ _ (place_equal-Decides place other_place)
      (Decides-and _ _ (type_equal-Decides type other_type)
      (Decides-and _ _ (place_equal-Decides variable_place other_variable_place)
      (Decides-and _ _ (variable_equal-Decides variable other_variable)
      (maybe_side_equal-Decides initial other_initial))))))
      (λ same names i. DeclareOf (same.0 i) (same.1.0 i) (same.1.1.0 names i) (same.1.1.1.0 i)
      (same.1.1.1.1.0 names i) (same.1.1.1.1.1 names i))
      (λ same. (
        cc (same []),
        (
          cc (same []),
          (λ names. cc (same names), (cc (same []), (λ names. cc (same names), λ names. cc (same names)))),
        ),
      ))
  statement_equal-Decides (code.Assign index place target rhs)
      (code.Assign other_index other_place other_target other_rhs) =
      decided (stmt_laws.is _ _)
      (Decides-and _ _ (Decides-eqb index other_index)
      (Decides-and _ _ (place_equal-Decides place other_place)
      (Decides-and _ _ (target_equal-Decides target other_target) (side_equal-Decides rhs other_rhs))))
      (λ same names i. AssignOf (same.0 i) (same.1.0 i) (same.1.1.0 names i) (same.1.1.1 names i))
      (λ same. (cc (same []), (cc (same []), (λ names. cc (same names), λ names. cc (same names)))))
  statement_equal-Decides (code.Do index place rhs) (code.Do other_index other_place other_rhs) =
      decided (stmt_laws.is _ _)
      (Decides-and _ _ (Decides-eqb index other_index)
      (Decides-and _ _ (place_equal-Decides place other_place) (side_equal-Decides rhs other_rhs)))
      (λ same names i. DoOf (same.0 i) (same.1.0 i) (same.1.1 names i))
      (λ same. (cc (same []), (cc (same []), λ names. cc (same names))))
  statement_equal-Decides one other = statements_apart one other refl refl

  statements_in_row-Decides : (n : _) (row : Row_of-Stmt n) (m : _) (others : Row_of-Stmt m)
      → Decides (pointwise stmt_impl.ghosts.eq (items-the_row-Stmt n row) (items-the_row-Stmt m others))
      ((names : List Name) → statement_row names row ≡ statement_row names others)
  statements_in_row-Decides n end_of-Stmt m end_of-Stmt = (λ reported names. refl, λ same. refl)
  statements_in_row-Decides n (more_of-Stmt one row) m (more_of-Stmt other others) =
      decided refl (Decides-and _ _ (statement_equal-Decides one other) (statements_in_row-Decides _ row _ others))
      (λ same names i. NextStatement (same.0 names i) (same.1 names i))
      (λ same. (λ names. cc (same names), λ names. cc (same names)))
  statements_in_row-Decides n row m others =
      apart_by statements_number (λ names. statement_row names row) (λ names. statement_row names others) _ refl refl

  else_in_held-Decides : (one other : Held-Stmt-If-4)
      → Decides (option_eq (λ (ones others : Vec Stmt Global). pointwise stmt_impl.ghosts.eq ones.items others.items)
      (view-Stmt-If-4 one) (view-Stmt-If-4 other))
      ((names : List Name) → else_held names one ≡ else_held names other)
  else_in_held-Decides code.None' code.None' = (λ reported names. refl, λ same. refl)
  else_in_held-Decides (code.Some' shape row) (code.Some' other_shape others) =
      decided refl (decided_items stmt_impl.ghosts.eq (items_shown-the_row-Stmt-0 shape row)
      (items_shown-the_row-Stmt-0 other_shape others) (statements_in_row-Decides _ row _ others))
      (λ same names i. Else (same names i))
      (λ same names. cc (same names))
  else_in_held-Decides one other =
      apart_by else_number (λ names. else_held names one) (λ names. else_held names other) _ refl refl

-- lists of statements
pub statements_equal-Decides : (ones others : List Stmt) → Decides (pointwise stmt_impl.ghosts.eq ones others)
    ((names : List Name) → statements names ones ≡ statements names others)
statements_equal-Decides [] [] = (λ reported names. refl, λ same. refl)
statements_equal-Decides (one ∷ ones) (other ∷ others) =
    decided refl (Decides-and _ _ (statement_equal-Decides one other) (statements_equal-Decides ones others))
    (λ same names i. NextStatement (same.0 names i) (same.1 names i))
    (λ same. (λ names. cc (same names), λ names. cc (same names)))
statements_equal-Decides ones others =
    apart_by statements_number (λ names. statements names ones) (λ names. statements names others) _ refl refl
