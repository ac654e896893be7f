-- An expression that has a type has the same one where more slots are visible.
--
--   `AtLeast`              a type that may be missing is missing, or it is the other one
--   `type_stays`           an expression keeps its type in a wider frame
use Rattle.std.proofs.Common.{◌≡◌, Bool, true, false, List, ◌++◌, ◌∷◌, [], Some, None, Option, refl, sym, ap, subst, option_map, if◌then◌else◌}
use Rattle.std.specs.Prelude.{option_and_then}
use Rattle.std.proofs.lemmas.Option.{none-some}
use Rattle.abs_tree.specs.Syntax.{VariableTree, Unresolved, AtSlot, AtBound, AtField, DeclTree, ExprTree, LetIn, IfElse, OperatorsOf, Prefixed, NumberOf, StringOf, NullOf, DestinyOf, ThisOf, FieldOf, OwnCallOf, VariableOf, ApplyOf, BuildOf, CaseOf, ExprTrees, NoExpr, NextExpr, Operands, NoOperands, NextOperand, Branches, NoBranch, NextBranch}
use Rattle.abs_tree.specs.declared.syntax.expression.Operator.{Operator}
use Rattle.abs_types.specs.OperatorTypes.{prefix_type}
use Rattle.abs_types.specs.PatternTypes.{pattern_fits, pattern_types}
use Rattle.abs_types.specs.PlainTypes.{PlainType, PlainClass, PlainFut, plain}
use Rattle.abs_types.specs.Schemes.{Scheme, scheme_of_function, scheme_of_constructor}
use Rattle.abs_types.specs.Typing.{application_type, both_operands, both_types, branches_in, case_type, if_type, let_type, operands_in, operators_type, type_in, types_in, variable_type, Frame}
use Rattle.abs_types.specs.MoreSlots.{SeesMore}

-- A type that may be missing is missing, or it is the other one.
data AtLeast {A : Type 0} : Option A → Option A → Type 0 where
  missing : {other : Option A} → AtLeast None other
  same : {one : Option A} → AtLeast one one

-- what is there is the other one
is_kept : {A : Type 0} {one other : Option A} {found : A} → AtLeast one other → one ≡ Some found → other ≡ Some found
is_kept {found = found} missing is = absurd (none-some found is)
is_kept same is = is

-- what is the other one is at least that
equal : {A : Type 0} {one other : Option A} → other ≡ one → AtLeast one other
equal {one = one} is = subst (AtLeast one) (sym is) same

-- what is the other one where it is there is at least that
grown : {A : Type 0} {other : Option A} (one : Option A) → ((found : A) → one ≡ Some found → other ≡ Some found)
    → AtLeast one other
grown None keeps = missing
grown (Some found) keeps = equal (keeps found refl)

-- what is made of a type that may be missing
made : {A B : Type 0} {one other : Option A} (of : A → Option B) → AtLeast one other
    → AtLeast (option_and_then of one) (option_and_then of other)
made of missing = missing
made of same = same

-- each typing rule needs all its parts
let_more : (declarations : List DeclTree) (type : PlainType) {value other body next : Option PlainType}
    → AtLeast value other → AtLeast body next
    → AtLeast (let_type declarations type value body) (let_type declarations type other next)
let_more declarations type missing bodies = missing
let_more declarations type {value = None} same missing = missing
let_more declarations type {value = Some found} same missing = missing
let_more declarations type same same = same

if_more : (declarations : List DeclTree) {condition test first one second two : Option PlainType}
    → AtLeast condition test → AtLeast first one → AtLeast second two
    → AtLeast (if_type declarations condition first second) (if_type declarations test one two)
if_more declarations missing firsts seconds = missing
if_more declarations {condition = None} same missing seconds = missing
if_more declarations {condition = Some given} same missing seconds = missing
if_more declarations {condition = None} same same missing = missing
if_more declarations {condition = Some given} {first = None} same same missing = missing
if_more declarations {condition = Some given} {first = Some found} same same missing = missing
if_more declarations same same same = same

operators_more : (declarations : List DeclTree) {first one : Option PlainType}
    {operands others : Option (List (Operator × PlainType))} → AtLeast first one → AtLeast operands others
    → AtLeast (operators_type declarations first operands) (operators_type declarations one others)
operators_more declarations missing operands = missing
operators_more declarations {first = None} same missing = missing
operators_more declarations {first = Some found} same missing = missing
operators_more declarations same same = same

application_more : (declarations : List DeclTree) (scheme : Option Scheme) {given other : Option (List PlainType)}
    → AtLeast given other → AtLeast (application_type declarations scheme given)
    (application_type declarations scheme other)
application_more declarations None missing = missing
application_more declarations (Some scheme) missing = missing
application_more declarations scheme same = same

case_more : (declarations : List DeclTree) (subject : Option PlainType) {types others : Option (List PlainType)}
    → AtLeast types others → AtLeast (case_type declarations subject types) (case_type declarations subject others)
case_more declarations None missing = missing
case_more declarations (Some found) missing = missing
case_more declarations subject same = same

both_more : {first one : Option PlainType} {types others : Option (List PlainType)} → AtLeast first one
    → AtLeast types others → AtLeast (both_types first types) (both_types one others)
both_more missing types = missing
both_more {first = None} same missing = missing
both_more {first = Some found} same missing = missing
both_more same same = same

operand_more : (operator : Operator) {first one : Option PlainType} {types others : Option (List (Operator × PlainType))}
    → AtLeast first one → AtLeast types others
    → AtLeast (both_operands operator first types) (both_operands operator one others)
operand_more operator missing types = missing
operand_more operator {first = None} same missing = missing
operand_more operator {first = Some found} same missing = missing
operand_more operator same same = same

branch_more : {value other : Option PlainType} (fits : Bool) → AtLeast value other
    → AtLeast (if fits then value else None) (if fits then other else None)
branch_more true values = values
branch_more false values = missing

-- a variable
variable_more : {frame wider : Frame} (bound : List (Option PlainType)) (variable : VariableTree) → SeesMore frame wider
    → AtLeast (variable_type frame bound variable) (variable_type wider bound variable)
variable_more {frame} bound (AtSlot slot) more = grown (variable_type frame bound (AtSlot slot)) (more.slots slot)
variable_more bound (AtBound depth) more = same
variable_more {frame} bound (AtField field) more =
    equal (ap (λ (fields : List PlainType). variable_type (record frame { fields = fields }) bound (AtField field)) more.fields)
variable_more bound (Unresolved name) more = missing

-- `case`, if its subject keeps its type
subject_more : (declarations : List DeclTree) (frame wider : Frame) (bound : List (Option PlainType)) (branches : Branches)
    {subject other : Option PlainType} → AtLeast subject other
    → ((known : Option PlainType) → AtLeast (branches_in declarations frame bound known branches)
    (branches_in declarations wider bound known branches))
    → AtLeast (case_type declarations subject (branches_in declarations frame bound subject branches))
    (case_type declarations other (branches_in declarations wider bound other branches))
subject_more declarations frame wider bound branches missing more = missing
subject_more declarations frame wider bound branches {subject = subject} same more = case_more declarations subject (more subject)

mutual
  -- an expression, and what it has in it
  more_typed : (declarations : List DeclTree) (frame wider : Frame) (bound : List (Option PlainType)) (expr_tree : ExprTree)
      → SeesMore frame wider
      → AtLeast (type_in declarations frame bound expr_tree) (type_in declarations wider bound expr_tree)
  more_typed declarations frame wider bound (LetIn place type variable_place variable value body) more =
      let_more declarations (plain type) (more_typed declarations frame wider bound value more)
      (more_typed declarations frame wider (bound ++ Some (plain type) ∷ []) body more)
  more_typed declarations frame wider bound (IfElse place condition first second) more =
      if_more declarations (more_typed declarations frame wider bound condition more)
      (more_typed declarations frame wider bound first more) (more_typed declarations frame wider bound second more)
  more_typed declarations frame wider bound (OperatorsOf place first operands) more =
      operators_more declarations (more_typed declarations frame wider bound first more)
      (operands_more declarations frame wider bound operands more)
  more_typed declarations frame wider bound (Prefixed place prefix operand) more =
      made (prefix_type declarations prefix) (more_typed declarations frame wider bound operand more)
  more_typed declarations frame wider bound (NumberOf place number) more = same
  more_typed declarations frame wider bound (StringOf place string) more = same
  more_typed declarations frame wider bound (NullOf place) more = same
  more_typed declarations frame wider bound (DestinyOf place) more = equal (ap (option_map PlainFut) more.task)
  more_typed declarations frame wider bound (ThisOf place) more = equal (ap (option_map PlainClass) more.this)
  more_typed declarations frame wider bound (VariableOf place variable) more = variable_more bound variable more
  more_typed declarations frame wider bound (ApplyOf place function arguments) more =
      application_more declarations (scheme_of_function declarations function)
      (all_more_typed declarations frame wider bound arguments more)
  more_typed declarations frame wider bound (BuildOf place constructor arguments) more =
      application_more declarations (scheme_of_constructor declarations constructor)
      (all_more_typed declarations frame wider bound arguments more)
  more_typed declarations frame wider bound (CaseOf place subject branches) more =
      subject_more declarations frame wider bound branches (more_typed declarations frame wider bound subject more)
      (λ known. branches_more declarations frame wider bound known branches more)
  more_typed declarations frame wider bound (OwnCallOf place method arguments) more = missing
  more_typed declarations frame wider bound (FieldOf place name_place name) more = missing

  all_more_typed : (declarations : List DeclTree) (frame wider : Frame) (bound : List (Option PlainType))
      (expr_trees : ExprTrees) → SeesMore frame wider
      → AtLeast (types_in declarations frame bound expr_trees) (types_in declarations wider bound expr_trees)
  all_more_typed declarations frame wider bound NoExpr more = same
  all_more_typed declarations frame wider bound (NextExpr first others) more =
      both_more (more_typed declarations frame wider bound first more)
      (all_more_typed declarations frame wider bound others more)

  operands_more : (declarations : List DeclTree) (frame wider : Frame) (bound : List (Option PlainType))
      (operands : Operands) → SeesMore frame wider
      → AtLeast (operands_in declarations frame bound operands) (operands_in declarations wider bound operands)
  operands_more declarations frame wider bound NoOperands more = same
  operands_more declarations frame wider bound (NextOperand operator right others) more =
      operand_more operator (more_typed declarations frame wider bound right more)
      (operands_more declarations frame wider bound others more)

  branches_more : (declarations : List DeclTree) (frame wider : Frame) (bound : List (Option PlainType))
      (subject : Option PlainType) (branches : Branches) → SeesMore frame wider
      → AtLeast (branches_in declarations frame bound subject branches)
      (branches_in declarations wider bound subject branches)
  branches_more declarations frame wider bound subject NoBranch more = same
  branches_more declarations frame wider bound subject (NextBranch pattern value others) more =
      both_more (branch_more (pattern_fits declarations subject pattern)
      (more_typed declarations frame wider (bound ++ pattern_types declarations subject pattern) value more))
      (branches_more declarations frame wider bound subject others more)

-- an expression keeps its type in a wider frame
pub type_stays : (declarations : List DeclTree) (frame wider : Frame) (bound : List (Option PlainType)) (expr_tree : ExprTree)
    (type : PlainType) → SeesMore frame wider → type_in declarations frame bound expr_tree ≡ Some type
    → type_in declarations wider bound expr_tree ≡ Some type
type_stays declarations frame wider bound expr_tree type more is =
    is_kept (more_typed declarations frame wider bound expr_tree more) is
