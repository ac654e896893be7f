-- What a checker of expressions knows, as contracts see it. These words serve contracts of this crate alone; what has a
-- type, and what offends, is defined in abs_types.
--
--   `Context`                      the program, what is around an expression, and the types of bound variables
--   `context_in`, `Knows`          that of a checker
--   `with_bound`, `with_frame`     a context with more bound variables, or with another frame
--   `with_slots`                   a context with other slots
--   `Found`, `Finds`               an index that is found, or none, stands for a type, or for none
--   `FoundAll`, `FindsAll`         the same of several indices
--   `FindsScheme`, ..              what functions and constructors take and give
--   `IsFrameOf`                    indices and a name stand for what is around an expression
--   `Stays`                        a checker knows the same, and each index stands for what it stood for
--   `Noted`                        offences were noted
--   `operators_of`                 operators with the types of their right operands
--   `typed`, `offends`, ..         the type and the offences of an expression, and of several, from memory
use Rattle.std.specs.Prelude.{◌≡◌, List, [], ◌∷◌, ◌++◌, fold, map, All, Option, option_map, IfSome}
use Rattle.std.specs.List.{range_with_len}
use Rattle.std.specs.declared.alloc.Global.{Global}
use Rattle.std.specs.declared.vec.Vec.{Vec}
use Rattle.abs_tree.specs.Names.{name_of}
use Rattle.abs_tree.specs.Offences.{earlier}
use Rattle.abs_tree.specs.Syntax.{Name, DeclTree}
use Rattle.abs_tree.specs.SyntaxViews.{expr_tree, expr_trees, operand_trees, branches as branch_trees}
use Rattle.abs_tree.specs.declared.refusal.Offence.{Offence}
use Rattle.abs_tree.specs.declared.symbol.Symbol.{Symbol}
use Rattle.abs_tree.specs.declared.syntax.expression.Branch.{Branch}
use Rattle.abs_tree.specs.declared.syntax.expression.Expr.{Expr}
use Rattle.abs_tree.specs.declared.syntax.expression.Operand.{Operand}
use Rattle.abs_tree.specs.declared.syntax.expression.Operator.{Operator}
use Rattle.abs_types.specs.ExpressionOffences.{expr_offences, exprs_offences, operands_offences, branches_offences}
use Rattle.abs_types.specs.PlainTypes.{PlainType, PlainData, PlainParameter, applied_to}
use Rattle.abs_types.specs.Schemes.{Scheme}
use Rattle.abs_types.specs.TypeShapes.{type_at, types_at, IsAmong}
use Rattle.abs_types.specs.TypeTables.{declarations_of, types_in, Keeps}
use Rattle.abs_types.specs.Typing.{Frame, type_in, types_in as all_types_in, operands_in, branches_in}
use Rattle.abs_types.specs.declared.table.shape.TypeIndex.{TypeIndex}
use Rattle.check_fun.specs.declared.checker.Checker.{Checker}
use Rattle.check_fun.specs.declared.schemes.ConstructorTakes.{ConstructorTakes}
use Rattle.check_fun.specs.declared.schemes.TypeScheme.{TypeScheme}

-- What is known where an expression is: the names and the declarations of the program, what is around the expression,
-- and the types of the variables of patterns and of `let` that are visible.
pub record Context : Type 0 where
  pub names : List Name
  pub declarations : List DeclTree
  pub frame : Frame
  pub bound : List (Option PlainType)

-- the types for which indices stand, some of which are missing
abbrev pub types_known : List PlainType → List (Option TypeIndex) → List (Option PlainType)
types_known types indices = map (option_map (type_at types)) indices

-- what a checker knows
unfoldable pub context_in : Checker → Context
context_in checker = record {
  names = checker.table.program.now.symbols;
  declarations = declarations_of checker.table;
  frame = record {
    slots = types_known (types_in checker.table) checker.slots.items;
    fields = types_at (types_in checker.table) checker.fields.items;
    this = option_map (name_of checker.table.program.now.symbols) checker.this;
    task = option_map (type_at (types_in checker.table)) checker.task;
  };
  bound = types_known (types_in checker.table) checker.bound.items;
}

pub record Knows (checker : Checker) (context : Context) : Type 0 where
  pub is : context_in checker ≡ context

-- a context with more bound variables
abbrev pub with_bound : Context → List (Option PlainType) → Context
with_bound context types = record context { bound = context.bound ++ types }

-- a context with another frame, and without bound variables
abbrev pub with_frame : Context → Frame → Context
with_frame context frame = record context { frame = frame; bound = [] }

-- a context with other slots
abbrev pub with_slots : Context → List (Option PlainType) → Context
with_slots context slots = record context { frame = record context.frame { slots = slots } }

-- An index that is found is that of a type of the table.
pub record Found (checker : Checker) (found : Option TypeIndex) : Type 0 where
  pub among : IfSome found (IsAmong (types_in checker.table))

-- An index that is found stands for a type; if none is found, there is no type.
pub record Finds (checker : Checker) (found : Option TypeIndex) (type : Option PlainType) : Type 0 where
  pub found_is : Found checker found
  pub is : option_map (type_at (types_in checker.table)) found ≡ type

-- Indices that are found are those of types of the table.
pub record FoundAll (checker : Checker) (found : Option (List TypeIndex)) : Type 0 where
  pub among : IfSome found (All (IsAmong (types_in checker.table)))

pub record FindsAll (checker : Checker) (found : Option (List TypeIndex)) (types : Option (List PlainType)) : Type 0
  where
    pub found_are : FoundAll checker found
    pub are : option_map (types_at (types_in checker.table)) found ≡ types

-- the items of a vector that is found
abbrev pub items_of : Option (Vec TypeIndex Global) → Option (List TypeIndex)
items_of found = option_map (λ (one : Vec TypeIndex Global). one.items) found

-- the scheme for which types of the table stand
abbrev pub scheme_at : List PlainType → TypeScheme → Scheme
scheme_at types scheme = record {
  parameters = scheme.parameters;
  takes = types_at types scheme.takes.items;
  gives = type_at types scheme.gives;
}

-- A scheme that is found has types of the table, and stands for a scheme; if none is found, there is none.
pub record FindsScheme (checker : Checker) (found : Option TypeScheme) (scheme : Option Scheme) : Type 0 where
  pub among : IfSome found (λ (one : TypeScheme). All (IsAmong (types_in checker.table)) one.takes.items
      × IsAmong (types_in checker.table) one.gives)
  pub is : option_map (scheme_at (types_in checker.table)) found ≡ scheme

-- the scheme of a constructor that takes these types
abbrev pub built_at : List Name → List PlainType → ConstructorTakes → Scheme
built_at names types found = record {
  parameters = found.parameters;
  takes = types_at types found.takes.items;
  gives = applied_to (PlainData (name_of names found.owner)) (map PlainParameter (range_with_len 0 found.parameters));
}

-- What a constructor takes is of the table, and it has this scheme; if none is found, there is none.
pub record FindsConstructor (checker : Checker) (context : Context) (found : Option ConstructorTakes)
    (scheme : Option Scheme) : Type 0 where
  pub among : IfSome found (λ (one : ConstructorTakes). All (IsAmong (types_in checker.table)) one.takes.items)
  pub is : option_map (built_at context.names (types_in checker.table)) found ≡ scheme

-- The indices of types and the number of a name stand for what is around an expression.
pub record IsFrameOf (checker : Checker) (slots : List (Option TypeIndex)) (fields : List TypeIndex)
    (this : Option Symbol) (task : Option TypeIndex) (frame : Frame) : Type 0 where
  pub slots_are : types_known (types_in checker.table) slots ≡ frame.slots
  pub fields_are : types_at (types_in checker.table) fields ≡ frame.fields
  pub this_is : option_map (name_of checker.table.program.now.symbols) this ≡ frame.this
  pub task_is : option_map (type_at (types_in checker.table)) task ≡ frame.task

-- A checker knows what it knew, and each index stands for what it stood for.
pub record Stays (before now : Checker) : Type 0 where
  pub context_is : context_in now ≡ context_in before
  pub keeps : Keeps before.table now.table

-- The first offence is the first one of those before and of these.
pub record Noted (before : Option Offence) (offences : List Offence) (now : Option Offence) : Type 0 where
  pub is : now ≡ fold earlier before offences

-- operators with the types of their right operands
abbrev pub operators_of : List Operand → List PlainType → List (Operator × PlainType)
operators_of [] types = []
operators_of (one ∷ operands) [] = []
operators_of (one ∷ operands) (type ∷ types) = (one.operator, type) ∷ operators_of operands types

-- the type of an expression from memory, and those of several
abbrev pub typed : Context → Expr → Option PlainType
typed context expr = type_in context.declarations context.frame context.bound (expr_tree context.names expr)

abbrev pub all_typed : Context → List Expr → Option (List PlainType)
all_typed context exprs = all_types_in context.declarations context.frame context.bound (expr_trees context.names exprs)

abbrev pub operands_typed : Context → List Operand → Option (List (Operator × PlainType))
operands_typed context operands =
    operands_in context.declarations context.frame context.bound (operand_trees context.names operands)

abbrev pub branches_typed : Context → Option PlainType → List Branch → Option (List PlainType)
branches_typed context subject branches =
    branches_in context.declarations context.frame context.bound subject (branch_trees context.names branches)

-- their offences
abbrev pub offends : Context → Expr → List Offence
offends context expr = expr_offences context.declarations context.frame context.bound (expr_tree context.names expr)

abbrev pub all_offend : Context → List Expr → List Offence
all_offend context exprs =
    exprs_offences context.declarations context.frame context.bound (expr_trees context.names exprs)

abbrev pub operands_offend : Context → List Operand → List Offence
operands_offend context operands =
    operands_offences context.declarations context.frame context.bound (operand_trees context.names operands)

abbrev pub branches_offend : Context → Option PlainType → List Branch → List Offence
branches_offend context subject branches =
    branches_offences context.declarations context.frame context.bound subject (branch_trees context.names branches)
