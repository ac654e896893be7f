-- The instructions of the code without their memory.
--
--   `exprs_tree`               the expressions of an instruction
--   `effect_tree`, `goes_tree`         its effect, and where control goes
--   `instruction_tree`         the instruction
--   `shared_expr_trees`        expressions that are shared one by one
--   `class_entry_tree`         what a new object of a class takes
use Rattle.std.specs.Prelude.{List, [], ◌∷◌, drop}
use Rattle.std.specs.Option.{option_map}
use Rattle.std.specs.declared.alloc.Global.{Global}
use Rattle.std.specs.declared.sync.Arc.{Arc}
use Rattle.abs_program.specs.Bodies.{ClassEntryTree}
use Rattle.abs_program.specs.Control.{Goes, Next, ByAnswer}
use Rattle.abs_program.specs.Instructions.{EffectTree, Skips, Suspends, Awaits, Chooses, Returns, Prints, Clears, Stores, Makes, Sends, CallsOwn, CallsOther, Gets, InstructionTree, one_expr}
use Rattle.abs_tree.specs.Names.{name_of}
use Rattle.abs_tree.specs.Syntax.{Name, ExprTrees, NoExpr, NextExpr}
use Rattle.abs_tree.specs.SyntaxViews.{variable_tree, expr_tree, expr_trees}
use Rattle.abs_tree.specs.declared.syntax.expression.Expr.{Expr}
use Rattle.abs_program.specs.declared.tables.control.ClassEntry.{ClassEntry}
use Rattle.abs_program.specs.declared.tables.control.Exprs.{Exprs}
use Rattle.abs_program.specs.declared.tables.control.Exprs.TheVariants as exprs
use Rattle.abs_program.specs.declared.tables.control.Effect.{Effect}
use Rattle.abs_program.specs.declared.tables.control.Effect.TheVariants as effect
use Rattle.abs_program.specs.declared.tables.control.Instruction.{Instruction}
use Rattle.abs_program.specs.declared.tables.control.Successor.{Successor}
use Rattle.abs_program.specs.declared.tables.control.Successor.TheVariants as successor

-- the expressions of an instruction
abbrev pub exprs_tree : List Name → Exprs → ExprTrees
exprs_tree names exprs.None = NoExpr
exprs_tree names (exprs.One expr) = one_expr (expr_tree names expr.value)
exprs_tree names (exprs.Several operands) = expr_trees names operands.value.items
exprs_tree names (exprs.Arguments operands) = expr_trees names (drop 1 operands.value.items)

-- the effect of an instruction
abbrev pub effect_tree : List Name → Effect → EffectTree
effect_tree names effect.Skip = Skips
effect_tree names effect.Suspend = Suspends
effect_tree names (effect.Await slots) = Awaits slots.items
effect_tree names effect.Choose = Chooses
effect_tree names effect.Return = Returns
effect_tree names effect.Print = Prints
effect_tree names (effect.Clear target) = Clears (variable_tree names target)
effect_tree names (effect.Store target) = Stores (option_map (variable_tree names) target)
effect_tree names (effect.Make mode class target) =
    Makes mode (name_of names class) (option_map (variable_tree names) target)
effect_tree names (effect.Send method target) = Sends (name_of names method) (option_map (variable_tree names) target)
effect_tree names (effect.CallOwn method target) =
    CallsOwn (name_of names method) (option_map (variable_tree names) target)
effect_tree names (effect.CallOther method slot target) =
    CallsOther (name_of names method) slot (option_map (variable_tree names) target)
effect_tree names (effect.Get slot target) = Gets slot (option_map (variable_tree names) target)

-- where control goes after an instruction
abbrev pub goes_tree : Successor → Goes
goes_tree (successor.Next index) = Next index
goes_tree (successor.ByAnswer when_true when_false) = ByAnswer when_true when_false

-- an instruction
abbrev pub instruction_tree : List Name → Instruction → InstructionTree
instruction_tree names instruction = record {
  place = instruction.place;
  expr_trees = exprs_tree names instruction.exprs;
  effect = effect_tree names instruction.effect;
  goes = goes_tree instruction.goes;
}

-- expressions that are shared one by one
abbrev pub shared_expr_trees : List Name → List (Arc Expr Global) → ExprTrees
shared_expr_trees names [] = NoExpr
shared_expr_trees names (expr ∷ others) = NextExpr (expr_tree names expr.value) (shared_expr_trees names others)

-- what a new object of a class takes
abbrev pub class_entry_tree : List Name → ClassEntry → ClassEntryTree
class_entry_tree names entry = record {
  params = entry.params;
  initials = shared_expr_trees names entry.initials.value.items;
  run = entry.run;
}
