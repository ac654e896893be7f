-- What the table of statements answers, as the code keeps it. It serves proofs only.
--
--   `instruction_at`, `method_in`, `class_in`      what the table has for a question
--   `IsControl`                                    a table is that of a program
use Rattle.std.specs.Prelude.{◌≡◌, ℕ, List, Option, slice_get, option_and_then}
use Rattle.std.specs.Option.{option_map}
use Rattle.std.specs.declared.alloc.Global.{Global}
use Rattle.std.specs.declared.vec.Vec.{Vec}
use Rattle.abs_program.specs.Bodies.{ClassEntryTree, main_entry, method_entry, class_entry}
use Rattle.abs_program.specs.InstructionViews.{instruction_tree, class_entry_tree}
use Rattle.abs_program.specs.Instructions.{InstructionTree, instructions}
use Rattle.abs_tree.specs.Syntax.{Name, SourceTree}
use Rattle.abs_program.specs.declared.tables.control.BodyEntry.{BodyEntry}
use Rattle.abs_program.specs.declared.tables.control.ClassEntry.{ClassEntry}
use Rattle.abs_program.specs.declared.tables.control.Control.{Control}

-- the instruction of the statement with an index
unfoldable pub instruction_at : List Name → Control → ℕ → Option InstructionTree
instruction_at names control index = option_map (instruction_tree names) (slice_get control.instructions.items index)

-- the body of the method at an index among the members of the class at an index
unfoldable pub method_in : List (Vec (Option BodyEntry) Global) → ℕ → ℕ → Option BodyEntry
method_in rows class member = option_and_then
    (λ (row : Vec (Option BodyEntry) Global). option_and_then (λ (entry : Option BodyEntry). entry)
    (slice_get row.items member)) (slice_get rows class)

-- what a new object of the class at an index takes
unfoldable pub class_in : List Name → List (Option ClassEntry) → ℕ → Option ClassEntryTree
class_in names entries class = option_and_then (option_map (class_entry_tree names)) (slice_get entries class)

-- The table has each statement, each body and each class of the program.
pub record IsControl (names : List Name) (source : SourceTree) (control : Control) : Type 0 where
  pub finds : (index : ℕ) → instruction_at names control index ≡ slice_get (instructions source) index
  pub main_is : control.main ≡ main_entry source
  pub methods_are : (class member : ℕ) → method_in control.methods.items class member ≡ method_entry source.declarations class member
  pub classes_are : (class : ℕ) → class_in names control.classes.items class ≡ class_entry source.declarations class
