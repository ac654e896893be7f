-- The table of the classes made at each place, and how it grows. It serves proofs only.
--
--   `found_classes`        the classes that were found at a place
--   `ClassAdded`           a class was added at a place
--   `InstructionAdded`     the class of which an instruction makes an object was added
use Rattle.std.specs.Map.{lookup}
use Rattle.std.specs.Prelude.{◌≡◌, ℕ, nat_eq, List, [], ◌∷◌, ◌++◌, Option, Some, None, if◌then◌else◌}
use Rattle.std.specs.declared.alloc.Global.{Global}
use Rattle.std.specs.declared.vec.Vec.{Vec}
use Rattle.abs_program.specs.Instructions.{InstructionTree}
use Rattle.abs_tree.specs.Syntax.{Name}
use Rattle.abs_tree.specs.declared.symbol.Symbol.{Symbol}
use Rattle.contract_terms.specs.Made.{class_made}
use Rattle.contract_terms.specs.Views.{class_names}

-- the classes that were found at a place
abbrev pub found_classes : Option (Vec Symbol Global) → List Symbol
found_classes None = []
found_classes (Some classes) = classes.items

-- One place has one more class, after those that it had. Each other place has those that it had.
pub record ClassAdded (place : ℕ) (class : Symbol) (before now : List (ℕ × Vec Symbol Global)) : Type 0 where
  pub finds : (other : ℕ) → found_classes (lookup (nat_eq other) now)
      ≡ found_classes (lookup (nat_eq other) before) ++ (if nat_eq place other then class ∷ [] else [])

-- The place of an instruction has the class of which it makes an object, after those that it had.
pub record InstructionAdded (names : List Name) (instruction : InstructionTree)
    (before now : List (ℕ × Vec Symbol Global)) : Type 0 where
  pub finds : (place : ℕ) → class_names names (lookup (nat_eq place) now)
      ≡ class_names names (lookup (nat_eq place) before) ++ class_made place instruction
