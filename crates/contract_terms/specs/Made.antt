-- The classes made at a place.
--
--   `class_made`               the class of which an instruction at a place makes an object
--   `classes_made`             those of all instructions with that place
use Rattle.std.specs.Prelude.{ℕ, nat_eq, List, [], ◌∷◌, if◌then◌else◌}
use Rattle.std.specs.List.{flat_map}
use Rattle.abs_program.specs.Instructions.{EffectTree, Makes, InstructionTree, instructions}
use Rattle.abs_tree.specs.Syntax.{Name, SourceTree}

-- the class of which an effect makes an object
abbrev pub class_of_effect : EffectTree → List Name
class_of_effect (Makes mode class target) = class ∷ []
class_of_effect _ = []

-- the class of which an instruction makes an object, if the instruction has this place
abbrev pub class_made : ℕ → InstructionTree → List Name
class_made place instruction = if nat_eq instruction.place place then class_of_effect instruction.effect else []

-- The classes made at a place, in the order of the statements. Nothing keeps that two statements have different places;
-- those of a source have.
unfoldable pub classes_made : SourceTree → ℕ → List Name
classes_made source place = flat_map (class_made place) (instructions source)
