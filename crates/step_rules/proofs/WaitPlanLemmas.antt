-- What the plans of rules by which tasks wait stand for.
--
--   `wake_found`               a task that waits goes on by the effect of its next instruction
--   `no_wake`                  it does not go on where that is no `await`
use Rattle.std.proofs.Common.{◌≡◌, ℕ, List, ◌∷◌, slice_get, Option, Some, None, option_and_then, option_map, Vec, Global, refl, ap}
use Rattle.std.proofs.lemmas.Option.{same_Some}
use Rattle.abs_program.specs.Control.{Point}
use Rattle.abs_program.specs.InstructionViews.{effect_tree}
use Rattle.abs_program.specs.Instructions.{InstructionTree, effect_of, instructions}
use Rattle.abs_tree.specs.Syntax.{Name, ProgramTree}
use Rattle.abs_program.specs.declared.tables.control.Effect.{Effect}
use Rattle.abs_program.specs.declared.tables.control.Effect.TheVariants as effect
use Rattle.config_state.specs.Configurations.{FrameState, TaskState, Configuration}
use Rattle.config_state.specs.OfProgram.{next_point}
use Rattle.step_rules.proofs.BlockedLemmas.{next_effect_found}
use Rattle.step_rules.specs.WaitRules.{wake_by, wake_rule}

-- a task that waits goes on by the effect of its next instruction
pub wake_found : (program : ProgramTree) (config : Configuration) (index : ℕ) (task : TaskState) (frame : FrameState)
    (others : List FrameState) (next : ℕ) (found : Option InstructionTree) → frame.next ≡ Some next
    → found ≡ slice_get (instructions program.source) next
    → option_and_then (λ (one : InstructionTree). wake_by config index task frame one.effect) found
    ≡ wake_rule program config index task (frame ∷ others)
wake_found program config index task frame others next found next_is is =
    by found (next_point program frame) (next_effect_found program frame next found next_is is)
  where
    by : (found : Option InstructionTree) (point : Option Point)
        → option_map (λ (one : InstructionTree). one.effect) found
        ≡ option_map (λ (point : Point). effect_of point.statement) point
        → option_and_then (λ (one : InstructionTree). wake_by config index task frame one.effect) found
        ≡ option_and_then (λ (point : Point). wake_by config index task frame (effect_of point.statement)) point
    by None None is = refl
    by None (Some point) is = absurd cc
    by (Some one) None is = absurd cc
    by (Some one) (Some point) is = ap (wake_by config index task frame) (same_Some _ _ is)

-- a task that waits does not go on where the effect is no `await`
pub no_wake : (names : List Name) (config : Configuration) (index : ℕ) (task : TaskState) (frame : FrameState)
    (found : Effect) → ((slots : Vec (Option ℕ) Global) → found ≡ effect.Await slots → ⊥)
    → None ≡ wake_by config index task frame (effect_tree names found)
no_wake names config index task frame (effect.Await slots) not = absurd (not slots refl)
no_wake names config index task frame found not = refl
