-- A code of tasks, which hold values. The kit asks for it. It serves proofs only.
--
--   `task_code`            the code of a task
use Rattle.std.specs.Prelude.{◌≡◌, refl, ℕ, zero, suc, List, Option}
use Rattle.std.specs.Coded.{Coded, code_by, coded_ℕ, coded_list, coded_option, coded×}
use Rattle.abs_values.specs.EvaluatedCodes.{evaluated_code}
use Rattle.abs_values.specs.declared.evaluated.Evaluated.{Evaluated}
use Rattle.abs_tree.specs.declared.symbol.Symbol.{Symbol}
use Rattle.config_state.specs.Codes.{symbol_code, frame_code}
use Rattle.config_state.specs.declared.frame.Frame.{Frame}
use Rattle.config_state.specs.declared.task.State.{State}
use Rattle.config_state.specs.declared.task.State.TheVariants.{Ready, Running, Awaiting}
use Rattle.config_state.specs.declared.task.TaskCell.{TaskCell}

-- states by numbers
abbrev pub state_number : State → ℕ
state_number Ready = 0
state_number Running = 1
state_number Awaiting = 2

abbrev pub state_of : ℕ → State
state_of zero = Ready
state_of (suc zero) = Running
state_of (suc (suc number)) = Awaiting

pub state_of-number : (state : State) → state_of (state_number state) ≡ state
state_of-number Ready = refl
state_of-number Running = refl
state_of-number Awaiting = refl

abbrev pub state_code : Coded State
state_code = code_by ℕ coded_ℕ state_number state_of state_of-number

-- the code of a task
abbrev pub task_code : Coded TaskCell
task_code = code_by
    (ℕ × (Option ℕ × (Option Symbol × (Option ℕ × (List Frame × (State × Option Evaluated))))))
    (coded× coded_ℕ (coded× (coded_option coded_ℕ) (coded× (coded_option symbol_code) (coded× (coded_option coded_ℕ)
    (coded× (coded_list frame_code) (coded× state_code (coded_option evaluated_code)))))))
    (λ task. (task.cog, (task.object, (task.method, (task.call, (task.frames, (task.state, task.outcome)))))))
    (λ parts. record {
      cog = parts.0;
      object = parts.1.0;
      method = parts.1.1.0;
      call = parts.1.1.1.0;
      frames = parts.1.1.1.1.0;
      state = parts.1.1.1.1.1.0;
      outcome = parts.1.1.1.1.1.1;
    }) (λ _. refl)
