-- Which future a task waits for, as the code finds it: from the innermost frame, and from what its next statement does.
--
--   `next_effect_found`                what the next statement does is the effect of its instruction
--   `task_found`                       the task with an index
--   `open_by_outcome`, `none_open`     a task is unfinished where it is there and has no result
--   `slot_open`, `no_slot_open`        which unresolved future a slot holds, by its value; a slot past the end holds none
--   `NoneOpenBefore`, `none_open_more`, `none_open_all`, `one_open`    which of several slots hold an unresolved future
--   `open_get_by`                      which future a task gets, by the slot that its next statement names
--   `open_await_by`                    which future a task awaits, by the slots that its next statement names
--   `waits_at_get`, `waits_at_await`   this is the future that it waits for
--   `waits_there`, `never_waits_there`     the same of the task at its index
use Rattle.std.proofs.Common.{◌≡◌, ◌<◌, ◌≤◌, ℕ, ◌+◌, Bool, true, false, not, is_some, MatchBool, IfSome, IfNone, List, length, slice_get, get_or, Option, Some, None, option_and_then, option_map, refl, sym, ap, ◌∙◌, subst, below_more, arith}
use Rattle.std.proofs.lemmas.Option.{none-some, same_Some, slice_get-get_or, slice_get-map, slice_get_past, slice_get_within}
use Rattle.abs_program.specs.Control.{Point, program_points}
use Rattle.abs_program.specs.Instructions.{EffectTree, Awaits, Gets, effect_of, InstructionTree, instruction_of, instructions}
use Rattle.abs_values.specs.Results.{result_tree}
use Rattle.abs_tree.specs.Syntax.{Name, VariableTree, ProgramTree}
use Rattle.abs_values.specs.ValueTrees.{ValueTree, FutureValue}
use Rattle.abs_values.specs.declared.evaluated.Evaluated.{Evaluated}
use Rattle.config_state.specs.ConfigViews.{configuration}
use Rattle.config_state.specs.Configurations.{FrameState, TaskState, Configuration, IsUnfinished}
use Rattle.config_state.specs.OfProgram.{next_point}
use Rattle.config_state.specs.Views.{task_state}
use Rattle.config_state.specs.declared.config.Config.{Config}
use Rattle.config_state.specs.declared.task.State.TheVariants.{Running, Awaiting}
use Rattle.config_state.specs.declared.task.TaskCell.{TaskCell}
use Rattle.step_rules.specs.Blocked.{IsAtOpenGet, IsAtOpenAwait, WaitsFor, AtGet, AtAwait, HoldsOpen, OneHoldsOpen, FindsOne}

-- what the next statement of a frame does is the effect of its instruction
pub next_effect_found : (program : ProgramTree) (frame : FrameState) (index : ℕ) (found : Option InstructionTree)
    → frame.next ≡ Some index → found ≡ slice_get (instructions program.source) index
    → option_map (λ (one : InstructionTree). one.effect) found
    ≡ option_map (λ (point : Point). effect_of point.statement) (next_point program frame)
unfolding instructions
next_effect_found program frame index found next is =
    ap (option_map (λ (one : InstructionTree). one.effect))
    (is ∙ slice_get-map instruction_of (program_points program.source) index)
    ∙ (by (slice_get (program_points program.source) index)
    ∙ ap (λ (at : Option ℕ). option_map (λ (point : Point). effect_of point.statement)
    (option_and_then (slice_get (program_points program.source)) at)) (sym next))
  where
    by : (point : Option Point)
        → option_map (λ (one : InstructionTree). one.effect) (option_map instruction_of point)
        ≡ option_map (λ (one : Point). effect_of one.statement) point
    by None = refl
    by (Some point) = refl

-- the task with an index
pub task_found : (names : List Name) (config : Config) (index : ℕ) (cell : TaskCell)
    → slice_get config.tasks index ≡ Some cell
    → slice_get (configuration names config).tasks index ≡ Some (task_state names cell)
task_found names config index cell there =
    slice_get-map (task_state names) config.tasks index ∙ ap (option_map (task_state names)) there

-- a task is unfinished where it has no result
pub open_by_outcome : (names : List Name) (config : Config) (index : ℕ) (cell : TaskCell) (none : Bool)
    → slice_get config.tasks index ≡ Some cell → is_some cell.outcome ≡ not none
    → MatchBool none (IsUnfinished (configuration names config) index)
    (IsUnfinished (configuration names config) index → ⊥)
open_by_outcome names config index cell none there = by cell.outcome refl none
  where
    by : (outcome : Option Evaluated) → cell.outcome ≡ outcome → (none : Bool) → is_some outcome ≡ not none
        → MatchBool none (IsUnfinished (configuration names config) index)
        (IsUnfinished (configuration names config) index → ⊥)
    by None outcome true is = record {
      task = task_state names cell;
      there = task_found names config index cell there;
      open_still = ap (option_map result_tree) outcome;
    }
    by None outcome false is = absurd cc
    by (Some result) outcome true is = absurd cc
    by (Some result) outcome false is = λ unfinished.
        let same = same_Some _ _ (sym unfinished.there ∙ task_found names config index cell there) in
        let ended = ap (option_map result_tree) outcome in
        let still = unfinished.open_still in
        absurd (cc (ap (λ (task : TaskState). task.outcome) same, ended, still))

-- no task has an index past the end
pub none_open : (names : List Name) (config : Config) (index : ℕ) → length config.tasks ≤ index
    → IsUnfinished (configuration names config) index → ⊥
none_open names config index past unfinished =
    let found = slice_get-map (task_state names) config.tasks index
    ∙ ap (option_map (task_state names)) (slice_get_past config.tasks index past) in
    let there = unfinished.there in
    absurd (cc (found, there))

-- which unresolved future a slot holds, by its value
pub slot_open : (config : Configuration) (slots : List ValueTree) (name : Option ℕ) (slot : ℕ) (value : ValueTree)
    (found : Option ℕ) → name ≡ Some slot → slice_get slots slot ≡ Some value
    → FindsOne found (λ future. (value ≡ FutureValue future) × IsUnfinished config future)
    → FindsOne found (HoldsOpen config slots name)
slot_open config slots name slot value None named there none = λ future holds.
    let same = same_Some _ _ (sym named ∙ holds.named) in
    none future (same_Some _ _ (sym there ∙ (ap (slice_get slots) same ∙ holds.holds)), holds.unresolved)
slot_open config slots name slot value (Some future) named there found = record {
  slot = slot;
  named = named;
  holds = there ∙ ap Some found.0;
  unresolved = found.1;
}

-- a slot that is not there holds no future
pub no_slot_open : (config : Configuration) (slots : List ValueTree) (name : Option ℕ) (slot : ℕ) → name ≡ Some slot
    → slice_get slots slot ≡ None → FindsOne None (HoldsOpen config slots name)
no_slot_open config slots name slot named past future holds =
    let same = same_Some _ _ (sym named ∙ holds.named) in
    none-some _ (sym past ∙ (ap (slice_get slots) same ∙ holds.holds))

-- none of the first slots that are named holds an unresolved future
abbrev pub NoneOpenBefore : Configuration → List ValueTree → List (Option ℕ) → ℕ → Type 0
NoneOpenBefore config slots names index = (part : ℕ) → part < index → (name : Option ℕ)
    → slice_get names part ≡ Some name → (future : ℕ) → HoldsOpen config slots name future → ⊥

-- so it is with one more slot, if that holds none
pub none_open_more : (config : Configuration) (slots : List ValueTree) (names : List (Option ℕ)) (index : ℕ)
    (found : Option ℕ) → index < length names → is_some found ≡ false
    → FindsOne found (HoldsOpen config slots (get_or names index None))
    → NoneOpenBefore config slots names index → NoneOpenBefore config slots names (index + 1)
none_open_more config slots names index (Some future) within is found before = absurd cc
none_open_more config slots names index None within is none before = below_more
    (λ (part : ℕ). (name : Option ℕ) → slice_get names part ≡ Some name → (future : ℕ)
    → HoldsOpen config slots name future → ⊥) index before (λ name there future holds.
    none future (subst (λ (one : Option ℕ). HoldsOpen config slots one future)
    (same_Some _ _ (sym there ∙ slice_get-get_or names index None within)) holds))

-- where none of the first slots holds one, and they are all, none does
pub none_open_all : (config : Configuration) (slots : List ValueTree) (names : List (Option ℕ)) (index : ℕ)
    → length names ≤ index → NoneOpenBefore config slots names index
    → FindsOne None (OneHoldsOpen config slots names)
none_open_all config slots names index all before future one =
    let within = slice_get_within names one.part one.name one.there in
    before one.part (omega (arith, all, within)) one.name one.there future one.open_there

-- one of the slots holds the future that the slot with an index holds
pub one_open : (config : Configuration) (slots : List ValueTree) (names : List (Option ℕ)) (index : ℕ)
    (found : Option ℕ) → index < length names → is_some found ≡ true
    → FindsOne found (HoldsOpen config slots (get_or names index None))
    → FindsOne found (OneHoldsOpen config slots names)
one_open config slots names index None within is none = absurd cc
one_open config slots names index (Some future) within is holds = record {
  part = index;
  name = get_or names index None;
  there = slice_get-get_or names index None within;
  open_there = holds;
}

-- the next statement of the innermost frame, by what it does
point_of : (program : ProgramTree) (frame : FrameState) (effect : EffectTree)
    → Some effect ≡ option_map (λ (point : Point). effect_of point.statement) (next_point program frame)
    → (point : Point) × (next_point program frame ≡ Some point) × (effect_of point.statement ≡ effect)
point_of program frame effect is = by (next_point program frame) refl is
  where
    by : (point : Option Point) → next_point program frame ≡ point
        → Some effect ≡ option_map (λ (one : Point). effect_of one.statement) point
        → (point : Point) × (next_point program frame ≡ Some point) × (effect_of point.statement ≡ effect)
    by None there is = absurd cc
    by (Some point) there is = (point, there, same_Some _ _ (sym is))

module _ (program : ProgramTree) (config : Configuration) (task : TaskState) (frame : FrameState)
    (innermost : Some frame ≡ slice_get task.frames 0) where
  -- what the next statement of the task does, by its innermost frame and its next statement
  effect_there : (other : FrameState) → slice_get task.frames 0 ≡ Some other → (point : Point)
      → next_point program other ≡ Some point → (effect : EffectTree) → effect_of point.statement ≡ effect
      → option_map (λ (one : Point). effect_of one.statement) (next_point program frame) ≡ Some effect
  effect_there other there point point_there effect does =
      ap (λ (one : FrameState). option_map (λ (at : Point). effect_of at.statement) (next_point program one))
      (same_Some _ _ (innermost ∙ there))
      ∙ (ap (option_map (λ (at : Point). effect_of at.statement)) point_there ∙ ap Some does)

  -- which unresolved future a task gets, by the slot that its next statement names
  pub open_get_by : (slot : Option ℕ) (target : Option VariableTree) (found : Option ℕ)
      → Some (Gets slot target)
      ≡ option_map (λ (point : Point). effect_of point.statement) (next_point program frame)
      → FindsOne found (HoldsOpen config frame.slots slot)
      → FindsOne found (λ future. (at : IsAtOpenGet program config task) × (at.future ≡ future))
  open_get_by slot target None effect none = λ future gets. none gets.0.future (record {
    slot = gets.0.slot;
    named = same_gets _ _ _ _ (same_Some _ _ (effect
        ∙ effect_there gets.0.frame gets.0.innermost gets.0.point gets.0.point_there _ gets.0.gets));
    holds = ap (λ (one : FrameState). slice_get one.slots gets.0.slot)
        (same_Some _ _ (innermost ∙ gets.0.innermost)) ∙ gets.0.holds;
    unresolved = gets.0.unresolved;
  })
    where
      same_gets : (one other : Option ℕ) (target goal : Option VariableTree) → Gets one target ≡ Gets other goal
          → one ≡ other
      same_gets one other target goal is = cc
  open_get_by slot target (Some future) effect is =
      let point = point_of program frame (Gets slot target) effect in (
        record {
          frame = frame;
          innermost = sym innermost;
          point = point.0;
          point_there = point.1;
          slot = is.slot;
          target = target;
          gets = point.2 ∙ ap (λ (one : Option ℕ). Gets one target) is.named;
          future = future;
          holds = is.holds;
          unresolved = is.unresolved;
        },
        refl,
      )

  -- which unresolved future a task awaits, by the slots that its next statement names
  pub open_await_by : (names : List (Option ℕ)) (found : Option ℕ)
      → Some (Awaits names) ≡ option_map (λ (point : Point). effect_of point.statement) (next_point program frame)
      → FindsOne found (OneHoldsOpen config frame.slots names)
      → FindsOne found (λ future. (at : IsAtOpenAwait program config task) × (at.future ≡ future))
  open_await_by names None effect none = λ future awaits. none awaits.0.future (record {
    part = awaits.0.part;
    name = Some awaits.0.slot;
    there = ap (λ (all : List (Option ℕ)). slice_get all awaits.0.part) (same_awaits _ _ (same_Some _ _ (effect
        ∙ effect_there awaits.0.frame awaits.0.innermost awaits.0.point awaits.0.point_there _ awaits.0.awaits)))
        ∙ awaits.0.named;
    open_there = record {
      slot = awaits.0.slot;
      named = refl;
      holds = ap (λ (one : FrameState). slice_get one.slots awaits.0.slot)
          (same_Some _ _ (innermost ∙ awaits.0.innermost)) ∙ awaits.0.holds;
      unresolved = awaits.0.unresolved;
    };
  })
    where
      same_awaits : (one other : List (Option ℕ)) → Awaits one ≡ Awaits other → one ≡ other
      same_awaits one other is = cc
  open_await_by names (Some future) effect is =
      let point = point_of program frame (Awaits names) effect in (
        record {
          frame = frame;
          innermost = sym innermost;
          point = point.0;
          point_there = point.1;
          names = names;
          awaits = point.2;
          part = is.part;
          slot = is.open_there.slot;
          named = is.there ∙ ap Some is.open_there.named;
          future = future;
          holds = is.open_there.holds;
          unresolved = is.open_there.unresolved;
        },
        refl,
      )

module _ (program : ProgramTree) (config : Configuration) (index : ℕ) (task : TaskState)
    (there : slice_get config.tasks index ≡ Some task) where
  -- the future that a task gets is the one that it waits for
  pub waits_at_get : (found : Option ℕ) → task.state ≡ Running
      → FindsOne found (λ future. (at : IsAtOpenGet program config task) × (at.future ≡ future))
      → FindsOne found (WaitsFor program config task)
  waits_at_get None runs none = by
    where
      by : (future : ℕ) → WaitsFor program config task future → ⊥
      by future (AtGet also at is) = none future (at, is)
      by future (AtAwait awaits at is) = absurd cc
  waits_at_get (Some future) runs is = AtGet runs is.0 is.1

  -- the future that a task awaits is one that it waits for
  pub waits_at_await : (found : Option ℕ) → task.state ≡ Awaiting
      → FindsOne found (λ future. (at : IsAtOpenAwait program config task) × (at.future ≡ future))
      → FindsOne found (WaitsFor program config task)
  waits_at_await None awaits none = by
    where
      by : (future : ℕ) → WaitsFor program config task future → ⊥
      by future (AtGet runs at is) = absurd cc
      by future (AtAwait also at is) = none future (at, is)
  waits_at_await (Some future) awaits is = AtAwait awaits is.0 is.1

  -- what is so of the task is so of the task at its index
  pub waits_there : (found : Option ℕ) → FindsOne found (WaitsFor program config task)
      → IfSome found (λ future. (state : TaskState) → slice_get config.tasks index ≡ Some state
      → WaitsFor program config state future)
  waits_there None none = tt
  waits_there (Some future) is = λ state also.
      subst (λ (one : TaskState). WaitsFor program config one future) (same_Some _ _ (sym there ∙ also)) is

  pub never_waits_there : (found : Option ℕ) → FindsOne found (WaitsFor program config task)
      → IfNone found ((state : TaskState) → slice_get config.tasks index ≡ Some state → (future : ℕ)
      → WaitsFor program config state future → ⊥)
  never_waits_there None none = λ state also future waits.
      none future (subst (λ (one : TaskState). WaitsFor program config one future) (same_Some _ _ (sym also ∙ there))
      waits)
  never_waits_there (Some future) is = tt
