-- First waits are waits, and where no task has an event each unfinished one has a first wait.
--
--   `FoundAt`                      the place at which slots name an unfinished task
--   `first_found`, `first_none`    the first unfinished task in some slots is named there; where there is none, none is
--   `first_is_wait`                a first wait is a wait
--   `first_of_stuck`               where no task has an event, an unfinished one has a first wait
use Rattle.std.proofs.Common.{◌≡◌, ◌≢◌, ℕ, zero, suc, Bool, true, false, nat_eq, inl, inr, List, [], ◌∷◌, slice_get, Option, Some, None, refl, sym, ap, ◌∙◌, subst, arith}
use Rattle.std.specs.Prelude.{option_and_then, if◌then◌else◌}
use Rattle.std.proofs.lemmas.Bool.Decides.{nat_tests}
use Rattle.std.proofs.lemmas.Option.{none-some, same_Some}
use Rattle.abs_program.specs.Control.{Point}
use Rattle.abs_program.specs.Instructions.{EffectTree, Skips, Suspends, Awaits, Chooses, Returns, Prints, Clears, Stores, Makes, Sends, CallsOwn, CallsOther, Gets, effect_of}
use Rattle.abs_tree.specs.Syntax.{ProgramTree}
use Rattle.abs_values.specs.Results.{Result}
use Rattle.abs_values.specs.ValueTrees.{ValueTree, IntValue, StringValue, BuiltValue, ObjectValue, FutureValue, NullValue}
use Rattle.config_state.specs.Configurations.{FrameState, TaskState, Configuration, IsUnfinished}
use Rattle.config_state.specs.OfProgram.{next_point}
use Rattle.config_state.specs.declared.cog.Cog.{Cog}
use Rattle.config_state.specs.declared.task.State.{State}
use Rattle.config_state.specs.declared.task.State.TheVariants.{Ready, Running, Awaiting}
use Rattle.step_rules.specs.Blocked.{IsAtOpenGet}
use Rattle.step_rules.specs.Lookups.{named_value}
use Rattle.wait_graph.specs.FirstWaits.{or_else, awaited_slots, got_slots, if_unfinished, unfinished_by, unfinished_in, first_unfinished, first_at, first_in, named_by_state, named_first, if_at_get, held_by_task, held_by_holder, held_first, first_by_outcome, first_of_task, WaitsFirst}
use Rattle.wait_graph.specs.Waits.{NamesSlot, ByGet, ByAwait, NamesUnfinished, CogIsHeld, WaitsFor}

-- The place at which slots name an unfinished task.
pub record FoundAt (config : Configuration) (slots : List ValueTree) (names : List (Option ℕ)) (other : ℕ)
    : Type 0 where
  pub part : ℕ
  pub slot : ℕ
  pub named : slice_get names part ≡ Some (Some slot)
  pub holds : slice_get slots slot ≡ Some (FutureValue other)
  pub unfinished : IsUnfinished config other

-- the task that is found in a value is unfinished, and the value is its future
found_in : (config : Configuration) (value : Option ValueTree) (other : ℕ)
    → unfinished_in config value ≡ Some other → (value ≡ Some (FutureValue other)) × IsUnfinished config other
found_in config None other is = absurd (none-some other is)
found_in config (Some (IntValue number)) other is = absurd (none-some other is)
found_in config (Some (StringValue string)) other is = absurd (none-some other is)
found_in config (Some (BuiltValue constructor parts)) other is = absurd (none-some other is)
found_in config (Some (ObjectValue object)) other is = absurd (none-some other is)
found_in config (Some NullValue) other is = absurd (none-some other is)
found_in config (Some (FutureValue index)) other is = by_task (slice_get config.tasks index) refl is
  where
    by_outcome : (task : TaskState) → slice_get config.tasks index ≡ Some task → (outcome : Option Result)
        → task.outcome ≡ outcome → if_unfinished index outcome ≡ Some other
        → (Some (FutureValue index) ≡ Some (FutureValue other)) × IsUnfinished config other
    by_outcome task there None still found =
        let same = same_Some index other found in (
          ap (λ future. Some (FutureValue future)) same,
          subst (IsUnfinished config) same (record { task = task; there = there; open_still = still }),
        )
    by_outcome task there (Some result) still found = absurd (none-some other found)

    by_task : (found : Option TaskState) → slice_get config.tasks index ≡ found
        → unfinished_by index found ≡ Some other
        → (Some (FutureValue index) ≡ Some (FutureValue other)) × IsUnfinished config other
    by_task None there found = absurd (none-some other found)
    by_task (Some task) there found = by_outcome task there task.outcome refl found

-- an unfinished task is found in its future
pub in_open : (config : Configuration) (index : ℕ) → IsUnfinished config index
    → unfinished_in config (Some (FutureValue index)) ≡ Some index
in_open config index own = ap (unfinished_by index) own.there ∙ ap (if_unfinished index) own.open_still

-- the first unfinished task in some slots is named there
pub first_found : (config : Configuration) (slots : List ValueTree) (names : List (Option ℕ)) (other : ℕ)
    → first_unfinished config slots names ≡ Some other → FoundAt config slots names other
first_found config slots [] other is = absurd (none-some other is)
first_found config slots (None ∷ names) other is =
    let found = first_found config slots names other is in
    record {
      part = suc found.part;
      slot = found.slot;
      named = found.named;
      holds = found.holds;
      unfinished = found.unfinished;
    }
first_found config slots (Some slot ∷ names) other is =
    by (unfinished_in config (slice_get slots slot)) refl is (first_found config slots names other)
  where
    by : (found : Option ℕ) → unfinished_in config (slice_get slots slot) ≡ found
        → or_else found (first_unfinished config slots names) ≡ Some other
        → (first_unfinished config slots names ≡ Some other → FoundAt config slots names other)
        → FoundAt config slots (Some slot ∷ names) other
    by (Some index) found first rest =
        let at = found_in config (slice_get slots slot) other (found ∙ first) in
        record { part = 0; slot = slot; named = refl; holds = at.0; unfinished = at.1 }
    by None found first rest =
        let later = rest first in
        record {
          part = suc later.part;
          slot = later.slot;
          named = later.named;
          holds = later.holds;
          unfinished = later.unfinished;
        }

-- where none is the first one, none is named
pub first_none : (config : Configuration) (slots : List ValueTree) (names : List (Option ℕ))
    → first_unfinished config slots names ≡ None → (other : ℕ) → FoundAt config slots names other → ⊥
first_none config slots [] none other at = none-some (Some at.slot) at.named
first_none config slots (name ∷ names) none other at =
    by (unfinished_in config (named_value slots name)) refl none at.part at.named
    (λ rest part named. first_none config slots names rest other (record {
      part = part;
      slot = at.slot;
      named = named;
      holds = at.holds;
      unfinished = at.unfinished;
    }))
  where
    by : (found : Option ℕ) → unfinished_in config (named_value slots name) ≡ found
        → or_else found (first_unfinished config slots names) ≡ None
        → (part : ℕ) → slice_get (name ∷ names) part ≡ Some (Some at.slot)
        → (first_unfinished config slots names ≡ None → (part : ℕ) → slice_get names part ≡ Some (Some at.slot) → ⊥)
        → ⊥
    by (Some index) found first part named rest = none-some index (sym first)
    by None found first (suc part) named rest = rest first part named
    by None found first zero named rest =
        none-some other
        (sym found
        ∙ ap (λ name. unfinished_in config (named_value slots name)) (same_Some name (Some at.slot) named)
        ∙ ap (unfinished_in config) at.holds ∙ in_open config other at.unfinished)

-- a slot for which a statement waits is one that it names
names_of : (effect : EffectTree) (part slot : ℕ) → slice_get (awaited_slots effect) part ≡ Some (Some slot)
    → NamesSlot effect slot
names_of (Gets name target) zero slot is =
    subst (λ name. NamesSlot (Gets name target) slot) (sym (same_Some name (Some slot) is)) (ByGet slot target)
names_of (Gets name target) (suc part) slot is = absurd (none-some (Some slot) is)
names_of (Awaits slots) part slot is = ByAwait slots part slot is
names_of Skips part slot is = absurd (none-some (Some slot) is)
names_of Suspends part slot is = absurd (none-some (Some slot) is)
names_of Chooses part slot is = absurd (none-some (Some slot) is)
names_of Returns part slot is = absurd (none-some (Some slot) is)
names_of Prints part slot is = absurd (none-some (Some slot) is)
names_of (Clears target) part slot is = absurd (none-some (Some slot) is)
names_of (Stores target) part slot is = absurd (none-some (Some slot) is)
names_of (Makes mode class target) part slot is = absurd (none-some (Some slot) is)
names_of (Sends method target) part slot is = absurd (none-some (Some slot) is)
names_of (CallsOwn method target) part slot is = absurd (none-some (Some slot) is)
names_of (CallsOther method slot' target) part slot is = absurd (none-some (Some slot) is)

module _ (program : ProgramTree) (config : Configuration) where
  -- the first unfinished task that the statement of a frame waits for, with the place of it
  record FirstIn (slots_of : EffectTree → List (Option ℕ)) (frame : Option FrameState) (other : ℕ) : Type 0 where
    own : FrameState
    frame_is : frame ≡ Some own
    point : Point
    next : next_point program own ≡ Some point
    at : FoundAt config own.slots (slots_of (effect_of point.statement)) other

  first_in_found : (slots_of : EffectTree → List (Option ℕ)) (frame : Option FrameState) (other : ℕ)
      → first_in slots_of program config frame ≡ Some other → FirstIn slots_of frame other
  first_in_found slots_of None other is = absurd (none-some other is)
  first_in_found slots_of (Some frame) other is = by (next_point program frame) refl is
    where
      by : (point : Option Point) → next_point program frame ≡ point
          → first_at slots_of config frame point ≡ Some other → FirstIn slots_of (Some frame) other
      by None next found = absurd (none-some other found)
      by (Some point) next found = record {
        own = frame;
        frame_is = refl;
        point = point;
        next = next;
        at = first_found config frame.slots (slots_of (effect_of point.statement)) other found;
      }

  -- a task that the statement of another one names is one for which that one waits
  named_found : (index : ℕ) (task : TaskState) (other : ℕ) → slice_get config.tasks index ≡ Some task
      → named_first program config task ≡ Some other → NamesUnfinished program config index other
  named_found index task other there is = by task.state refl is
    where
      at : (task.state ≢ Ready) → first_in awaited_slots program config (slice_get task.frames 0) ≡ Some other
          → NamesUnfinished program config index other
      at not_ready found =
          let first = first_in_found awaited_slots (slice_get task.frames 0) other found in
          record {
            point = first.point;
            at = record {
              task = task;
              there = there;
              not_ready = not_ready;
              frame = first.own;
              innermost = first.frame_is;
              next = first.next;
            };
            slot = first.at.slot;
            names = names_of (effect_of first.point.statement) first.at.part first.at.slot first.at.named;
            holds = first.at.holds;
            unfinished = first.at.unfinished;
          }

      by : (state : State) → task.state ≡ state
          → named_by_state program config (slice_get task.frames 0) state ≡ Some other
          → NamesUnfinished program config index other
      by Ready state_is found = absurd (none-some other found)
      by Running state_is found = at (λ ready. let wrong = sym state_is ∙ ready in absurd cc) found
      by Awaiting state_is found = at (λ ready. let wrong = sym state_is ∙ ready in absurd cc) found

  -- a task that gets an unfinished one is at an open get
  open_get : (task : TaskState) (future : ℕ)
      → first_in got_slots program config (slice_get task.frames 0) ≡ Some future → IsAtOpenGet program config task
  open_get task future is = by (effect_of first.point.statement) refl first.at.part first.at.named
    where
      first : FirstIn got_slots (slice_get task.frames 0) future
      first = first_in_found got_slots (slice_get task.frames 0) future is

      none : (slot : ℕ) (part : ℕ) → slice_get {X = Option ℕ} [] part ≡ Some (Some slot)
          → IsAtOpenGet program config task
      none slot part named = absurd (none-some (Some slot) named)

      by : (effect : EffectTree) → effect_of first.point.statement ≡ effect → (part : ℕ)
          → slice_get (got_slots effect) part ≡ Some (Some first.at.slot) → IsAtOpenGet program config task
      by (Gets name target) effect_is zero named = record {
        frame = first.own;
        innermost = first.frame_is;
        point = first.point;
        point_there = first.next;
        slot = first.at.slot;
        target = target;
        gets = effect_is ∙ ap (λ name. Gets name target) (same_Some name (Some first.at.slot) named);
        future = future;
        holds = first.at.holds;
        unresolved = first.at.unfinished;
      }
      by (Gets name target) effect_is (suc part) named = none first.at.slot part named
      by (Awaits slots) effect_is part named = none first.at.slot part named
      by Skips effect_is part named = none first.at.slot part named
      by Suspends effect_is part named = none first.at.slot part named
      by Chooses effect_is part named = none first.at.slot part named
      by Returns effect_is part named = none first.at.slot part named
      by Prints effect_is part named = none first.at.slot part named
      by (Clears target) effect_is part named = none first.at.slot part named
      by (Stores target) effect_is part named = none first.at.slot part named
      by (Makes mode class target) effect_is part named = none first.at.slot part named
      by (Sends method target) effect_is part named = none first.at.slot part named
      by (CallsOwn method target) effect_is part named = none first.at.slot part named
      by (CallsOther method slot target) effect_is part named = none first.at.slot part named

  -- the task that holds a cog at a get is one for which the others wait
  held_found : (index other : ℕ) (own : IsUnfinished config index)
      → held_first program config index (slice_get config.cogs own.task.cog) ≡ Some other
      → CogIsHeld program config index other
  held_found index other own is = by_cog (slice_get config.cogs own.task.cog) refl is
    where
      by_get : (cog : Cog) → slice_get config.cogs own.task.cog ≡ Some cog → (holder : ℕ)
          → cog.holder ≡ Some holder → (index ≢ holder) → (task : TaskState)
          → slice_get config.tasks holder ≡ Some task → (future : Option ℕ)
          → first_in got_slots program config (slice_get task.frames 0) ≡ future
          → if_at_get holder future ≡ Some other → CogIsHeld program config index other
      by_get cog cog_there holder held another task there None gets found = absurd (none-some other found)
      by_get cog cog_there holder held another task there (Some future) gets found =
          subst (CogIsHeld program config index) (same_Some holder other found)
          (record {
            waiting = own;
            cog = cog;
            cog_there = cog_there;
            held = held;
            another = another;
            holder = task;
            holder_there = there;
            at_get = open_get task future gets;
          })

      by_task : (cog : Cog) → slice_get config.cogs own.task.cog ≡ Some cog → (holder : ℕ)
          → cog.holder ≡ Some holder → (index ≢ holder) → (task : Option TaskState)
          → slice_get config.tasks holder ≡ task → held_by_task program config holder task ≡ Some other
          → CogIsHeld program config index other
      by_task cog cog_there holder held another None there found = absurd (none-some other found)
      by_task cog cog_there holder held another (Some task) there found =
          by_get cog cog_there holder held another task there
          (first_in got_slots program config (slice_get task.frames 0)) refl found

      by_test : (cog : Cog) → slice_get config.cogs own.task.cog ≡ Some cog → (holder : ℕ)
          → cog.holder ≡ Some holder → (same : Bool) → nat_eq index holder ≡ same
          → (if same then None else held_by_task program config holder (slice_get config.tasks holder)) ≡ Some other
          → CogIsHeld program config index other
      by_test cog cog_there holder held true test found = absurd (none-some other found)
      by_test cog cog_there holder held false test found =
          let another : index ≢ holder = λ equal. absurd (grind (arith, nat_tests)) in
          by_task cog cog_there holder held another (slice_get config.tasks holder) refl found

      by_holder : (cog : Cog) → slice_get config.cogs own.task.cog ≡ Some cog → (holder : Option ℕ)
          → cog.holder ≡ holder → held_by_holder program config index holder ≡ Some other
          → CogIsHeld program config index other
      by_holder cog cog_there None held found = absurd (none-some other found)
      by_holder cog cog_there (Some holder) held found =
          by_test cog cog_there holder held (nat_eq index holder) refl found

      by_cog : (cog : Option Cog) → slice_get config.cogs own.task.cog ≡ cog
          → held_first program config index cog ≡ Some other → CogIsHeld program config index other
      by_cog None there found = absurd (none-some other found)
      by_cog (Some cog) there found = by_holder cog there cog.holder refl found

  -- a first wait is a wait
  pub first_is_wait : (index other : ℕ) → WaitsFirst program config index other
      → WaitsFor program config index other
  first_is_wait index other is = by_task (slice_get config.tasks index) refl is
    where
      by_named : (task : TaskState) → slice_get config.tasks index ≡ Some task → task.outcome ≡ None
          → (named : Option ℕ) → named_first program config task ≡ named
          → or_else named (held_first program config index (slice_get config.cogs task.cog)) ≡ Some other
          → WaitsFor program config index other
      by_named task there still (Some first) named found =
          inl (named_found index task other there (named ∙ found))
      by_named task there still None named found =
          inr (held_found index other (record { task = task; there = there; open_still = still }) found)

      by_outcome : (task : TaskState) → slice_get config.tasks index ≡ Some task → (outcome : Option Result)
          → task.outcome ≡ outcome → first_by_outcome program config index task outcome ≡ Some other
          → WaitsFor program config index other
      by_outcome task there (Some result) still found = absurd (none-some other found)
      by_outcome task there None still found =
          by_named task there still (named_first program config task) refl found

      by_task : (task : Option TaskState) → slice_get config.tasks index ≡ task
          → option_and_then (first_of_task program config index) task ≡ Some other
          → WaitsFor program config index other
      by_task None there found = absurd (none-some other found)
      by_task (Some task) there found = by_outcome task there task.outcome refl found
