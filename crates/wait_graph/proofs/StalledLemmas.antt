-- Where no task has an event, each unfinished one has a first wait, and these lead round.
--
--   `unfinished_or_not`            a task is unfinished, or it is not
--   `some_or_none`                 some task has an event, or none has
--   `least_unfinished`             where a task is unfinished, one is the least of these
--   `first_of_stuck`               where no task has an event, an unfinished one has a first wait
--   `circle_of_stuck`              and there is a circle of first waits
use Rattle.std.proofs.Common.{◌≡◌, ◌≢◌, ◌⊎◌, ◌≤◌, ◌<◌, ℕ, zero, suc, Bool, true, false, nat_eq, inl, inr, ⊎_elim, List, [], ◌∷◌, length, slice_get, Option, Some, None, refl, sym, ap, ◌∙◌, subst, arith}
use Rattle.std.specs.Prelude.{IsSome, is_some, option_and_then, if◌then◌else◌}
use Rattle.std.proofs.lemmas.Bool.Decides.{nat_tests}
use Rattle.std.proofs.lemmas.Option.{none-some, same_Some, slice_get_past, slice_get_within}
use Rattle.abs_program.specs.Instructions.{EffectTree, Gets}
use Rattle.abs_tree.specs.Syntax.{ProgramTree}
use Rattle.abs_values.specs.Results.{Result}
use Rattle.config_state.specs.Configurations.{FrameState, TaskState, Configuration, IsUnfinished}
use Rattle.config_state.specs.OfProgram.{IsAtGuard, IsConfigOf}
use Rattle.config_state.specs.WellFormed.{IsWellFormed}
use Rattle.config_state.specs.declared.cog.Cog.{Cog}
use Rattle.config_state.specs.declared.task.State.{State}
use Rattle.config_state.specs.declared.task.State.TheVariants.{Ready, Running, Awaiting}
use Rattle.list_facts.proofs.EntryLemmas.{slice_get-there}
use Rattle.step_rules.proofs.CauseLemmas.{awaiting_has_iff, event_none, ready_has_iff, running_has_none_iff}
use Rattle.step_rules.specs.Blocked.{IsAtOpenGet, IsFree}
use Rattle.step_rules.specs.Events.{Step, change_by, change_of, event_of}
use Rattle.step_rules.specs.Inputs.{Input, input_of, input_of_task, output_of}
use Rattle.step_rules.specs.Runs.{HasStep}
use Rattle.wait_graph.proofs.FoundLemmas.{comes_round}
use Rattle.wait_graph.proofs.RoundLemmas.{le_or_lt}
use Rattle.wait_graph.proofs.WaitLemmas.{first_found, first_none, in_open}
use Rattle.wait_graph.specs.FirstWaits.{or_else, awaited_slots, got_slots, unfinished_in, first_unfinished, first_at, first_in, named_by_state, named_first, if_at_get, held_by_task, held_by_holder, held_first, first_by_outcome, first_of_task, first_wait, WaitsFirst, IsLeastUnfinished, IsCircleOfFirstWaits}

-- a task is unfinished, or it is not
pub unfinished_or_not : (config : Configuration) (index : ℕ)
    → IsUnfinished config index ⊎ (IsUnfinished config index → ⊥)
unfinished_or_not config index = by_task (slice_get config.tasks index) refl
  where
    by_outcome : (task : TaskState) → slice_get config.tasks index ≡ Some task → (outcome : Option Result)
        → task.outcome ≡ outcome → IsUnfinished config index ⊎ (IsUnfinished config index → ⊥)
    by_outcome task there None is = inl (record { task = task; there = there; open_still = is })
    by_outcome task there (Some result) is = inr (λ own.
        let same = same_Some own.task task (sym own.there ∙ there) in
        none-some result (sym (ap (λ (one : TaskState). one.outcome) (sym same) ∙ own.open_still) ∙ is))

    by_task : (found : Option TaskState) → slice_get config.tasks index ≡ found
        → IsUnfinished config index ⊎ (IsUnfinished config index → ⊥)
    by_task None is = inr (λ own. none-some own.task (sym is ∙ own.there))
    by_task (Some task) is = by_outcome task is task.outcome refl

-- a task that is not there has no event
no_task : (program : ProgramTree) (config : Configuration) (index : ℕ) → length config.tasks ≤ index
    → event_of program config index ≡ None
unfolding change_of input_of
no_task program config index past =
    event_none program config index
    (ap (λ found. option_and_then (λ (input : Input). change_by program config index (output_of program input))
    (input_of_task program config found)) (slice_get_past config.tasks index past))

-- of the tasks below a number some has an event, or none has
below_has : (program : ProgramTree) (config : Configuration) (bound : ℕ)
    → HasStep program config ⊎ ((index : ℕ) → index < bound → event_of program config index ≡ None)
below_has program config zero = inr (λ index less. absurd (omega (arith, less)))
below_has program config (suc bound) = ⊎_elim (λ some. inl some)
    (λ none. by none (event_of program config bound) refl) (below_has program config bound)
  where
    by : ((index : ℕ) → index < bound → event_of program config index ≡ None) → (found : Option Step)
        → event_of program config bound ≡ found
        → HasStep program config ⊎ ((index : ℕ) → index < suc bound → event_of program config index ≡ None)
    by none (Some step) is = inl (bound, ap is_some is)
    by none None is = inr (λ index less. last none is index less (nat_eq index bound) refl)
      where
        last : ((index : ℕ) → index < bound → event_of program config index ≡ None)
            → event_of program config bound ≡ None → (index : ℕ) → index < suc bound → (same : Bool)
            → nat_eq index bound ≡ same → event_of program config index ≡ None
        last none is index less true same =
            let equal : index ≡ bound = grind (arith, nat_tests) in ap (event_of program config) equal ∙ is
        last none is index less false same = none index (grind (arith, nat_tests))

-- some task has an event, or none has
pub some_or_none : (program : ProgramTree) (config : Configuration)
    → HasStep program config ⊎ ((index : ℕ) → event_of program config index ≡ None)
some_or_none program config = ⊎_elim (λ some. inl some)
    (λ none. inr (λ index. ⊎_elim (no_task program config index) (none index) (le_or_lt (length config.tasks) index)))
    (below_has program config (length config.tasks))

-- of the tasks below a number one is the least that is unfinished, or none is
least_below : (config : Configuration) (bound : ℕ)
    → ((start : ℕ) × IsLeastUnfinished config start)
    ⊎ ((index : ℕ) → index < bound → IsUnfinished config index → ⊥)
least_below config zero = inr (λ index less. absurd (omega (arith, less)))
least_below config (suc bound) = ⊎_elim (λ some. inl some)
    (λ none. ⊎_elim
    (λ own. inl (
      bound,
      record {
        unfinished = own;
        least = λ other open_still. at_least none other open_still (le_or_lt bound other);
      },
    ))
    (λ closed. inr (λ index less. last none closed index less (nat_eq index bound) refl))
    (unfinished_or_not config bound))
    (least_below config bound)
  where
    at_least : ((index : ℕ) → index < bound → IsUnfinished config index → ⊥) → (other : ℕ)
        → IsUnfinished config other → (bound ≤ other) ⊎ (other < bound) → bound ≤ other
    at_least none other open_still (inl le) = le
    at_least none other open_still (inr less) = absurd (none other less open_still)

    last : ((index : ℕ) → index < bound → IsUnfinished config index → ⊥) → (IsUnfinished config bound → ⊥)
        → (index : ℕ) → index < suc bound → (same : Bool) → nat_eq index bound ≡ same → IsUnfinished config index
        → ⊥
    last none closed index less true same own =
        let equal : index ≡ bound = grind (arith, nat_tests) in closed (subst (IsUnfinished config) equal own)
    last none closed index less false same own = none index (grind (arith, nat_tests)) own

-- where a task is unfinished, one is the least of these
pub least_unfinished : (config : Configuration) (index : ℕ) → IsUnfinished config index
    → (start : ℕ) × IsLeastUnfinished config start
least_unfinished config index own =
    ⊎_elim (λ some. some) (λ none. absurd (none index (omega arith) own)) (least_below config (suc index))

-- The task has a first wait, for another one that is unfinished, or for itself.
pub record HasFirstWait (program : ProgramTree) (config : Configuration) (index : ℕ) : Type 0 where
  pub other : ℕ
  pub waits : WaitsFirst program config index other
  pub unfinished : IsUnfinished config other

module _ (program : ProgramTree) (config : Configuration) (formed : IsWellFormed config)
    (of_program : IsConfigOf program config) (stuck : (index : ℕ) → event_of program config index ≡ None) where
  -- no task has an event
  no_event : (index : ℕ) → IsSome (event_of program config index) → ⊥
  no_event index some = let wrong = sym (ap is_some (stuck index)) ∙ some in absurd cc

  -- an unfinished task has a frame
  open_frame : (index : ℕ) (own : IsUnfinished config index)
      → (frame : FrameState) × (slice_get own.task.frames 0 ≡ Some frame)
  open_frame index own = by own.task.frames refl
    where
      by : (frames : List FrameState) → own.task.frames ≡ frames
          → (frame : FrameState) × (slice_get own.task.frames 0 ≡ Some frame)
      by [] is = absurd ((formed.tasks_formed index own.task own.there).unfinished own.open_still is)
      by (frame ∷ others) is = (frame, ap (λ (frames : List FrameState). slice_get frames 0) is)

  -- a task that runs is unfinished
  running_open : (index : ℕ) (task : TaskState) → slice_get config.tasks index ≡ Some task → task.state ≡ Running
      → IsUnfinished config index
  running_open index task there runs = by task.outcome refl
    where
      by : (outcome : Option Result) → task.outcome ≡ outcome → IsUnfinished config index
      by None is = record { task = task; there = there; open_still = is }
      by (Some result) is =
          let ready = ((formed.tasks_formed index task there).ended result is).1 in
          let wrong = sym ready ∙ runs in absurd cc

  -- and at an open get
  at_get : (index : ℕ) (task : TaskState) → slice_get config.tasks index ≡ Some task → task.state ≡ Running
      → IsAtOpenGet program config task
  at_get index task there runs = (running_has_none_iff program config index task formed of_program there runs).0
      (stuck index)

  -- the task whose future is got at an open get is the first one that its statement names
  got_first : (slots_of : EffectTree → List (Option ℕ)) (task : TaskState) (at : IsAtOpenGet program config task)
      → slots_of (Gets (Some at.slot) at.target) ≡ Some at.slot ∷ []
      → first_in slots_of program config (slice_get task.frames 0) ≡ Some at.future
  got_first slots_of task at names =
      ap (first_in slots_of program config) at.innermost
      ∙ ap (first_at slots_of config at.frame) at.point_there
      ∙ ap (λ effect. first_unfinished config at.frame.slots (slots_of effect)) at.gets
      ∙ ap (first_unfinished config at.frame.slots) names
      ∙ ap (λ value. or_else (unfinished_in config value) None) at.holds
      ∙ ap (λ found. or_else found None) (in_open config at.future at.unresolved)

  -- a first wait by a name, and one for the holder of a cog
  waits_by_name : (index : ℕ) (own : IsUnfinished config index) (other : ℕ)
      → named_first program config own.task ≡ Some other → WaitsFirst program config index other
  waits_by_name index own other named =
      ap (option_and_then (first_of_task program config index)) own.there
      ∙ ap (first_by_outcome program config index own.task) own.open_still
      ∙ ap (λ found. or_else found (held_first program config index (slice_get config.cogs own.task.cog))) named

  waits_by_cog : (index : ℕ) (own : IsUnfinished config index) (other : ℕ)
      → named_first program config own.task ≡ None
      → held_first program config index (slice_get config.cogs own.task.cog) ≡ Some other
      → WaitsFirst program config index other
  waits_by_cog index own other none held =
      ap (option_and_then (first_of_task program config index)) own.there
      ∙ ap (first_by_outcome program config index own.task) own.open_still
      ∙ ap (λ found. or_else found (held_first program config index (slice_get config.cogs own.task.cog))) none
      ∙ held

  -- a task that does not run, and whose cog is not free, waits for the holder of that, unless it waits by a name
  held_waits : (index : ℕ) (own : IsUnfinished config index) → own.task.state ≢ Running
      → (IsFree config own.task.cog → ⊥) → named_first program config own.task ≡ None
      → HasFirstWait program config index
  held_waits index own idle held none =
      let cog = slice_get-there config.cogs own.task.cog (formed.tasks_formed index own.task own.there).cog_there in
      by_holder cog.0 cog.1 cog.0.holder refl
    where
      by_holder : (cog : Cog) → slice_get config.cogs own.task.cog ≡ Some cog → (holder : Option ℕ)
          → cog.holder ≡ holder → HasFirstWait program config index
      by_holder cog cog_there None is = absurd (held (record { cog = cog; there = cog_there; free = is }))
      by_holder cog cog_there (Some holder) is =
          let running = (formed.cogs_formed own.task.cog cog cog_there).holder_runs holder is in
          let at = at_get holder running.task running.there running.runs in
          let another : nat_eq index holder ≡ false = differ index holder running.task running.there running.runs own idle
          (nat_eq index holder) refl in
          record {
            other = holder;
            waits = waits_by_cog index own holder none
                (ap (held_first program config index) cog_there
                ∙ ap (held_by_holder program config index) is
                ∙ ap (λ test. if test then None else held_by_task program config holder (slice_get config.tasks holder))
                another
                ∙ ap (held_by_task program config holder) running.there
                ∙ ap (if_at_get holder) (got_first got_slots running.task at refl));
            unfinished = running_open holder running.task running.there running.runs;
          }
        where
          differ : (index holder : ℕ) (task : TaskState) → slice_get config.tasks holder ≡ Some task
              → task.state ≡ Running → (own : IsUnfinished config index) → own.task.state ≢ Running → (same : Bool)
              → nat_eq index holder ≡ same → nat_eq index holder ≡ false
          differ index holder task there runs own idle false same = same
          differ index holder task there runs own idle true same =
              let equal : index ≡ holder = grind (arith, nat_tests) in
              let one : own.task ≡ task = same_Some own.task task
              (sym own.there ∙ ap (slice_get config.tasks) equal ∙ there) in
              absurd (idle (ap (λ (some : TaskState). some.state) one ∙ runs))

  -- a task that awaits has a first wait
  awaiting_waits : (index : ℕ) (own : IsUnfinished config index) → own.task.state ≡ Awaiting → (frame : FrameState)
      → slice_get own.task.frames 0 ≡ Some frame → HasFirstWait program config index
  awaiting_waits index own awaits frame innermost =
      by (first_unfinished config frame.slots guard.named) refl
    where
      guard : IsAtGuard program frame
      guard = (of_program.tasks_are index own.task own.there).awaiting awaits frame innermost

      named : named_first program config own.task ≡ first_unfinished config frame.slots guard.named
      named =
          ap (named_by_state program config (slice_get own.task.frames 0)) awaits
          ∙ ap (first_in awaited_slots program config) innermost
          ∙ ap (first_at awaited_slots config frame) guard.point_there
          ∙ ap (λ effect. first_unfinished config frame.slots (awaited_slots effect)) guard.awaits

      by : (found : Option ℕ) → first_unfinished config frame.slots guard.named ≡ found
          → HasFirstWait program config index
      by (Some other) found = record {
        other = other;
        waits = waits_by_name index own other (named ∙ found);
        unfinished = (first_found config frame.slots guard.named other found).unfinished;
      }
      by None found = held_waits index own (λ runs. let wrong = sym awaits ∙ runs in absurd cc)
          (λ free. no_event index ((awaiting_has_iff program config index own.task formed of_program own.there awaits).1 (
            free,
            record {
              frame = frame;
              innermost = innermost;
              point = guard.point;
              point_there = guard.point_there;
              names = guard.named;
              awaits = guard.awaits;
              resolved = λ part name is slot future named_slot holds unresolved.
                  first_none config frame.slots guard.named found future (record {
                    part = part;
                    slot = slot;
                    named = is ∙ ap Some named_slot;
                    holds = holds;
                    unfinished = unresolved;
                  });
            },
          )))
          (named ∙ found)

  -- each unfinished task has a first wait
  pub first_of_stuck : (index : ℕ) → IsUnfinished config index → HasFirstWait program config index
  first_of_stuck index own = by own.task.state refl
    where
      by : (state : State) → own.task.state ≡ state → HasFirstWait program config index
      by Running is =
          let at = at_get index own.task own.there is in
          record {
            other = at.future;
            waits = waits_by_name index own at.future
                (ap (named_by_state program config (slice_get own.task.frames 0)) is
                ∙ got_first awaited_slots own.task at refl);
            unfinished = at.unresolved;
          }
      by Ready is = held_waits index own (λ runs. let wrong = sym is ∙ runs in absurd cc)
          (λ free. no_event index
          ((ready_has_iff program config index own.task formed own.there own.open_still is).1 free))
          (ap (named_by_state program config (slice_get own.task.frames 0)) is)
      by Awaiting is =
          let frame = open_frame index own in awaiting_waits index own is frame.0 frame.1

  -- and where one is unfinished first waits lead to a circle
  pub circle_of_stuck : (index : ℕ) → IsUnfinished config index
      → (circle : List ℕ) × IsCircleOfFirstWaits program config circle
  circle_of_stuck index own =
      let least = least_unfinished config index own in
      let found = comes_round (first_wait program config) (IsUnfinished config) (length config.tasks)
      (λ one unfinished. slice_get_within config.tasks one unfinished.task unfinished.there)
      (λ one unfinished.
      let wait = first_of_stuck one unfinished in (wait.other, wait.waits, wait.unfinished))
      least.0 least.1.unfinished in (
        found.first ∷ found.others,
        record {
          round = found.round;
          first = found.first;
          first_there = refl;
          least = found.least;
          start = least.0;
          start_least = least.1;
          steps = found.steps;
          reached = found.reached;
        },
      )
