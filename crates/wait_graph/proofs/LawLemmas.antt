-- The laws of waiting, of configurations that legal histories reach.
--
--   `circle_is_circular`           a circle of first waits is a circular wait
--   `one_circle`                   there is one of them at most
--   `stuck_waits`                  where no task has an event, an unfinished one waits for another
--   `stuck_circle`                 and there is a circle
--   `goes_on`                      without a circle some task has an event
--   `held_by_name`                 who holds a cog for which others wait waits by a name
--   `named_open`                   who waits by a name is unfinished
use Rattle.std.proofs.Common.{◌≡◌, ◌≤◌, ℕ, List, [], ◌∷◌, Option, Some, None, refl, sym, ap, ◌∙◌, subst, arith, ⊎_elim}
use Rattle.std.specs.Prelude.{All, is_some}
use Rattle.std.proofs.lemmas.Option.{same_Some}
use Rattle.abs_program.specs.Whole.{IsWhole}
use Rattle.abs_tree.specs.Syntax.{ProgramTree}
use Rattle.abs_values.specs.Results.{Result}
use Rattle.config_state.specs.Configurations.{TaskState, Configuration, IsUnfinished}
use Rattle.step_rules.proofs.ReachLemmas.{reachable_keeps}
use Rattle.step_rules.specs.Events.{Step, event_of}
use Rattle.step_rules.specs.Runs.{HasStep, IsOpen, IsReachable}
use Rattle.wait_graph.proofs.FoundLemmas.{LeastRound, one_round}
use Rattle.wait_graph.proofs.RoundLemmas.{round_map}
use Rattle.wait_graph.proofs.StalledLemmas.{circle_of_stuck, first_of_stuck, some_or_none}
use Rattle.wait_graph.proofs.WaitLemmas.{first_is_wait}
use Rattle.wait_graph.specs.FirstWaits.{first_wait, in_steps, WaitsFirst, IsCircleOfFirstWaits}
use Rattle.wait_graph.specs.Waits.{ByGet, NamesSlot, CogIsHeld, IsCircularWait, NamesUnfinished, WaitsFor}

pub circle_is_circular : (program : ProgramTree) (config : Configuration) (circle : List ℕ)
    → IsCircleOfFirstWaits program config circle → IsCircularWait program config circle
circle_is_circular program config circle is =
    round_map (WaitsFirst program config) (WaitsFor program config) (first_is_wait program config) circle is.round

-- a circle of first waits is a round to which they lead from the least unfinished task
round_of : (program : ProgramTree) (config : Configuration) (circle : List ℕ) (start : ℕ)
    → (is : IsCircleOfFirstWaits program config circle) → is.start ≡ start
    → (found : LeastRound (first_wait program config) start) × (circle ≡ found.first ∷ found.others)
round_of program config [] start is same = absurd is.round
round_of program config (first ∷ others) start is same =
    let own : first ≡ is.first = same_Some first is.first is.first_there in (
      record {
        first = first;
        others = others;
        round = is.round;
        least = subst (λ number. All (λ other. number ≤ other) (first ∷ others)) (sym own) is.least;
        steps = is.steps;
        reached =
            ap (in_steps (first_wait program config) is.steps) (sym same) ∙ is.reached ∙ ap Some (sym own);
      },
      refl,
    )

pub one_circle : (program : ProgramTree) (config : Configuration) (circle other : List ℕ)
    → IsCircleOfFirstWaits program config circle → IsCircleOfFirstWaits program config other → circle ≡ other
one_circle program config circle other is more =
    let same : more.start ≡ is.start =
    omega (
      arith,
      more.start_least.least is.start is.start_least.unfinished,
      is.start_least.least more.start more.start_least.unfinished,
    ) in
    let one = round_of program config circle is.start is refl in
    let second = round_of program config other is.start more same in
    one.1 ∙ one_round (first_wait program config) is.start one.0 second.0 ∙ sym second.1

-- where some task has no event, it has none
none_has : (program : ProgramTree) (config : Configuration) → (HasStep program config → ⊥) → (index : ℕ)
    → event_of program config index ≡ None
none_has program config stuck index = by (event_of program config index) refl
  where
    by : (found : Option Step) → event_of program config index ≡ found → event_of program config index ≡ None
    by None is = is
    by (Some step) is = absurd (stuck (index, ap is_some is))

pub stuck_waits : (program : ProgramTree) (config : Configuration) (index : ℕ) → IsWhole program.source
    → IsReachable program config → (HasStep program config → ⊥) → IsUnfinished config index
    → (other : ℕ) × WaitsFirst program config index other × WaitsFor program config index other
    × IsUnfinished config other
stuck_waits program config index whole reached stuck own =
    let kept = reachable_keeps program config whole reached in
    let first = first_of_stuck program config kept.0 kept.1 (none_has program config stuck) index own in
    (first.other, first.waits, first_is_wait program config index first.other first.waits, first.unfinished)

pub stuck_circle : (program : ProgramTree) (config : Configuration) → IsWhole program.source
    → IsReachable program config → (HasStep program config → ⊥) → IsOpen config
    → (circle : List ℕ) × IsCircleOfFirstWaits program config circle
stuck_circle program config whole reached stuck unfinished =
    let kept = reachable_keeps program config whole reached in
    circle_of_stuck program config kept.0 kept.1 (none_has program config stuck) unfinished.0 unfinished.1

pub stuck_circular : (program : ProgramTree) (config : Configuration) → IsWhole program.source
    → IsReachable program config → (HasStep program config → ⊥) → IsOpen config
    → (circle : List ℕ) × IsCircularWait program config circle
stuck_circular program config whole reached stuck unfinished =
    let found = stuck_circle program config whole reached stuck unfinished in
    (found.0, circle_is_circular program config found.0 found.1)

pub goes_on : (program : ProgramTree) (config : Configuration) → IsWhole program.source
    → IsReachable program config → IsOpen config
    → ((circle : List ℕ) → IsCircularWait program config circle → ⊥) → HasStep program config
goes_on program config whole reached unfinished none = ⊎_elim (λ some. some)
    (λ stuck.
    let kept = reachable_keeps program config whole reached in
    let found = circle_of_stuck program config kept.0 kept.1 stuck unfinished.0 unfinished.1 in
    absurd (none found.0 (circle_is_circular program config found.0 found.1)))
    (some_or_none program config)

pub held_by_name : (program : ProgramTree) (config : Configuration) (index other : ℕ) → IsWhole program.source
    → IsReachable program config → CogIsHeld program config index other
    → (next : ℕ) × NamesUnfinished program config other next
held_by_name program config index other whole reached held =
    let kept = reachable_keeps program config whole reached in
    let running =
    (kept.0.cogs_formed held.waiting.task.cog held.cog held.cog_there).holder_runs other held.held in
    let same = same_Some running.task held.holder (sym running.there ∙ held.holder_there) in
    let runs = ap (λ (one : TaskState). one.state) (sym same) ∙ running.runs in
    let at = held.at_get in (
      at.future,
      record {
        point = at.point;
        at = record {
          task = held.holder;
          there = held.holder_there;
          not_ready = λ ready. let wrong = sym ready ∙ runs in absurd cc;
          frame = at.frame;
          innermost = at.innermost;
          next = at.point_there;
        };
        slot = at.slot;
        names = subst (λ effect. NamesSlot effect at.slot) (sym at.gets) (ByGet at.slot at.target);
        holds = at.holds;
        unfinished = at.unresolved;
      },
    )

pub named_open : (program : ProgramTree) (config : Configuration) (index other : ℕ) → IsWhole program.source
    → IsReachable program config → NamesUnfinished program config index other → IsUnfinished config index
named_open program config index other whole reached names = by names.at.task.outcome refl
  where
    by : (outcome : Option Result) → names.at.task.outcome ≡ outcome → IsUnfinished config index
    by None is = record { task = names.at.task; there = names.at.there; open_still = is }
    by (Some result) is =
        let kept = reachable_keeps program config whole reached in
        absurd (names.at.not_ready ((kept.0.tasks_formed index names.at.task names.at.there).ended result is).1)
