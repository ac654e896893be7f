-- The order of knowledge in runs.
--
--   `first_ordered`            the first configuration has an order
--   `kept_ordered`             an event leads to one that has an order
--   `reachable_ordered`        each configuration that a legal history reaches has one
--   `never_closes`             no task knows, through others, its own future
use Rattle.std.proofs.Common.{◌≡◌, ◌<◌, ℕ, zero, suc, List, [], ◌∷◌, length, slice_get, Some, None, refl, sym, ap, ◌∙◌, subst, arith}
use Rattle.std.proofs.lemmas.Option.{none-some, same_Some}
use Rattle.abs_profile.specs.Accepted.{IsAcceptedProgram}
use Rattle.abs_program.specs.ProgramBodies.{entry_of_body}
use Rattle.abs_sound.proofs.AfterLemmas.{OrderAfter, before_transitive}
use Rattle.abs_sound.proofs.KnowledgeLemmas.{start_known}
use Rattle.abs_sound.proofs.RuleLemmas.{rule_ordered}
use Rattle.wait_graph.specs.Waits.{LeadsRound}
use Rattle.abs_sound.specs.Knowledge.{HasKnowledgeOrder, InResult, InSlot, IsBefore, IsClosedChain, IsEachOnce, KnowsFuture, TaskKnows}
use Rattle.abs_tree.specs.Syntax.{ProgramTree}
use Rattle.abs_values.specs.Results.{Gives}
use Rattle.config_state.specs.Bodies.{main_at}
use Rattle.config_state.specs.Configurations.{FrameState, TaskState, Configuration}
use Rattle.config_state.specs.First.{first}
use Rattle.config_state.specs.OfProgram.{IsConfigOf}
use Rattle.config_state.specs.declared.frame.Target.TheVariants.{Nothing}
use Rattle.step_rules.proofs.InductionLemmas.{reachable_has}
use Rattle.step_rules.proofs.ReachLemmas.{reachable_keeps}
use Rattle.step_rules.proofs.RuleLemmas.{rule_of}
use Rattle.step_rules.proofs.StayLemmas.{event_change}
use Rattle.step_rules.specs.Changes.{Change}
use Rattle.step_rules.specs.Events.{Step, change_of, event_of}
use Rattle.step_rules.specs.Runs.{IsReachable}
use Rattle.type_sound.proofs.LawLemmas.{reachable_typed}
use Rattle.type_sound.specs.WellTyped.{IsWellTyped}

-- the list of task 0 alone has it once
alone_once : IsEachOnce (0 ∷ []) 1
alone_once = record { below = below; there = there; once = once }
  where
    below : (index number : ℕ) → slice_get (0 ∷ []) index ≡ Some number → number < 1
    below zero number is = subst (λ (n : ℕ). n < 1) (same_Some 0 number is) (omega arith)
    below (suc index) number is = absurd (none-some number is)

    there : (number : ℕ) → number < 1 → (index : ℕ) × (slice_get (0 ∷ []) index ≡ Some number)
    there zero smaller = (0, refl)
    there (suc number) smaller = absurd (omega (arith, smaller))

    once : (one other number : ℕ) → slice_get (0 ∷ []) one ≡ Some number → slice_get (0 ∷ []) other ≡ Some number
        → one ≡ other
    once zero zero number is other_is = refl
    once zero (suc other) number is other_is = absurd (none-some number other_is)
    once (suc one) other number is other_is = absurd (none-some number is)

-- the main block knows nothing at first
main_knows : (program : ProgramTree) (index future : ℕ) → KnowsFuture (first program) index future → ⊥
main_knows program index future knows = by_index index knows.task knows.there knows.knows
  where
    by_task : (task : TaskState) → slice_get (first program).tasks 0 ≡ Some task → TaskKnows task future → ⊥
    by_task task is (InSlot zero slot frame value there slot_is inside) =
        let own = same_Some _ task is in
        let found = same_Some _ frame
        (ap (λ (one : TaskState). slice_get one.frames 0) own ∙ there) in
        none-some value (start_known (entry_of_body (main_at program)) None None [] Nothing slot value future
        (ap (λ (one : FrameState). slice_get one.slots slot) found ∙ slot_is) inside)
    by_task task is (InSlot (suc depth) slot frame value there slot_is inside) =
        none-some frame (ap (λ (one : TaskState). slice_get one.frames (suc depth)) (same_Some _ task is) ∙ there)
    by_task task is (InResult value outcome inside) =
        none-some (Gives value) (ap (λ (one : TaskState). one.outcome) (same_Some _ task is) ∙ outcome)

    by_index : (index : ℕ) (task : TaskState) → slice_get (first program).tasks index ≡ Some task
        → TaskKnows task future → ⊥
    by_index zero task is knows = by_task task is knows
    by_index (suc index) task is knows = none-some task is

-- the first configuration has the order of task 0 alone
pub first_ordered : (program : ProgramTree) → (known : HasKnowledgeOrder (first program)) × (known.order ≡ 0 ∷ [])
first_ordered program = (
  record {
    order = 0 ∷ [];
    once = alone_once;
    later = λ index future knows. absurd (main_knows program index future knows);
  },
  refl,
)

-- an event keeps an order
pub kept_ordered : (program : ProgramTree) (config : Configuration) (index : ℕ) (change : Change)
    (known : HasKnowledgeOrder config) → IsAcceptedProgram program → IsConfigOf program config
    → IsWellTyped program config → change_of program config index ≡ Some change
    → OrderAfter config known index change
kept_ordered program config index change known accepted of_program typed is =
    rule_ordered program config index change known accepted of_program typed
    (rule_of program config index change is)

-- so does a step of a configuration that is reached
step_ordered : (program : ProgramTree) → IsAcceptedProgram program → (config : Configuration) (index : ℕ) (step : Step)
    → IsReachable program config → HasKnowledgeOrder config → event_of program config index ≡ Some step
    → HasKnowledgeOrder step.config
step_ordered program accepted config index step reached known is =
    let found = event_change program config index step is in
    let kept = reachable_keeps program config accepted.whole reached in
    subst HasKnowledgeOrder (sym (ap (λ (one : Step). one.config) found.2))
    (kept_ordered program config index found.0 known accepted kept.1 (reachable_typed program config accepted reached)
    found.1).0

-- each configuration that a legal history reaches has an order
pub reachable_ordered : (program : ProgramTree) (config : Configuration) → IsAcceptedProgram program
    → IsReachable program config → HasKnowledgeOrder config
reachable_ordered program config accepted reached =
    reachable_has program HasKnowledgeOrder (step_ordered program accepted) (first_ordered program).0 config reached

-- what leads to a task through what others know comes before it
leads_before : (config : Configuration) (known : HasKnowledgeOrder config) (goal last : ℕ) (others : List ℕ)
    → LeadsRound (KnowsFuture config) goal last others → IsBefore known.order last goal
leads_before config known goal last [] leads = known.later last goal leads
leads_before config known goal last (next ∷ others) leads =
    before_transitive known.order (length config.tasks) last next goal known.once (known.later last next leads.0)
    (leads_before config known goal next others leads.1)

-- no task knows, through others, its own future
pub never_closes : (config : Configuration) (circle : List ℕ) → HasKnowledgeOrder config → IsClosedChain config circle
    → ⊥
never_closes config [] known closed = closed
never_closes config (first ∷ others) known closed =
    let before = leads_before config known first first others closed in
    let same = known.once.once before.first before.second first before.one_there before.other_there in
    omega (arith, same, before.smaller)
