-- What a guard reports is so of the futures of its slots, and only one of the three reports is.
--
--   `PartSays`, `part_says`        what a part of a guard reports is so of its slot
--   `GuardSays`, `guard_says`      what a guard reports is so of its slots
--   `one_report`                   only one report is so
--   `guard_reports`                a guard has the report that is so, and no other
use Rattle.std.proofs.Common.{◌≡◌, ◌<◌, ◌⊎◌, ◌↔◌, ℕ, zero, suc, List, [], ◌∷◌, slice_get, Option, Some, None, is_some, inl, inr, refl, sym, ap, ◌∙◌, subst, arith}
use Rattle.std.proofs.lemmas.Bool.{cases_order}
use Rattle.std.proofs.lemmas.Option.{none-some, same_Some}
use Rattle.abs_values.specs.Results.{Result}
use Rattle.abs_values.specs.ValueTrees.{ValueTree, IntValue, StringValue, BuiltValue, ObjectValue, FutureValue, NullValue}
use Rattle.abs_values.specs.declared.evaluated.Fault.{Fault}
use Rattle.config_state.proofs.EachLemmas.{Each-none, Each-more}
use Rattle.config_state.specs.Configurations.{TaskState, Configuration, Each}
use Rattle.step_rules.specs.Guards.{HasFuture, HasResolved, HasUnresolved, OneIsUnresolved, IsFirstFault, fault_of_slot}
use Rattle.step_rules.specs.Lookups.{named_value}
use Rattle.step_rules.specs.WaitRules.{Guard, Faulty, Unresolved, Resolved, guard_by_outcome, guard_by_task, guard_by_value, guard_before, guard_of}

module _ (config : Configuration) (slots : List ValueTree) where
  -- what a part of a guard reports of its slot
  abbrev PartSays : Option ℕ → Guard → Type 0
  PartSays name (Faulty cause) =
      (HasFuture config slots name → ⊥) × (cause ≡ fault_of_slot (named_value slots name))
  PartSays name Unresolved = HasUnresolved config slots name
  PartSays name Resolved = HasResolved config slots name

  -- a slot without a future has its fault
  no_future : (name : Option ℕ) (value : Option ValueTree) → named_value slots name ≡ value
      → ((future : ℕ) → value ≡ Some (FutureValue future) → ⊥)
      → (HasFuture config slots name → ⊥) × (fault_of_slot value ≡ fault_of_slot (named_value slots name))
  no_future name value is never =
      (λ has. never has.future (sym is ∙ has.holds), ap fault_of_slot (sym is))

  -- a future by the result of its task
  outcome_says : (name : Option ℕ) (has : HasFuture config slots name) (outcome : Option Result)
      → has.task.outcome ≡ outcome → PartSays name (guard_by_outcome outcome)
  outcome_says name has None is = record { has = has; unresolved = is }
  outcome_says name has (Some result) is = record { has = has; resolved = ap is_some is }

  -- a future by its task
  task_says : (name : Option ℕ) (future : ℕ) → named_value slots name ≡ Some (FutureValue future)
      → (found : Option TaskState) → slice_get config.tasks future ≡ found → PartSays name (guard_by_task found)
  task_says name future holds None none = (
    λ has. let same = same_future future has.future (sym holds ∙ has.holds) in
        none-some has.task (sym none ∙ (ap (slice_get config.tasks) same ∙ has.there)),
    ap fault_of_slot (sym holds),
  )
    where
      same_future : (one other : ℕ) → Some (FutureValue one) ≡ Some (FutureValue other) → one ≡ other
      same_future one other same = cc
  task_says name future holds (Some task) there =
      outcome_says name (record { future = future; task = task; holds = holds; there = there }) task.outcome refl

  -- what a part of a guard reports is so
  part_says : (name : Option ℕ) → PartSays name (guard_by_value config (named_value slots name))
  part_says name = by_value (named_value slots name) refl
    where
      by_value : (value : Option ValueTree) → named_value slots name ≡ value
          → PartSays name (guard_by_value config value)
      by_value None is = no_future name None is (λ future same. absurd cc)
      by_value (Some (IntValue number)) is = no_future name (Some (IntValue number)) is (λ future same. absurd cc)
      by_value (Some (StringValue string)) is =
          no_future name (Some (StringValue string)) is (λ future same. absurd cc)
      by_value (Some (BuiltValue constructor parts)) is =
          no_future name (Some (BuiltValue constructor parts)) is (λ future same. absurd cc)
      by_value (Some (ObjectValue object)) is =
          no_future name (Some (ObjectValue object)) is (λ future same. absurd cc)
      by_value (Some NullValue) is = no_future name (Some NullValue) is (λ future same. absurd cc)
      by_value (Some (FutureValue future)) is = task_says name future is (slice_get config.tasks future) refl

  -- what a guard reports of its slots
  abbrev pub GuardSays : List (Option ℕ) → Guard → Type 0
  GuardSays names (Faulty cause) = IsFirstFault config slots names cause
  GuardSays names Unresolved = OneIsUnresolved config slots names
  GuardSays names Resolved = Each names (λ part name. HasResolved config slots name)

  -- a first fault after a slot that holds a future
  later_fault : (first : Option ℕ) (others : List (Option ℕ)) (cause : Fault) → HasFuture config slots first
      → IsFirstFault config slots others cause → IsFirstFault config slots (first ∷ others) cause
  later_fault first others cause has later = record {
    index = suc later.index;
    name = later.name;
    there = later.there;
    has_none = later.has_none;
    before = before;
    cause_is = later.cause_is;
  }
    where
      before : (earlier : ℕ) (other : Option ℕ) → earlier < suc later.index
          → slice_get (first ∷ others) earlier ≡ Some other → HasFuture config slots other
      before zero other below is = subst (HasFuture config slots) (same_Some first other is) has
      before (suc earlier) other below is = later.before earlier other (omega (arith, below)) is

  -- a part before the rest of a guard
  before_says : (first : Option ℕ) (others : List (Option ℕ)) (part rest : Guard) → PartSays first part
      → GuardSays others rest → GuardSays (first ∷ others) (guard_before part rest)
  before_says first others (Faulty cause) rest says later = record {
    index = 0;
    name = first;
    there = refl;
    has_none = says.0;
    before = λ earlier other below is. absurd (omega (arith, below));
    cause_is = says.1;
  }
  before_says first others Unresolved (Faulty cause) says later = later_fault first others cause says.has later
  before_says first others Unresolved Unresolved says later = record {
    all_have = Each-more _ first others says.has later.all_have;
    index = 0;
    name = first;
    there = refl;
    unresolved = says;
  }
  before_says first others Unresolved Resolved says later = record {
    all_have = Each-more _ first others says.has (λ index name is. (later index name is).has);
    index = 0;
    name = first;
    there = refl;
    unresolved = says;
  }
  before_says first others Resolved (Faulty cause) says later = later_fault first others cause says.has later
  before_says first others Resolved Unresolved says later = record {
    all_have = Each-more _ first others says.has later.all_have;
    index = suc later.index;
    name = later.name;
    there = later.there;
    unresolved = later.unresolved;
  }
  before_says first others Resolved Resolved says later = Each-more _ first others says later

  -- what a guard reports is so
  guard_says : (names : List (Option ℕ)) → GuardSays names (guard_of config slots names)
  guard_says [] = Each-none _
  guard_says (first ∷ others) =
      before_says first others (guard_by_value config (named_value slots first)) (guard_of config slots others)
      (part_says first) (guard_says others)

  -- a slot holds the future of one task
  same_task : (name : Option ℕ) (one other : HasFuture config slots name) → one.task ≡ other.task
  same_task name one other = let holds = one.holds in let held = other.holds in let there = one.there in
      let found = other.there in cc

  -- no future is both resolved and unresolved
  not_both : (name : Option ℕ) → HasResolved config slots name → HasUnresolved config slots name → ⊥
  not_both name resolved waits =
      let some = resolved.resolved in
      let none = ap (λ (task : TaskState). is_some task.outcome) (same_task name resolved.has waits.has)
      ∙ ap is_some waits.unresolved in
      cc

  -- there is one first fault
  same_fault : (names : List (Option ℕ)) (cause goal : Fault) → IsFirstFault config slots names cause
      → IsFirstFault config slots names goal → cause ≡ goal
  same_fault names cause goal one other = by (cases_order one.index other.index)
    where
      by : (one.index ≡ other.index) ⊎ ((one.index < other.index) ⊎ (other.index < one.index)) → cause ≡ goal
      by (inl same) =
          one.cause_is ∙ (ap (λ (name : Option ℕ). fault_of_slot (named_value slots name))
          (same_Some one.name other.name (sym one.there ∙ (ap (slice_get names) same ∙ other.there)))
          ∙ sym other.cause_is)
      by (inr (inl below)) = absurd (one.has_none (other.before one.index one.name below one.there))
      by (inr (inr below)) = absurd (other.has_none (one.before other.index other.name below other.there))

  -- only one report is so
  one_report : (names : List (Option ℕ)) (one other : Guard) → GuardSays names one → GuardSays names other
      → one ≡ other
  one_report names (Faulty cause) (Faulty goal) says also = ap Faulty (same_fault names cause goal says also)
  one_report names (Faulty cause) Unresolved says also =
      absurd (says.has_none (also.all_have says.index says.name says.there))
  one_report names (Faulty cause) Resolved says also =
      absurd (says.has_none (also says.index says.name says.there).has)
  one_report names Unresolved (Faulty goal) says also =
      absurd (also.has_none (says.all_have also.index also.name also.there))
  one_report names Unresolved Unresolved says also = refl
  one_report names Unresolved Resolved says also =
      absurd (not_both says.name (also says.index says.name says.there) says.unresolved)
  one_report names Resolved (Faulty goal) says also =
      absurd (also.has_none (says also.index also.name also.there).has)
  one_report names Resolved Unresolved says also =
      absurd (not_both also.name (says also.index also.name also.there) also.unresolved)
  one_report names Resolved Resolved says also = refl

  -- a guard has a report exactly where that is so
  pub guard_reports : (names : List (Option ℕ)) (report : Guard)
      → (guard_of config slots names ≡ report) ↔ GuardSays names report
  guard_reports names report = (
    λ is. subst (GuardSays names) is (guard_says names),
    λ says. one_report names (guard_of config slots names) report (guard_says names) says,
  )
