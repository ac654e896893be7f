-- Induction over the configurations that legal histories reach.
--
--   `reachable_has`            what the first configuration has and each event of a reachable one keeps, each has
use Rattle.std.proofs.Common.{◌≡◌, ℕ, List, [], ◌∷◌, ◌++◌, Option, Some, None, fold, refl, ap, ◌∙◌, subst}
use Rattle.std.proofs.lemmas.List.Sums.{fold-append}
use Rattle.std.proofs.lemmas.Option.{same_Some}
use Rattle.abs_tree.specs.Syntax.{ProgramTree}
use Rattle.config_state.specs.Configurations.{Configuration}
use Rattle.config_state.specs.First.{first}
use Rattle.step_rules.specs.Events.{Step, event_of}
use Rattle.step_rules.specs.Runs.{Ran, ran_with, ran_after, start_of, run_of, IsReachable}

-- no event exists after one that does not
none_after : (program : ProgramTree) (history : List ℕ) → fold (ran_after program) None history ≡ None
none_after program [] = refl
none_after program (task ∷ others) = none_after program others

-- a history with one more event leads to the configuration after that event
one_more : (program : ProgramTree) (history : List ℕ) (from : Ran) (task : ℕ)
    → run_of program history ≡ Some from
    → run_of program (history ++ task ∷ []) ≡ ran_with from (event_of program from.config task)
unfolding run_of
one_more program history from task leads =
    fold-append (ran_after program) (Some (start_of program)) history (task ∷ [])
    ∙ ap (λ (ran : Option Ran). ran_after program ran task) leads

module _ (program : ProgramTree) (P : Configuration → Type 0) (keeps : (config : Configuration) (index : ℕ) (step : Step)
    → IsReachable program config → P config → event_of program config index ≡ Some step → P step.config) where
  -- the state after one more event and a history has it, if every state after this history from one that has it does
  has_after : (history others : List ℕ) (from ran : Ran) (task : ℕ) → run_of program history ≡ Some from
      → P from.config
      → ((now : Ran) → run_of program (history ++ task ∷ []) ≡ Some now → P now.config
      → fold (ran_after program) (Some now) others ≡ Some ran → P ran.config)
      → (found : Option Step) → event_of program from.config task ≡ found
      → fold (ran_after program) (ran_with from found) others ≡ Some ran → P ran.config
  has_after history others from ran task leads has goes None is ends =
      let none = none_after program others in absurd cc
  has_after history others from ran task leads has goes (Some step) is ends =
      let now : Ran = record { config = step.config; lines = from.lines ++ step.lines } in
      let reached : IsReachable program from.config =
      record { history = history; ran = from; leads = leads; config_is = refl } in
      goes now (one_more program history from task leads ∙ ap (ran_with from) is)
      (keeps from.config task step reached has is) ends

  -- so does each state that a history leads to from one that has it
  has_from : (history others : List ℕ) (from ran : Ran) → run_of program history ≡ Some from → P from.config
      → fold (ran_after program) (Some from) others ≡ Some ran → P ran.config
  has_from history [] from ran leads has ends = subst (λ (one : Ran). P one.config) (same_Some from ran ends) has
  has_from history (task ∷ others) from ran leads has ends =
      has_after history others from ran task leads has
      (λ now goes is after. has_from (history ++ task ∷ []) others now ran goes is after)
      (event_of program from.config task) refl ends

  -- What the first configuration has, and each event of a reachable one keeps, each reachable one has.
  pub reachable_has : P (first program) → (config : Configuration) → IsReachable program config → P config
  unfolding run_of
  reachable_has starts config reached =
      subst P reached.config_is
      (has_from [] reached.history (start_of program) reached.ran refl starts reached.leads)
