-- The order of one worker.
--
--   `same_place`               tasks that are tried after equally many are one
--   `next_is_one`              the task whose event comes next is the only one
--   `turns_agree`              of two histories that are in turn one begins the other
use Rattle.std.proofs.Common.{◌≡◌, ◌<◌, ◌≤◌, ◌⊎◌, inl, inr, ℕ, List, [], ◌∷◌, ◌++◌, length, Option, Some, None, refl, sym, ◌∙◌, subst, arith, append_assoc}
use Rattle.std.proofs.lemmas.Option.{same_Some}
use Rattle.std.proofs.lemmas.Bool.Decides.{nat_tests}
use Rattle.abs_tree.specs.Syntax.{ProgramTree}
use Rattle.config_state.specs.Configurations.{Configuration}
use Rattle.step_rules.specs.Runs.{Ran}
use Rattle.run_history.proofs.RunLemmas.{has_event_there, last_there}
use Rattle.run_history.specs.Turns.{tried_before, IsNext, Begins, Continues, Follows, last_of, IsInTurn}

-- of two tasks that are there, that which is tried before as many as the other is the other
same_place : (count last one other : ℕ) → last < count → one < count → other < count
    → tried_before count last one ≤ tried_before count last other
    → tried_before count last other ≤ tried_before count last one → one ≡ other
same_place count last one other last_there one_there other_there before after = grind (arith, nat_tests)

-- the task whose event comes next is the only one
next_is_one : (program : ProgramTree) (config : Configuration) (one other : ℕ) (last : Option ℕ)
    → ((task : ℕ) → last ≡ Some task → task < length config.tasks)
    → IsNext program config one last → IsNext program config other last → one ≡ other
next_is_one program config one other None there (Begins is has) (Begins other_is other_has) = is ∙ sym other_is
next_is_one program config one other (Some last) there (Continues _ is goes) (Continues _ other_is other_goes) =
    is ∙ sym other_is
next_is_one program config one other (Some last) there (Continues _ is goes) (Follows _ stops turn) =
    absurd (stops goes)
next_is_one program config one other (Some last) there (Follows _ stops turn) (Continues _ is goes) =
    absurd (stops goes)
next_is_one program config one other (Some last) there (Follows _ stops turn) (Follows _ other_stops other_turn) =
    same_place (length config.tasks) last one other (there last refl) (has_event_there program config one turn.goes)
    (has_event_there program config other other_turn.goes) (turn.first other other_turn.goes)
    (other_turn.first one turn.goes)

-- a history that is in turn, with the first of its later events put to the earlier ones
moved : (program : ProgramTree) (earlier later : List ℕ) (task : ℕ) → IsInTurn program (earlier ++ task ∷ later)
    → IsInTurn program ((earlier ++ task ∷ []) ++ later)
moved program earlier later task = subst (IsInTurn program) (sym (append_assoc earlier (task ∷ []) later))

-- of two histories that are in turn and begin with the same events one begins the other
pub turns_agree : (program : ProgramTree) (earlier one other : List ℕ) → IsInTurn program (earlier ++ one)
    → IsInTurn program (earlier ++ other) → (rest : List ℕ) × ((one ≡ other ++ rest) ⊎ (other ≡ one ++ rest))
turns_agree program earlier [] other turn other_turn = (other, inr refl)
turns_agree program earlier (task ∷ one) [] turn other_turn = (task ∷ one, inl refl)
turns_agree program earlier (task ∷ one) (second ∷ other) turn other_turn =
    let now = turn earlier one task refl in
    let then = other_turn earlier other second refl in
    let same_ran = same_Some _ _ (sym then.1 ∙ now.1) in
    let same : second ≡ task = next_is_one program now.0.config second task (last_of earlier)
    (λ last is. last_there program earlier now.0 last now.1 is)
    (subst (λ (ran : Ran). IsNext program ran.config second (last_of earlier)) same_ran then.2) now.2 in
    by_task same (turns_agree program (earlier ++ task ∷ []) one other (moved program earlier one task turn)
    (moved program earlier other task
    (subst (λ (next : ℕ). IsInTurn program (earlier ++ next ∷ other)) same other_turn)))
  where
    by_task : second ≡ task → (rest : List ℕ) × ((one ≡ other ++ rest) ⊎ (other ≡ one ++ rest))
        → (rest : List ℕ) × ((task ∷ one ≡ second ∷ (other ++ rest)) ⊎ (second ∷ other ≡ task ∷ (one ++ rest)))
    by_task same (rest, inl is) = (rest, inl cc)
    by_task same (rest, inr is) = (rest, inr cc)
