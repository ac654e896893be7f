-- When each status is returned.
--
--   `Causes`                        each status is returned when its cause holds, unless the call gave up
--   `IsComplete`                    with a source and a sink that do not fail, it is so unless memory runs out
--   `HasChain`, `HasNoChain`        the program of a call has a circular chain, or none
use Rattle.std.specs.Prelude.{◌≡◌, ◌≢◌, ◌<◌, ◌≤◌, ◌⊎◌, ◌↔◌, ℕ, true, List, [], length, Contains, Some}
use Rattle.abs_options.specs.CommandLine.{AreCommandWords, asks_check, depth_of, facts_of}
use Rattle.abs_outside.specs.Counts.{Rose}
use Rattle.abs_tree.specs.Limits.{source_limit}
use Rattle.abs_tree.specs.Syntax.{ProgramTree}
use Rattle.abs_command.specs.declared.command.Ended.{Ended}
use Rattle.abs_command.specs.declared.command.Status.{Status}
use Rattle.abs_command.specs.declared.command.Status.TheVariants as status
use Rattle.abs_command.specs.Analysis.{HasTooMany}
use Rattle.abs_sound.specs.Waits.{NeverGets}
use Rattle.abs_command.specs.Sources.{HasOffence}
use Rattle.abs_command.specs.Statuses.{IsOfProgram, GivesUp}
use Rattle.abs_command.specs.Views.{SinkView, SourceView}
use Rattle.abs_command.specs.Ways.{IsAccepted, IsAnalysed, IsChecked, HasRun}
use Rattle.contract_terms.specs.Chains.{IsCircular}
use Rattle.contract_terms.specs.declared.pair.Pair.{Pair}
use Rattle.step_rules.specs.declared.kind.End.TheVariants as ends

-- The status is this one, unless the source, the sink or memory failed.
abbrev pub ComesTo : Status → Status → Type 0
ComesTo came due = (came ≡ due) ⊎ GivesUp came

-- No count of the source and none of the sink rose.
pub record NoneRose (source source' : SourceView) (sink sink' : SinkView) : Type 0 where
  pub faults : Rose source.faults source'.faults → ⊥
  pub missing : Rose source.missing source'.missing → ⊥
  pub sink_faults : Rose sink.faults sink'.faults → ⊥

-- The program of the source was analysed, and this is a circular chain of its pairs, which the report lists.
pub record HasChain (words : List (List ℕ)) (bytes : List ℕ) (ended : Ended) : Type 0 where
  pub program : ProgramTree
  pub analysed : IsAnalysed words bytes ended program
  pub chain : List Pair
  pub listed : Contains ended.report chain
  pub circular : IsCircular program analysed.findings.found chain

-- The program of the source was analysed, its pairs have no circular chain, and the report lists none.
pub record HasNoChain (words : List (List ℕ)) (bytes : List ℕ) (ended : Ended) : Type 0 where
  pub program : ProgramTree
  pub analysed : IsAnalysed words bytes ended program
  pub empty : ended.report ≡ []
  pub none : (chain : List Pair) → IsCircular program analysed.findings.found chain → ⊥

-- The call did all that the words ask for: they ask for the analysis alone, or the run ended with a result of each task.
abbrev pub IsThrough : List (List ℕ) → Ended → Type 0
IsThrough words ended = (asks_check words ≡ true) ⊎ (ended.end ≡ Some ends.Done)

-- Each status is returned when its cause holds, unless the call gave up. By the ways that a call can go it is returned
-- only then; out of memory alone needs no cause. Of a text with a program the status is one of an analysis or of a run,
-- as the words ask, or too many facts are derived. It is `Chains` exactly where the report lists a chain and the call is
-- through, and `Stalled` exactly where the run stalled. With `Clean` and `Failed` there is no circular chain.
pub record Causes (words : List (List ℕ)) (bytes : List ℕ) (source source' : SourceView) (sink sink' : SinkView)
    (ended : Ended) : Type 0 where
  pub usage : (AreCommandWords words → ⊥) → ComesTo ended.status status.Usage
  pub too_large : AreCommandWords words → source_limit < length bytes → ComesTo ended.status status.TooLarge
  pub refused : AreCommandWords words → length bytes ≤ source_limit → HasOffence bytes
      → ComesTo ended.status status.Refused
  pub overfull : AreCommandWords words → (program : ProgramTree) → IsAccepted bytes program
      → HasTooMany program (depth_of words) (facts_of words) → ComesTo ended.status status.TooLarge
  pub accepted : AreCommandWords words → (program : ProgramTree) → IsAccepted bytes program
      → IsOfProgram (asks_check words) ended.status
      ⊎ (((ended.status ≡ status.TooLarge) × HasTooMany program (depth_of words) (facts_of words))
      ⊎ GivesUp ended.status)
  pub checked : (due : Status) (output : List ℕ) → IsChecked words bytes ended (Some due) output
      → ComesTo ended.status due
  pub ran : (due : Status) (output : List ℕ) → HasRun words bytes ended (Some due) output → ComesTo ended.status due
  pub stalled : (program : ProgramTree) → IsAccepted bytes program → NeverGets program → ended.status ≢ status.Stalled
  pub stalls : (GivesUp ended.status → ⊥) → (ended.status ≡ status.Stalled) ↔ (ended.end ≡ Some ends.Stalled)
  pub chains : (GivesUp ended.status → ⊥)
      → (ended.status ≡ status.Chains) ↔ ((ended.report ≢ []) × IsThrough words ended)
  pub circular : ended.status ≡ status.Chains → HasChain words bytes ended
  pub clean : ended.status ≡ status.Clean → HasNoChain words bytes ended
  pub failed : ended.status ≡ status.Failed → HasNoChain words bytes ended
  pub memory_alone : NoneRose source source' sink sink' → GivesUp ended.status → ended.status ≡ status.Memory

-- Nothing stands against an analysis: the text is not too large and has no offence, and of its program no more facts are
-- derived than the words permit.
pub record IsAnalysable (words : List (List ℕ)) (bytes : List ℕ) : Type 0 where
  pub small : length bytes ≤ source_limit
  pub sound : HasOffence bytes → ⊥
  pub few : (program : ProgramTree) → IsAccepted bytes program
      → HasTooMany program (depth_of words) (facts_of words) → ⊥

-- The status is this one, unless memory ran out.
abbrev pub IsDue : Status → Status → Type 0
IsDue came due = (came ≡ due) ⊎ (came ≡ status.Memory)

-- Of words of the command the status is the one that the text asks for, and out of memory is the one other answer.
pub record IsComplete (words : List (List ℕ)) (bytes : List ℕ) (came : Status) : Type 0 where
  pub too_large : source_limit < length bytes → IsDue came status.TooLarge
  pub refused : length bytes ≤ source_limit → HasOffence bytes → IsDue came status.Refused
  pub overfull : (program : ProgramTree) → IsAccepted bytes program
      → HasTooMany program (depth_of words) (facts_of words) → IsDue came status.TooLarge
  pub otherwise : IsAnalysable words bytes → IsOfProgram (asks_check words) came ⊎ (came ≡ status.Memory)
