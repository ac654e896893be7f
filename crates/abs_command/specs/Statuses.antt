-- What the exit statuses mean: which of them a run ends with, and which say that the call gave up.
use Rattle.std.specs.Prelude.{⊤, Bool, true, false, List, [], ◌∷◌, Option, Some, None, slice_get}
use Rattle.abs_values.specs.Results.{Result, Gives, Fails}
use Rattle.abs_command.specs.declared.command.Status.{Status}
use Rattle.abs_command.specs.declared.command.Status.TheVariants as status
use Rattle.config_state.specs.Configurations.{TaskState, Configuration}
use Rattle.contract_terms.specs.declared.pair.Pair.{Pair}
use Rattle.step_rules.specs.declared.kind.End.{End}
use Rattle.step_rules.specs.declared.kind.End.TheVariants as ends

-- whether a result is a fault
abbrev pub is_fault : Option Result → Bool
is_fault None = false
is_fault (Some (Gives value)) = false
is_fault (Some (Fails cause)) = true

-- whether a task ended by a fault
abbrev pub ended_by_fault : Option TaskState → Bool
ended_by_fault None = false
ended_by_fault (Some task) = is_fault task.outcome

-- whether the task of the main block ended by a fault
abbrev pub main_failed : Configuration → Bool
main_failed config = ended_by_fault (slice_get config.tasks 0)

-- whether a report lists a circular chain
abbrev pub has_chain : List (List Pair) → Bool
has_chain [] = false
has_chain (chain ∷ others) = true

-- the status of a run in which each task has a result: first comes whether there is a circular chain, then whether the
-- main block failed
abbrev pub status_when_done : Bool → Bool → Status
status_when_done true failed = status.Chains
status_when_done false true = status.Failed
status_when_done false false = status.Clean

-- the status of a run, by whether there is a circular chain, by its end, and by whether the main block failed
abbrev pub status_by : Bool → End → Bool → Status
status_by chained ends.Done failed = status_when_done chained failed
status_by chained ends.Stalled failed = status.Stalled
status_by chained ends.Spent failed = status.Spent

-- the status of a run, by its report, its end and its last configuration
abbrev pub status_of : List (List Pair) → End → Configuration → Status
status_of report end config = status_by (has_chain report) end (main_failed config)

-- the status of an analysis alone, by its report
abbrev pub status_of_report : List (List Pair) → Status
status_of_report report = status_when_done (has_chain report) false

-- a status that an analysis alone may end with
abbrev pub IsOfReport : Status → Type 0
IsOfReport status.Clean = ⊤
IsOfReport status.Chains = ⊤
IsOfReport other = ⊥

-- a status that a run may end with
abbrev pub IsOfRun : Status → Type 0
IsOfRun status.Clean = ⊤
IsOfRun status.Chains = ⊤
IsOfRun status.Failed = ⊤
IsOfRun status.Spent = ⊤
IsOfRun status.Stalled = ⊤
IsOfRun other = ⊥

-- a status that comes of an analysed program, by whether the words ask for the analysis alone
abbrev pub IsOfProgram : Bool → Status → Type 0
IsOfProgram true came = IsOfReport came
IsOfProgram false came = IsOfRun came

-- The source or the sink failed, or memory ran out.
abbrev pub GivesUp : Status → Type 0
GivesUp status.ReadFault = ⊤
GivesUp status.WriteFault = ⊤
GivesUp status.Memory = ⊤
GivesUp other = ⊥

-- The source was read: the status is neither a read fault nor out of memory.
abbrev pub WasRead : Status → Type 0
WasRead status.ReadFault = ⊥
WasRead status.Memory = ⊥
WasRead other = ⊤
