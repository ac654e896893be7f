-- Each way that a call can go, with its cause, the fields that it hands back, the status that is due and its whole
-- output.
--
--   `CameTo`                        a call went one of these ways:
--     `IsMisused`                   the words are not a valid command line
--     `IsUnread`                    the source failed
--     `IsOversized`                 the source has too many bytes
--     `IsRefused`                   the source is refused, for its first offence
--     `IsOverfull`                  more facts are derived of its program than the limit
--     `IsChecked`                   the program was analysed alone, as the words ask
--     `IsReported`                  the program was analysed and not run
--     `HasRun`                      the program was analysed and run
--   `IsAccepted`, `IsAnalysed`      the program of a source, with its report, and the headline of the project
use Rattle.std.specs.Prelude.{◌≡◌, ◌<◌, ◌≤◌, ◌⊎◌, ℕ, true, false, List, [], ◌++◌, length, Option, Some, None}
use Rattle.abs_options.specs.CommandLine.{AreCommandWords, asks_check, depth_of, facts_of, steps_of}
use Rattle.abs_outside.specs.Counts.{Rose}
use Rattle.abs_outside.specs.Names.{IsNotHeld}
use Rattle.abs_tree.specs.Syntax.{ProgramTree}
use Rattle.abs_tree.specs.declared.refusal.Refusal.{Refusal}
use Rattle.abs_command.specs.declared.command.Ended.{Ended}
use Rattle.abs_command.specs.declared.command.Status.{Status}
use Rattle.abs_command.specs.declared.command.Status.TheVariants as status
use Rattle.abs_sound.specs.Waits.{NeverGets}
use Rattle.abs_command.specs.Analysis.{AreFindings, HasTooMany, TellsChains}
use Rattle.abs_tree.specs.Limits.{source_limit}
use Rattle.abs_command.specs.Headline.{HasNoTypeFault, NeverMistyped, NeverStuck}
use Rattle.abs_command.specs.Sources.{IsProgramOf, FirstOffence}
use Rattle.abs_command.specs.Statuses.{status_of, status_of_report}
use Rattle.abs_command.specs.Texts.{usage_line, too_large_line, too_many_line, first_piece, last_piece}
use Rattle.abs_command.specs.Views.{SourceView}
use Rattle.abs_command.specs.Words.{Names}
use Rattle.report_printer.specs.RefusalTexts.{refusal_line}
use Rattle.run_history.specs.Turns.{IsInTurn}
use Rattle.step_rules.specs.Runs.{Ran, run_of, EndsAs}
use Rattle.step_rules.specs.declared.kind.End.{End}

-- The fields of a call that analysed nothing and ran nothing.
pub record HoldsOnly (ended : Ended) (refusal : Option Refusal) : Type 0 where
  pub refusal_is : ended.refusal ≡ refusal
  pub facts : ended.facts ≡ 0
  pub pairs : ended.pairs ≡ 0
  pub report : ended.report ≡ []
  pub history : ended.history.tasks ≡ []
  pub end : ended.end ≡ None

-- The words are not a valid command line.
pub record IsMisused (words : List (List ℕ)) (ended : Ended) (due : Option Status) (output : List ℕ) : Type 0 where
  pub cause : AreCommandWords words → ⊥
  pub fields : HoldsOnly ended None
  pub status : due ≡ Some status.Usage
  pub printed : output ≡ usage_line

-- The source failed: its count of faults rose, or its count of missing names rose and it does not tell that it holds
-- the file of the words.
pub record IsUnread (words : List (List ℕ)) (source source' : SourceView) (ended : Ended) (due : Option Status)
    (output : List ℕ) : Type 0 where
  pub file : List ℕ
  pub named : Names words file
  pub cause : Rose source.faults source'.faults ⊎ (Rose source.missing source'.missing × IsNotHeld (source.under file))
  pub fields : HoldsOnly ended None
  pub status : due ≡ Some status.ReadFault
  pub printed : output ≡ []

-- The source has too many bytes.
pub record IsOversized (words : List (List ℕ)) (bytes : List ℕ) (ended : Ended) (due : Option Status) (output : List ℕ)
    : Type 0 where
  pub named : AreCommandWords words
  pub cause : source_limit < length bytes
  pub fields : HoldsOnly ended None
  pub status : due ≡ Some status.TooLarge
  pub printed : output ≡ too_large_line

-- The source is refused, for its first offence.
pub record IsRefused (words : List (List ℕ)) (bytes : List ℕ) (ended : Ended) (due : Option Status) (output : List ℕ)
    : Type 0 where
  pub named : AreCommandWords words
  pub small : length bytes ≤ source_limit
  pub first : Refusal
  pub refusal : FirstOffence bytes first
  pub fields : HoldsOnly ended (Some first)
  pub status : due ≡ Some status.Refused
  pub printed : output ≡ refusal_line first

-- The source is accepted, and this is its program.
pub record IsAccepted (bytes : List ℕ) (program : ProgramTree) : Type 0 where
  pub small : length bytes ≤ source_limit
  pub read : IsProgramOf bytes program

-- The source is accepted, and more facts are derived of its program than the words permit.
pub record IsOverfull (words : List (List ℕ)) (bytes : List ℕ) (ended : Ended) (due : Option Status) (output : List ℕ)
    : Type 0 where
  pub named : AreCommandWords words
  pub program : ProgramTree
  pub accepted : IsAccepted bytes program
  pub cause : HasTooMany program (depth_of words) (facts_of words)
  pub fields : HoldsOnly ended None
  pub status : due ≡ Some status.TooLarge
  pub printed : output ≡ too_many_line

-- The program was analysed. The facts, pairs and report are those of the program at the depth of the words, of which no
-- more facts are derived than the words permit. The report is empty exactly where there is no circular chain of these
-- pairs, and lists just circular chains of them. If it is empty, and no statement of the program is a `get`, every
-- configuration that a legal history reaches has a step while a task in it is unfinished. No legal history leads to a
-- task that has ended with the fault Mistyped.
pub record IsAnalysed (words : List (List ℕ)) (bytes : List ℕ) (ended : Ended) (program : ProgramTree) : Type 0 where
  pub accepted : IsAccepted bytes program
  pub few : HasTooMany program (depth_of words) (facts_of words) → ⊥
  pub refusal : ended.refusal ≡ None
  pub findings : AreFindings program (depth_of words) ended.facts ended.pairs ended.report
  pub chains : TellsChains program findings.found ended.report
  pub headline : ended.report ≡ [] → NeverGets program → NeverStuck program
  pub never_mistyped : NeverMistyped program

-- The program was analysed and nothing was run. The output is what is written before a run.
pub record HasReport (words : List (List ℕ)) (bytes : List ℕ) (ended : Ended) (output : List ℕ) : Type 0 where
  pub named : AreCommandWords words
  pub program : ProgramTree
  pub analysed : IsAnalysed words bytes ended program
  pub history : ended.history.tasks ≡ []
  pub end : ended.end ≡ None
  pub printed : output ≡ first_piece words bytes program ended.facts ended.pairs ended.report

-- The program was analysed alone, as the words ask.
pub record IsChecked (words : List (List ℕ)) (bytes : List ℕ) (ended : Ended) (due : Option Status) (output : List ℕ)
    : Type 0 where
  pub asked : asks_check words ≡ true
  pub report : HasReport words bytes ended output
  pub status : due ≡ Some (status_of_report ended.report)

-- The program was analysed, and not run, although the words ask for a run. No status is due yet: a fault of the sink
-- leaves a call like this.
pub record IsReported (words : List (List ℕ)) (bytes : List ℕ) (ended : Ended) (due : Option Status) (output : List ℕ)
    : Type 0 where
  pub asked : asks_check words ≡ false
  pub report : HasReport words bytes ended output
  pub status : due ≡ None

-- The program was analysed and run, as the words ask. Its recorded history is legal, in the order of one worker, and
-- has at most as many events as they permit. The run ended in this way, no task of it ended with the fault Mistyped,
-- and it printed this.
pub record HasRun (words : List (List ℕ)) (bytes : List ℕ) (ended : Ended) (due : Option Status) (output : List ℕ)
    : Type 0 where
  pub named : AreCommandWords words
  pub asked : asks_check words ≡ false
  pub program : ProgramTree
  pub analysed : IsAnalysed words bytes ended program
  pub ran : Ran
  pub legal : run_of program ended.history.tasks ≡ Some ran
  pub in_turn : IsInTurn program ended.history.tasks
  pub few : length ended.history.tasks ≤ steps_of words
  pub end : End
  pub end_is : ended.end ≡ Some end
  pub ends : EndsAs program (steps_of words) ended.history.tasks ran.config end
  pub no_type_fault : HasNoTypeFault ran.config
  pub status : due ≡ Some (status_of ended.report end ran.config)
  pub printed : output ≡ first_piece words bytes program ended.facts ended.pairs ended.report
      ++ last_piece words ran.lines end ended.history.tasks ran.config.tasks

-- A call went one of these ways; this status is due for it, and this is its whole output.
pub data CameTo (words : List (List ℕ)) (bytes : List ℕ) (source source' : SourceView) (ended : Ended)
    (due : Option Status) (output : List ℕ) : Type 0 where
  misused : IsMisused words ended due output → CameTo words bytes source source' ended due output
  unread : IsUnread words source source' ended due output → CameTo words bytes source source' ended due output
  oversized : IsOversized words bytes ended due output → CameTo words bytes source source' ended due output
  refused : IsRefused words bytes ended due output → CameTo words bytes source source' ended due output
  overfull : IsOverfull words bytes ended due output → CameTo words bytes source source' ended due output
  checked : IsChecked words bytes ended due output → CameTo words bytes source source' ended due output
  reported : IsReported words bytes ended due output → CameTo words bytes source source' ended due output
  ran : HasRun words bytes ended due output → CameTo words bytes source source' ended due output
