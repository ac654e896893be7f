-- From what was done by some options to what is promised of the words that ask for them.
--
--   `analysis_for`             an analysis with these options is one for the words that ask for them
--   `too_many_asked`           and so it is with more facts than they permit
--   `analysed_by`              the analysis found this of a program
--   `piece_asked`              what the options say of the first piece, the words say of it
--   `report_asked`             a program was analysed and not run
--   `report_written`           before memory ran out, the whole report was written
--   `ran_asked`                a program was analysed and run
use Rattle.std.proofs.Common.{◌≡◌, Bool, false, ℕ, List, [], ◌++◌, length, ◌≤◌, refl, sym, ap, ap₂, subst, ◌∙◌}
use Rattle.std.specs.Prelude.{Option, Some, None}
use Rattle.std.specs.Io.KnownBytes.{Appends}
use Rattle.abs_options.specs.CommandLine.{asks_trace, depth_of, facts_of, made_of, steps_of}
use Rattle.abs_options.specs.declared.meaning.Options.{Options}
use Rattle.abs_tree.specs.Syntax.{Name, ProgramTree}
use Rattle.config_state.specs.ConfigViews.{configuration}
use Rattle.config_state.specs.Configurations.{TaskState}
use Rattle.contract_terms.specs.declared.pair.Pair.{Pair}
use Rattle.report_printer.specs.ReportTexts.{report_lines}
use Rattle.run_history.specs.Recorded.{Recorded}
use Rattle.run_history.specs.Turns.{IsInTurn}
use Rattle.step_rules.specs.Runs.{run_of, EndsAs}
use Rattle.step_rules.specs.declared.kind.End.{End}
use Rattle.abs_command.specs.declared.analysis.Analysis.{Analysis}
use Rattle.abs_command.specs.declared.command.Ended.{Ended}
use Rattle.abs_command.specs.declared.run.Ran as machine
use Rattle.abs_command.specs.Analysis.{AreFindings, HasTooMany, TellsChains}
use Rattle.abs_command.specs.Machine.{IsAnalysis, IsRun}
use Rattle.abs_command.specs.Promises.{WrittenBefore}
use Rattle.abs_command.specs.Promises.WrittenBefore.{report as whole_report}
use Rattle.abs_command.specs.Statuses.{status_of}
use Rattle.abs_command.specs.Texts.{end_text, first_piece, heading, trace_if}
use Rattle.abs_command.specs.Ways.{HasReport, HasRun, IsAnalysed}
use Rattle.abs_command.specs.Words.{AskFor, made_in}
use Rattle.abs_command.proofs.HeadlineLemmas.{accepted_never_mistyped, accepted_never_stuck}
use Rattle.abs_command.proofs.InputLemmas.{made_asked}

-- each report tells the circular chains of its pairs
abbrev pub ReportsTell : Type 0
ReportsTell = (program : ProgramTree) (depth facts pairs : ℕ) (report : List (List Pair))
    → (findings : AreFindings program depth facts pairs report) → TellsChains program findings.found report

-- An analysis with some options is one for the words that ask for them.
pub analysis_for : {bytes : List ℕ} {program : ProgramTree} {analysis : Analysis} (words : List (List ℕ))
    (options : Options)
    → AskFor words options → IsAnalysis bytes program options.depth options.facts analysis
    → IsAnalysis bytes program (depth_of words) (facts_of words) analysis
analysis_for {bytes} {program} {analysis} words options asks is =
    subst (λ (n : ℕ). IsAnalysis bytes program n (facts_of words) analysis) asks.are.depth
    (subst (λ (n : ℕ). IsAnalysis bytes program options.depth n analysis) asks.are.facts is)

-- More facts are derived than some options permit, and so than the words permit that ask for them.
pub too_many_asked : (words : List (List ℕ)) (options : Options) → AskFor words options → (program : ProgramTree)
    → HasTooMany program options.depth options.facts → HasTooMany program (depth_of words) (facts_of words)
too_many_asked words options asks program many =
    subst (λ (n : ℕ). HasTooMany program n (facts_of words)) asks.are.depth
    (subst (λ (n : ℕ). HasTooMany program options.depth n) asks.are.facts many)

-- The analysis found this of the program, which is never stuck if no statement of it is an `await` or a `get`.
pub analysed_by : ReportsTell → (words : List (List ℕ)) (options : Options) (bytes : List ℕ) (ended : Ended) (program : ProgramTree)
    (analysis : Analysis)
    → AskFor words options → IsAnalysis bytes program options.depth options.facts analysis → ended.refusal ≡ None
    → ended.facts ≡ analysis.facts → ended.pairs ≡ analysis.pairs → ended.report ≡ analysis.report
    → IsAnalysed words bytes ended program
analysed_by tells words options bytes ended program analysis asks is refusal facts pairs report =
    let depth = depth_of words in
    let own : IsAnalysis bytes program depth (facts_of words) analysis = analysis_for words options asks is in
    let findings : AreFindings program depth ended.facts ended.pairs ended.report =
    subst (λ (n : ℕ). AreFindings program depth n ended.pairs ended.report) (sym facts)
    (subst (λ (n : ℕ). AreFindings program depth analysis.facts n ended.report) (sym pairs)
    (subst (λ (chains : List (List Pair)). AreFindings program depth analysis.facts analysis.pairs chains) (sym report)
    own.findings)) in
    record {
      accepted = own.accepted;
      few = own.few;
      refusal = refusal;
      findings = findings;
      chains = tells program depth ended.facts ended.pairs ended.report findings;
      headline = λ empty. accepted_never_stuck bytes program own.accepted.read;
      never_mistyped = accepted_never_mistyped bytes program own.accepted.read;
    }

-- What the options say of the first piece is what the words say of it.
pub piece_asked : (words : List (List ℕ)) (options : Options) (bytes : List ℕ) (ended : Ended) (program : ProgramTree)
    (analysis : Analysis) (text : List ℕ)
    → AskFor words options → ended.facts ≡ analysis.facts → ended.pairs ≡ analysis.pairs
    → ended.report ≡ analysis.report
    → text ≡ heading (made_in options.input) analysis.facts analysis.pairs ++ report_lines bytes program analysis.report
    → text ≡ first_piece words bytes program ended.facts ended.pairs ended.report
piece_asked words options bytes ended program analysis text asks facts pairs report is =
    is ∙ same (made_in options.input) (made_of words) analysis.facts ended.facts analysis.pairs ended.pairs analysis.report
    ended.report (made_asked words options asks) (sym facts) (sym pairs) (sym report)
  where
    same : (made made' : Option ℕ) (facts facts' pairs pairs' : ℕ) (report report' : List (List Pair))
        → made ≡ made' → facts ≡ facts' → pairs ≡ pairs' → report ≡ report'
        → heading made facts pairs ++ report_lines bytes program report
        ≡ heading made' facts' pairs' ++ report_lines bytes program report'
    same made made' facts facts' pairs pairs' report report' made_is facts_are pairs_are report_is = cc

-- A program was analysed and not run.
pub report_asked : ReportsTell → (words : List (List ℕ)) (options : Options) (bytes : List ℕ) (ended : Ended)
    (program : ProgramTree) (analysis : Analysis) (text : List ℕ)
    → AskFor words options → IsAnalysis bytes program options.depth options.facts analysis → ended.refusal ≡ None
    → ended.facts ≡ analysis.facts → ended.pairs ≡ analysis.pairs → ended.report ≡ analysis.report
    → ended.history.tasks ≡ [] → ended.end ≡ None
    → text ≡ heading (made_in options.input) analysis.facts analysis.pairs ++ report_lines bytes program analysis.report
    → HasReport words bytes ended text
report_asked tells words options bytes ended program analysis text asks is refusal facts pairs report history end
    text_is = record {
      named = asks.of_command;
      program = program;
      analysed = analysed_by tells words options bytes ended program analysis asks is refusal facts pairs report;
      history = history;
      end = end;
      printed = piece_asked words options bytes ended program analysis text asks facts pairs report text_is;
    }

-- Before memory ran out, the whole report was written.
pub report_written : (words : List (List ℕ)) (options : Options) (bytes : List ℕ) (program : ProgramTree)
    (analysis : Analysis) (old new : Option (List ℕ)) (text : List ℕ)
    → AskFor words options → IsAnalysis bytes program options.depth options.facts analysis
    → text ≡ heading (made_in options.input) analysis.facts analysis.pairs ++ report_lines bytes program analysis.report
    → Appends old new text → WrittenBefore words bytes old new
report_written words options bytes program analysis old new text asks is text_is written =
    let own : IsAnalysis bytes program (depth_of words) (facts_of words) analysis =
    analysis_for words options asks is in
    let piece : text ≡ first_piece words bytes program analysis.facts analysis.pairs analysis.report =
    text_is ∙ ap (λ (made : Option ℕ). heading made analysis.facts analysis.pairs
    ++ report_lines bytes program analysis.report) (made_asked words options asks) in
    whole_report asks.of_command program own.accepted own.few analysis.facts analysis.pairs analysis.report own.findings
    (subst (Appends old new) piece written)

-- A program was analysed and run.
pub ran_asked : ReportsTell → (words : List (List ℕ)) (options : Options) (bytes : List ℕ) (ended : Ended)
    (program : ProgramTree) (analysis : Analysis) (names : List Name) (run : machine.Ran) (first last : List ℕ)
    → AskFor words options → options.check ≡ false
    → IsAnalysis bytes program options.depth options.facts analysis → IsRun names program options.steps run
    → ended.refusal ≡ None → ended.facts ≡ analysis.facts → ended.pairs ≡ analysis.pairs
    → ended.report ≡ analysis.report → ended.history ≡ run.history → ended.end ≡ Some run.end
    → ended.status ≡ status_of analysis.report run.end (configuration names run.config)
    → first ≡ heading (made_in options.input) analysis.facts analysis.pairs ++ report_lines bytes program analysis.report
    → last ≡ end_text run.lines run.end (length run.history.tasks) (configuration names run.config).tasks
    ++ trace_if options.trace run.history.tasks
    → HasRun words bytes ended (Some ended.status) (first ++ last)
ran_asked tells words options bytes ended program analysis names run first last asks no_check is ran refusal facts pairs
    listed history end status first_is last_is =
    let config = configuration names run.config in
    let limit = steps_of words in
    let own : IsRun names program limit run = subst (λ (n : ℕ). IsRun names program n run) asks.are.steps ran in
    let tasks : run.history.tasks ≡ ended.history.tasks =
    ap (λ (history : Recorded). history.tasks) (sym history) in
    let analysed = analysed_by tells words options bytes ended program analysis asks is refusal facts pairs listed in
    record {
      named = asks.of_command;
      asked = sym asks.are.check ∙ no_check;
      program = program;
      analysed = analysed;
      ran = record { config = config; lines = run.lines };
      legal = subst (λ (history : List ℕ). run_of program history
          ≡ Some (record { config = config; lines = run.lines })) tasks own.legal;
      in_turn = subst (IsInTurn program) tasks own.in_turn;
      few = subst (λ (history : List ℕ). length history ≤ limit) tasks own.few;
      end = run.end;
      end_is = end;
      ends = subst (λ (history : List ℕ). EndsAs program limit history config run.end) tasks own.ends;
      no_type_fault = analysed.never_mistyped config (record {
        history = run.history.tasks;
        ran = record { config = config; lines = run.lines };
        leads = own.legal;
        config_is = refl;
      });
      status = ap Some (status ∙ ap (λ (r : List (List Pair)). status_of r run.end config) (sym listed));
      printed = ap₂ (λ (one other : List ℕ). one ++ other)
          (piece_asked words options bytes ended program analysis first asks facts pairs listed first_is)
          (last_is ∙ same run.lines run.end config.tasks run.history.tasks ended.history.tasks options.trace
          (asks_trace words) tasks asks.are.trace);
    }
  where
    same : (lines : List (List ℕ)) (end : End) (tasks : List TaskState) (history others : List ℕ) (trace asked : Bool)
        → history ≡ others → trace ≡ asked
        → end_text lines end (length history) tasks ++ trace_if trace history
        ≡ end_text lines end (length others) tasks ++ trace_if asked others
    same lines end tasks history others trace asked history_is trace_is = cc
