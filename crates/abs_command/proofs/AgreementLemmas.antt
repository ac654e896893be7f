-- Two calls with the same words and the same bytes come to the same.
--
--   `done_stays`               where every task has a result, none has an event
--   `ended_stays`              a run that ended does not go on
--   `one_history`, `one_end`   two runs of a program that ended have one history, and ended in one way
--   `same_misused`, `same_oversized`, `same_refused`, `same_overfull`, `same_checked`, `same_run`
--                              two calls that went the same way came to the same
--   `calls_agree`              so did any two
use Rattle.std.proofs.Common.{◌≡◌, ◌⊎◌, inl, inr, ℕ, ◌≤◌, List, [], ◌∷◌, ◌++◌, Option, Some, None, refl, sym, ap, ap₂, subst, ◌∙◌, length, slice_get, arith}
use Rattle.std.proofs.lemmas.List.{append-nil, length-append}
use Rattle.std.proofs.lemmas.Option.{same_Some}
use Rattle.std.specs.Prelude.{is_some}
use Rattle.abs_options.specs.CommandLine.{depth_of, steps_of}
use Rattle.abs_values.specs.Results.{Result}
use Rattle.abs_tree.specs.Syntax.{ProgramTree}
use Rattle.abs_tree.specs.declared.refusal.Refusal.{Refusal}
use Rattle.config_state.specs.Configurations.{TaskState, Configuration}
use Rattle.run_history.proofs.RunLemmas.{has_event_there}
use Rattle.run_history.proofs.TurnLemmas.{turns_agree}
use Rattle.run_history.specs.Turns.{HasEvent, last_of, IsInTurn}
use Rattle.step_rules.proofs.CauseLemmas.{ended_has_none}
use Rattle.step_rules.specs.Runs.{Ran, run_of, IsDone, EndsAs}
use Rattle.step_rules.specs.declared.kind.End.{End}
use Rattle.step_rules.specs.declared.kind.End.TheVariants.{Done, Stalled, Spent}
use Rattle.abs_command.proofs.PromiseLemmas.{due_is, not_asked, too_many_of}
use Rattle.abs_command.proofs.RunLemmas.{IsNext-has_event}
use Rattle.abs_command.proofs.SourceLemmas.{one_program, no_offence, one_first_offence}
use Rattle.abs_command.specs.Analysis.{AreFindings, SameFindings}
use Rattle.abs_command.specs.Promises.{IsSame}
use Rattle.abs_command.specs.Views.{SourceView}
use Rattle.abs_command.specs.Ways.{HoldsOnly, IsMisused, IsOversized, IsRefused, IsOverfull, IsAnalysed, IsChecked, HasRun, CameTo}
use Rattle.abs_command.specs.Ways.CameTo.{misused, unread, oversized, refused, overfull, checked, reported, ran}
use Rattle.abs_command.specs.Statuses.{status_of, status_of_report, WasRead}
use Rattle.abs_command.specs.Texts.{first_piece, last_piece}
use Rattle.abs_command.specs.declared.command.Ended.{Ended}
use Rattle.contract_terms.specs.declared.pair.Pair.{Pair}
use Rattle.list_facts.proofs.EntryLemmas.{slice_get-there}
use Rattle.report_printer.specs.RefusalTexts.{refusal_line}

-- two findings of a program are the same
abbrev FindingsAgree : Type 0
FindingsAgree = (program : ProgramTree) (depth facts pairs facts' pairs' : ℕ) (report report' : List (List Pair))
    → AreFindings program depth facts pairs report → AreFindings program depth facts' pairs' report'
    → SameFindings facts pairs report facts' pairs' report'

module _ (program : ProgramTree) where
  -- where every task has a result, none has an event
  done_stays : (config : Configuration) (index : ℕ) → IsDone config → HasEvent program config index → ⊥
  done_stays config index done has =
      let at = slice_get-there config.tasks index (has_event_there program config index has) in
      by_outcome at.0 at.1 at.0.outcome refl
    where
      by_outcome : (task : TaskState) → slice_get config.tasks index ≡ Some task → (outcome : Option Result)
          → task.outcome ≡ outcome → ⊥
      by_outcome task there None open_still =
          done index (record { task = task; there = there; open_still = open_still })
      by_outcome task there (Some result) ended =
          let none = ended_has_none program config index task there (ap is_some ended) in absurd cc

  -- a run that ended does not go on: its history is not the beginning of a longer one that is in turn and has at most
  -- as many events
  ended_stays : (limit : ℕ) (history others : List ℕ) (task : ℕ) (own : Ran) (end : End)
      → run_of program history ≡ Some own → EndsAs program limit history own.config end
      → IsInTurn program (history ++ task ∷ others) → length (history ++ task ∷ others) ≤ limit → ⊥
  ended_stays limit history others task own end leads ends turn few =
      let next = turn history others task refl in
      let same : next.0 ≡ own = same_Some _ _ (sym next.1 ∙ leads) in
      let has : HasEvent program own.config task =
      subst (λ (one : Ran). HasEvent program one.config task) same
      (IsNext-has_event program next.0.config task (last_of history) next.2) in
      by_end end ends has
    where
      by_end : (end : End) → EndsAs program limit history own.config end → HasEvent program own.config task → ⊥
      by_end Done ends has = done_stays own.config task ends.1 has
      by_end Stalled ends has = ends.3 (task, has)
      by_end Spent ends has =
          let long = length-append history (task ∷ others) in
          let full = ends.0 in
          omega arith

  -- a history that begins another one is that one, if its run ended
  begins_is : (limit : ℕ) (history rest : List ℕ) (own : Ran) (end : End) → run_of program history ≡ Some own
      → EndsAs program limit history own.config end → IsInTurn program (history ++ rest)
      → length (history ++ rest) ≤ limit → history ++ rest ≡ history
  begins_is limit history [] own end leads ends turn few = append-nil history
  begins_is limit history (task ∷ others) own end leads ends turn few =
      absurd (ended_stays limit history others task own end leads ends turn few)

  -- two runs that ended have the same history
  one_history : (limit : ℕ) (one other : List ℕ) (own own' : Ran) (end end' : End) → run_of program one ≡ Some own
      → run_of program other ≡ Some own' → EndsAs program limit one own.config end
      → EndsAs program limit other own'.config end' → IsInTurn program one → IsInTurn program other
      → length one ≤ limit → length other ≤ limit → one ≡ other
  one_history limit one other own own' end end' leads leads' ends ends' turn turn' few few' =
      by (turns_agree program [] one other turn turn')
    where
      by : (rest : List ℕ) × ((one ≡ other ++ rest) ⊎ (other ≡ one ++ rest)) → one ≡ other
      by (rest, inl is) =
          is ∙ begins_is limit other rest own' end' leads' ends' (subst (IsInTurn program) is turn)
          (subst (λ (history : List ℕ). length history ≤ limit) is few)
      by (rest, inr is) =
          sym (is ∙ begins_is limit one rest own end leads ends (subst (IsInTurn program) is turn')
          (subst (λ (history : List ℕ). length history ≤ limit) is few'))

  -- a run ended in one way
  one_end : (limit : ℕ) (history : List ℕ) (config : Configuration) (end other : End)
      → EndsAs program limit history config end → EndsAs program limit history config other → end ≡ other
  one_end limit history config Done Done ends ends' = refl
  one_end limit history config Done Stalled ends ends' = absurd (ends.1 ends'.2.0 ends'.2.1)
  one_end limit history config Done Spent ends ends' = absurd (ends.1 ends'.1.0 ends'.1.1)
  one_end limit history config Stalled Done ends ends' = absurd (ends'.1 ends.2.0 ends.2.1)
  one_end limit history config Stalled Stalled ends ends' = refl
  one_end limit history config Stalled Spent ends ends' = absurd (ends.1 ends'.0)
  one_end limit history config Spent Done ends ends' = absurd (ends'.1 ends.1.0 ends.1.1)
  one_end limit history config Spent Stalled ends ends' = absurd (ends'.1 ends.0)
  one_end limit history config Spent Spent ends ends' = refl

module _ {one two : Ended} {output output' : List ℕ} where
  -- two calls that analysed nothing came to the same, if they wrote the same, with the same status and refusal
  same_before : {refusal refusal' : Option Refusal} → HoldsOnly one refusal → HoldsOnly two refusal'
      → refusal ≡ refusal' → one.status ≡ two.status → output ≡ output' → IsSame one output two output'
  same_before x y refusal status written = record {
    output_is = written;
    status = status;
    refusal = x.refusal_is ∙ (refusal ∙ sym y.refusal_is);
    facts = x.facts ∙ sym y.facts;
    pairs = x.pairs ∙ sym y.pairs;
    report = x.report ∙ sym y.report;
    history = x.history ∙ sym y.history;
    end = x.end ∙ sym y.end;
  }

  -- so did two calls with words that are not of the command
  same_misused : {words : List (List ℕ)} → IsMisused words one (Some one.status) output
      → IsMisused words two (Some two.status) output' → IsSame one output two output'
  same_misused x y =
      same_before x.fields y.fields refl (due_is x.status ∙ sym (due_is y.status)) (x.printed ∙ sym y.printed)

-- what two calls found of the program of a source is the same
same_findings : FindingsAgree → {words : List (List ℕ)} {bytes : List ℕ} {one two : Ended}
    {program program' : ProgramTree} → program ≡ program'
    → IsAnalysed words bytes one program → IsAnalysed words bytes two program'
    → SameFindings one.facts one.pairs one.report two.facts two.pairs two.report
same_findings agree {words} {bytes} {one} {two} {program} {program'} same x y =
    agree program (depth_of words) one.facts one.pairs two.facts two.pairs one.report two.report x.findings
    (subst (λ (p : ProgramTree). AreFindings p (depth_of words) two.facts two.pairs two.report) (sym same) y.findings)

-- and so is what they wrote of it
same_piece : (words : List (List ℕ)) (bytes : List ℕ) (one two : Ended) {program program' : ProgramTree}
    → program ≡ program'
    → SameFindings one.facts one.pairs one.report two.facts two.pairs two.report
    → first_piece words bytes program one.facts one.pairs one.report
    ≡ first_piece words bytes program' two.facts two.pairs two.report
same_piece words bytes one two {program} {program'} is same =
    by program program' one.facts two.facts one.pairs two.pairs one.report two.report is same.facts_same
    same.pairs_same same.report_same
  where
    by : (program program' : ProgramTree) (facts facts' pairs pairs' : ℕ) (report report' : List (List Pair))
        → program ≡ program' → facts ≡ facts' → pairs ≡ pairs' → report ≡ report'
        → first_piece words bytes program facts pairs report ≡ first_piece words bytes program' facts' pairs' report'
    by program program' facts facts' pairs pairs' report report' program_is facts_are pairs_are report_is = cc

module _ {words : List (List ℕ)} {bytes : List ℕ} {one two : Ended} {output output' : List ℕ} where
  -- so did two with a source that is too large
  same_oversized : IsOversized words bytes one (Some one.status) output
      → IsOversized words bytes two (Some two.status) output' → IsSame one output two output'
  same_oversized x y =
      same_before x.fields y.fields refl (due_is x.status ∙ sym (due_is y.status)) (x.printed ∙ sym y.printed)

  -- and two with a source that is refused
  same_refused : IsRefused words bytes one (Some one.status) output
      → IsRefused words bytes two (Some two.status) output' → IsSame one output two output'
  same_refused x y =
      let first = one_first_offence bytes x.first y.first x.refusal y.refusal in
      same_before x.fields y.fields (ap Some first) (due_is x.status ∙ sym (due_is y.status))
      (x.printed ∙ (ap refusal_line first ∙ sym y.printed))

  -- and two of whose program too many facts are derived
  same_overfull : IsOverfull words bytes one (Some one.status) output
      → IsOverfull words bytes two (Some two.status) output' → IsSame one output two output'
  same_overfull x y =
      same_before x.fields y.fields refl (due_is x.status ∙ sym (due_is y.status)) (x.printed ∙ sym y.printed)

  -- and two that analysed the program of a source alone
  same_checked : FindingsAgree → IsChecked words bytes one (Some one.status) output
      → IsChecked words bytes two (Some two.status) output' → IsSame one output two output'
  same_checked agree x y =
      let program : x.report.program ≡ y.report.program = one_program x.report.analysed.accepted.read y.report.analysed.accepted.read in
      let same = same_findings agree program x.report.analysed y.report.analysed in
      record {
        output_is = x.report.printed ∙ (same_piece words bytes one two program same ∙ sym y.report.printed);
        status = due_is x.status ∙ (ap status_of_report same.report_same ∙ sym (due_is y.status));
        refusal = x.report.analysed.refusal ∙ sym y.report.analysed.refusal;
        facts = same.facts_same;
        pairs = same.pairs_same;
        report = same.report_same;
        history = x.report.history ∙ sym y.report.history;
        end = x.report.end ∙ sym y.report.end;
      }

  -- and two that ran the program of a source
  same_run : FindingsAgree → HasRun words bytes one (Some one.status) output
      → HasRun words bytes two (Some two.status) output' → IsSame one output two output'
  same_run agree x y =
      let limit = steps_of words in
      let same_program : x.program ≡ y.program = one_program x.analysed.accepted.read y.analysed.accepted.read in
      let legal = subst (λ (p : ProgramTree). run_of p two.history.tasks ≡ Some y.ran) (sym same_program) y.legal in
      let ends = subst (λ (p : ProgramTree). EndsAs p limit two.history.tasks y.ran.config y.end)
      (sym same_program) y.ends in
      let turn = subst (λ (p : ProgramTree). IsInTurn p two.history.tasks) (sym same_program) y.in_turn in
      let history = one_history x.program limit one.history.tasks two.history.tasks x.ran y.ran x.end y.end
      x.legal legal x.ends ends x.in_turn turn x.few y.few in
      let same_ran : x.ran ≡ y.ran =
      same_Some _ _ (sym x.legal ∙ (ap (run_of x.program) history ∙ legal)) in
      let same_end : x.end ≡ y.end = one_end x.program limit two.history.tasks y.ran.config x.end y.end
      (subst (λ (r : Ran). EndsAs x.program limit two.history.tasks r.config x.end) same_ran
      (subst (λ (h : List ℕ). EndsAs x.program limit h x.ran.config x.end) history x.ends)) ends in
      let same = same_findings agree same_program x.analysed y.analysed in
      let report : one.report ≡ two.report = same.report_same in
      record {
        output_is = x.printed ∙ (ap₂ (λ (first last : List ℕ). first ++ last) (same_piece words bytes one two same_program same)
            (same_rest x.ran y.ran x.end y.end one.history.tasks two.history.tasks same_ran same_end history)
            ∙ sym y.printed);
        status = due_is x.status ∙ (ap (λ (r : List (List Pair)). status_of r x.end x.ran.config) report
            ∙ (ap (λ (e : End). status_of two.report e x.ran.config) same_end
            ∙ (ap (λ (r : Ran). status_of two.report y.end r.config) same_ran ∙ sym (due_is y.status))));
        refusal = x.analysed.refusal ∙ sym y.analysed.refusal;
        facts = same.facts_same;
        pairs = same.pairs_same;
        report = report;
        history = history;
        end = x.end_is ∙ (ap Some same_end ∙ sym y.end_is);
      }
    where
      same_rest : (own own' : Ran) (end end' : End) (history others : List ℕ) → own ≡ own' → end ≡ end'
          → history ≡ others
          → last_piece words own.lines end history own.config.tasks
          ≡ last_piece words own'.lines end' others own'.config.tasks
      same_rest own own' end end' history others ran_is end_is history_is = cc

-- Two calls with the same words and the same bytes that both read their source came to the same.
pub calls_agree : FindingsAgree → {words : List (List ℕ)} {bytes : List ℕ} {source source' other other' : SourceView}
    {one two : Ended} {output output' : List ℕ}
    → CameTo words bytes source source' one (Some one.status) output
    → CameTo words bytes other other' two (Some two.status) output' → WasRead one.status → WasRead two.status
    → IsSame one output two output'
calls_agree agree (unread x) came was was' = absurd (subst WasRead (due_is x.status) was)
calls_agree agree (reported x) came was was' = let none = x.status in absurd (cc)
calls_agree agree came (unread y) was was' = absurd (subst WasRead (due_is y.status) was')
calls_agree agree came (reported y) was was' = let none = y.status in absurd (cc)
calls_agree agree (misused x) (misused y) was was' = same_misused x y
calls_agree agree (misused x) (oversized y) was was' = absurd (x.cause y.named)
calls_agree agree (misused x) (refused y) was was' = absurd (x.cause y.named)
calls_agree agree (misused x) (overfull y) was was' = absurd (x.cause y.named)
calls_agree agree (misused x) (checked y) was was' = absurd (x.cause y.report.named)
calls_agree agree (misused x) (ran y) was was' = absurd (x.cause y.named)
calls_agree agree (oversized x) (misused y) was was' = absurd (y.cause x.named)
calls_agree agree (oversized x) (oversized y) was was' = same_oversized x y
calls_agree agree (oversized x) (refused y) was was' =
    let large = x.cause in let small = y.small in absurd (omega arith)
calls_agree agree (oversized x) (overfull y) was was' =
    let large = x.cause in let small = y.accepted.small in absurd (omega arith)
calls_agree agree (oversized x) (checked y) was was' =
    let large = x.cause in let small = y.report.analysed.accepted.small in absurd (omega arith)
calls_agree agree (oversized x) (ran y) was was' =
    let large = x.cause in let small = y.analysed.accepted.small in absurd (omega arith)
calls_agree agree (refused x) (misused y) was was' = absurd (y.cause x.named)
calls_agree agree (refused x) (oversized y) was was' =
    let large = y.cause in let small = x.small in absurd (omega arith)
calls_agree agree (refused x) (refused y) was was' = same_refused x y
calls_agree agree (refused x) (overfull y) was was' = absurd (no_offence y.accepted.read x.refusal)
calls_agree agree (refused x) (checked y) was was' = absurd (no_offence y.report.analysed.accepted.read x.refusal)
calls_agree agree (refused x) (ran y) was was' = absurd (no_offence y.analysed.accepted.read x.refusal)
calls_agree agree (overfull x) (misused y) was was' = absurd (y.cause x.named)
calls_agree agree (overfull x) (oversized y) was was' =
    let large = y.cause in let small = x.accepted.small in absurd (omega arith)
calls_agree agree (overfull x) (refused y) was was' = absurd (no_offence x.accepted.read y.refusal)
calls_agree agree (overfull x) (overfull y) was was' = same_overfull x y
calls_agree agree {words} (overfull x) (checked y) was was' =
    absurd (y.report.analysed.few (too_many_of words (one_program x.accepted.read y.report.analysed.accepted.read) x.cause))
calls_agree agree {words} (overfull x) (ran y) was was' =
    absurd (y.analysed.few (too_many_of words (one_program x.accepted.read y.analysed.accepted.read) x.cause))
calls_agree agree (checked x) (misused y) was was' = absurd (y.cause x.report.named)
calls_agree agree (checked x) (oversized y) was was' =
    let large = y.cause in let small = x.report.analysed.accepted.small in absurd (omega arith)
calls_agree agree (checked x) (refused y) was was' = absurd (no_offence x.report.analysed.accepted.read y.refusal)
calls_agree agree {words} (checked x) (overfull y) was was' =
    absurd (x.report.analysed.few (too_many_of words (one_program y.accepted.read x.report.analysed.accepted.read) y.cause))
calls_agree agree (checked x) (checked y) was was' = same_checked agree x y
calls_agree agree (checked x) (ran y) was was' = absurd (not_asked x.asked y.asked)
calls_agree agree (ran x) (misused y) was was' = absurd (y.cause x.named)
calls_agree agree (ran x) (oversized y) was was' =
    let large = y.cause in let small = x.analysed.accepted.small in absurd (omega arith)
calls_agree agree (ran x) (refused y) was was' = absurd (no_offence x.analysed.accepted.read y.refusal)
calls_agree agree {words} (ran x) (overfull y) was was' =
    absurd (x.analysed.few (too_many_of words (one_program y.accepted.read x.analysed.accepted.read) y.cause))
calls_agree agree (ran x) (checked y) was was' = absurd (not_asked y.asked x.asked)
calls_agree agree (ran x) (ran y) was was' = same_run agree x y
