-- From the answer of a call to its other promises: each status is returned when its cause holds.
use Rattle.std.proofs.Common.{◌≡◌, ◌≢◌, ℕ, ◌<◌, ◌≤◌, List, [], sym, ap, subst, ◌∙◌, length, inl, inr, arith, ⊎_elim}
use Rattle.std.specs.Prelude.{Some, None, ◌⊎◌, ◌↔◌, Bool, true, false, Contains}
use Rattle.contract_terms.specs.declared.pair.Pair.{Pair}
use Rattle.abs_options.specs.CommandLine.{AreCommandWords, asks_check, depth_of, facts_of}
use Rattle.abs_tree.specs.Syntax.{ProgramTree}
use Rattle.abs_command.specs.declared.command.Ended.{Ended}
use Rattle.abs_command.specs.declared.command.Status.{Status}
use Rattle.abs_command.specs.declared.command.Status.TheVariants as status
use Rattle.abs_tree.specs.Limits.{source_limit}
use Rattle.abs_command.specs.Analysis.{HasTooMany}
use Rattle.abs_command.specs.Promises.{Answer, BytesIn, Promises}
use Rattle.abs_command.specs.Causes.{ComesTo, HasChain, HasNoChain, IsAnalysable, IsDue, IsThrough, NoneRose}
use Rattle.abs_command.specs.Views.{SinkView, SourceView}
use Rattle.abs_command.specs.Ways.{IsAnalysed, IsChecked, HasRun, IsAccepted}
use Rattle.abs_command.specs.Ways.CameTo.{misused, unread, oversized, refused, overfull, checked, reported, ran}
use Rattle.abs_command.specs.Promises.Answer.{whole, prefix, exhausted}
use Rattle.abs_command.specs.Sources.{HasOffence}
use Rattle.abs_command.specs.Statuses.{has_chain, status_by, status_of, status_of_report, main_failed, IsOfProgram, IsOfReport, IsOfRun, GivesUp}
use Rattle.step_rules.specs.Runs.{Ran, run_of}
use Rattle.step_rules.specs.declared.kind.End.{End}
use Rattle.step_rules.specs.declared.kind.End.TheVariants as ends
use Rattle.abs_sound.specs.Waits.{NeverGets}
use Rattle.abs_command.proofs.HeadlineLemmas.{no_stall}
use Rattle.abs_command.proofs.SourceLemmas.{one_program, no_offence}
use Rattle.abs_command.proofs.StatusLemmas.{report_ends, run_ends, run_goes_through, never_stalled, chains_alone, chains_when, stalled_when, some_chain, clean_empty, failed_empty}

-- the status is the one that is due
pub due_is : {s due : Status} → Some s ≡ Some due → s ≡ due
due_is e = cc

-- a status that equals one of a call that gave up is one too
gave_up : {s due : Status} → s ≡ due → GivesUp due → GivesUp s
gave_up e h = subst GivesUp (sym e) h

usage_comes : {words : List (List ℕ)} {bytes : List ℕ} {source source' : SourceView} {sink sink' : SinkView}
    {ended : Ended}
    → Answer words bytes source source' sink sink' ended → (AreCommandWords words → ⊥)
    → ComesTo ended.status status.Usage
usage_comes (whole output (misused h) written) none = inl (due_is h.status)
usage_comes (whole output (unread h) written) none = absurd (none h.named.of_command)
usage_comes (whole output (oversized h) written) none = absurd (none h.named)
usage_comes (whole output (refused h) written) none = absurd (none h.named)
usage_comes (whole output (overfull h) written) none = absurd (none h.named)
usage_comes (whole output (checked h) written) none = absurd (none h.report.named)
usage_comes (whole output (reported h) written) none = absurd (none h.report.named)
usage_comes (whole output (ran h) written) none = absurd (none h.named)
usage_comes (prefix due output came is written rose) none = inr (gave_up is tt)
usage_comes (exhausted is written) none = inr (gave_up is tt)

too_large_comes : {words : List (List ℕ)} {bytes : List ℕ} {source source' : SourceView} {sink sink' : SinkView}
    {ended : Ended}
    → Answer words bytes source source' sink sink' ended → AreCommandWords words → source_limit < length bytes
    → ComesTo ended.status status.TooLarge
too_large_comes (whole output (misused h) written) named large = absurd (h.cause named)
too_large_comes (whole output (unread h) written) named large = inr (gave_up (due_is h.status) tt)
too_large_comes (whole output (oversized h) written) named large = inl (due_is h.status)
too_large_comes (whole output (refused h) written) named large = let small = h.small in absurd (omega arith)
too_large_comes (whole output (overfull h) written) named large = inl (due_is h.status)
too_large_comes (whole output (checked h) written) named large = let small =
    h.report.analysed.accepted.small in absurd (omega arith)
too_large_comes (whole output (reported h) written) named large = let small =
    h.report.analysed.accepted.small in absurd (omega arith)
too_large_comes (whole output (ran h) written) named large = let small =
    h.analysed.accepted.small in absurd (omega arith)
too_large_comes (prefix due output came is written rose) named large = inr (gave_up is tt)
too_large_comes (exhausted is written) named large = inr (gave_up is tt)

refused_comes : {words : List (List ℕ)} {bytes : List ℕ} {source source' : SourceView} {sink sink' : SinkView}
    {ended : Ended}
    → Answer words bytes source source' sink sink' ended → AreCommandWords words → length bytes ≤ source_limit
    → HasOffence bytes → ComesTo ended.status status.Refused
refused_comes (whole output (misused h) written) named small offence = absurd (h.cause named)
refused_comes (whole output (unread h) written) named small offence = inr (gave_up (due_is h.status) tt)
refused_comes (whole output (oversized h) written) named small offence = let large = h.cause in absurd (omega arith)
refused_comes (whole output (refused h) written) named small offence = inl (due_is h.status)
refused_comes (whole output (overfull h) written) named small offence =
    absurd (no_offence h.accepted.read offence.1)
refused_comes (whole output (checked h) written) named small offence =
    absurd (no_offence h.report.analysed.accepted.read offence.1)
refused_comes (whole output (reported h) written) named small offence =
    absurd (no_offence h.report.analysed.accepted.read offence.1)
refused_comes (whole output (ran h) written) named small offence =
    absurd (no_offence h.analysed.accepted.read offence.1)
refused_comes (prefix due output came is written rose) named small offence = inr (gave_up is tt)
refused_comes (exhausted is written) named small offence = inr (gave_up is tt)

-- more facts are derived of the same program, too
pub too_many_of : (words : List (List ℕ)) {one other : ProgramTree} → one ≡ other
    → HasTooMany one (depth_of words) (facts_of words) → HasTooMany other (depth_of words) (facts_of words)
too_many_of words same many =
    subst (λ (p : ProgramTree). HasTooMany p (depth_of words) (facts_of words)) same many

overfull_comes : {words : List (List ℕ)} {bytes : List ℕ} {source source' : SourceView} {sink sink' : SinkView}
    {ended : Ended}
    → Answer words bytes source source' sink sink' ended → AreCommandWords words → (program : ProgramTree)
    → IsAccepted bytes program → HasTooMany program (depth_of words) (facts_of words)
    → ComesTo ended.status status.TooLarge
overfull_comes (whole output (misused h) written) named program accepted many = absurd (h.cause named)
overfull_comes (whole output (unread h) written) named program accepted many = inr (gave_up (due_is h.status) tt)
overfull_comes (whole output (oversized h) written) named program accepted many = inl (due_is h.status)
overfull_comes (whole output (refused h) written) named program accepted many =
    absurd (no_offence accepted.read h.refusal)
overfull_comes (whole output (overfull h) written) named program accepted many = inl (due_is h.status)
overfull_comes {words = words} (whole output (checked h) written) named program accepted many =
    absurd (h.report.analysed.few (too_many_of words (one_program accepted.read h.report.analysed.accepted.read) many))
overfull_comes (whole output (reported h) written) named program accepted many = let status = h.status in absurd (cc)
overfull_comes {words = words} (whole output (ran h) written) named program accepted many =
    absurd (h.analysed.few (too_many_of words (one_program accepted.read h.analysed.accepted.read) many))
overfull_comes (prefix due output came is written rose) named program accepted many = inr (gave_up is tt)
overfull_comes (exhausted is written) named program accepted many = inr (gave_up is tt)

-- an analysis alone has one of its statuses, where the words ask for it
checked_so : {words : List (List ℕ)} {bytes : List ℕ} {ended : Ended} {output : List ℕ}
    → IsChecked words bytes ended (Some ended.status) output → IsOfProgram (asks_check words) ended.status
checked_so {words} {bytes} {ended} h =
    subst (λ (b : Bool). IsOfProgram b ended.status) (sym h.asked)
    (subst IsOfReport (sym (due_is h.status)) (report_ends ended.report))

-- and a run one of its own
ran_so : {words : List (List ℕ)} {bytes : List ℕ} {ended : Ended} {output : List ℕ}
    → HasRun words bytes ended (Some ended.status) output → IsOfProgram (asks_check words) ended.status
ran_so {words} {bytes} {ended} h =
    subst (λ (b : Bool). IsOfProgram b ended.status) (sym h.asked)
    (subst IsOfRun (sym (due_is h.status)) (run_ends (has_chain ended.report) h.end (main_failed h.ran.config)))

accepted_comes : {words : List (List ℕ)} {bytes : List ℕ} {source source' : SourceView} {sink sink' : SinkView}
    {ended : Ended}
    → Answer words bytes source source' sink sink' ended → AreCommandWords words → (program : ProgramTree)
    → IsAccepted bytes program
    → IsOfProgram (asks_check words) ended.status
    ⊎ (((ended.status ≡ status.TooLarge) × HasTooMany program (depth_of words) (facts_of words)) ⊎ GivesUp ended.status)
accepted_comes (whole output (misused h) written) named program accepted = absurd (h.cause named)
accepted_comes (whole output (unread h) written) named program accepted = inr (inr (gave_up (due_is h.status) tt))
accepted_comes (whole output (oversized h) written) named program accepted = let large = h.cause in let small =
    accepted.small in absurd (omega arith)
accepted_comes (whole output (refused h) written) named program accepted = absurd (no_offence accepted.read h.refusal)
accepted_comes {words = words} (whole output (overfull h) written) named program accepted =
    inr (inl (due_is h.status, too_many_of words (one_program h.accepted.read accepted.read) h.cause))
accepted_comes (whole output (checked h) written) named program accepted = inl (checked_so h)
accepted_comes (whole output (reported h) written) named program accepted = let status = h.status in absurd (cc)
accepted_comes (whole output (ran h) written) named program accepted = inl (ran_so h)
accepted_comes (prefix due output came is written rose) named program accepted = inr (inr (gave_up is tt))
accepted_comes (exhausted is written) named program accepted = inr (inr (gave_up is tt))

-- A source has one program, a history one run, and so one status is due.
same_due : {words : List (List ℕ)} {bytes : List ℕ} {ended : Ended} {s due : Status} {output output' : List ℕ}
    → HasRun words bytes ended (Some s) output → HasRun words bytes ended (Some due) output' → s ≡ due
same_due {words} {bytes} {ended} {s} {due} x y =
    let program : x.program ≡ y.program = one_program x.analysed.accepted.read y.analysed.accepted.read in
    let legal : Some x.ran ≡ Some y.ran =
    sym x.legal ∙ (ap (λ (p : ProgramTree). run_of p ended.history.tasks) program ∙ y.legal) in
    let ran : x.ran ≡ y.ran = cc in
    let ends : Some x.end ≡ Some y.end = sym x.end_is ∙ y.end_is in
    let end : x.end ≡ y.end = cc in
    due_is x.status ∙ (ap (λ (e : End). status_of ended.report e x.ran.config) end
    ∙ (ap (λ (r : Ran). status_of ended.report y.end r.config) ran ∙ sym (due_is y.status)))

-- words do not both ask for the analysis alone and not
pub not_asked : {asked : Bool} → asked ≡ true → asked ≡ false → ⊥
not_asked is not = cc

checked_comes : {words : List (List ℕ)} {bytes : List ℕ} {source source' : SourceView} {sink sink' : SinkView}
    {ended : Ended}
    → Answer words bytes source source' sink sink' ended → (due : Status) (output : List ℕ)
    → IsChecked words bytes ended (Some due) output → ComesTo ended.status due
checked_comes (whole output (misused h) written) due other alone = absurd (h.cause alone.report.named)
checked_comes (whole output (unread h) written) due other alone = inr (gave_up (due_is h.status) tt)
checked_comes (whole output (oversized h) written) due other alone = let large = h.cause in let small =
    alone.report.analysed.accepted.small in absurd (omega arith)
checked_comes (whole output (refused h) written) due other alone =
    absurd (no_offence alone.report.analysed.accepted.read h.refusal)
checked_comes {words = words} (whole output (overfull h) written) due other alone =
    absurd (alone.report.analysed.few (too_many_of words (one_program h.accepted.read alone.report.analysed.accepted.read) h.cause))
checked_comes (whole output (checked h) written) due other alone = inl (due_is h.status ∙ sym (due_is alone.status))
checked_comes (whole output (reported h) written) due other alone = let status = h.status in absurd (cc)
checked_comes (whole output (ran h) written) due other alone = absurd (not_asked alone.asked h.asked)
checked_comes (prefix end output came is written rose) due other alone = inr (gave_up is tt)
checked_comes (exhausted is written) due other alone = inr (gave_up is tt)

ran_comes : {words : List (List ℕ)} {bytes : List ℕ} {source source' : SourceView} {sink sink' : SinkView}
    {ended : Ended}
    → Answer words bytes source source' sink sink' ended → (due : Status) (output : List ℕ)
    → HasRun words bytes ended (Some due) output → ComesTo ended.status due
ran_comes (whole output (misused h) written) due other run = absurd (h.cause run.named)
ran_comes (whole output (unread h) written) due other run = inr (gave_up (due_is h.status) tt)
ran_comes (whole output (oversized h) written) due other run = let large = h.cause in let small =
    run.analysed.accepted.small in absurd (omega arith)
ran_comes (whole output (refused h) written) due other run = absurd (no_offence run.analysed.accepted.read h.refusal)
ran_comes {words = words} (whole output (overfull h) written) due other run =
    absurd (run.analysed.few (too_many_of words (one_program h.accepted.read run.analysed.accepted.read) h.cause))
ran_comes (whole output (checked h) written) due other run = absurd (not_asked h.asked run.asked)
ran_comes (whole output (reported h) written) due other run = let status = h.status in absurd (cc)
ran_comes (whole output (ran h) written) due other run = inl (same_due h run)
ran_comes (prefix end output came is written rose) due other run = inr (gave_up is tt)
ran_comes (exhausted is written) due other run = inr (gave_up is tt)

stalled_comes : {words : List (List ℕ)} {bytes : List ℕ} {source source' : SourceView} {sink sink' : SinkView}
    {ended : Ended}
    → Answer words bytes source source' sink sink' ended → (program : ProgramTree) → IsAccepted bytes program
    → NeverGets program → ended.status ≢ status.Stalled
stalled_comes (whole output (misused h) written) program accepted gets = λ is.
    let status = h.status in absurd (cc)
stalled_comes (whole output (unread h) written) program accepted gets = λ is.
    let status = h.status in absurd (cc)
stalled_comes (whole output (oversized h) written) program accepted gets = λ is.
    let status = h.status in absurd (cc)
stalled_comes (whole output (refused h) written) program accepted gets = λ is.
    let status = h.status in absurd (cc)
stalled_comes (whole output (overfull h) written) program accepted gets = λ is.
    let status = h.status in absurd (cc)
stalled_comes {ended = ended} (whole output (checked h) written) program accepted gets = λ is.
    never_stalled ended.report (sym is ∙ due_is h.status)
stalled_comes (whole output (reported h) written) program accepted gets = λ is.
    let status = h.status in absurd (cc)
stalled_comes {words} {bytes} {source} {source'} {sink} {sink'} {ended} (whole output (ran h) written) program accepted
    gets =
    λ is. no_stall program accepted gets
    (subst (λ (s : Status). HasRun words bytes ended (Some s) output) is h)
stalled_comes (prefix due output came is_fault written rose) program accepted gets = λ is. absurd (cc)
stalled_comes (exhausted is_memory written) program accepted gets = λ is. absurd (cc)

-- How a call went: it analysed nothing, with a status that no program has; it analysed the program alone, as the words
-- ask; it ran the program; or it gave up.
data Went (words : List (List ℕ)) (bytes : List ℕ) (ended : Ended) : Type 0 where
  had_none : ended.report ≡ [] → ended.end ≡ None → (IsOfRun ended.status → ⊥) → Went words bytes ended
  analysed_alone : (program : ProgramTree) → IsAnalysed words bytes ended program → asks_check words ≡ true
      → ended.end ≡ None → ended.status ≡ status_of_report ended.report → Went words bytes ended
  ran_program : (program : ProgramTree) → IsAnalysed words bytes ended program → asks_check words ≡ false
      → (end : End) (failed : Bool)
      → ended.end ≡ Some end → ended.status ≡ status_by (has_chain ended.report) end failed → Went words bytes ended
  gave : GivesUp ended.status → Went words bytes ended

went_so : {words : List (List ℕ)} {bytes : List ℕ} {source source' : SourceView} {sink sink' : SinkView} {ended : Ended}
    → Answer words bytes source source' sink sink' ended → Went words bytes ended
went_so (whole output (misused h) written) =
    had_none h.fields.report h.fields.end (λ is. subst IsOfRun (due_is h.status) is)
went_so (whole output (unread h) written) = gave (gave_up (due_is h.status) tt)
went_so (whole output (oversized h) written) =
    had_none h.fields.report h.fields.end (λ is. subst IsOfRun (due_is h.status) is)
went_so (whole output (refused h) written) =
    had_none h.fields.report h.fields.end (λ is. subst IsOfRun (due_is h.status) is)
went_so (whole output (overfull h) written) =
    had_none h.fields.report h.fields.end (λ is. subst IsOfRun (due_is h.status) is)
went_so (whole output (checked h) written) = analysed_alone h.report.program h.report.analysed h.asked h.report.end (due_is h.status)
went_so (whole output (reported h) written) = let status = h.status in absurd (cc)
went_so (whole output (ran h) written) =
    ran_program h.program h.analysed h.asked h.end (main_failed h.ran.config) h.end_is (due_is h.status)
went_so (prefix due output came is written rose) = gave (gave_up is tt)
went_so (exhausted is written) = gave (gave_up is tt)

-- a status that no run has is not one of a run
of_no_run : {own came : Status} → (IsOfRun own → ⊥) → IsOfRun came → own ≡ came → ⊥
of_no_run none run is = none (subst IsOfRun (sym is) run)

-- a call that ran is through only where its run is done
through_when : (words : List (List ℕ)) (ended : Ended) → asks_check words ≡ false → IsThrough words ended
    → ended.end ≡ Some ends.Done
through_when words ended not_alone (inl asked) = absurd (not_asked asked not_alone)
through_when words ended not_alone (inr done) = done

module _ {words : List (List ℕ)} {bytes : List ℕ} {ended : Ended} where
  chains_come : Went words bytes ended → (GivesUp ended.status → ⊥)
      → (ended.status ≡ status.Chains) ↔ ((ended.report ≢ []) × IsThrough words ended)
  chains_come (had_none empty none other) through = (
    (λ is. absurd (of_no_run other tt is)),
    λ both. absurd (both.0 empty),
  )
  chains_come (analysed_alone program analysed asked none is) through =
      let when = chains_alone ended.report ended.status is in (
        (λ chains. (when.0 chains, inl asked)),
        λ both. when.1 both.0,
      )
  chains_come (ran_program program analysed not_alone end failed end_is is) through =
      let when = chains_when ended.report end failed ended.status is in (
        (λ chains. ((when.0 chains).0, inr (end_is ∙ (when.0 chains).1))),
        λ both. when.1 (both.0, sym end_is ∙ through_when words ended not_alone both.1),
      )
  chains_come (gave up) through = absurd (through up)

  stalls_come : Went words bytes ended → (GivesUp ended.status → ⊥)
      → (ended.status ≡ status.Stalled) ↔ (ended.end ≡ Some ends.Stalled)
  stalls_come (had_none empty none other) through =
      ((λ is. absurd (of_no_run other tt is)), λ stalled. absurd (cc))
  stalls_come (analysed_alone program analysed asked none is) through =
      ((λ stalled. absurd (never_stalled ended.report (sym stalled ∙ is))), λ stalled. absurd (cc))
  stalls_come (ran_program program analysed not_alone end failed end_is is) through =
      let when = stalled_when (has_chain ended.report) end failed ended.status is in (
        (λ stalled. end_is ∙ when.0 stalled),
        λ stalled. when.1 (sym end_is ∙ stalled),
      )
  stalls_come (gave up) through = absurd (through up)

  some_circular : (program : ProgramTree) → IsAnalysed words bytes ended program
      → (chain : List Pair) × Contains ended.report chain → HasChain words bytes ended
  some_circular program analysed some = record {
    program = program;
    analysed = analysed;
    chain = some.0;
    listed = some.1;
    circular = analysed.chains.each some.0 some.1;
  }

  circular_comes : Went words bytes ended → ended.status ≡ status.Chains → HasChain words bytes ended
  circular_comes (had_none empty none other) chains = absurd (of_no_run other tt chains)
  circular_comes (analysed_alone program analysed asked none is) chains =
      some_circular program analysed (some_chain ended.report ends.Done false (sym chains ∙ is))
  circular_comes (ran_program program analysed not_alone end failed end_is is) chains =
      some_circular program analysed (some_chain ended.report end failed (sym chains ∙ is))
  circular_comes (gave up) chains = absurd (subst GivesUp chains up)

  -- where the report lists nothing, there is no circular chain
  none_circular : (program : ProgramTree) → IsAnalysed words bytes ended program → ended.report ≡ []
      → HasNoChain words bytes ended
  none_circular program analysed empty = record {
    program = program;
    analysed = analysed;
    empty = empty;
    none = analysed.chains.empty.0 empty;
  }

  clean_comes : Went words bytes ended → ended.status ≡ status.Clean → HasNoChain words bytes ended
  clean_comes (had_none empty none other) clean = absurd (of_no_run other tt clean)
  clean_comes (analysed_alone program analysed asked none is) clean =
      none_circular program analysed (clean_empty ended.report ends.Done false (sym clean ∙ is))
  clean_comes (ran_program program analysed not_alone end failed end_is is) clean =
      none_circular program analysed (clean_empty ended.report end failed (sym clean ∙ is))
  clean_comes (gave up) clean = absurd (subst GivesUp clean up)

  failed_comes : Went words bytes ended → ended.status ≡ status.Failed → HasNoChain words bytes ended
  failed_comes (had_none empty none other) failed = absurd (of_no_run other tt failed)
  failed_comes (analysed_alone program analysed asked none is) failed =
      none_circular program analysed (failed_empty ended.report ends.Done false (sym failed ∙ is))
  failed_comes (ran_program program analysed not_alone end main end_is is) failed =
      none_circular program analysed (failed_empty ended.report end main (sym failed ∙ is))
  failed_comes (gave up) failed = absurd (subst GivesUp failed up)

-- A call that gives up although no count of the source or the sink rose ran out of memory.
only_memory : {words : List (List ℕ)} {bytes : List ℕ} {source source' : SourceView} {sink sink' : SinkView}
    {ended : Ended}
    → Answer words bytes source source' sink sink' ended → NoneRose source source' sink sink' → GivesUp ended.status
    → ended.status ≡ status.Memory
only_memory (whole output (misused h) written) none up = absurd (subst GivesUp (due_is h.status) up)
only_memory (whole output (unread h) written) none up =
    absurd (⊎_elim none.faults (λ missing. none.missing missing.0) h.cause)
only_memory (whole output (oversized h) written) none up = absurd (subst GivesUp (due_is h.status) up)
only_memory (whole output (refused h) written) none up = absurd (subst GivesUp (due_is h.status) up)
only_memory (whole output (overfull h) written) none up = absurd (subst GivesUp (due_is h.status) up)
only_memory {ended = ended} (whole output (checked h) written) none up =
    absurd (run_goes_through (has_chain ended.report) ends.Done false (subst GivesUp (due_is h.status) up))
only_memory (whole output (reported h) written) none up = let status = h.status in absurd (cc)
only_memory {ended = ended} (whole output (ran h) written) none up =
    absurd (run_goes_through (has_chain ended.report) h.end (main_failed h.ran.config)
    (subst GivesUp (due_is h.status) up))
only_memory (prefix due output came is written rose) none up = absurd (none.sink_faults rose)
only_memory (exhausted is written) none up = is

-- Nothing stands against the analysis of a text: the status is one of an analysis or of a run, or memory ran out.
otherwise_comes : {words : List (List ℕ)} {bytes : List ℕ} {source source' : SourceView} {sink sink' : SinkView}
    {ended : Ended}
    → Answer words bytes source source' sink sink' ended → AreCommandWords words → NoneRose source source' sink sink'
    → IsAnalysable words bytes → IsOfProgram (asks_check words) ended.status ⊎ (ended.status ≡ status.Memory)
otherwise_comes (whole output (misused h) written) named none fine = absurd (h.cause named)
otherwise_comes (whole output (unread h) written) named none fine =
    absurd (⊎_elim none.faults (λ missing. none.missing missing.0) h.cause)
otherwise_comes (whole output (oversized h) written) named none fine =
    let large = h.cause in let small = fine.small in absurd (omega arith)
otherwise_comes (whole output (refused h) written) named none fine = absurd (fine.sound (h.first, h.refusal))
otherwise_comes (whole output (overfull h) written) named none fine = absurd (fine.few h.program h.accepted h.cause)
otherwise_comes (whole output (checked h) written) named none fine = inl (checked_so h)
otherwise_comes (whole output (reported h) written) named none fine = let status = h.status in absurd (cc)
otherwise_comes (whole output (ran h) written) named none fine = inl (ran_so h)
otherwise_comes (prefix due output came is written rose) named none fine = absurd (none.sink_faults rose)
otherwise_comes (exhausted is written) named none fine = inr is

-- Where no count rose, what comes unless the call gave up is due.
due_by : {words : List (List ℕ)} {bytes : List ℕ} {source source' : SourceView} {sink sink' : SinkView} {ended : Ended}
    {due : Status}
    → Answer words bytes source source' sink sink' ended → NoneRose source source' sink sink'
    → ComesTo ended.status due → IsDue ended.status due
due_by answer none (inl is) = inl is
due_by answer none (inr up) = inr (only_memory answer none up)

-- All promises follow from what was taken and from the answer.
pub promised : (words : List (List ℕ)) (bytes : List ℕ) (source source' : SourceView) (sink sink' : SinkView)
    (ended : Ended)
    → BytesIn words source source' bytes ended.status → Answer words bytes source source' sink sink' ended
    → Promises words source source' sink sink' ended
promised words bytes source source' sink sink' ended taken answer = record {
  bytes = bytes;
  bytes_in = taken;
  answer = answer;
  causes = record {
    usage = usage_comes answer;
    too_large = too_large_comes answer;
    refused = refused_comes answer;
    overfull = overfull_comes answer;
    accepted = accepted_comes answer;
    checked = checked_comes answer;
    ran = ran_comes answer;
    stalled = stalled_comes answer;
    stalls = stalls_come (went_so answer);
    chains = chains_come (went_so answer);
    circular = circular_comes (went_so answer);
    clean = clean_comes (went_so answer);
    failed = failed_comes (went_so answer);
    memory_alone = only_memory answer;
  };
  complete = λ named none. record {
    too_large = λ large. due_by answer none (too_large_comes answer named large);
    refused = λ small offence. due_by answer none (refused_comes answer named small offence);
    overfull = λ program accepted many. due_by answer none (overfull_comes answer named program accepted many);
    otherwise = otherwise_comes answer named none;
  };
}
