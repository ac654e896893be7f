-- From the statements of a source to the sentence of the headline.
--
--   `accepted_never_stuck`     the program of a source without `get` is never stuck
--   `no_stall`                 and no run of it stalls
--   `accepted_never_mistyped`  no task of the program of a source ends with Mistyped
use Rattle.std.proofs.Common.{◌≡◌, ℕ, Bool, true, false, List, Some, refl, sym, subst}
use Rattle.std.proofs.lemmas.Option.{same_Some}
use Rattle.abs_options.specs.CommandLine.{steps_of}
use Rattle.abs_tree.specs.Syntax.{ProgramTree}
use Rattle.abs_sound.proofs.StuckLemmas.{never_stuck}
use Rattle.abs_sound.specs.Waits.{NeverGets}
use Rattle.step_rules.specs.Runs.{IsReachable, EndsAs}
use Rattle.step_rules.specs.declared.kind.End.{End}
use Rattle.step_rules.specs.declared.kind.End.TheVariants as ends
use Rattle.type_sound.proofs.LawLemmas.{no_task_ended_with_a_type_fault}
use Rattle.abs_command.proofs.AcceptedLemmas.{program_is_accepted}
use Rattle.abs_command.proofs.SourceLemmas.{one_program}
use Rattle.abs_command.specs.Headline.{NeverMistyped, NeverStuck}
use Rattle.abs_command.specs.Ways.{IsAccepted, HasRun}
use Rattle.abs_command.specs.Sources.{IsProgramOf}
use Rattle.abs_command.specs.Statuses.{has_chain, status_by, main_failed}
use Rattle.abs_command.specs.declared.command.Ended.{Ended}
use Rattle.abs_command.specs.declared.command.Status.TheVariants as status

-- the program of a source is never stuck if no statement of it is a `get`
pub accepted_never_stuck : (text : List ℕ) (program : ProgramTree) → IsProgramOf text program → NeverGets program
    → NeverStuck program
accepted_never_stuck text program is gets config reachable unfinished =
    never_stuck program config (program_is_accepted text program is) gets reachable unfinished

-- no task of the program of a source ends with Mistyped
pub accepted_never_mistyped : (text : List ℕ) (program : ProgramTree) → IsProgramOf text program
    → NeverMistyped program
accepted_never_mistyped text program is config reached index task there =
    no_task_ended_with_a_type_fault program config index task (program_is_accepted text program is) reached there

-- a run with the status of a stalled one stalled
stalled_is : (chained : Bool) (end : End) (failed : Bool) → status.Stalled ≡ status_by chained end failed
    → end ≡ ends.Stalled
stalled_is true ends.Done failed is = absurd cc
stalled_is false ends.Done true is = absurd cc
stalled_is false ends.Done false is = absurd cc
stalled_is chained ends.Stalled failed is = refl
stalled_is chained ends.Spent failed is = absurd cc

-- no run of the program of a source stalls if no statement of it is a `get`
pub no_stall : {words : List (List ℕ)} {bytes : List ℕ} {ended : Ended} {output : List ℕ} (program : ProgramTree)
    → IsAccepted bytes program → NeverGets program
    → HasRun words bytes ended (Some status.Stalled) output → ⊥
no_stall {words} {bytes} {ended} program accepted gets run =
    let own = run.program in
    let read = run.analysed.accepted.read in
    let same : program ≡ own = one_program accepted.read read in
    let end = stalled_is (has_chain ended.report) run.end (main_failed run.ran.config) (same_Some _ _ run.status) in
    let stalled = subst (EndsAs own (steps_of words) ended.history.tasks run.ran.config) end run.ends in
    let reached : IsReachable own run.ran.config =
    record { history = ended.history.tasks; ran = run.ran; leads = run.legal; config_is = refl } in
    stalled.3 (accepted_never_stuck bytes own read (subst NeverGets same gets)
    run.ran.config reached stalled.2)
