-- What the status 6 tells of a call.
use Rattle.std.proofs.Common.{◌≡◌, ◌<◌, ◌⊎◌, inl, inr, ℕ, Bool, true, false, List, length}
use Rattle.abs_options.specs.CommandLine.{depth_of, facts_of}
use Rattle.abs_tree.specs.Limits.{source_limit}
use Rattle.abs_tree.specs.Syntax.{ProgramTree}
use Rattle.step_rules.specs.declared.kind.End.{End}
use Rattle.step_rules.specs.declared.kind.End.TheVariants as ends
use Rattle.abs_command.specs.Analysis.{HasTooMany}
use Rattle.abs_command.specs.Promises.{Answer}
use Rattle.abs_command.specs.Promises.Answer.{whole, prefix, exhausted}
use Rattle.abs_command.specs.Statuses.{has_chain, main_failed, status_by}
use Rattle.abs_command.specs.Views.{SinkView, SourceView}
use Rattle.abs_command.specs.Ways.{IsAccepted}
use Rattle.abs_command.specs.Ways.CameTo.{misused, unread, oversized, refused, overfull, checked, reported, ran}
use Rattle.abs_command.specs.declared.command.Ended.{Ended}
use Rattle.abs_command.specs.declared.command.Status.TheVariants as status

-- no run has that status
no_run_too_large : (chained : Bool) (end : End) (failed : Bool) → status.TooLarge ≡ status_by chained end failed → ⊥
no_run_too_large true ends.Done failed is = absurd (cc)
no_run_too_large false ends.Done true is = absurd (cc)
no_run_too_large false ends.Done false is = absurd (cc)
no_run_too_large chained ends.Stalled failed is = absurd (cc)
no_run_too_large chained ends.Spent failed is = absurd (cc)

-- the source has too many bytes, or it has a program of which too many facts are derived
pub too_large_by : {words : List (List ℕ)} {bytes : List ℕ} {source source' : SourceView} {sink sink' : SinkView}
    {ended : Ended} → Answer words bytes source source' sink sink' ended → ended.status ≡ status.TooLarge
    → (source_limit < length bytes)
    ⊎ ((program : ProgramTree) × IsAccepted bytes program × HasTooMany program (depth_of words) (facts_of words))
too_large_by (whole output (misused h) written) is = let due = h.status in absurd (cc)
too_large_by (whole output (unread h) written) is = let due = h.status in absurd (cc)
too_large_by (whole output (oversized h) written) is = inl h.cause
too_large_by (whole output (refused h) written) is = let due = h.status in absurd (cc)
too_large_by (whole output (overfull h) written) is = inr (h.program, h.accepted, h.cause)
too_large_by {ended = ended} (whole output (checked h) written) is =
    let due = h.status in absurd (no_run_too_large (has_chain ended.report) ends.Done false cc)
too_large_by (whole output (reported h) written) is = let due = h.status in absurd (cc)
too_large_by {ended = ended} (whole output (ran h) written) is =
    let due = h.status in
    absurd (no_run_too_large (has_chain ended.report) h.end (main_failed h.ran.config) cc)
too_large_by (prefix due output came failed written rose) is = absurd (cc)
too_large_by (exhausted memory written) is = absurd (cc)
