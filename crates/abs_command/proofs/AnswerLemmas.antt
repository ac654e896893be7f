-- From what was offered to the sink to what the call answers.
--
--   `as_status`, `came_as`     a call with another status went the same way
--   `delivered`                the rest of an output was offered to the sink
--   `named_once`               the words ask for at most one file
use Rattle.std.proofs.Common.{◌≡◌, ℕ, List, ◌++◌, sym, ap, subst, ◌∙◌, inl, inr, refl, append_assoc}
use Rattle.std.specs.Prelude.{Option, Some}
use Rattle.std.specs.Io.KnownBytes.{Appends}
use Rattle.std.proofs.lemmas.Option.{same_Some}
use Rattle.abs_outside.specs.Counts.{Rose}
use Rattle.abs_tree.specs.Syntax.{ProgramTree}
use Rattle.abs_tree.specs.declared.refusal.Refusal.{Refusal}
use Rattle.abs_command.specs.declared.command.Ended.{Ended}
use Rattle.abs_command.specs.declared.command.Status.{Status}
use Rattle.abs_command.specs.declared.command.Status.TheVariants as status
use Rattle.abs_command.specs.Bytes.{WritesPrefix}
use Rattle.abs_command.specs.Promises.{Answer}
use Rattle.abs_command.specs.Ways.{HoldsOnly, IsMisused, IsUnread, IsOversized, IsRefused, IsOverfull, IsAnalysed, HasReport, HasRun, CameTo}
use Rattle.abs_command.specs.Ways.CameTo.{misused, unread, oversized, refused, overfull, checked, reported, ran}
use Rattle.abs_command.specs.Promises.Answer.{whole, prefix}
use Rattle.abs_command.specs.Taking.{Delivers}
use Rattle.abs_command.specs.Views.{SourceView}
use Rattle.abs_command.specs.Words.{Names}
use Rattle.list_facts.proofs.StreamLemmas.{Appends-then}

-- a call with another status, and the same otherwise
abbrev pub as_status : Ended → Status → Ended
as_status ended other = record ended { status = other }

-- The way that a call went does not depend on the status that it returns.
holds_as : (ended : Ended) (other : Status) {refusal : Option Refusal} → HoldsOnly ended refusal
    → HoldsOnly (as_status ended other) refusal
holds_as ended other h = record {
  refusal_is = h.refusal_is;
  facts = h.facts;
  pairs = h.pairs;
  report = h.report;
  history = h.history;
  end = h.end;
}

misused_as : (ended : Ended) (other : Status) {words : List (List ℕ)} {due : Option Status} {output : List ℕ}
    → IsMisused words ended due output → IsMisused words (as_status ended other) due output
misused_as ended other h = record {
  cause = h.cause;
  fields = holds_as ended other h.fields;
  status = h.status;
  printed = h.printed;
}

unread_as : (ended : Ended) (other : Status) {words : List (List ℕ)} {source source' : SourceView} {due : Option Status}
    {output : List ℕ}
    → IsUnread words source source' ended due output → IsUnread words source source' (as_status ended other) due output
unread_as ended other h = record {
  file = h.file;
  named = h.named;
  cause = h.cause;
  fields = holds_as ended other h.fields;
  status = h.status;
  printed = h.printed;
}

oversized_as : (ended : Ended) (other : Status) {words : List (List ℕ)} {bytes : List ℕ} {due : Option Status}
    {output : List ℕ}
    → IsOversized words bytes ended due output → IsOversized words bytes (as_status ended other) due output
oversized_as ended other h = record {
  named = h.named;
  cause = h.cause;
  fields = holds_as ended other h.fields;
  status = h.status;
  printed = h.printed;
}

refused_as : (ended : Ended) (other : Status) {words : List (List ℕ)} {bytes : List ℕ} {due : Option Status}
    {output : List ℕ}
    → IsRefused words bytes ended due output → IsRefused words bytes (as_status ended other) due output
refused_as ended other h = record {
  named = h.named;
  small = h.small;
  first = h.first;
  refusal = h.refusal;
  fields = holds_as ended other h.fields;
  status = h.status;
  printed = h.printed;
}

overfull_as : (ended : Ended) (other : Status) {words : List (List ℕ)} {bytes : List ℕ} {due : Option Status}
    {output : List ℕ}
    → IsOverfull words bytes ended due output → IsOverfull words bytes (as_status ended other) due output
overfull_as ended other h = record {
  named = h.named;
  program = h.program;
  accepted = h.accepted;
  cause = h.cause;
  fields = holds_as ended other h.fields;
  status = h.status;
  printed = h.printed;
}

analysed_as : (ended : Ended) (other : Status) {words : List (List ℕ)} {bytes : List ℕ} {program : ProgramTree}
    → IsAnalysed words bytes ended program → IsAnalysed words bytes (as_status ended other) program
analysed_as ended other h = record {
  accepted = h.accepted;
  few = h.few;
  refusal = h.refusal;
  findings = h.findings;
  chains = h.chains;
  headline = h.headline;
  never_mistyped = h.never_mistyped;
}

report_as : (ended : Ended) (other : Status) {words : List (List ℕ)} {bytes : List ℕ} {output : List ℕ}
    → HasReport words bytes ended output → HasReport words bytes (as_status ended other) output
report_as ended other h = record {
  named = h.named;
  program = h.program;
  analysed = analysed_as ended other h.analysed;
  history = h.history;
  end = h.end;
  printed = h.printed;
}

run_as : (ended : Ended) (other : Status) {words : List (List ℕ)} {bytes : List ℕ} {due : Option Status}
    {output : List ℕ}
    → HasRun words bytes ended due output → HasRun words bytes (as_status ended other) due output
run_as ended other h = record {
  named = h.named;
  asked = h.asked;
  program = h.program;
  analysed = analysed_as ended other h.analysed;
  ran = h.ran;
  legal = h.legal;
  in_turn = h.in_turn;
  few = h.few;
  end = h.end;
  end_is = h.end_is;
  ends = h.ends;
  no_type_fault = h.no_type_fault;
  status = h.status;
  printed = h.printed;
}

came_as : (ended : Ended) (other : Status) {words : List (List ℕ)} {bytes : List ℕ} {source source' : SourceView}
    {due : Option Status} {output : List ℕ}
    → CameTo words bytes source source' ended due output
    → CameTo words bytes source source' (as_status ended other) due output
came_as ended other (misused h) = misused (misused_as ended other h)
came_as ended other (unread h) = unread (unread_as ended other h)
came_as ended other (oversized h) = oversized (oversized_as ended other h)
came_as ended other (refused h) = refused (refused_as ended other h)
came_as ended other (overfull h) = overfull (overfull_as ended other h)
came_as ended other (checked h) =
    checked (record { asked = h.asked; report = report_as ended other h.report; status = h.status })
came_as ended other (reported h) =
    reported (record { asked = h.asked; report = report_as ended other h.report; status = h.status })
came_as ended other (ran h) = ran (run_as ended other h)

-- If a part was written, and then a prefix of the rest, a prefix of the whole was written.
prefix_after : (before old new : Option (List ℕ)) (first second : List ℕ) → Appends before old first
    → WritesPrefix old new second → WritesPrefix before new (first ++ second)
prefix_after before old new first second written h = record {
  prefix = first ++ h.prefix;
  rest = h.rest;
  parts = ap (λ (output : List ℕ). first ++ output) h.parts ∙ sym (append_assoc first h.prefix h.rest);
  more = h.more;
  written = Appends-then before old new first h.prefix written h.written;
}

-- The rest of an output was offered after a part that was written. Either the whole was written, or the sink failed and
-- a prefix was.
pub delivered : (words : List (List ℕ)) (bytes : List ℕ) (source source' : SourceView) (ended result : Ended)
    (before old new : Option (List ℕ)) (first second : List ℕ)
    (faults faults' faults'' : ℕ) → CameTo words bytes source source' ended (Some ended.status) (first ++ second)
    → Appends before old first
    → Delivers second ended old new faults' faults'' result → (Rose faults' faults'' → Rose faults faults'')
    → Answer words bytes source source' (record { written = before; faults = faults })
    (record { written = new; faults = faults'' }) result
delivered words bytes source source' ended result before old new first second faults faults' faults'' came written
    (inl all) rises =
    subst (λ (e : Ended). Answer words bytes source source' (record { written = before; faults = faults })
    (record { written = new; faults = faults'' }) e) (sym all.0)
    (whole (first ++ second) came (Appends-then before old new first second written all.1))
delivered words bytes source source' ended result before old new first second faults faults' faults'' came written
    (inr failed) rises =
    subst (λ (e : Ended). Answer words bytes source source' (record { written = before; faults = faults })
    (record { written = new; faults = faults'' }) e) (sym failed.0)
    (prefix (Some ended.status) (first ++ second) (came_as ended status.WriteFault came) refl
    (prefix_after before old new first second written failed.1) (rises failed.2))

-- The words ask for at most one file.
pub named_once : (words : List (List ℕ)) (a b : List ℕ) → Names words a → Names words b → a ≡ b
named_once words a b x y = same_Some _ _ (sym x.is ∙ y.is)
