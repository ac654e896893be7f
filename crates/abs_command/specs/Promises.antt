-- What a call of the command promises. This is the first file to read: the clause `promises` of `abs_run` says that
-- `Promises` holds. It is about the bytes that the call analysed: those that it took from its source, or the text of a
-- generated program. The ways that a call can go are in `Ways.antt`, and so is the headline. When each status is returned
-- is in `Causes.antt`.
--
--   `Promises`                      all that a call promises, over the bytes that it analysed
--   `BytesIn`                       which bytes these are
--   `Answer`                        what was written: a whole output, a prefix of one, or nothing
--   `IsSame`                        two calls came to the same
use Rattle.std.specs.Prelude.{◌≡◌, ◌≤◌, ◌+◌, ◌⊎◌, ℕ, List, [], length, take, Option, Some}
use Rattle.std.specs.Io.KnownBytes.{Appends, Consumes}
use Rattle.abs_options.specs.CommandLine.{AreCommandWords, depth_of, facts_of}
use Rattle.abs_options.specs.Generated.{made_text}
use Rattle.abs_outside.specs.Counts.{Rose}
use Rattle.abs_outside.specs.Names.{Absent, Holding}
use Rattle.abs_tree.specs.Limits.{source_limit}
use Rattle.abs_tree.specs.Syntax.{ProgramTree}
use Rattle.abs_command.specs.declared.command.Ended.{Ended}
use Rattle.abs_command.specs.declared.command.Status.{Status}
use Rattle.abs_command.specs.declared.command.Status.TheVariants as status
use Rattle.abs_command.specs.Analysis.{AreFindings, HasTooMany}
use Rattle.abs_command.specs.Bytes.{WritesPrefix}
use Rattle.abs_command.specs.Causes.{Causes, IsComplete, NoneRose}
use Rattle.abs_command.specs.Statuses.{WasRead}
use Rattle.abs_command.specs.Texts.{first_piece}
use Rattle.abs_command.specs.Views.{SinkView, SourceView}
use Rattle.abs_command.specs.Ways.{IsAccepted, CameTo}
use Rattle.abs_command.specs.Words.{Makes, Names}
use Rattle.contract_terms.specs.declared.pair.Pair.{Pair}

-- Two calls came to the same: what they wrote, and what they hand back.
pub record IsSame (one : Ended) (output : List ℕ) (other : Ended) (output' : List ℕ) : Type 0 where
  pub output_is : output ≡ output'
  pub status : one.status ≡ other.status
  pub refusal : one.refusal ≡ other.refusal
  pub facts : one.facts ≡ other.facts
  pub pairs : one.pairs ≡ other.pairs
  pub report : one.report ≡ other.report
  pub history : one.history.tasks ≡ other.history.tasks
  pub end : one.end ≡ other.end

-- Before memory ran out, nothing was written, or the whole report of the program itself.
pub data WrittenBefore (words : List (List ℕ)) (bytes : List ℕ) (old new : Option (List ℕ)) : Type 0 where
  nothing : Appends old new [] → WrittenBefore words bytes old new
  report : AreCommandWords words → (program : ProgramTree) → IsAccepted bytes program
      → (HasTooMany program (depth_of words) (facts_of words) → ⊥)
      → (facts pairs : ℕ) (report : List (List Pair)) → AreFindings program (depth_of words) facts pairs report
      → Appends old new (first_piece words bytes program facts pairs report)
      → WrittenBefore words bytes old new

-- The whole output was written, and the status is the one that is due; or the sink failed, and a prefix was written; or
-- memory ran out.
pub data Answer (words : List (List ℕ)) (bytes : List ℕ) (source source' : SourceView) (sink sink' : SinkView)
    (ended : Ended) : Type 0 where
  whole : (output : List ℕ) → CameTo words bytes source source' ended (Some ended.status) output
      → Appends sink.written sink'.written output
      → Answer words bytes source source' sink sink' ended
  prefix : (due : Option Status) (output : List ℕ) → CameTo words bytes source source' ended due output
      → ended.status ≡ status.WriteFault
      → WritesPrefix sink.written sink'.written output → Rose sink.faults sink'.faults
      → Answer words bytes source source' sink sink' ended
  exhausted : ended.status ≡ status.Memory → WrittenBefore words bytes sink.written sink'.written
      → Answer words bytes source source' sink sink' ended

-- The words name a file, and the source tells that it holds this content.
pub record IsGiven (words : List (List ℕ)) (source : SourceView) (content : List ℕ) : Type 0 where
  pub file : List ℕ
  pub named : Names words file
  pub held : source.under file ≡ Holding content

-- The bytes were taken from the start of this content; or memory ran out while the words were read, and nothing was.
abbrev pub IsTakenFrom : List ℕ → (source source' : SourceView) → List ℕ → Status → Type 0
IsTakenFrom content source source' bytes came =
    Consumes (Some content) source'.left bytes ⊎ ((came ≡ status.Memory) × (source' ≡ source))

-- Of a generated program the bytes are its text. Otherwise they are at most one more than a source may have, and a source
-- that tells its content gave them from its start. If it was read, they are the whole content, or as many bytes of it as
-- show that there are too many. A file that the source tells to be absent was not read. If the source was read, its count
-- of missing names is unchanged, and what it tells of each name is always unchanged.
pub record BytesIn (words : List (List ℕ)) (source source' : SourceView) (bytes : List ℕ) (came : Status) : Type 0 where
  pub made : (count : ℕ) → Makes words count → bytes ≡ made_text count
  pub at_most : (file : List ℕ) → Names words file → length bytes ≤ source_limit + 1
  pub taken : (content : List ℕ) → IsGiven words source content → IsTakenFrom content source source' bytes came
  pub whole : (content : List ℕ) → IsGiven words source content → WasRead came → bytes ≡ take (source_limit + 1) content
  pub absent : (file : List ℕ) → Names words file → source.under file ≡ Absent → WasRead came → ⊥
  pub missing : WasRead came → source'.missing ≡ source.missing
  pub same_names : (name : List ℕ) → source'.under name ≡ source.under name

-- All that a call promises about these words, this source and this sink, each before and after it, and about what it
-- returns.
pub record Promises (words : List (List ℕ)) (source source' : SourceView) (sink sink' : SinkView) (ended : Ended) : Type
    0 where
  pub bytes : List ℕ
  pub bytes_in : BytesIn words source source' bytes ended.status
  pub answer : Answer words bytes source source' sink sink' ended
  pub causes : Causes words bytes source source' sink sink' ended
  pub complete : AreCommandWords words → NoneRose source source' sink sink' → IsComplete words bytes ended.status
