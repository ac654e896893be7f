-- What the steps of the command tell one another about their reads and writes. These definitions serve proofs: no
-- public clause cites them.
use Rattle.std.specs.Prelude.{◌≡◌, ◌+◌, ◌≤◌, ◌⊎◌, ℕ, List, length, ⊤, Option, Some}
use Rattle.std.specs.Io.KnownBytes.{Appends}
use Rattle.abs_outside.specs.Counts.{Rose}
use Rattle.abs_outside.specs.Names.{Under, Unstated, Absent, Holding, IsNotHeld}
use Rattle.abs_command.specs.declared.command.Ended.{Ended}
use Rattle.abs_command.specs.declared.command.Status.TheVariants as status
use Rattle.abs_tree.specs.Limits.{source_limit}
use Rattle.abs_command.specs.Bytes.{TakesWhole, TakesSome, WritesPrefix}

-- the content under the name was taken whole, or as many bytes of it as show that there are too many; where the source
-- does not tell the content, only the number of bytes is bounded
abbrev pub TookWhole : Under → Option (List ℕ) → List ℕ → Type 0
TookWhole Unstated left bytes = length bytes ≤ source_limit + 1
TookWhole Absent left bytes = ⊥
TookWhole (Holding content) left bytes = TakesWhole (Some content) left bytes

-- the source failed: if it tells that it holds nothing under the name, nothing was taken; if it tells the content, some
-- bytes of it were
abbrev pub TookSome : Under → Option (List ℕ) → Option (List ℕ) → Type 0
TookSome Unstated old new = ⊤
TookSome Absent old new = new ≡ old
TookSome (Holding content) old new = TakesSome (Some content) new

-- a source failed: its count of faults rose, or its count of missing names rose and it does not tell that it holds the
-- name
abbrev pub SourceFailed : Under → ℕ → ℕ → ℕ → ℕ → Type 0
SourceFailed under missing missing' faults faults' = Rose faults faults' ⊎ (Rose missing missing' × IsNotHeld under)

-- The output was offered to the sink. Either it was written, and the answer is unchanged; or a prefix was written, the
-- count of faults rose, and the answer has the status of a write fault.
abbrev pub Delivers : List ℕ → Ended → Option (List ℕ) → Option (List ℕ) → ℕ → ℕ → Ended → Type 0
Delivers output ended old new faults faults' result =
    ((result ≡ ended) × Appends old new output)
    ⊎ ((result ≡ record ended { status = status.WriteFault }) × WritesPrefix old new output × Rose faults faults')
