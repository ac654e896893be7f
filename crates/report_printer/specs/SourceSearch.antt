-- How the line of a place is found among the line feeds of a source. It serves proofs only.
--
--   `feeds_to`                 how many line feeds there are before an offset
--   `IsLineStart`, `IsLineEnd` a line begins there, and a line ends there
use Rattle.std.specs.Prelude.{◌≡◌, ℕ, ◌-◌, ◌<◌, ◌≤◌, true, List, length, take, slice_index, count_by}
use Rattle.report_printer.specs.SourceLines.{is_feed}

-- how many line feeds there are before an offset
abbrev pub feeds_to : List ℕ → ℕ → ℕ
feeds_to bytes offset = count_by is_feed (take offset bytes)

-- A line begins at an offset, and so many line feeds come before it.
pub record IsLineStart (bytes : List ℕ) (feeds offset : ℕ) : Type 0 where
  pub count_is : feeds_to bytes offset ≡ feeds
  pub within : offset ≤ length bytes
  pub after_feed : 0 < offset → is_feed (slice_index bytes (offset - 1)) ≡ true

-- A line ends before an offset, and so many line feeds come before it.
pub record IsLineEnd (bytes : List ℕ) (feeds offset : ℕ) : Type 0 where
  pub count_is : feeds_to bytes offset ≡ feeds
  pub within : offset ≤ length bytes
  pub before_feed : offset < length bytes → is_feed (slice_index bytes offset) ≡ true
