-- What a source and a sink tell of themselves at one moment.
use Rattle.std.specs.Prelude.{ℕ, List, Option}
use Rattle.abs_outside.specs.Names.{Under}

-- What a source tells of itself at one moment: what each name holds, what is left to read, its counts of missing names
-- and of faults.
pub record SourceView : Type 0 where
  pub under : List ℕ → Under
  pub left : Option (List ℕ)
  pub missing : ℕ
  pub faults : ℕ

abbrev pub source_view : (List ℕ → Under) → Option (List ℕ) → ℕ → ℕ → SourceView
source_view under left missing faults = record { under = under; left = left; missing = missing; faults = faults }

-- What a sink tells of itself at one moment: the bytes that were written to it, and its count of faults.
pub record SinkView : Type 0 where
  pub written : Option (List ℕ)
  pub faults : ℕ

abbrev pub sink_view : Option (List ℕ) → ℕ → SinkView
sink_view written faults = record { written = written; faults = faults }
