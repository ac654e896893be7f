-- What an error of a stage means.
--
--   `HasCause`             a refusal has this cause; out of memory needs none
use Rattle.std.specs.Prelude.{⊤}
use Rattle.abs_tree.specs.declared.refusal.Refusal.{Refusal}
use Rattle.abs_tree.specs.declared.source_error.SourceError.{SourceError}
use Rattle.abs_tree.specs.declared.source_error.SourceError.TheVariants.{Refused, Memory}

-- a refusal has this cause; out of memory needs none
abbrev pub HasCause : (Refusal → Type 0) → SourceError → Type 0
HasCause Cause (Refused refusal) = Cause refusal
HasCause Cause Memory = ⊤
