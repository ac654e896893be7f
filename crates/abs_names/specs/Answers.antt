-- What the results of name resolution mean.
--
--   `Refuses`              why the names of a program are not resolved
--   `RefusesFirst`         a refusal is that of the first of some offences
use Rattle.std.specs.Prelude.{◌≡◌, List, Some}
use Rattle.abs_tree.specs.declared.refusal.Offence.{Offence}
use Rattle.abs_tree.specs.declared.refusal.Refusal.{Refusal}
use Rattle.abs_tree.specs.declared.source_error.SourceError.{SourceError}
use Rattle.abs_tree.specs.Offences.{first_offence}
use Rattle.abs_tree.specs.Refusals.{refusal_of}
use Rattle.abs_tree.specs.SourceErrors.{HasCause}

-- The refusal is that of the first of these offences.
pub record RefusesFirst (offences : List Offence) (refusal : Refusal) : Type 0 where
  pub first : Offence
  pub is_first : first_offence offences ≡ Some first
  pub refusal_is : refusal ≡ refusal_of first

-- a refusal is that of the first of these offences; out of memory needs no cause
abbrev pub Refuses : SourceError → List Offence → Type 0
Refuses error offences = HasCause (RefusesFirst offences) error
