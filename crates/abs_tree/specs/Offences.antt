-- The order of offences, and the first one of several.
--
--   `code_index`                   the index of a code, in the order of the stages
--   `place_cmp`, `offence_cmp`     the order of places, and of offences
--   `earlier`, `first_offence`     the first one of two offences, and of a list
--   `IsFirst`                      an offence is one of these, and none of them comes before it
--   `offence_at`, `offence_if`     the list of one offence, and the same under a condition
use Rattle.std.specs.Prelude.{◌≡◌, ℕ, Bool, false, List, [], ◌∷◌, fold, Option, Some, None, if◌then◌else◌, All, Contains}
use Rattle.std.specs.Ordering.{is_lt, nat_cmp, on, then_cmp}
use Rattle.std.specs.declared.cmp.Ordering.{Ordering}
use Rattle.abs_tree.specs.declared.place.Place.{Place}
use Rattle.abs_tree.specs.declared.refusal.Code.{Code}
use Rattle.abs_tree.specs.declared.refusal.Code.TheVariants as code
use Rattle.abs_tree.specs.declared.refusal.Offence.{Offence}

-- the index of a code: those of tokens come first, and those of the profile last
abbrev pub code_index : Code → ℕ
code_index code.L1 = 0
code_index code.L2 = 1
code_index code.L3 = 2
code_index code.L4 = 3
code_index code.S1 = 4
code_index code.S2 = 5
code_index code.S3 = 6
code_index code.N1 = 7
code_index code.N2 = 8
code_index code.N3 = 9
code_index code.N4 = 10
code_index code.T1 = 11
code_index code.T2 = 12
code_index code.T3 = 13
code_index code.T4 = 14
code_index code.T5 = 15
code_index code.P1 = 16
code_index code.P2 = 17
code_index code.P3 = 18
code_index code.P4 = 19
code_index code.P5 = 20

-- places by offset; two places of one source that have the same offset have the same line and column
abbrev pub place_cmp : Place → Place → Ordering
place_cmp = then_cmp (on (λ place. place.offset) nat_cmp)
    (then_cmp (on (λ place. place.line) nat_cmp) (on (λ place. place.column) nat_cmp))

-- offences by place, and at one place by code
abbrev pub offence_cmp : Offence → Offence → Ordering
offence_cmp = then_cmp (on (λ offence. offence.place) place_cmp) (on (λ offence. code_index offence.code) nat_cmp)

-- the first one of an offence that was noted, if there is one, and another offence
abbrev pub earlier : Option Offence → Offence → Option Offence
earlier None offence = Some offence
earlier (Some noted) offence = if is_lt (offence_cmp offence noted) then Some offence else Some noted

-- the first one of several offences, if there are any
abbrev pub first_offence : List Offence → Option Offence
first_offence offences = fold earlier None offences

-- The offence is one of these, and none of them comes before it.
pub record IsFirst (offences : List Offence) (offence : Offence) : Type 0 where
  pub among : Contains offences offence
  pub least : All (λ (other : Offence). is_lt (offence_cmp other offence) ≡ false) offences

-- the offence with a code at a place, as a list
abbrev pub offence_at : Code → Place → List Offence
offence_at code place = record { place = place; code = code } ∷ []

-- the offence with a code at a place as a list, if there is reason for it; else none
abbrev pub offence_if : Bool → Code → Place → List Offence
offence_if offends code place = if offends then offence_at code place else []
