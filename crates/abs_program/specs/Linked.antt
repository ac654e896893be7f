-- What the code's table of meanings keeps. It serves proofs only.
--
--   `pairs_of`             the numbers and their meanings, the newest first
--   `AreLinked`            each entry has what its number meant before it, and the table has what each number means now
use Rattle.std.specs.Prelude.{◌≡◌, ⊤, ℕ, ◌<◌, List, [], ◌∷◌, length, fold, get_or, Option, None}
use Rattle.abs_program.specs.declared.meanings.Entry.{Entry}
use Rattle.abs_program.specs.Numbered.{looked_up}

module _ {A : Type 0} where
  -- the entries, the newest first
  abbrev pub newest_first : List (Entry A) → List (Entry A)
  newest_first entries = fold (λ newer entry. entry ∷ newer) [] entries

  abbrev pub pairs : List (Entry A) → List (ℕ × A)
  pairs [] = []
  pairs (entry ∷ older) = (entry.number, entry.meaning) ∷ pairs older

  abbrev pub pairs_of : List (Entry A) → List (ℕ × A)
  pairs_of entries = pairs (newest_first entries)

  -- each entry has what its number meant before it, and its number is one of the table
  abbrev pub EntriesAreLinked : ℕ → List (Entry A) → Type 0
  EntriesAreLinked size [] = ⊤
  EntriesAreLinked size (entry ∷ older) =
      (entry.number < size) × (entry.before ≡ looked_up (pairs older) entry.number) × EntriesAreLinked size older

  -- the table has what each number means
  pub record AreLinked (newest : List (Option A)) (entries : List (Entry A)) : Type 0 where
    pub are : EntriesAreLinked (length newest) (newest_first entries)
    pub table : (number : ℕ) → get_or newest number None ≡ looked_up (pairs_of entries) number
