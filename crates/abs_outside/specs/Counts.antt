-- Counts of failures outside the program. They never fall, and each failure makes one rise.
--
--   `Rose`                 a count rose
use Rattle.std.specs.Prelude.{ℕ, ◌-◌, ◌^◌, ◌<◌}

-- The count rose. A count has 64 bits; where it is now the largest number of 64 bits, that counts as a rise.
abbrev pub Rose : ℕ → ℕ → Type 0
Rose before now = now < 2 ^ 64 - 1 → before < now
