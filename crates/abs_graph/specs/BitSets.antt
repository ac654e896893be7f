-- Bits, which are kept as words of 64 bits each.
--
--   `has`                      whether bits have a number
--   `word_has`                 whether the words have a number as a bit
--   `word_bit`                 whether a number is one of the first bits of the word with an index
--   `bits_of`                  the bits that words keep
--   `room_for`                 how many bits there are for numbers below a bound
--   `AreNewBits`               bits for numbers below a bound, which have none of them
use Rattle.std.specs.Prelude.{◌≡◌, ℕ, ◌*◌, ◌/◌, ◌%◌, ◌≤◌, Bool, false, ◌&&◌, List, length, get_or, map, nat_eq, nat_lt}
use Rattle.std.specs.Int.{bit_at, div_ceil}
use Rattle.std.specs.List.{range_with_len}

-- whether bits have a number
abbrev pub has : List Bool → ℕ → Bool
has bits number = get_or bits number false

-- whether the words have a number as a bit
unfoldable pub word_has : List ℕ → ℕ → Bool
word_has words number = nat_eq (bit_at (get_or words (number / 64) 0) (number % 64)) 1

-- whether words have a number that is one of the first bits, this many, of the word with an index. It serves proofs
-- only.
unfoldable pub word_bit : List ℕ → ℕ → ℕ → ℕ → Bool
word_bit words index bits number =
    (nat_eq (number / 64) index && nat_lt (number % 64) bits) && word_has words number

-- the bits that words keep: for each number whether they have it
unfoldable pub bits_of : List ℕ → List Bool
bits_of words = map (word_has words) (range_with_len 0 (64 * length words))

-- how many bits there are for numbers below a bound: the bound rounded up to whole words
unfoldable pub room_for : ℕ → ℕ
room_for bound = 64 * div_ceil bound 64

-- Bits for numbers below a bound, which have none of them.
pub record AreNewBits (bound : ℕ) (bits : List Bool) : Type 0 where
  pub room : length bits ≡ room_for bound
  pub fits : bound ≤ length bits
  pub none : (number : ℕ) → has bits number ≡ false
