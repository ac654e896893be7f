-- Digits are UTF-8, and parsing them succeeds exactly if their number has at most 127 bits.
use Rattle.std.proofs.Common.{ℕ, ◌≡◌, true, arith, List, lit<, ◌∷◌, zero, suc, [], Result, ℤ, ◌<◌, ◌^◌, pos, nat_lt, Ok, Err, length, ◌≤◌}
use Rattle.std.specs.Char.{is_ascii_digit, digit_value}
use Rattle.std.specs.Int.{IsInRange}
use Rattle.std.proofs.lemmas.Bool.Decides.{nat_tests}
use Rattle.std.specs.List.{AllPass}
use Rattle.std.specs.Str.{IsAscii}
use Rattle.std.proofs.lemmas.List.Elements.{All-tail}
use Rattle.std.specs.Prelude.{IsUtf8}
use Rattle.std.proofs.lemmas.Str.{IsUtf8-from_ascii}
use Rattle.std.specs.Result.{OkIff, is_ok}
use Rattle.std.specs.Str.Parse.{ParsesSigned, digits_value, AllDigits}
use mir.Syntax.{w128}
use Rattle.std.proofs.lemmas.Str.Parse.{parse_signed_digits, numerals_by_value, tells_by_index, digits_value_short}
use mir.Val.{to_z, of_z}
use Rattle.std.proofs.lemmas.Int.{ints}

-- a digit is one of "0" to "9"
digit_range : (byte : ℕ) → is_ascii_digit byte ≡ true → IsInRange 48 57 byte
digit_range byte digit = (grind (arith, nat_tests), grind (arith, nat_tests))

-- digits are ASCII
IsAscii-digits : (digits : List ℕ) → AllPass is_ascii_digit digits → IsAscii digits
IsAscii-digits [] h i = lit< tt
IsAscii-digits (x ∷ xs) h zero = let range = digit_range x (h 0 0 (omega arith)) in omega (arith, range.1)
IsAscii-digits (x ∷ xs) h (suc i) = IsAscii-digits xs (All-tail (λ y. is_ascii_digit y ≡ true) x xs h) i

-- and so they are UTF-8
pub IsUtf8-digits : (digits : List ℕ) → AllPass is_ascii_digit digits → IsUtf8 digits
IsUtf8-digits digits h = IsUtf8-from_ascii digits (IsAscii-digits digits h)

-- if parsing succeeds exactly for a value below 2 ^ 127, then its success is the test for that
parsed_by : {E : Type 0} (parsed : Result ℤ E) (count value : ℕ) → 0 < count
    → OkIff parsed ((0 < count) × (value < 2 ^ 127)) (pos value) → is_ok parsed ≡ nat_lt value (2 ^ 127)
parsed_by (Ok number) count value some ok = grind (arith, nat_tests)
parsed_by (Err error) count value some ok = grind (arith, nat_tests)

-- parsing digits succeeds exactly if their number has at most 127 bits
pub parses_small : {E : Type 0} (digits : List ℕ) (parsed : Result ℤ E) → AllPass is_ascii_digit digits
    → 0 < length digits → ParsesSigned w128 10 digits parsed
    → is_ok parsed ≡ nat_lt (digits_value 10 digits) (2 ^ 127)
parses_small digits parsed passes some parses =
    parsed_by parsed (length digits) (digits_value 10 digits) some
    (parse_signed_digits (numerals_by_value _ tells_by_index) w128 digits parsed parses
    (λ i few. digit_range _ (passes i 0 few)))

-- the number of at most 38 digits is always below 2 ^ 127
pub few_are_small : (digits : List ℕ) → AllPass is_ascii_digit digits → length digits ≤ 38
    → true ≡ nat_lt (digits_value 10 digits) (2 ^ 127)
few_are_small digits passes few =
    let below = digits_value_short (numerals_by_value _ tells_by_index) digits 38
    (λ i within. digit_range _ (passes i 0 within)) few in
    grind (arith, nat_tests)

-- a digit has a value below ten
digit_small : (byte : ℕ) → is_ascii_digit byte ≡ true → digit_value byte < 10
digit_small byte h = grind (arith, nat_tests)

-- each of some digits has a value below ten
pub all_digits : (digits : List ℕ) → AllPass is_ascii_digit digits → AllDigits 10 digits
all_digits [] h = tt
all_digits (x ∷ xs) h = (
  digit_small x (h 0 0 (omega arith)),
  all_digits xs
      (All-tail (λ y. is_ascii_digit y ≡ true) x xs h),
)

-- a number below 2 ^ 127 is a value of the signed type of 128 bits
pub narrowed : (z : ℤ) (value : ℕ) → z ≡ pos value → value < 2 ^ 127 → to_z w128 (of_z w128 z) ≡ pos value
narrowed z value e h = rw e (omega (arith, ints, h))
