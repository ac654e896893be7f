-- Keywords and punctuators that are looked up in lists: of a list in two parts the first part is searched first, and a
-- punctuator of two bytes is not found in fewer bytes.
use Rattle.std.proofs.Common.{◌≡◌, ℕ, ◌<◌, Option, Some, None, Bool, true, false, List, [], ◌∷◌, ◌++◌, length, take, refl, cond, arith}
use Rattle.std.specs.Option.{option_or}
use Rattle.std.specs.Str.{bytes_eq}
use Rattle.abs_lexer.specs.declared.lexeme.Keyword.{Keyword}
use Rattle.abs_lexer.specs.Words.{spelling, keyword_among}
use Rattle.abs_lexer.specs.Scans.{long_punctuator}

-- a keyword that is found is the result, whatever follows it
found_first : (found : Bool) (keyword : Keyword) (after others : Option Keyword)
    → cond found (Some keyword) (option_or after others) ≡ option_or (cond found (Some keyword) after) others
found_first true keyword after others = refl
found_first false keyword after others = refl

-- the keyword found in two lists, one after the other, is that found in the first, or else that in the second
pub keyword_among-append : (xs ys : List Keyword) (word : List ℕ)
    → keyword_among (xs ++ ys) word ≡ option_or (keyword_among xs word) (keyword_among ys word)
keyword_among-append [] ys word = refl
keyword_among-append (x ∷ xs) ys word =
    rw (keyword_among-append xs ys word)
    (found_first (bytes_eq (spelling x) word) x (keyword_among xs word) (keyword_among ys word))

-- the same for three lists
pub among_three : (xs ys zs : List Keyword) (word : List ℕ)
    → option_or (option_or (keyword_among xs word) (keyword_among ys word)) (keyword_among zs word)
    ≡ keyword_among (xs ++ (ys ++ zs)) word
among_three xs ys zs word = rw (keyword_among-append, keyword_among-append)
    (or_assoc (keyword_among xs word) (keyword_among ys word) (keyword_among zs word))
  where
    -- it makes no difference which two are searched first
    or_assoc : (x y z : Option Keyword) → option_or (option_or x y) z ≡ option_or x (option_or y z)
    or_assoc (Some keyword) y z = refl
    or_assoc None y z = refl

-- fewer than two bytes make no punctuator of two bytes
pub no_long_punctuator : (bytes : List ℕ) → length bytes < 2 → long_punctuator (take 2 bytes) ≡ None
unfolding long_punctuator
no_long_punctuator [] few = refl
no_long_punctuator (byte ∷ []) few = grind arith
no_long_punctuator (byte ∷ next ∷ others) few = absurd (omega arith)
