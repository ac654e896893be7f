-- The digits of a number token are a numeral, and its value fits the signed type of 128 bits.
use Rattle.std.proofs.Common.{◌≡◌, ℕ, ◌<◌, List, sym, subst, ◌∙◌, ◌^◌}
use Rattle.std.specs.Str.Parse.{IsNumeral, digits_value}
use Rattle.abs_lexer.specs.declared.lexeme.Lexeme.{Lexeme}
use Rattle.abs_lexer.specs.declared.lexeme.Lexeme.TheVariants.{Number}
use Rattle.abs_lexer.specs.Forms.{IsNumber, IsForm, word, upper, number, text, sign}
use Rattle.abs_lexer.specs.Tokens.{Lexed, IsWellFormed, IsSound}
use Rattle.abs_lexer.proofs.ScanLemmas.{word_is_no_number}
use Rattle.list_facts.proofs.DigitLemmas.{all_digits}

-- the bytes of a number are a numeral
pub numeral_of : {digits : List ℕ} → IsNumber digits → IsNumeral 10 digits
numeral_of {digits} x = (x.some, all_digits digits x.digits)

-- bytes that have the form of a number token are a number
number_form : {kind : Lexeme} {piece : List ℕ} → kind ≡ Number → IsForm kind piece → IsNumber piece
number_form {piece = piece} is (word name kind) = absurd (word_is_no_number piece (sym is ∙ kind))
number_form is (upper name kind) = cc
number_form is (number digits kind) = digits
number_form is (text quoted kind) = cc
number_form is (sign punctuator piece_is kind) = cc

-- the bytes of a number token are digits
pub number_digits : {token : Lexed} → token.kind ≡ Number → IsWellFormed token → IsNumber token.bytes
number_digits is x = number_form is x.form

-- the value of a number token is below 2 ^ 127
pub number_fits : {token : Lexed} → token.kind ≡ Number → IsWellFormed token → digits_value 10 token.bytes < 2 ^ 127
number_fits {token} is x = subst (λ (kind : Lexeme). IsSound kind token.bytes) is x.sound
