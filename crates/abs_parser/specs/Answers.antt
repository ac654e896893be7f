-- Properties of the names of a source: one table of them extends another, and a name is written by a token.
use Rattle.std.specs.Prelude.{◌≡◌, ℕ, List, ◌++◌, Contains}
use Rattle.abs_lexer.specs.Tokens.{Lexed}

-- the table `names` extends the table `now`: after the names of `now` it has further ones
pub record GoesOn (now names : List (List ℕ)) : Type 0 where
  pub more : List (List ℕ)
  pub is : names ≡ now ++ more

-- the name has the bytes of one of the tokens
pub record IsWritten (tokens : List Lexed) (name : List ℕ) : Type 0 where
  pub token : Lexed
  pub among : Contains tokens token
  pub is : name ≡ token.bytes
