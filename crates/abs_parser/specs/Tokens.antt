-- The tokens of a source that are left, and the next one of them.
use Rattle.std.specs.Prelude.{◌≡◌, List, [], ◌∷◌}
use Rattle.abs_tree.specs.declared.place.Place.{Place}
use Rattle.abs_lexer.specs.Tokens.{Lexed, TokenList}

-- the tokens that are left, and the place after the source
pub record Spot : Type 0 where
  pub rest : List Lexed
  pub end : Place

-- all the tokens of a source
abbrev pub whole : TokenList → Spot
whole list = record { rest = list.tokens; end = list.end }

-- the place of the next token; the end of the source counts as one
abbrev pub place_in : List Lexed → Place → Place
place_in [] end = end
place_in (token ∷ others) end = token.place

abbrev pub place_of : Spot → Place
place_of spot = place_in spot.rest spot.end

-- This token is the next one at `from`, followed by `to`.
pub record TakesToken (token : Lexed) (from to : Spot) : Type 0 where
  pub rest : from.rest ≡ token ∷ to.rest
  pub end : to.end ≡ from.end
