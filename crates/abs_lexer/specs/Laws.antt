-- The law of tokens: a source has one list of tokens and no offence, or one first offence and no tokens.
--
--   `HasOneLexing`                     one of the two cases holds
--   `HasOneList`, `HasOneOffence`      each case
use Rattle.std.specs.Prelude.{◌≡◌, ℕ, List}
use Rattle.abs_tree.specs.declared.refusal.Offence.{Offence}
use Rattle.abs_tree.specs.Places.{start}
use Rattle.abs_lexer.specs.Tokens.{TokenList, TokensOf}
use Rattle.abs_lexer.specs.Offences.{Offends, IsFirstLexical}

-- the source has this list of tokens, no other one, and no offence
pub record HasOneList (source : List ℕ) : Type 0 where
  pub list : TokenList
  pub tokens : TokensOf source list
  pub only : (other : TokenList) → TokensOf source other → other ≡ list
  pub no_offence : (offence : Offence) → Offends start source offence → ⊥

-- this offence is the source's first one, no other is, and the source has no tokens
pub record HasOneOffence (source : List ℕ) : Type 0 where
  pub offence : Offence
  pub first : IsFirstLexical source offence
  pub only : (other : Offence) → IsFirstLexical source other → other ≡ offence
  pub no_tokens : (list : TokenList) → TokensOf source list → ⊥

-- one of the two cases holds
pub data HasOneLexing (source : List ℕ) : Type 0 where
  cut : HasOneList source → HasOneLexing source
  refused : HasOneOffence source → HasOneLexing source
