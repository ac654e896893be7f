-- At which token of a list the parser fails, in terms of all lists with the same prefix.
--
--   `limit`                                            the nesting limit
--   `IsDeep`, `IsWrong`                                a token is too deeply nested, or a syntax error
--   `wrong_code`, `RefusedBy`                          the code of a syntax error, and that of a refused token
--   `StopsAt`                                          the parser fails at this token, the first that is refused
--   `IsAccepted`                                       a list is read as a program, and the parser does not fail
use Rattle.std.specs.Prelude.{◌≡◌, ℕ, ◌<◌, List, ◌∷◌, ◌++◌, length}
use Rattle.abs_tree.specs.Limits.{nesting_limit}
use Rattle.abs_tree.specs.declared.refusal.Code.{Code}
use Rattle.abs_tree.specs.declared.refusal.Code.TheVariants.{S1, S2, S3}
use Rattle.abs_parser.specs.TokenKinds.{Mark, TokenKind, Foreign, token_kind}
use Rattle.abs_parser.specs.Readings.{Forest, depths, IsProgram}

-- the nesting limit: a token may be in at most this number of counted nonterminals
abbrev pub limit : ℕ
limit = nesting_limit

-- A token is too deeply nested: some list that begins with those before it and it is read as a program. In that reading
-- its nesting depth is above the limit.
pub record IsDeep (before : List Mark) (mark : Mark) : Type 0 where
  pub after : List Mark
  pub forest : Forest
  pub reads : IsProgram (before ++ mark ∷ after) forest
  pub depths_before : List ℕ
  pub depth : ℕ
  pub depths_after : List ℕ
  pub are : depths forest ≡ depths_before ++ depth ∷ depths_after
  pub place : length depths_before ≡ length before
  pub deep : limit < depth

-- a token is a syntax error: no list that begins with those before it and it is read as a program
abbrev pub IsWrong : List Mark → Mark → Type 0
IsWrong before mark = (after : List Mark) (forest : Forest) → IsProgram (before ++ mark ∷ after) forest → ⊥

-- the code of a syntax error: S3 for a foreign keyword, and S1 for any other token
abbrev pub wrong_code : TokenKind → Code
wrong_code Foreign = S3
wrong_code _ = S1

-- a token is refused by this code: S2 if it is too deeply nested, and that of its kind if it is a syntax error
pub data RefusedBy (before : List Mark) (mark : Mark) : Code → Type 0 where
  deep : IsDeep before mark → RefusedBy before mark S2
  wrong : (code : Code) → IsWrong before mark → code ≡ wrong_code (token_kind mark) → RefusedBy before mark code

-- the parser fails at a token of the list, with this code: it is refused, and no token before it is
pub record StopsAt (ts before : List Mark) (mark : Mark) (code : Code) : Type 0 where
  pub after : List Mark
  pub is : ts ≡ before ++ mark ∷ after
  pub refused : RefusedBy before mark code
  pub not_wrong : (front others : List Mark) (other : Mark) → before ≡ front ++ other ∷ others → IsWrong front other → ⊥
  pub not_deep : (front others : List Mark) (other : Mark) → before ≡ front ++ other ∷ others → IsDeep front other → ⊥

-- the list is accepted: it is read as a program, and the parser fails at no token
pub record IsAccepted (ts : List Mark) (forest : Forest) : Type 0 where
  pub reads : IsProgram ts forest
  pub no_stop : (before : List Mark) (mark : Mark) (code : Code) → StopsAt ts before mark code → ⊥
