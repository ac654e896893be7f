-- What the grammar distinguishes in a source: its tokens by their kinds, and its end, which is a token after the last
-- byte. The names `local`, `ABS` and `StdLib` have token kinds of their own. Each is also allowed wherever a name is.
--
--   `Mark`, `marks`                                    the tokens of a source, followed by its end
--   `place_of_mark`                                    the place of a token
--   `TokenKind`, `token_kind`                          the token kinds of the grammar, and the kind of a token
--   `fits`                                             whether a kind is allowed where one is asked for
--   `next`                                             the kind of the next token
use Rattle.std.specs.Prelude.{ℕ, ◌++◌, Bool, true, false, List, [], ◌∷◌, map, codes, if◌then◌else◌}
use Rattle.std.specs.Str.{bytes_eq}
use Rattle.abs_tree.specs.declared.place.Place.{Place}
use Rattle.abs_lexer.specs.declared.lexeme.Keyword.{Keyword}
use Rattle.abs_lexer.specs.declared.lexeme.Lexeme.{Lexeme}
use Rattle.abs_lexer.specs.declared.lexeme.Lexeme.TheVariants as lexeme
use Rattle.abs_lexer.specs.declared.lexeme.Punctuator.{Punctuator}
use Rattle.abs_lexer.specs.Tokens.{Lexed, TokenList}
use Rattle.abs_lexer.specs.Words.{spelling, punctuator_bytes}

-- a token of the source, or the end of the source
pub data Mark : Type 0 where
  Token : Lexed → Mark
  TextEnd : Place → Mark

-- the tokens of a source, followed by its end
abbrev pub marks : TokenList → List Mark
marks list = map Token list.tokens ++ TextEnd list.end ∷ []

-- the place of a token, and of the end
abbrev pub place_of_mark : Mark → Place
place_of_mark (Token token) = token.place
place_of_mark (TextEnd place) = place

-- The token kinds of the grammar: names, three of which have kinds of their own, numbers, strings, keywords,
-- punctuators, and the end. No production has a foreign keyword.
pub data TokenKind : Type 0 where
  LowerName : TokenKind
  LocalName : TokenKind
  UpperName : TokenKind
  AbsName : TokenKind
  StdLibName : TokenKind
  Number : TokenKind
  Text : TokenKind
  KeywordKind : Keyword → TokenKind
  Foreign : TokenKind
  PunctuatorKind : Punctuator → TokenKind
  End : TokenKind

abbrev pub token_kind_of : Lexeme → List ℕ → TokenKind
token_kind_of lexeme.LowerName bytes = if bytes_eq bytes (codes "local") then LocalName else LowerName
token_kind_of lexeme.UpperName bytes =
    if bytes_eq bytes (codes "ABS") then AbsName else
    (if bytes_eq bytes (codes "StdLib") then StdLibName else UpperName)
token_kind_of lexeme.Number bytes = Number
token_kind_of lexeme.Text bytes = Text
token_kind_of (lexeme.Keyword keyword) bytes = KeywordKind keyword
token_kind_of lexeme.Foreign bytes = Foreign
token_kind_of (lexeme.Punctuator punctuator) bytes = PunctuatorKind punctuator

abbrev pub token_kind : Mark → TokenKind
token_kind (Token token) = token_kind_of token.kind token.bytes
token_kind (TextEnd place) = End

-- whether a token of the second kind is allowed where one of the first is asked for
abbrev pub fits : TokenKind → TokenKind → Bool
fits LowerName LowerName = true
fits LowerName LocalName = true
fits LocalName LocalName = true
fits UpperName UpperName = true
fits UpperName AbsName = true
fits UpperName StdLibName = true
fits AbsName AbsName = true
fits StdLibName StdLibName = true
fits Number Number = true
fits Text Text = true
fits (KeywordKind asked) (KeywordKind keyword) = bytes_eq (spelling asked) (spelling keyword)
fits (PunctuatorKind asked) (PunctuatorKind punctuator) =
    bytes_eq (punctuator_bytes asked) (punctuator_bytes punctuator)
fits End End = true
fits _ _ = false

-- the kind of the next token; after the end it is that of a foreign keyword, which no alternative asks for
abbrev pub next : List Mark → TokenKind
next [] = Foreign
next (mark ∷ others) = token_kind mark
