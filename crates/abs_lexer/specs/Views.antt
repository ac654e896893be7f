-- A token without its memory.
--
--   `lexed`                a token, as contracts see it
use Rattle.abs_lexer.specs.declared.token.Token.{Token}
use Rattle.abs_lexer.specs.Tokens.{Lexed}

-- a token, as contracts see it
abbrev pub lexed : Token → Lexed
lexed token = record { kind = token.kind; place = token.place; bytes = token.slice.now }
