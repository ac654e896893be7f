-- How keywords and punctuators are written, and the token kind of a word.
--   keywords       module import from data def case let in if then else interface extends class implements skip while
--                  await suspend return new cog get this null destiny println
--   words outside the profile
--                  assert catch delta die duration exception export finally foreach original productline recover switch
--                  throw trait try
--   punctuators    ( ) { } < > , ; . = == != <= >= + - * / % ! ~ ? | || && => _
--
--   `word_kind`                            the token kind of a word
--   `keywords`, `spelling`                 the keywords, and how each is written
--   `foreign_words`                        the words outside the profile
--   `punctuator_bytes`                     how a punctuator is written
use Rattle.std.specs.Prelude.{ℕ, Bool, true, false, Option, Some, None, List, [], ◌∷◌, ◌++◌, codes, if◌then◌else◌}
use Rattle.std.specs.List.{list_any}
use Rattle.std.specs.Str.{bytes_eq}
use Rattle.abs_lexer.specs.declared.lexeme.Keyword.{Keyword}
use Rattle.abs_lexer.specs.declared.lexeme.Keyword.TheVariants as word
use Rattle.abs_lexer.specs.declared.lexeme.Lexeme.{Lexeme}
use Rattle.abs_lexer.specs.declared.lexeme.Lexeme.TheVariants.{LowerName, Foreign, Keyword as KeywordLexeme}
use Rattle.abs_lexer.specs.declared.lexeme.Punctuator.{Punctuator}
use Rattle.abs_lexer.specs.declared.lexeme.Punctuator.TheVariants as sign

-- how a keyword is written
abbrev pub spelling : Keyword → List ℕ
spelling word.Module = codes "module"
spelling word.Import = codes "import"
spelling word.From = codes "from"
spelling word.Data = codes "data"
spelling word.Def = codes "def"
spelling word.Case = codes "case"
spelling word.Let = codes "let"
spelling word.In = codes "in"
spelling word.If = codes "if"
spelling word.Then = codes "then"
spelling word.Else = codes "else"
spelling word.Interface = codes "interface"
spelling word.Extends = codes "extends"
spelling word.Class = codes "class"
spelling word.Implements = codes "implements"
spelling word.Skip = codes "skip"
spelling word.While = codes "while"
spelling word.Await = codes "await"
spelling word.Suspend = codes "suspend"
spelling word.Return = codes "return"
spelling word.New = codes "new"
spelling word.Cog = codes "cog"
spelling word.Get = codes "get"
spelling word.This = codes "this"
spelling word.Null = codes "null"
spelling word.Destiny = codes "destiny"
spelling word.Println = codes "println"

-- the keywords: those of declarations, of expressions, and of statements
abbrev pub declaration_keywords : List Keyword
declaration_keywords =
    word.Module ∷ word.Import ∷ word.From ∷ word.Data ∷ word.Def ∷ word.Interface ∷ word.Extends ∷ word.Class
    ∷ word.Implements ∷ []

abbrev pub expression_keywords : List Keyword
expression_keywords =
    word.Case ∷ word.Let ∷ word.In ∷ word.If ∷ word.Then ∷ word.Else ∷ word.This ∷ word.Null ∷ word.Destiny ∷ []

abbrev pub statement_keywords : List Keyword
statement_keywords =
    word.Skip ∷ word.While ∷ word.Await ∷ word.Suspend ∷ word.Return ∷ word.New ∷ word.Cog ∷ word.Get ∷ word.Println
    ∷ []

abbrev pub keywords : List Keyword
keywords = declaration_keywords ++ (expression_keywords ++ statement_keywords)

-- the words outside the profile
abbrev pub foreign_words : List (List ℕ)
foreign_words =
    codes "assert" ∷ codes "catch" ∷ codes "delta" ∷ codes "die" ∷ codes "duration" ∷ codes "exception" ∷ codes "export"
    ∷ codes "finally" ∷ codes "foreach" ∷ codes "original" ∷ codes "productline" ∷ codes "recover" ∷ codes "switch"
    ∷ codes "throw" ∷ codes "trait" ∷ codes "try" ∷ []

-- the first of these keywords that is written like the word
abbrev pub keyword_among : List Keyword → List ℕ → Option Keyword
keyword_among [] word = None
keyword_among (keyword ∷ others) word =
    if bytes_eq (spelling keyword) word then Some keyword else keyword_among others word

-- whether a word is outside the profile
abbrev pub is_foreign : List ℕ → Bool
is_foreign word = list_any (bytes_eq word) foreign_words

-- the token kind of a word that begins with a lower-case letter: a keyword, a word outside the profile, or a name
abbrev pub kind_of_word : Option Keyword → Bool → Lexeme
kind_of_word (Some keyword) foreign = KeywordLexeme keyword
kind_of_word None true = Foreign
kind_of_word None false = LowerName

unfoldable pub word_kind : List ℕ → Lexeme
word_kind word = kind_of_word (keyword_among keywords word) (is_foreign word)

-- how a punctuator is written
abbrev pub punctuator_bytes : Punctuator → List ℕ
punctuator_bytes sign.OpenParen = codes "("
punctuator_bytes sign.CloseParen = codes ")"
punctuator_bytes sign.OpenBrace = codes "{"
punctuator_bytes sign.CloseBrace = codes "}"
punctuator_bytes sign.Less = codes "<"
punctuator_bytes sign.Greater = codes ">"
punctuator_bytes sign.Comma = codes ","
punctuator_bytes sign.Semicolon = codes ";"
punctuator_bytes sign.Dot = codes "."
punctuator_bytes sign.Assign = codes "="
punctuator_bytes sign.Equal = codes "=="
punctuator_bytes sign.NotEqual = codes "!="
punctuator_bytes sign.LessEqual = codes "<="
punctuator_bytes sign.GreaterEqual = codes ">="
punctuator_bytes sign.Plus = codes "+"
punctuator_bytes sign.Minus = codes "-"
punctuator_bytes sign.Star = codes "*"
punctuator_bytes sign.Slash = codes "/"
punctuator_bytes sign.Percent = codes "%"
punctuator_bytes sign.Not = codes "!"
punctuator_bytes sign.Tilde = codes "~"
punctuator_bytes sign.Question = codes "?"
punctuator_bytes sign.Bar = codes "|"
punctuator_bytes sign.Or = codes "||"
punctuator_bytes sign.And = codes "&&"
punctuator_bytes sign.Arrow = codes "=>"
punctuator_bytes sign.Underscore = codes "_"
