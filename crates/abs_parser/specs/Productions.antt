-- The grammar: each nonterminal with its alternatives, after its production as it is written for people. A part in
-- brackets may be left out (`Opt`), and one in braces may be repeated any number of times (`Many`). Such a part with
-- more than one item is a nonterminal of its own. The next token chooses the alternative that is read (`chosen`): the
-- first one that may begin with it. `Opt` and `Many` read a part wherever it may begin with the next token, so an
-- `else` belongs to the nearest `if`.
--
--   `Nonterminal`                                      the nonterminals
--   `Item`, `Of`, `Part`, `Opt`, `Many`, `Inside`      the items of an alternative
--   `rule`                                             the alternatives of each nonterminal
--   `counts`                                           the nonterminals that the nesting limit counts
--   `begins`, `chosen`                                 what a nonterminal may begin with, and its chosen alternative
use Rattle.std.specs.Prelude.{ℕ, zero, suc, Bool, true, false, ◌||◌, List, [], ◌∷◌, Option}
use Rattle.std.specs.List.{list_any, find}
use Rattle.abs_lexer.specs.declared.lexeme.Keyword.{Keyword}
use Rattle.abs_lexer.specs.declared.lexeme.Keyword.TheVariants as keyword
use Rattle.abs_lexer.specs.declared.lexeme.Punctuator.{Punctuator}
use Rattle.abs_lexer.specs.declared.lexeme.Punctuator.TheVariants as punctuator
use Rattle.abs_parser.specs.TokenKinds.{TokenKind, LowerName, LocalName, UpperName, AbsName, StdLibName, Number, Text, KeywordKind, PunctuatorKind, End, fits}

pub data Nonterminal : Type 0 where
  Program : Nonterminal
  Module : Nonterminal
  Import : Nonterminal
  Path : Nonterminal
  DotName : Nonterminal
  Decl : Nonterminal
  Constructor : Nonterminal
  NextConstructor : Nonterminal
  ConstructorTypes : Nonterminal
  TypeParameters : Nonterminal
  CommaUpper : Nonterminal
  Params : Nonterminal
  Param : Nonterminal
  CommaParam : Nonterminal
  Extends : Nonterminal
  Implements : Nonterminal
  ClassParameters : Nonterminal
  Signature : Nonterminal
  Member : Nonterminal
  MemberTail : Nonterminal
  Type' : Nonterminal
  TypeArguments : Nonterminal
  Types : Nonterminal
  CommaType : Nonterminal
  Block : Nonterminal
  Stmt : Nonterminal
  Else : Nonterminal
  Initial : Nonterminal
  AfterName : Nonterminal
  AfterThis : Nonterminal
  Rest : Nonterminal
  Guard : Nonterminal
  AndTest : Nonterminal
  Test : Nonterminal
  Question : Nonterminal
  Rhs : Nonterminal
  Where : Nonterminal
  RhsTail : Nonterminal
  Selected : Nonterminal
  Arguments : Nonterminal
  Args : Nonterminal
  CommaExpr : Nonterminal
  Expr : Nonterminal
  Or : Nonterminal
  OrTail : Nonterminal
  And : Nonterminal
  AndTail : Nonterminal
  Equal : Nonterminal
  EqualTail : Nonterminal
  Compare : Nonterminal
  CompareTail : Nonterminal
  Sum : Nonterminal
  SumTail : Nonterminal
  Mul : Nonterminal
  MulTail : Nonterminal
  Unary : Nonterminal
  Primary : Nonterminal
  ThisTail : Nonterminal
  Branch : Nonterminal
  Pattern : Nonterminal
  PatternArguments : Nonterminal
  Patterns : Nonterminal
  CommaPattern : Nonterminal

-- An item of an alternative: a token of a kind; or a nonterminal, once, or optional, or repeated any number of times.
-- `Inside` is an item that is nested in more counted nonterminals than the alternative is, by this number.
pub data Item : Type 0 where
  Of : TokenKind → Item
  Part : Nonterminal → Item
  Opt : Nonterminal → Item
  Many : Nonterminal → Item
  Inside : ℕ → Item → Item

abbrev pub reserved : Keyword → Item
reserved keyword = Of (KeywordKind keyword)

abbrev pub punctuation : Punctuator → Item
punctuation punctuator = Of (PunctuatorKind punctuator)

abbrev pub lower : Item
lower = Of LowerName

abbrev pub upper : Item
upper = Of UpperName

abbrev pub dot : Item
dot = punctuation punctuator.Dot

abbrev pub comma : Item
comma = punctuation punctuator.Comma

abbrev pub semicolon : Item
semicolon = punctuation punctuator.Semicolon

abbrev pub equals : Item
equals = punctuation punctuator.Assign

abbrev pub open_paren : Item
open_paren = punctuation punctuator.OpenParen

abbrev pub close_paren : Item
close_paren = punctuation punctuator.CloseParen

abbrev pub open_brace : Item
open_brace = punctuation punctuator.OpenBrace

abbrev pub close_brace : Item
close_brace = punctuation punctuator.CloseBrace

abbrev pub rule : Nonterminal → List (List Item)
-- Program = [Module] [Import] {Decl} Block End
rule Program = (Opt Module ∷ Opt Import ∷ Many Decl ∷ Part Block ∷ Of End ∷ []) ∷ []
-- Module = "module" Path ";"
rule Module = (reserved keyword.Module ∷ Part Path ∷ semicolon ∷ []) ∷ []
-- Import = "import" "*" "from" "ABS" "." "StdLib" ";"
rule Import =
    (reserved keyword.Import ∷ punctuation punctuator.Star ∷ reserved keyword.From ∷ Of AbsName ∷ dot ∷ Of StdLibName
    ∷ semicolon ∷ []) ∷ []
-- Path = UName {"." UName}
rule Path = (upper ∷ Many DotName ∷ []) ∷ []
rule DotName = (dot ∷ upper ∷ []) ∷ []
-- Decl = "data" UName [TypeParameters] "=" Constructor {"|" Constructor} ";"
--      | "def" Type LName [TypeParameters] "(" [Params] ")" "=" Expr ";"
--      | "interface" UName ["extends" UName {"," UName}] "{" {Signature} "}"
--      | "class" UName ["(" [Params] ")"] ["implements" UName {"," UName}] "{" {Member} "}"
rule Decl =
    (reserved keyword.Data ∷ upper ∷ Opt TypeParameters ∷ equals ∷ Part Constructor ∷ Many NextConstructor ∷ semicolon
    ∷ [])
    ∷ (reserved keyword.Def ∷ Part Type' ∷ lower ∷ Opt TypeParameters ∷ open_paren ∷ Opt Params ∷ close_paren ∷ equals
    ∷ Part Expr ∷ semicolon ∷ [])
    ∷ (reserved keyword.Interface ∷ upper ∷ Opt Extends ∷ open_brace ∷ Many Signature ∷ close_brace ∷ [])
    ∷ (reserved keyword.Class ∷ upper ∷ Opt ClassParameters ∷ Opt Implements ∷ open_brace ∷ Many Member ∷ close_brace
    ∷ [])
    ∷ []
-- Constructor = UName ["(" [Type {"," Type}] ")"]
rule Constructor = (upper ∷ Opt ConstructorTypes ∷ []) ∷ []
rule NextConstructor = (punctuation punctuator.Bar ∷ Part Constructor ∷ []) ∷ []
rule ConstructorTypes = (open_paren ∷ Opt Types ∷ close_paren ∷ []) ∷ []
-- TypeParameters = "<" UName {"," UName} ">"
rule TypeParameters = (punctuation punctuator.Less ∷ upper ∷ Many CommaUpper ∷ punctuation punctuator.Greater ∷ []) ∷ []
rule CommaUpper = (comma ∷ upper ∷ []) ∷ []
-- Params = Type LName {"," Type LName}
rule Params = (Part Param ∷ Many CommaParam ∷ []) ∷ []
rule Param = (Part Type' ∷ lower ∷ []) ∷ []
rule CommaParam = (comma ∷ Part Param ∷ []) ∷ []
rule Extends = (reserved keyword.Extends ∷ upper ∷ Many CommaUpper ∷ []) ∷ []
rule Implements = (reserved keyword.Implements ∷ upper ∷ Many CommaUpper ∷ []) ∷ []
rule ClassParameters = (open_paren ∷ Opt Params ∷ close_paren ∷ []) ∷ []
-- Signature = Type LName "(" [Params] ")" ";"
rule Signature = (Part Type' ∷ lower ∷ open_paren ∷ Opt Params ∷ close_paren ∷ semicolon ∷ []) ∷ []
-- Member = Type LName (";" | "=" Expr ";" | "(" [Params] ")" Block)
rule Member = (Part Type' ∷ lower ∷ Part MemberTail ∷ []) ∷ []
rule MemberTail =
    (semicolon ∷ [])
    ∷ (equals ∷ Part Expr ∷ semicolon ∷ [])
    ∷ (open_paren ∷ Opt Params ∷ close_paren ∷ Part Block ∷ [])
    ∷ []
-- Type = UName ["<" Type {"," Type} ">"]
rule Type' = (upper ∷ Opt TypeArguments ∷ []) ∷ []
rule TypeArguments = (punctuation punctuator.Less ∷ Part Types ∷ punctuation punctuator.Greater ∷ []) ∷ []
rule Types = (Part Type' ∷ Many CommaType ∷ []) ∷ []
rule CommaType = (comma ∷ Part Type' ∷ []) ∷ []
-- Block = "{" {Stmt} "}"
rule Block = (open_brace ∷ Many Stmt ∷ close_brace ∷ []) ∷ []
-- Stmt = Block | "skip" ";" | "suspend" ";" | "await" Guard ";" | "return" Expr ";" | "println" "(" Expr ")" ";"
--      | "if" "(" Expr ")" Stmt ["else" Stmt] | "while" "(" Expr ")" Stmt
--      | Type LName ["=" Rhs] ";" | Rhs ["=" Rhs] ";"
-- The second "=" may follow only a variable, or "this" "." and a field, without parentheses. So a statement that begins
-- with a variable or with "this" continues as AfterName or AfterThis. Its first token is in an Expr and a Unary all the
-- same: it is part of a Rhs.
rule Stmt =
    (Part Block ∷ [])
    ∷ (reserved keyword.Skip ∷ semicolon ∷ [])
    ∷ (reserved keyword.Suspend ∷ semicolon ∷ [])
    ∷ (reserved keyword.Await ∷ Part Guard ∷ semicolon ∷ [])
    ∷ (reserved keyword.Return ∷ Part Expr ∷ semicolon ∷ [])
    ∷ (reserved keyword.Println ∷ open_paren ∷ Part Expr ∷ close_paren ∷ semicolon ∷ [])
    ∷ (reserved keyword.If ∷ open_paren ∷ Part Expr ∷ close_paren ∷ Part Stmt ∷ Opt Else ∷ [])
    ∷ (reserved keyword.While ∷ open_paren ∷ Part Expr ∷ close_paren ∷ Part Stmt ∷ [])
    ∷ (Part Type' ∷ lower ∷ Opt Initial ∷ semicolon ∷ [])
    ∷ (Inside 2 lower ∷ Part AfterName ∷ [])
    ∷ (Inside 2 (reserved keyword.This) ∷ Part AfterThis ∷ [])
    ∷ (Part Rhs ∷ semicolon ∷ [])
    ∷ []
rule Else = (reserved keyword.Else ∷ Part Stmt ∷ []) ∷ []
rule Initial = (equals ∷ Part Rhs ∷ []) ∷ []
-- after the variable or field that begins a statement: "=" Rhs ";", or the rest of a Rhs that begins with it
rule AfterName =
    (equals ∷ Part Rhs ∷ semicolon ∷ [])
    ∷ (Inside 2 (Opt Arguments) ∷ Part Rest ∷ [])
    ∷ []
-- after the "this" that begins a statement: "." and a field or a call, or the rest of a Rhs
rule AfterThis =
    (Inside 2 dot ∷ Inside 2 lower ∷ Part AfterName ∷ [])
    ∷ (Part Rest ∷ [])
    ∷ []
-- what may follow the first operand of a Rhs, and ";"
rule Rest =
    (Inside 1 (Many MulTail) ∷ Inside 1 (Many SumTail) ∷ Inside 1 (Opt CompareTail) ∷ Inside 1 (Opt EqualTail)
    ∷ Inside 1 (Many AndTail)
    ∷ Inside 1 (Many OrTail) ∷ Opt RhsTail ∷ semicolon ∷ [])
    ∷ []
-- Guard = Test {"&&" Test}
rule Guard = (Part Test ∷ Many AndTest ∷ []) ∷ []
rule AndTest = (punctuation punctuator.And ∷ Part Test ∷ []) ∷ []
-- Test = Equal ["?"]
rule Test = (Part Equal ∷ Opt Question ∷ []) ∷ []
rule Question = (punctuation punctuator.Question ∷ []) ∷ []
-- Rhs = "new" ["cog" | "local"] UName "(" [Args] ")"
--     | Expr ["!" LName "(" [Args] ")" | "." ("get" | LName "(" [Args] ")")]
rule Rhs =
    (reserved keyword.New ∷ Opt Where ∷ upper ∷ Part Arguments ∷ [])
    ∷ (Part Expr ∷ Opt RhsTail ∷ [])
    ∷ []
rule Where = (reserved keyword.Cog ∷ []) ∷ (Of LocalName ∷ []) ∷ []
rule RhsTail =
    (punctuation punctuator.Not ∷ lower ∷ Part Arguments ∷ [])
    ∷ (dot ∷ Part Selected ∷ [])
    ∷ []
rule Selected = (reserved keyword.Get ∷ []) ∷ (lower ∷ Part Arguments ∷ []) ∷ []
-- Args = Expr {"," Expr}
rule Arguments = (open_paren ∷ Opt Args ∷ close_paren ∷ []) ∷ []
rule Args = (Part Expr ∷ Many CommaExpr ∷ []) ∷ []
rule CommaExpr = (comma ∷ Part Expr ∷ []) ∷ []
-- Expr = "let" "(" Type LName ")" "=" Expr "in" Expr | "if" Expr "then" Expr "else" Expr | Or
rule Expr =
    (reserved keyword.Let ∷ open_paren ∷ Part Type' ∷ lower ∷ close_paren ∷ equals ∷ Part Expr ∷ reserved keyword.In
    ∷ Part Expr ∷ [])
    ∷ (reserved keyword.If ∷ Part Expr ∷ reserved keyword.Then ∷ Part Expr ∷ reserved keyword.Else ∷ Part Expr ∷ [])
    ∷ (Part Or ∷ [])
    ∷ []
-- Or = And {"||" And}
rule Or = (Part And ∷ Many OrTail ∷ []) ∷ []
rule OrTail = (punctuation punctuator.Or ∷ Part And ∷ []) ∷ []
-- And = Equal {"&&" Equal}
rule And = (Part Equal ∷ Many AndTail ∷ []) ∷ []
rule AndTail = (punctuation punctuator.And ∷ Part Equal ∷ []) ∷ []
-- Equal = Compare [("==" | "!=") Compare]
rule Equal = (Part Compare ∷ Opt EqualTail ∷ []) ∷ []
rule EqualTail = (punctuation punctuator.Equal ∷ Part Compare ∷ [])
    ∷ (punctuation punctuator.NotEqual ∷ Part Compare ∷ []) ∷ []
-- Compare = Sum [("<" | "<=" | ">" | ">=") Sum]
rule Compare = (Part Sum ∷ Opt CompareTail ∷ []) ∷ []
rule CompareTail =
    (punctuation punctuator.Less ∷ Part Sum ∷ [])
    ∷ (punctuation punctuator.LessEqual ∷ Part Sum ∷ [])
    ∷ (punctuation punctuator.Greater ∷ Part Sum ∷ [])
    ∷ (punctuation punctuator.GreaterEqual ∷ Part Sum ∷ [])
    ∷ []
-- Sum = Mul {("+" | "-") Mul}
rule Sum = (Part Mul ∷ Many SumTail ∷ []) ∷ []
rule SumTail = (punctuation punctuator.Plus ∷ Part Mul ∷ []) ∷ (punctuation punctuator.Minus ∷ Part Mul ∷ []) ∷ []
-- Mul = Unary {("*" | "/" | "%") Unary}
rule Mul = (Part Unary ∷ Many MulTail ∷ []) ∷ []
rule MulTail =
    (punctuation punctuator.Star ∷ Part Unary ∷ [])
    ∷ (punctuation punctuator.Slash ∷ Part Unary ∷ [])
    ∷ (punctuation punctuator.Percent ∷ Part Unary ∷ [])
    ∷ []
-- Unary = ("!" | "~" | "-") Unary | Primary
rule Unary =
    (punctuation punctuator.Not ∷ Part Unary ∷ [])
    ∷ (punctuation punctuator.Tilde ∷ Part Unary ∷ [])
    ∷ (punctuation punctuator.Minus ∷ Part Unary ∷ [])
    ∷ (Part Primary ∷ [])
    ∷ []
-- Primary = INT | TEXT | "null" | "destiny" | "this" ["." LName ["(" [Args] ")"]] | LName ["(" [Args] ")"]
--         | UName ["(" [Args] ")"] | "case" Expr "{" Branch {Branch} "}" | "(" Expr ")"
rule Primary =
    (Of Number ∷ [])
    ∷ (Of Text ∷ [])
    ∷ (reserved keyword.Null ∷ [])
    ∷ (reserved keyword.Destiny ∷ [])
    ∷ (reserved keyword.This ∷ Opt ThisTail ∷ [])
    ∷ (lower ∷ Opt Arguments ∷ [])
    ∷ (upper ∷ Opt Arguments ∷ [])
    ∷ (reserved keyword.Case ∷ Part Expr ∷ open_brace ∷ Part Branch ∷ Many Branch ∷ close_brace ∷ [])
    ∷ (open_paren ∷ Part Expr ∷ close_paren ∷ [])
    ∷ []
rule ThisTail = (dot ∷ lower ∷ Opt Arguments ∷ []) ∷ []
-- Branch = Pattern "=>" Expr ";"
rule Branch = (Part Pattern ∷ punctuation punctuator.Arrow ∷ Part Expr ∷ semicolon ∷ []) ∷ []
-- Pattern = "_" | LName | ["-"] INT | TEXT | UName ["(" [Pattern {"," Pattern}] ")"]
rule Pattern =
    (punctuation punctuator.Underscore ∷ [])
    ∷ (lower ∷ [])
    ∷ (punctuation punctuator.Minus ∷ Of Number ∷ [])
    ∷ (Of Number ∷ [])
    ∷ (Of Text ∷ [])
    ∷ (upper ∷ Opt PatternArguments ∷ [])
    ∷ []
rule PatternArguments = (open_paren ∷ Opt Patterns ∷ close_paren ∷ []) ∷ []
rule Patterns = (Part Pattern ∷ Many CommaPattern ∷ []) ∷ []
rule CommaPattern = (comma ∷ Part Pattern ∷ []) ∷ []

-- whether a nonterminal counts for nesting: a token may be in at most 100 such nonterminals
abbrev pub counts : Nonterminal → Bool
counts Stmt = true
counts Expr = true
counts Unary = true
counts Type' = true
counts Pattern = true
counts _ = false

-- whether an item, with those after it, may begin with a token of a kind, given which nonterminals may and whether
-- those after it may
abbrev item_begins : (Nonterminal → TokenKind → Bool) → Item → TokenKind → Bool → Bool
item_begins first (Of asked) kind after = fits asked kind
item_begins first (Part nonterminal) kind after = first nonterminal kind
item_begins first (Opt nonterminal) kind after = first nonterminal kind || after
item_begins first (Many nonterminal) kind after = first nonterminal kind || after
item_begins first (Inside more item) kind after = item_begins first item kind after

abbrev pub items_begin : (Nonterminal → TokenKind → Bool) → List Item → TokenKind → Bool
items_begin first [] kind = false
items_begin first (item ∷ others) kind = item_begins first item kind (items_begin first others kind)

-- Whether a nonterminal may begin with a token of a kind: one of its alternatives may. A chain in which each
-- nonterminal may begin with the next has at most 11, from Stmt to Primary, so 12 rounds are enough.
unfoldable pub begins_within : ℕ → Nonterminal → TokenKind → Bool
begins_within zero nonterminal kind = false
begins_within (suc rounds) nonterminal kind =
    list_any (λ (items : List Item). items_begin (begins_within rounds) items kind) (rule nonterminal)

unfoldable pub begins : Nonterminal → TokenKind → Bool
begins nonterminal kind = begins_within 12 nonterminal kind

-- the alternative that is read: the first that may begin with the next token
unfoldable pub chosen : Nonterminal → TokenKind → Option (List Item)
chosen nonterminal kind = find (λ (items : List Item). items_begin begins items kind) (rule nonterminal)
