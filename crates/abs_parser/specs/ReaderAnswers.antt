-- What the parsing function of a part answers: what it found, or where the part is refused, whatever is to follow it.
--
--   `left_at`, `names_before`                   the tokens that are left, and the names in what was read
--   `asked`, `is_asked`, `TakesKind`, `Passes`  the next token, where its kind is asked for
--   `fixed_kind`, `TakesFixed`                  the next token, where a name with a spelling of its own is asked for
--   `maybe_exprs`                               the trees of arguments that may be left out
--   `refusal_at`, `wrong_at`                    the refusal of the next token
--   `FoundAs`, `FoundInParentheses`             what a parsing function found
--   `AreRefused`, `IsRefused`                   where it refuses, whatever is to follow
--   `Parse`, `Parses`                           what it returns: it found the part, or the part is refused
--   `HasRoom`, `HasIndexes`                     that symbols and indexes are left for all tokens
use Rattle.std.specs.Prelude.{◌≡◌, ◌≤◌, ℕ, Bool, true, false, List, [], ◌∷◌, ◌++◌, ◌+◌, ◌<◌, ◌^◌, length, fold, map, Option, Some, None, Result, Ok, Err}
use Rattle.std.specs.declared.alloc.Global.{Global}
use Rattle.std.specs.declared.vec.Vec.{Vec}
use Rattle.abs_tree.specs.Syntax.{Name, ExprTrees}
use Rattle.abs_tree.specs.SyntaxViews.{expr_trees}
use Rattle.abs_tree.specs.declared.syntax.expression.Expr.{Expr as CodeExpr}
use Rattle.abs_tree.specs.Names.{with_name}
use Rattle.abs_tree.specs.Refusals.{refusal_of}
use Rattle.abs_tree.specs.SourceErrors.{HasCause}
use Rattle.abs_tree.specs.declared.refusal.Code.{Code}
use Rattle.abs_tree.specs.declared.refusal.Refusal.{Refusal}
use Rattle.abs_parser.specs.Answers.{GoesOn}
use Rattle.abs_lexer.specs.declared.lexeme.Lexeme.{Lexeme}
use Rattle.abs_lexer.specs.declared.lexeme.Lexeme.TheVariants as lexeme
use Rattle.abs_lexer.specs.declared.lexeme.Punctuator.TheVariants as punctuator
use Rattle.abs_lexer.specs.Tokens.{Lexed}
use Rattle.abs_parser.specs.declared.cursor.FixedName.{FixedName}
use Rattle.abs_parser.specs.declared.cursor.FixedName.TheVariants as fixed
use Rattle.abs_parser.specs.TokenKinds.{Mark, Token, TextEnd, TokenKind, LowerName, LocalName, UpperName, AbsName, StdLibName, Number, Text, KeywordKind, Foreign, PunctuatorKind, place_of_mark, token_kind, next}
use Rattle.abs_parser.specs.Readings.{Goal, One, Wanted, Terminal, Subgoal, opened, Forest, Empty, Leaf, Node, Reads, depths}
use Rattle.abs_parser.specs.Refusing.{Refuses, AllWithin}
use Rattle.abs_parser.specs.Productions.{Expr}
use Rattle.abs_parser.specs.Stops.{limit, wrong_code}
use Rattle.abs_parser.specs.Tokens.{Spot, place_of, TakesToken}
use Rattle.abs_parser.specs.TreesOf.{written}
use Rattle.abs_tree.specs.declared.source_error.SourceError.{SourceError}

-- the tokens that are left at a spot, followed by the end
abbrev pub left_at : Spot → List Mark
left_at spot = map Token spot.rest ++ TextEnd spot.end ∷ []

-- names, with that of a token before them where the token is a name
abbrev pub name_first : TokenKind → List ℕ → List (List ℕ) → List (List ℕ)
name_first LowerName name others = name ∷ others
name_first LocalName name others = name ∷ others
name_first UpperName name others = name ∷ others
name_first AbsName name others = name ∷ others
name_first StdLibName name others = name ∷ others
name_first _ name others = others

-- the names in what was read, in their order, followed by others
abbrev pub names_before : Forest → List (List ℕ) → List (List ℕ)
names_before Empty others = others
names_before (Leaf mark depth after) others = name_first (token_kind mark) (written mark) (names_before after others)
names_before (Node goal inside after) others = names_before inside (names_before after others)

-- the token kind of the grammar that a lexeme is asked for by
abbrev pub asked : Lexeme → TokenKind
asked lexeme.LowerName = LowerName
asked lexeme.UpperName = UpperName
asked lexeme.Number = Number
asked lexeme.Text = Text
asked (lexeme.Keyword keyword) = KeywordKind keyword
asked lexeme.Foreign = Foreign
asked (lexeme.Punctuator punctuator) = PunctuatorKind punctuator

-- whether the grammar asks for this lexeme: it has no place for a foreign keyword
abbrev pub is_asked : Lexeme → Bool
is_asked lexeme.Foreign = false
is_asked _ = true

-- the token kind of a name with a spelling of its own
abbrev pub fixed_kind : FixedName → TokenKind
fixed_kind fixed.Local = LocalName
fixed_kind fixed.Abs = AbsName
fixed_kind fixed.StdLib = StdLibName

-- the refusal of the next token by this code
abbrev pub refusal_at : Code → Spot → Refusal
refusal_at code spot = refusal_of (record { code = code; place = place_of spot })

-- the refusal of the next token where nothing that can be read has it there
abbrev pub wrong_at : Spot → Refusal
wrong_at spot = refusal_at (wrong_code (next (left_at spot))) spot

-- This token, of this lexeme, is the next one at `from`, followed by `to`.
pub record TakesKind (kind : Lexeme) (token : Lexed) (from to : Spot) : Type 0 where
  pub kind_is : token.kind ≡ kind
  pub takes : TakesToken token from to

-- This token, which is this name with a spelling of its own, is the next one at `from`, followed by `to`.
pub record TakesFixed (name : FixedName) (token : Lexed) (from to : Spot) : Type 0 where
  pub kind_is : token_kind (Token token) ≡ fixed_kind name
  pub takes : TakesToken token from to

-- Some token of this lexeme is.
pub record Passes (kind : Lexeme) (from to : Spot) : Type 0 where
  pub token : Lexed
  pub takes : TakesKind kind token from to

-- the trees of arguments that may be left out
abbrev pub maybe_exprs : List Name → Option (Vec CodeExpr Global) → Option ExprTrees
maybe_exprs names None = None
maybe_exprs names (Some arguments) = Some (expr_trees names arguments.items)

-- A part nested in `depth` counted nonterminals was read and no token in it is too deeply nested. The table of names is
-- extended by its names, and what was read is so, whatever names extend the table later.
pub record FoundAs (goal : Goal) (depth : ℕ) (old new : List (List ℕ)) (from to : Spot)
    (is_read : List (List ℕ) → Forest → Type 0) : Type 0 where
  pub inside : Forest
  pub inner : List Wanted
  pub rule_is : opened goal (next (left_at from)) depth ≡ Some inner
  pub reads : Reads inner (left_at from) inside (left_at to)
  pub within : AllWithin (depths inside)
  pub table : new ≡ fold with_name old (names_before inside [])
  pub is : (names : List (List ℕ)) → GoesOn new names → is_read names inside

-- an expression in parentheses, which is nested in `depth` counted nonterminals
abbrev pub in_parentheses_at : ℕ → List Wanted
in_parentheses_at depth =
    Terminal (PunctuatorKind punctuator.OpenParen) depth ∷ Subgoal (One Expr) depth
    ∷ Terminal (PunctuatorKind punctuator.CloseParen) depth ∷ []

-- It was read: the parenthesis that opens, the expression, which is so, and the parenthesis that closes.
pub record FoundInParentheses (depth : ℕ) (old new : List (List ℕ)) (from to : Spot)
    (is_read : List (List ℕ) → Forest → Type 0) : Type 0 where
  pub opening : Lexed
  pub expr_at : Spot
  pub closing_at : Spot
  pub closing : Lexed
  pub opens : TakesKind (lexeme.Punctuator punctuator.OpenParen) opening from expr_at
  pub expr : FoundAs (One Expr) depth old new expr_at closing_at is_read
  pub closes : TakesKind (lexeme.Punctuator punctuator.CloseParen) closing closing_at to
  pub within : depth ≤ limit

-- what is wanted is refused at a token, with its code and its place
pub record RefusedAt (items : List Wanted) (ts : List Mark) (refusal : Refusal) : Type 0 where
  pub mark : Mark
  pub after : List Mark
  pub code : Code
  pub refuses : Refuses items ts (mark ∷ after) code
  pub refusal_is : refusal ≡ refusal_of (record { code = code; place = place_of_mark mark })

abbrev pub RefusedAs : List Wanted → List Mark → SourceError → Type 0
RefusedAs items ts error = HasCause (RefusedAt items ts) error

-- several items in a row are refused, whatever is to follow them
abbrev pub AreRefused : List Wanted → Spot → SourceError → Type 0
AreRefused wanted from error = (items : List Wanted) → RefusedAs (wanted ++ items) (left_at from) error

-- one item is
abbrev pub IsRefused : Wanted → Spot → SourceError → Type 0
IsRefused item from error = AreRefused (item ∷ []) from error

-- What a parsing function is to do: its goal and nesting depth, the tables of names before and after it, the spot from
-- which it parses, the spot up to which it parsed, and what the forest has to be, both for what it found.
pub data Parse (Found : Type 0) : Type 1 where
  parse_of : Goal → ℕ → List (List ℕ) → List (List ℕ) → Spot → (Found → Spot)
      → (Found → List (List ℕ) → Forest → Type 0) → Parse Found

-- It found the part, and so; or the part is refused.
abbrev pub Parses : {Found : Type 0} → Result Found SourceError → Parse Found → Type 0
Parses (Ok found) (parse_of goal depth old new from to is_read) =
    FoundAs goal depth old new from (to found) (is_read found)
Parses (Err error) (parse_of goal depth old new from to is_read) = IsRefused (Subgoal goal depth) from error

-- a symbol is left for each token that is left
abbrev pub HasRoom : List (List ℕ) → Spot → Type 0
HasRoom table from = length table + length from.rest < 2 ^ 31

-- and so is an index
abbrev pub HasIndexes : ℕ → Spot → Type 0
HasIndexes index from = index + length from.rest < 2 ^ 31
