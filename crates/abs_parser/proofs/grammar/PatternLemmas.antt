-- What a pattern opens to, given the next token, and the tree of what was read of it, given its first token.
use Rattle.std.proofs.Common.{◌≡◌, ℕ, pos, Bool, true, false, cond, List, [], ◌∷◌, ◌+◌, Some, None, refl, ap, ◌∙◌}
use Rattle.std.specs.Prelude.{neg_ℤ, codes, drop}
use Rattle.std.specs.Str.Parse.{digits_value}
use Rattle.std.specs.Str.{bytes_eq}
use Rattle.abs_lexer.specs.declared.lexeme.Lexeme.{Lexeme}
use Rattle.abs_lexer.specs.declared.lexeme.Lexeme.TheVariants as lexeme
use Rattle.abs_lexer.specs.contracts.lexeme.Punctuator.{the_type}
use Rattle.abs_lexer.specs.declared.lexeme.Punctuator.{Punctuator}
use Rattle.abs_lexer.specs.declared.lexeme.Punctuator.TheVariants as punctuator
use denote.Enum.Bare.{sameb}
use Rattle.abs_lexer.specs.Tokens.{Lexed}
use Rattle.abs_tree.specs.Syntax.{Unresolved, AnyValue, Binds, SameNumber, SameString, Built}
use Rattle.abs_parser.specs.TokenKinds.{Mark, Token, TokenKind, LowerName, LocalName, UpperName, AbsName, StdLibName, Number, PunctuatorKind, End, place_of_mark, token_kind_of, fits}
use Rattle.abs_parser.specs.Productions.{Pattern, PatternArguments, begins, chosen, begins_within}
use Rattle.abs_parser.specs.Readings.{Goal, One, Optional, Wanted, Terminal, Subgoal, opened, Forest, Empty, Leaf, Node}
use Rattle.abs_parser.specs.ReaderAnswers.{asked}
use Rattle.abs_parser.specs.TreesOf.{written, unescaped, pattern_in, pattern_by, pattern_arguments}
use Rattle.abs_parser.proofs.reader.FoundLemmas.{asked_fits}

-- the items after the first token of a pattern, which has this lexeme
abbrev pub after_first : Lexeme → ℕ → List Wanted
after_first lexeme.UpperName depth = Subgoal (Optional PatternArguments) depth ∷ []
after_first (lexeme.Punctuator punctuator.Minus) depth = Terminal Number depth ∷ []
after_first _ depth = []

-- a lower-case name opens a pattern, whether it is `local` or not
lower_opened : (kind : TokenKind) (depth : ℕ) → fits LowerName kind ≡ true
    → opened (One Pattern) kind depth ≡ Some (Terminal LowerName (depth + 1) ∷ [])
unfolding begins chosen begins_within
lower_opened LowerName depth fit = refl
lower_opened LocalName depth fit = refl
lower_opened _ depth fit = absurd cc

-- an upper-case name opens a pattern, followed by optional arguments
pub constructor_opened : (kind : TokenKind) (depth : ℕ) → fits UpperName kind ≡ true
    → opened (One Pattern) kind depth
    ≡ Some (Terminal UpperName (depth + 1) ∷ Subgoal (Optional PatternArguments) (depth + 1) ∷ [])
unfolding begins chosen begins_within
constructor_opened UpperName depth fit = refl
constructor_opened AbsName depth fit = refl
constructor_opened StdLibName depth fit = refl
constructor_opened _ depth fit = absurd cc

-- a token that begins a pattern opens it
pub pattern_opened : (kind : Lexeme) (bytes : List ℕ) (depth : ℕ) → begins Pattern (token_kind_of kind bytes) ≡ true
    → opened (One Pattern) (token_kind_of kind bytes) depth
    ≡ Some (Terminal (asked kind) (depth + 1) ∷ after_first kind (depth + 1))
unfolding begins chosen begins_within
pattern_opened lexeme.LowerName bytes depth is = lower_opened _ depth (asked_fits lexeme.LowerName bytes refl)
pattern_opened lexeme.UpperName bytes depth is = constructor_opened _ depth (asked_fits lexeme.UpperName bytes refl)
pattern_opened lexeme.Number bytes depth is = refl
pattern_opened lexeme.Text bytes depth is = refl
pattern_opened (lexeme.Punctuator punctuator.Underscore) bytes depth is = refl
pattern_opened (lexeme.Punctuator punctuator.Minus) bytes depth is = refl
pattern_opened _ bytes depth is = absurd cc

-- an underscore opens a pattern
pub any_opened : (depth : ℕ) → opened (One Pattern) (PunctuatorKind punctuator.Underscore) depth
    ≡ Some (Terminal (PunctuatorKind punctuator.Underscore) (depth + 1) ∷ [])
unfolding begins chosen begins_within
any_opened depth = refl

-- a minus opens a pattern, followed by a number
pub minus_opened : (depth : ℕ) → opened (One Pattern) (PunctuatorKind punctuator.Minus) depth
    ≡ Some (Terminal (PunctuatorKind punctuator.Minus) (depth + 1) ∷ Terminal Number (depth + 1) ∷ [])
unfolding begins chosen begins_within
minus_opened depth = refl

-- no other punctuator opens a pattern
pub punctuator_shut : (which : Punctuator) (depth : ℕ) → sameb the_type which punctuator.Underscore ≡ false
    → fits (PunctuatorKind punctuator.Minus) (PunctuatorKind which) ≡ false
    → opened (One Pattern) (PunctuatorKind which) depth ≡ None
unfolding begins chosen begins_within
punctuator_shut punctuator.Underscore depth other differs = absurd cc
punctuator_shut punctuator.Minus depth other differs = absurd cc
punctuator_shut _ depth other differs = refl

-- no pattern begins with the end of the source
pub end_shut : (depth : ℕ) → opened (One Pattern) End depth ≡ None
unfolding begins chosen begins_within
end_shut depth = refl

-- The trees, by the first token

-- a lower-case name binds a variable, whether it is `local` or not
binds_by : (is_local : Bool) (mark : Mark) (others : Forest)
    → pattern_by (cond is_local LocalName LowerName) mark others
    ≡ Binds (place_of_mark mark) (Unresolved (written mark))
binds_by true mark others = refl
binds_by false mark others = refl

-- a token that is a lower-case name binds a variable
pub binds_tree : (token : Lexed) (at : ℕ) → token.kind ≡ lexeme.LowerName
    → pattern_in (Leaf (Token token) at Empty) ≡ Binds token.place (Unresolved token.bytes)
binds_tree token at is =
    ap (λ (kind : Lexeme). pattern_by (token_kind_of kind token.bytes) (Token token) Empty) is
    ∙ binds_by (bytes_eq token.bytes (codes "local")) (Token token) Empty

-- an upper-case name is a constructor pattern, whether it is `ABS`, `StdLib` or neither
built_by : (is_abs is_std : Bool) (mark : Mark) (goal : Goal) (arguments others : Forest)
    → pattern_by (cond is_abs AbsName (cond is_std StdLibName UpperName)) mark (Node goal arguments others)
    ≡ Built (place_of_mark mark) (written mark) (pattern_arguments arguments)
built_by true is_std mark goal arguments others = refl
built_by false true mark goal arguments others = refl
built_by false false mark goal arguments others = refl

-- an upper-case name is a constructor pattern with its arguments
pub built_tree : (token : Lexed) (at : ℕ) (goal : Goal) (arguments : Forest) → token.kind ≡ lexeme.UpperName
    → pattern_in (Leaf (Token token) at (Node goal arguments Empty))
    ≡ Built token.place token.bytes (pattern_arguments arguments)
built_tree token at goal arguments is =
    ap (λ (kind : Lexeme). pattern_by (token_kind_of kind token.bytes) (Token token) (Node goal arguments Empty)) is
    ∙ built_by (bytes_eq token.bytes (codes "ABS")) (bytes_eq token.bytes (codes "StdLib")) (Token token) goal arguments
    Empty

-- a number matches the same number
pub number_tree : (token : Lexed) (at : ℕ) → token.kind ≡ lexeme.Number
    → pattern_in (Leaf (Token token) at Empty) ≡ SameNumber token.place (pos (digits_value 10 token.bytes))
number_tree token at is = ap (λ (kind : Lexeme). pattern_by (token_kind_of kind token.bytes) (Token token) Empty) is

-- a number after a minus matches the negative number
pub minus_tree : (token digits : Lexed) (at below : ℕ) → token.kind ≡ lexeme.Punctuator punctuator.Minus
    → pattern_in (Leaf (Token token) at (Leaf (Token digits) below Empty))
    ≡ SameNumber token.place (neg_ℤ (pos (digits_value 10 digits.bytes)))
minus_tree token digits at below is =
    ap (λ (kind : Lexeme). pattern_by (token_kind_of kind token.bytes) (Token token) (Leaf (Token digits) below Empty))
    is

-- a string literal matches the same string
pub text_tree : (token : Lexed) (at : ℕ) → token.kind ≡ lexeme.Text
    → pattern_in (Leaf (Token token) at Empty) ≡ SameString token.place (unescaped (drop 1 token.bytes))
text_tree token at is = ap (λ (kind : Lexeme). pattern_by (token_kind_of kind token.bytes) (Token token) Empty) is

-- an underscore matches any value
pub any_tree : (token : Lexed) (at : ℕ) → token.kind ≡ lexeme.Punctuator punctuator.Underscore
    → pattern_in (Leaf (Token token) at Empty) ≡ AnyValue token.place
any_tree token at is = ap (λ (kind : Lexeme). pattern_by (token_kind_of kind token.bytes) (Token token) Empty) is
