-- What a unary and a primary open to, given the next token. Also the tokens that a primary may begin with, by the
-- token's lexeme alone, and the trees of what was read.
use Rattle.std.proofs.Common.{◌≡◌, ℕ, ◌+◌, Bool, true, false, List, [], ◌∷◌, Option, Some, None, cond, refl, sym, ap, ◌∙◌}
use Rattle.std.specs.List.{list_any}
use Rattle.std.specs.Prelude.{codes}
use Rattle.std.specs.Str.{bytes_eq}
use Rattle.std.specs.declared.alloc.Global.{Global}
use Rattle.std.specs.declared.vec.Vec.{Vec}
use denote.Enum.Bare.{sameb}
use Rattle.abs_lexer.specs.contracts.lexeme.Keyword.{the_type as keywords}
use Rattle.abs_lexer.specs.contracts.lexeme.Punctuator.{the_type as punctuators}
use Rattle.abs_lexer.specs.declared.lexeme.Keyword.{Keyword}
use Rattle.abs_lexer.specs.declared.lexeme.Keyword.TheVariants as keyword
use Rattle.abs_lexer.specs.declared.lexeme.Lexeme.{Lexeme}
use Rattle.abs_lexer.specs.declared.lexeme.Lexeme.TheVariants as lexeme
use Rattle.abs_lexer.specs.declared.lexeme.Punctuator.{Punctuator}
use Rattle.abs_lexer.specs.declared.lexeme.Punctuator.TheVariants as punctuator
use Rattle.abs_lexer.specs.Tokens.{Lexed}
use Rattle.abs_tree.specs.declared.place.Place.{Place}
use Rattle.abs_tree.specs.declared.symbol.Symbol.{Symbol}
use Rattle.abs_tree.specs.declared.syntax.expression.Expr as code_expr
use Rattle.abs_tree.specs.declared.syntax.expression.Prefix.{Prefix}
use Rattle.abs_tree.specs.declared.syntax.expression.Prefix.TheVariants as prefix
use Rattle.abs_tree.specs.Syntax.{ExprTree, ExprTrees, Prefixed, ThisOf, BuildOf}
use Rattle.abs_tree.specs.SyntaxViews.{expr_tree, expr_trees}
use Rattle.abs_tree.specs.Names.{name_of}
use Rattle.abs_tree.proofs.SyntaxLemmas.{expr_tree-build}
use Rattle.abs_parser.specs.TokenKinds.{Mark, Token, TokenKind, token_kind_of, LowerName, LocalName, UpperName, AbsName, StdLibName, Number, Text, KeywordKind, PunctuatorKind, End, place_of_mark, fits}
use Rattle.abs_parser.specs.Precedences.{prefix_punctuator}
use Rattle.abs_parser.specs.Productions.{begins, begins_within, chosen, Unary, Primary, ThisTail, Arguments, Expr, Branch}
use Rattle.abs_parser.specs.Readings.{One, Optional, Repeated, Wanted, Terminal, Subgoal, opened, Forest, Empty, Leaf, Node}
use Rattle.abs_parser.specs.ReaderAnswers.{asked, maybe_exprs, is_asked}
use Rattle.abs_parser.specs.TreesOf.{written, prefix_of, named, member, built, unary_in, primary_in, primary_by, arguments_maybe, expr_in}
use Rattle.abs_parser.proofs.grammar.FirstTokens.{BeginsBy, none_found}
use Rattle.abs_parser.proofs.reader.FoundLemmas.{asked_fits}

-- the keywords that begin a primary
abbrev first_keywords : List Keyword
first_keywords = keyword.Null ∷ keyword.Destiny ∷ keyword.This ∷ keyword.Case ∷ []

-- whether a primary may begin with a token of this lexeme
abbrev pub may_begin : Lexeme → Bool
may_begin (lexeme.Keyword keyword) = list_any (sameb keywords keyword) first_keywords
may_begin lexeme.Foreign = false
may_begin (lexeme.Punctuator which) = sameb punctuators which punctuator.OpenParen
may_begin _ = true

-- the test agrees with the grammar on each lexeme
may_begin_reported : (kind : Lexeme) → may_begin kind ≡ begins Primary (asked kind)
unfolding begins begins_within
may_begin_reported (lexeme.Keyword keyword.Null) = refl
may_begin_reported (lexeme.Punctuator punctuator.OpenParen) = refl
may_begin_reported _ = refl

-- the test decides which tokens a primary may begin with
pub first_kinds : BeginsBy Primary may_begin
unfolding begins begins_within
first_kinds = record { reported = may_begin_reported; local_too = refl; abs_too = refl; library_too = refl }

-- no other keyword begins a primary
pub other_keyword : (which : Keyword) → (which ≡ keyword.Null → ⊥) → (which ≡ keyword.Destiny → ⊥)
    → (which ≡ keyword.This → ⊥) → (which ≡ keyword.Case → ⊥) → false ≡ may_begin (lexeme.Keyword which)
other_keyword which not_null not_destiny not_this not_case =
    none_found keywords tt first_keywords which (not_null, (not_destiny, (not_this, (not_case, tt))))

-- What they open to, given the next token

-- the items after the first token of a primary, which has this lexeme
abbrev pub after_first : Lexeme → ℕ → List Wanted
after_first lexeme.LowerName depth = Subgoal (Optional Arguments) depth ∷ []
after_first lexeme.UpperName depth = Subgoal (Optional Arguments) depth ∷ []
after_first (lexeme.Keyword keyword.This) depth = Subgoal (Optional ThisTail) depth ∷ []
after_first (lexeme.Keyword keyword.Case) depth =
    Subgoal (One Expr) depth ∷ Terminal (PunctuatorKind punctuator.OpenBrace) depth ∷ Subgoal (One Branch) depth
    ∷ Subgoal (Repeated Branch) depth
    ∷ Terminal (PunctuatorKind punctuator.CloseBrace) depth ∷ []
after_first (lexeme.Punctuator punctuator.OpenParen) depth =
    Subgoal (One Expr) depth ∷ Terminal (PunctuatorKind punctuator.CloseParen) depth ∷ []
after_first _ depth = []

-- a lower-case name opens a primary, whether it is `local` or not
pub lower_opened : (kind : TokenKind) (depth : ℕ) → fits LowerName kind ≡ true
    → opened (One Primary) kind depth ≡ Some (Terminal LowerName depth ∷ Subgoal (Optional Arguments) depth ∷ [])
unfolding begins chosen begins_within
lower_opened LowerName depth fit = refl
lower_opened LocalName depth fit = refl
lower_opened _ depth fit = absurd cc

-- an upper-case name opens a primary, whether it is `ABS`, `StdLib` or neither
pub upper_opened : (kind : TokenKind) (depth : ℕ) → fits UpperName kind ≡ true
    → opened (One Primary) kind depth ≡ Some (Terminal UpperName depth ∷ Subgoal (Optional Arguments) depth ∷ [])
unfolding begins chosen begins_within
upper_opened UpperName depth fit = refl
upper_opened AbsName depth fit = refl
upper_opened StdLibName depth fit = refl
upper_opened _ depth fit = absurd cc

-- a token that may begin a primary opens it
pub primary_opened : (kind : Lexeme) (bytes : List ℕ) (depth : ℕ) → may_begin kind ≡ true
    → opened (One Primary) (token_kind_of kind bytes) depth
    ≡ Some (Terminal (asked kind) depth ∷ after_first kind depth)
unfolding begins chosen begins_within
primary_opened lexeme.LowerName bytes depth is = lower_opened _ depth (asked_fits lexeme.LowerName bytes refl)
primary_opened lexeme.UpperName bytes depth is = upper_opened _ depth (asked_fits lexeme.UpperName bytes refl)
primary_opened lexeme.Number bytes depth is = refl
primary_opened lexeme.Text bytes depth is = refl
primary_opened (lexeme.Keyword keyword.Null) bytes depth is = refl
primary_opened (lexeme.Keyword keyword.Destiny) bytes depth is = refl
primary_opened (lexeme.Keyword keyword.This) bytes depth is = refl
primary_opened (lexeme.Keyword keyword.Case) bytes depth is = refl
primary_opened (lexeme.Punctuator punctuator.OpenParen) bytes depth is = refl
primary_opened _ bytes depth is = absurd cc

-- the grammar asks for each lexeme that may begin a primary
pub first_asked : (kind : Lexeme) → may_begin kind ≡ true → is_asked kind ≡ true
first_asked lexeme.Foreign is = absurd cc
first_asked _ is = refl

-- a token that may not begin a primary opens none
pub primary_shut : (kind : Lexeme) (bytes : List ℕ) (depth : ℕ) → may_begin kind ≡ false
    → opened (One Primary) (token_kind_of kind bytes) depth ≡ None
unfolding begins chosen begins_within
primary_shut lexeme.LowerName bytes depth is = absurd cc
primary_shut lexeme.UpperName bytes depth is = absurd cc
primary_shut lexeme.Number bytes depth is = absurd cc
primary_shut lexeme.Text bytes depth is = absurd cc
primary_shut (lexeme.Keyword keyword.Null) bytes depth is = absurd cc
primary_shut (lexeme.Keyword keyword.Destiny) bytes depth is = absurd cc
primary_shut (lexeme.Keyword keyword.This) bytes depth is = absurd cc
primary_shut (lexeme.Keyword keyword.Case) bytes depth is = absurd cc
primary_shut (lexeme.Punctuator punctuator.OpenParen) bytes depth is = absurd cc
primary_shut _ bytes depth is = refl

-- the end of the source opens no primary
pub primary_end : (depth : ℕ) → opened (One Primary) End depth ≡ None
unfolding begins chosen begins_within
primary_end depth = refl

-- no punctuator but "(" opens a primary
pub group_shut : (which : Punctuator) (depth : ℕ)
    → fits (PunctuatorKind punctuator.OpenParen) (PunctuatorKind which) ≡ false
    → opened (One Primary) (PunctuatorKind which) depth ≡ None
unfolding begins chosen begins_within
group_shut punctuator.OpenParen depth differs = absurd cc
group_shut _ depth differs = refl

-- a unary opens to a primary where a primary may begin
pub operand_opened : (kind : TokenKind) (depth : ℕ) → begins Primary kind ≡ true
    → opened (One Unary) kind depth ≡ Some (Subgoal (One Primary) (depth + 1) ∷ [])
unfolding begins chosen begins_within
operand_opened LowerName depth is = refl
operand_opened LocalName depth is = refl
operand_opened UpperName depth is = refl
operand_opened AbsName depth is = refl
operand_opened StdLibName depth is = refl
operand_opened Number depth is = refl
operand_opened Text depth is = refl
operand_opened (KeywordKind keyword.Null) depth is = refl
operand_opened (KeywordKind keyword.Destiny) depth is = refl
operand_opened (KeywordKind keyword.This) depth is = refl
operand_opened (KeywordKind keyword.Case) depth is = refl
operand_opened (PunctuatorKind punctuator.OpenParen) depth is = refl
operand_opened _ depth is = absurd cc

-- a prefix operator opens a unary, followed by another unary
pub prefix_opened : (operation : Prefix) (depth : ℕ)
    → opened (One Unary) (PunctuatorKind (prefix_punctuator operation)) depth
    ≡ Some (Terminal (PunctuatorKind (prefix_punctuator operation)) (depth + 1) ∷ Subgoal (One Unary) (depth + 1) ∷ [])
unfolding begins chosen begins_within
prefix_opened prefix.Not depth = refl
prefix_opened prefix.Tilde depth = refl
prefix_opened prefix.Minus depth = refl

-- a token that is no prefix operator and may not begin a primary opens no unary
pub unary_shut : (kind : Lexeme) (bytes : List ℕ) (depth : ℕ) → may_begin kind ≡ false
    → ((operation : Prefix) → kind ≡ lexeme.Punctuator (prefix_punctuator operation) → ⊥)
    → opened (One Unary) (token_kind_of kind bytes) depth ≡ None
unfolding begins chosen begins_within
unary_shut lexeme.LowerName bytes depth is none = absurd cc
unary_shut lexeme.UpperName bytes depth is none = absurd cc
unary_shut lexeme.Number bytes depth is none = absurd cc
unary_shut lexeme.Text bytes depth is none = absurd cc
unary_shut (lexeme.Keyword keyword.Null) bytes depth is none = absurd cc
unary_shut (lexeme.Keyword keyword.Destiny) bytes depth is none = absurd cc
unary_shut (lexeme.Keyword keyword.This) bytes depth is none = absurd cc
unary_shut (lexeme.Keyword keyword.Case) bytes depth is none = absurd cc
unary_shut (lexeme.Punctuator punctuator.OpenParen) bytes depth is none = absurd cc
unary_shut (lexeme.Punctuator punctuator.Not) bytes depth is none = absurd (none prefix.Not refl)
unary_shut (lexeme.Punctuator punctuator.Tilde) bytes depth is none = absurd (none prefix.Tilde refl)
unary_shut (lexeme.Punctuator punctuator.Minus) bytes depth is none = absurd (none prefix.Minus refl)
unary_shut _ bytes depth is none = refl

-- the end of the source opens no unary
pub unary_end : (depth : ℕ) → opened (One Unary) End depth ≡ None
unfolding begins chosen begins_within
unary_end depth = refl

-- a dot after `this` opens the optional tail
pub tail_follows : (depth : ℕ) (kind : TokenKind) → fits (PunctuatorKind punctuator.Dot) kind ≡ true
    → opened (Optional ThisTail) kind depth ≡ Some (Subgoal (One ThisTail) depth ∷ [])
unfolding begins begins_within
tail_follows depth kind fit = rw fit refl

-- the tail after `this` is a dot, a name and optional arguments
pub tail_opened : (depth : ℕ) (kind : TokenKind) → fits (PunctuatorKind punctuator.Dot) kind ≡ true
    → opened (One ThisTail) kind depth
    ≡ Some (Terminal (PunctuatorKind punctuator.Dot) depth ∷ Terminal LowerName depth
    ∷ Subgoal (Optional Arguments) depth ∷ [])
unfolding begins chosen begins_within
tail_opened depth kind fit = rw fit refl

-- the tail is left out where no dot is next
pub no_tail : (depth : ℕ) (kind : TokenKind) → fits (PunctuatorKind punctuator.Dot) kind ≡ false
    → opened (Optional ThisTail) kind depth ≡ Some []
unfolding begins begins_within
no_tail depth kind other = rw other refl

-- The trees

-- the tree of a primary is given by its first token and by what follows it
pub tree_by : {kind : Lexeme} (token : Lexed) (at : ℕ) (others : Forest) → token.kind ≡ kind
    → primary_in (Leaf (Token token) at others) ≡ primary_by (token_kind_of kind token.bytes) (Token token) others
tree_by token at others is = ap (λ (kind : Lexeme). primary_by (token_kind_of kind token.bytes) (Token token) others) is

-- a lower-case name is a function call or a variable, whether it is `local` or not
named_by : (is_local : Bool) (mark : Mark) (arguments : Forest)
    → primary_by (cond is_local LocalName LowerName) mark (Node (Optional Arguments) arguments Empty)
    ≡ named (place_of_mark mark) (written mark) (arguments_maybe arguments)
named_by true mark arguments = refl
named_by false mark arguments = refl

-- a lower-case name is a function call where it has arguments, and else a variable
pub named_tree : (token : Lexed) (at : ℕ) (arguments : Forest) {trees : Option ExprTrees} → token.kind ≡ lexeme.LowerName
    → trees ≡ arguments_maybe arguments
    → named token.place token.bytes trees
    ≡ primary_in (Leaf (Token token) at (Node (Optional Arguments) arguments Empty))
named_tree token at arguments is trees =
    ap (named token.place token.bytes) trees
    ∙ sym (tree_by token at (Node (Optional Arguments) arguments Empty) is
    ∙ named_by (bytes_eq token.bytes (codes "local")) (Token token) arguments)

-- an upper-case name builds a value, whether it is `ABS`, `StdLib` or neither
built_by : (is_abs is_library : Bool) (mark : Mark) (arguments : Forest)
    → primary_by (cond is_abs AbsName (cond is_library StdLibName UpperName)) mark
    (Node (Optional Arguments) arguments Empty)
    ≡ built (place_of_mark mark) (written mark) (arguments_maybe arguments)
built_by true is_library mark arguments = refl
built_by false true mark arguments = refl
built_by false false mark arguments = refl

-- an upper-case name builds a value of its arguments, if it has any
pub built_tree : (token : Lexed) (at : ℕ) (arguments : Forest) {trees : Option ExprTrees} → token.kind ≡ lexeme.UpperName
    → trees ≡ arguments_maybe arguments
    → built token.place token.bytes trees
    ≡ primary_in (Leaf (Token token) at (Node (Optional Arguments) arguments Empty))
built_tree token at arguments is trees =
    ap (built token.place token.bytes) trees
    ∙ sym (tree_by token at (Node (Optional Arguments) arguments Empty) is
    ∙ built_by (bytes_eq token.bytes (codes "ABS")) (bytes_eq token.bytes (codes "StdLib")) (Token token) arguments)

-- `this`, a dot and a name are a method call where there are arguments, and else a field
pub member_tree : (this dot name : Lexed) (at : ℕ) (arguments : Forest) {trees : Option ExprTrees}
    → this.kind ≡ lexeme.Keyword keyword.This → trees ≡ arguments_maybe arguments
    → member this.place name.place name.bytes trees
    ≡ primary_in (Leaf (Token this) at
    (Node (Optional ThisTail) (Node (One ThisTail)
    (Leaf (Token dot) at (Leaf (Token name) at (Node (Optional Arguments) arguments Empty))) Empty) Empty))
member_tree this dot name at arguments is trees =
    ap (member this.place name.place name.bytes) trees
    ∙ sym (tree_by this at (Node (Optional ThisTail)
    (Node (One ThisTail) (Leaf (Token dot) at (Leaf (Token name) at (Node (Optional Arguments) arguments Empty))) Empty)
    Empty) is)

-- `this` without a dot is the object itself
pub this_tree : (this : Lexed) (at : ℕ) → this.kind ≡ lexeme.Keyword keyword.This
    → ThisOf this.place ≡ primary_in (Leaf (Token this) at (Node (Optional ThisTail) Empty Empty))
this_tree this at is = sym (tree_by this at (Node (Optional ThisTail) Empty Empty) is)

-- an expression in parentheses has the tree of the expression
pub group_tree : (opening closing : Lexed) (at : ℕ) (inside : Forest) {tree : ExprTree}
    → opening.kind ≡ lexeme.Punctuator punctuator.OpenParen → tree ≡ expr_in inside
    → tree ≡ primary_in (Leaf (Token opening) at (Node (One Expr) inside (Leaf (Token closing) at Empty)))
group_tree opening closing at inside is trees =
    trees ∙ sym (tree_by opening at (Node (One Expr) inside (Leaf (Token closing) at Empty)) is)

-- the punctuator of a prefix operator is read as that operator
prefix_reported : (operation : Prefix) → prefix_of (PunctuatorKind (prefix_punctuator operation)) ≡ operation
prefix_reported prefix.Not = refl
prefix_reported prefix.Tilde = refl
prefix_reported prefix.Minus = refl

-- the tree of a prefix operator and the unary after it
pub prefixed_tree : (operation : Prefix) (token : Lexed) (at : ℕ) (operand : Forest) {tree : ExprTree}
    → token.kind ≡ lexeme.Punctuator (prefix_punctuator operation) → tree ≡ unary_in operand
    → Prefixed token.place operation tree ≡ unary_in (Leaf (Token token) at (Node (One Unary) operand Empty))
prefixed_tree operation token at operand is trees =
    ap (Prefixed token.place operation) trees
    ∙ ap (λ (reported : Prefix). Prefixed token.place reported (unary_in operand))
    (sym (ap (λ (kind : Lexeme). prefix_of (token_kind_of kind token.bytes)) is ∙ prefix_reported operation))

-- a constructor has the given arguments
pub build_expr : (names : List (List ℕ)) (place : Place) (symbol : Symbol) (arguments : Vec code_expr.Expr Global)
    {given : Option (Vec code_expr.Expr Global)} {name : List ℕ}
    → given ≡ Some arguments → name_of names symbol ≡ name
    → expr_tree names (code_expr.Build place symbol arguments) ≡ built place name (maybe_exprs names given)
build_expr names place symbol arguments there is = rw (there, sym is) (expr_tree-build names place symbol arguments)

-- a constructor without arguments has an empty list of them
pub constant_expr : (names : List (List ℕ)) (place : Place) (symbol : Symbol) (arguments : Vec code_expr.Expr Global)
    {given : Option (Vec code_expr.Expr Global)} {name : List ℕ}
    → given ≡ None → arguments.items ≡ [] → name_of names symbol ≡ name
    → expr_tree names (code_expr.Build place symbol arguments) ≡ built place name (maybe_exprs names given)
constant_expr names place symbol arguments none empty is =
    rw (none, sym is) (expr_tree-build names place symbol arguments
    ∙ ap (λ (items : List code_expr.Expr). BuildOf place (name_of names symbol) (expr_trees names items)) empty)
