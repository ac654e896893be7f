-- The steps of the parsing functions of unaries and primaries. They read the token that begins one, and what follows
-- `this`. They also say where a unary or a primary is refused, and that a primary alone is a unary.
use Rattle.std.proofs.Common.{◌≡◌, ◌≤◌, ℕ, ◌+◌, true, false, List, [], ◌∷◌, Option, Some, refl, sym, ap, subst, ◌∙◌}
use Rattle.std.specs.declared.alloc.Global.{Global}
use Rattle.std.specs.declared.vec.Vec.{Vec}
use Rattle.abs_lexer.specs.declared.lexeme.Lexeme.{Lexeme}
use Rattle.abs_lexer.specs.declared.lexeme.Lexeme.TheVariants as lexeme
use Rattle.abs_lexer.specs.declared.lexeme.Keyword.TheVariants as keyword
use Rattle.abs_lexer.specs.declared.lexeme.Punctuator.TheVariants as punctuator
use Rattle.abs_lexer.specs.Tokens.{Lexed}
use Rattle.abs_tree.specs.declared.symbol.Symbol.{Symbol}
use Rattle.abs_tree.specs.declared.syntax.expression.Expr.{Expr}
use Rattle.abs_tree.specs.declared.syntax.expression.Prefix.{Prefix}
use Rattle.abs_tree.specs.Names.{with_name, number_of_name, name_of}
use Rattle.abs_tree.specs.SyntaxViews.{expr_tree}
use Rattle.abs_parser.specs.TokenKinds.{Token, TokenKind, token_kind_of, LowerName, UpperName, KeywordKind, PunctuatorKind, fits, next}
use Rattle.abs_parser.specs.Precedences.{prefix_punctuator}
use Rattle.abs_parser.specs.Productions.{begins, Unary, Primary, ThisTail, Arguments}
use Rattle.abs_parser.specs.Readings.{One, Optional, Terminal, Subgoal, opened, Forest, Empty, Leaf, Node}
use Rattle.abs_parser.specs.ReaderAnswers.{left_at, asked, maybe_exprs, wrong_at, TakesKind, FoundAs, IsRefused}
use Rattle.abs_parser.specs.Stops.{limit}
use Rattle.abs_parser.specs.Tokens.{Spot, TakesToken}
use Rattle.abs_parser.specs.TreesOf.{unary_in, primary_in, arguments_maybe}
use Rattle.abs_tree.specs.declared.source_error.SourceError.{SourceError}
use Rattle.abs_tree.specs.declared.source_error.SourceError.TheVariants.{Refused}
use Rattle.abs_parser.proofs.grammar.FirstTokens.{begins_by_kind}
use Rattle.abs_parser.proofs.grammar.NameLemmas.{goes_on_further}
use Rattle.abs_parser.proofs.reader.FoundLemmas.{is_name, found_goes_on, symbol_kept}
use Rattle.abs_parser.proofs.reader.StepLemmas.{HasRead, opens, over_token, over_name, over_part, into_last, all_read, refused_inside, refused_first_token, refused_shut, next_is, fits_next}
use Rattle.abs_lexer.specs.declared.lexeme.Keyword.{Keyword}
use Rattle.abs_lexer.specs.declared.lexeme.Punctuator.{Punctuator}
use Rattle.abs_parser.proofs.grammar.AskedLemmas.{punctuator_fits}
use Rattle.abs_parser.proofs.reader.InFrontSteps.{refused_in_front}
use Rattle.abs_parser.proofs.grammar.NonterminalLemmas.{part_begun}
use Rattle.abs_parser.proofs.reader.KeywordSteps.{keyword_refused}
use Rattle.abs_parser.proofs.reader.PatternSteps.{next_taken, next_end}
use Rattle.abs_parser.proofs.grammar.PrimaryLemmas.{may_begin, first_kinds, after_first, primary_opened, lower_opened, upper_opened, first_asked, primary_shut, primary_end, group_shut, operand_opened, prefix_opened, unary_shut, unary_end, tail_follows, tail_opened}

-- the next token is taken as one of its lexeme
pub stands : {kind : Lexeme} {token : Lexed} {from after : Spot} → TakesToken token from after → token.kind ≡ kind
    → TakesKind kind token from after
stands takes is = record { kind_is = is; takes = takes }

-- a primary is opened by the token that begins it
primary_begins : {kind : Lexeme} {token : Lexed} {from after : Spot} (depth : ℕ) → TakesKind kind token from after
    → may_begin kind ≡ true
    → opened (One Primary) (next (left_at from)) depth ≡ Some (Terminal (asked kind) depth ∷ after_first kind depth)
primary_begins {kind} {token} depth takes is =
    ap (λ (k : TokenKind). opened (One Primary) k depth) (next_taken takes) ∙ primary_opened kind token.bytes depth is

-- the token that begins a primary was read, where it is no name
pub first_read : {kind : Lexeme} {token : Lexed} {from after : Spot} (depth : ℕ) (table : List (List ℕ))
    → TakesKind kind token from after → may_begin kind ≡ true → is_name kind ≡ false
    → depth ≤ limit → HasRead (One Primary) depth table table from (λ rest. Leaf (Token token) depth rest)
    (after_first kind depth) after
first_read {kind} {from = from} depth table takes is no_name within =
    over_token {kind = kind} (opens (One Primary) depth table from _ (primary_begins depth takes is)) takes
    (first_asked kind is) no_name within

-- the name that begins a primary was read and added to the table
pub name_read : {kind : Lexeme} {token : Lexed} {from after : Spot} {names : List (List ℕ)} (depth : ℕ)
    (table : List (List ℕ)) → TakesKind kind token from after → may_begin kind ≡ true
    → is_name kind ≡ true → depth ≤ limit → names ≡ with_name table token.bytes
    → HasRead (One Primary) depth table names from (λ rest. Leaf (Token token) depth rest) (after_first kind depth)
    after
name_read {kind} {from = from} depth table takes is named within more =
    over_name {kind = kind} (opens (One Primary) depth table from _ (primary_begins depth takes is)) takes
    (first_asked kind is) named within more

-- `this` and a dot were read, and a name must follow
pub member_begins : {this dot : Lexed} {from after name_at : Spot} (depth : ℕ) (table : List (List ℕ))
    → TakesKind (lexeme.Keyword keyword.This) this from after
    → TakesKind (lexeme.Punctuator punctuator.Dot) dot after name_at → depth ≤ limit
    → HasRead (One Primary) depth table table from
    (λ rest. Leaf (Token this) depth
    (Node (Optional ThisTail) (Node (One ThisTail) (Leaf (Token dot) depth rest) Empty) Empty))
    (Terminal LowerName depth ∷ Subgoal (Optional Arguments) depth ∷ []) name_at
member_begins {after = after} depth table takes dotted within =
    let fit = fits_next refl dotted in
    into_last (first_read depth table takes refl refl within)
    (into_last (opens (Optional ThisTail) depth table after _ (tail_follows depth _ fit))
    (over_token {kind = lexeme.Punctuator punctuator.Dot}
    (opens (One ThisTail) depth table after _ (tail_opened depth _ fit)) dotted refl refl within))

-- a name is found with the arguments after it, if there are any
pub call_found : {depth : ℕ} {old table new : List (List ℕ)} {from here to : Spot} {make : Forest → Forest}
    {name : List ℕ} (now : List (List ℕ)) (symbol : Symbol) (given : Option (Vec Expr Global)) (expr : Expr)
    → HasRead (One Primary) depth old table from make (Subgoal (Optional Arguments) depth ∷ []) here
    → symbol.0 ≡ number_of_name now name → table ≡ with_name now name
    → (found : FoundAs (Optional Arguments) depth table new here to
    (λ names inside. maybe_exprs names given ≡ arguments_maybe inside))
    → ((names : List (List ℕ)) → name_of names symbol ≡ name → maybe_exprs names given ≡ arguments_maybe found.inside
    → expr_tree names expr ≡ primary_in (make (Node (Optional Arguments) found.inside Empty)))
    → FoundAs (One Primary) depth old new from to (λ names inside. expr_tree names expr ≡ primary_in inside)
call_found now symbol given expr so number more found is =
    all_read (over_part so found) (λ names further.
    is names (symbol_kept now symbol number more names (goes_on_further (found_goes_on found) further))
    (found.is names further))

-- a prefix operator was read
pub prefix_read : {token : Lexed} {from after : Spot} (operation : Prefix) (depth : ℕ) (table : List (List ℕ))
    → TakesKind (lexeme.Punctuator (prefix_punctuator operation)) token from after → depth + 1 ≤ limit
    → HasRead (One Unary) depth table table from (λ rest. Leaf (Token token) (depth + 1) rest)
    (Subgoal (One Unary) (depth + 1) ∷ []) after
prefix_read {from = from} operation depth table takes within =
    over_token {kind = lexeme.Punctuator (prefix_punctuator operation)}
    (opens (One Unary) depth table from _
    (ap (λ (k : TokenKind). opened (One Unary) k depth) (next_taken takes) ∙ prefix_opened operation depth)) takes refl
    refl within

-- what refuses a prefix operator refuses the unary
pub prefix_refused : {token : Lexed} {from after : Spot} (operation : Prefix) (depth : ℕ) (error : SourceError)
    → TakesToken token from after → token.kind ≡ lexeme.Punctuator (prefix_punctuator operation)
    → IsRefused (Terminal (asked token.kind) (depth + 1)) from error → IsRefused (Subgoal (One Unary) depth) from error
prefix_refused {from = from} operation depth error takes is refused =
    refused_inside (opens (One Unary) depth [] from _
    (ap (λ (k : TokenKind). opened (One Unary) k depth) (next_taken (stands takes is)) ∙ prefix_opened operation depth))
    error
    (subst (λ (kind : Lexeme). IsRefused (Terminal (asked kind) (depth + 1)) from error) is refused)

-- a primary that was found is a unary
pub operand_found : {from to : Spot} {old new : List (List ℕ)} (depth : ℕ) (expr : Expr)
    → FoundAs (One Primary) (depth + 1) old new from to (λ names inside. expr_tree names expr ≡ primary_in inside)
    → FoundAs (One Unary) depth old new from to (λ names inside. expr_tree names expr ≡ unary_in inside)
operand_found {from} {old = old} depth expr found =
    all_read (over_part (opens (One Unary) depth old from _
    (operand_opened _ depth (part_begun Primary _ (depth + 1) found.rule_is))) found) found.is

-- where no prefix operator is next, what refuses the primary refuses the unary
pub operand_refused : {token : Lexed} {from after : Spot} (depth : ℕ) (error : SourceError)
    → TakesToken token from after → ((operation : Prefix) → token.kind ≡ lexeme.Punctuator (prefix_punctuator operation)
    → ⊥)
    → IsRefused (Subgoal (One Primary) (depth + 1)) from error → IsRefused (Subgoal (One Unary) depth) from error
operand_refused {token} {from} depth error takes no_prefix refused =
    refused_in_front Primary (depth + 1) (One Unary) depth from error (operand_opened _ depth)
    (λ none. ap (λ (k : TokenKind). opened (One Unary) k depth) (next_is takes)
    ∙ unary_shut token.kind token.bytes depth
    (begins_by_kind first_kinds token.kind token.bytes ∙ (ap (begins Primary) (sym (next_is takes)) ∙ none)) no_prefix)
    refused

-- what refuses the token that begins a primary refuses the primary
pub refused_primary : {kind : Lexeme} {token : Lexed} {from after : Spot} (depth : ℕ) (error : SourceError)
    → TakesKind kind token from after → may_begin kind ≡ true
    → IsRefused (Terminal (asked kind) depth) from error → IsRefused (Subgoal (One Primary) depth) from error
refused_primary {from = from} depth error takes is refused =
    refused_inside (opens (One Primary) depth [] from _ (primary_begins depth takes is)) error refused

-- where a lower-case name is next, what refuses it refuses the primary
pub refused_lower : (depth : ℕ) (from : Spot) (error : SourceError) → fits LowerName (next (left_at from)) ≡ true
    → IsRefused (Terminal LowerName depth) from error
    → IsRefused (Subgoal (One Primary) depth) from error
refused_lower depth from error fit refused =
    refused_inside (opens (One Primary) depth [] from _ (lower_opened _ depth fit)) error refused

-- where an upper-case name is next, what refuses it refuses the primary
pub refused_upper : (depth : ℕ) (from : Spot) (error : SourceError) → fits UpperName (next (left_at from)) ≡ true
    → IsRefused (Terminal UpperName depth) from error
    → IsRefused (Subgoal (One Primary) depth) from error
refused_upper depth from error fit refused =
    refused_inside (opens (One Primary) depth [] from _ (upper_opened _ depth fit)) error refused

-- where a punctuator is next, what refuses "(" refuses the primary
pub refused_group : (depth : ℕ) (from : Spot) (error : SourceError) (which : Punctuator)
    → next (left_at from) ≡ PunctuatorKind which
    → IsRefused (Terminal (PunctuatorKind punctuator.OpenParen) depth) from error
    → IsRefused (Subgoal (One Primary) depth) from error
refused_group depth from error which is refused =
    refused_first_token (PunctuatorKind punctuator.OpenParen) depth (One Primary) depth from error
    (λ fit. ap (λ (k : TokenKind). opened (One Primary) k depth) (punctuator_fits punctuator.OpenParen _ fit)
    ∙ primary_opened (lexeme.Punctuator punctuator.OpenParen) [] depth refl)
    (λ differs. ap (λ (k : TokenKind). opened (One Primary) k depth) is
    ∙ group_shut which depth (ap (fits (PunctuatorKind punctuator.OpenParen)) (sym is) ∙ differs)) refused

-- where a keyword that begins a primary is next, what refuses it refuses the primary
pub refused_keyword : (keyword : Keyword) (depth : ℕ) (from : Spot) (error : SourceError)
    → may_begin (lexeme.Keyword keyword) ≡ true → fits (KeywordKind keyword) (next (left_at from)) ≡ true
    → IsRefused (Terminal (KeywordKind keyword) depth) from error → IsRefused (Subgoal (One Primary) depth) from error
refused_keyword keyword depth from error is fit refused =
    keyword_refused (One Primary) depth from error (primary_opened (lexeme.Keyword keyword) [] depth is) fit refused

-- at the end of the source a unary is refused
pub unary_refused_at_end : (depth : ℕ) (from : Spot) (error : SourceError) → error ≡ Refused (wrong_at from)
    → from.rest ≡ [] → IsRefused (Subgoal (One Unary) depth) from error
unary_refused_at_end depth from error is none =
    rw is (refused_shut (One Unary) depth from
    (ap (λ (k : TokenKind). opened (One Unary) k depth) (next_end from none) ∙ unary_end depth))

-- at the end of the source a primary is refused
pub primary_refused_at_end : (depth : ℕ) (from : Spot) (error : SourceError) → error ≡ Refused (wrong_at from)
    → from.rest ≡ [] → IsRefused (Subgoal (One Primary) depth) from error
primary_refused_at_end depth from error is none =
    rw is (refused_shut (One Primary) depth from
    (ap (λ (k : TokenKind). opened (One Primary) k depth) (next_end from none) ∙ primary_end depth))

-- a primary is refused at a token whose lexeme begins none
pub refused_no_primary : (kind : Lexeme) (bytes : List ℕ) (depth : ℕ) (from : Spot) (error : SourceError)
    → error ≡ Refused (wrong_at from) → next (left_at from) ≡ token_kind_of kind bytes
    → may_begin kind ≡ false → IsRefused (Subgoal (One Primary) depth) from error
refused_no_primary kind bytes depth from error is stands none =
    rw is (refused_shut (One Primary) depth from
    (ap (λ (k : TokenKind). opened (One Primary) k depth) stands ∙ primary_shut kind bytes depth none))
