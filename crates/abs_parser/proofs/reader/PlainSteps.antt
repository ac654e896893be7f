-- The steps of the parsing function of a right side as a statement, where the next token begins no other statement. The
-- statement is refused where the right side is. It is found as the right side with the semicolon after it.
use Rattle.std.proofs.Common.{◌≡◌, ◌≤◌, ℕ, ◌+◌, true, false, cond, List, [], ◌∷◌, Some, None, refl, sym, ◌∙◌}
use Rattle.std.proofs.lemmas.Bool.{cond-true, cond-false}
use Rattle.abs_lexer.specs.declared.lexeme.Keyword.TheVariants as keyword
use Rattle.abs_lexer.specs.declared.lexeme.Lexeme.TheVariants as lexeme
use Rattle.abs_lexer.specs.declared.lexeme.Punctuator.TheVariants as punctuator
use Rattle.abs_lexer.specs.Tokens.{Lexed}
use Rattle.abs_tree.specs.declared.place.Place.{Place}
use Rattle.abs_tree.specs.declared.syntax.statement.RightSide.{RightSide}
use Rattle.abs_tree.specs.Syntax.{DoOf}
use Rattle.abs_tree.specs.SyntaxViews.{side_tree}
use Rattle.abs_parser.specs.Firsts.{begins_another}
use Rattle.abs_parser.specs.TokenKinds.{TokenKind, KeywordKind, PunctuatorKind, next}
use Rattle.abs_parser.specs.Productions.{begins, begins_within, chosen, Rhs, Stmt}
use Rattle.abs_parser.specs.Readings.{One, Wanted, Terminal, Subgoal, opened, Forest, Node}
use Rattle.abs_parser.specs.ReaderAnswers.{left_at, TakesKind, FoundAs, IsRefused}
use Rattle.abs_parser.specs.Stops.{limit}
use Rattle.abs_parser.specs.Tokens.{Spot, place_of}
use Rattle.abs_parser.specs.TreesOf.{rhs_in, statement_in}
use Rattle.abs_tree.specs.declared.source_error.SourceError.{SourceError}
use Rattle.abs_parser.proofs.grammar.FirstPlaceLemmas.{first_place_found}
use Rattle.abs_parser.proofs.reader.InFrontSteps.{refused_in_front}
use Rattle.abs_parser.proofs.reader.StepLemmas.{HasRead, opens, over_token, over_part, all_read}
use Rattle.abs_parser.proofs.grammar.NonterminalLemmas.{part_begun}

-- a right side and a semicolon
abbrev side_alone : ℕ → List Wanted
side_alone at = Subgoal (One Rhs) at ∷ Terminal (PunctuatorKind punctuator.Semicolon) at ∷ []

-- a token that begins no other statement opens a right side and a semicolon, where a right side may begin, and else
-- nothing
unless_another : (kind : TokenKind) (depth : ℕ)
    → cond (begins_another kind) None (opened (One Stmt) kind depth)
    ≡ cond (begins_another kind) None (cond (begins Rhs kind) (Some (side_alone (depth + 1))) None)
unfolding begins chosen begins_within
unless_another (KeywordKind keyword.Skip) depth = refl
unless_another (PunctuatorKind punctuator.OpenBrace) depth = refl
unless_another _ depth = refl

-- the same, given that the token begins no other statement
plain_reported : (kind : TokenKind) (depth : ℕ) → begins_another kind ≡ false
    → opened (One Stmt) kind depth ≡ cond (begins Rhs kind) (Some (side_alone (depth + 1))) None
plain_reported kind depth no_other =
    sym (cond-false (begins_another kind) None _ no_other)
    ∙ (unless_another kind depth ∙ cond-false (begins_another kind) None _ no_other)

-- a token that begins a right side, and no other statement, opens the statement
plain_opened : (kind : TokenKind) (depth : ℕ) → begins_another kind ≡ false → begins Rhs kind ≡ true
    → opened (One Stmt) kind depth ≡ Some (side_alone (depth + 1))
plain_opened kind depth no_other may = plain_reported kind depth no_other ∙ cond-true (begins Rhs kind) _ None may

-- a token that begins neither opens no statement
plain_shut : (kind : TokenKind) (depth : ℕ) → begins_another kind ≡ false → begins Rhs kind ≡ false
    → opened (One Stmt) kind depth ≡ None
plain_shut kind depth no_other none = plain_reported kind depth no_other ∙ cond-false (begins Rhs kind) _ None none

-- the statement is refused where the right side is
pub plain_refused : (depth : ℕ) (from : Spot) (error : SourceError) → begins_another (next (left_at from)) ≡ false
    → IsRefused (Subgoal (One Rhs) (depth + 1)) from error
    → IsRefused (Subgoal (One Stmt) depth) from error
plain_refused depth from error no_other refused =
    refused_in_front Rhs (depth + 1) (One Stmt) depth from error (plain_opened _ depth no_other)
    (plain_shut _ depth no_other) refused

-- the right side was read
pub plain_begins : {from after : Spot} {depth : ℕ} {old now : List (List ℕ)} {is_read : List (List ℕ) → Forest → Type 0}
    → begins_another (next (left_at from)) ≡ false
    → (side : FoundAs (One Rhs) (depth + 1) old now from after is_read)
    → HasRead (One Stmt) depth old now from (λ rest. Node (One Rhs) side.inside rest)
    (Terminal (PunctuatorKind punctuator.Semicolon) (depth + 1) ∷ []) after
plain_begins {from} {depth = depth} {old} no_other side =
    over_part (opens (One Stmt) depth old from _
    (plain_opened _ depth no_other (part_begun Rhs _ (depth + 1) side.rule_is))) side

-- the right side with the semicolon after it is found as a statement
pub plain_found : {semicolon : Lexed} {from after to : Spot} {depth : ℕ} {old now : List (List ℕ)} {place : Place}
    (index : ℕ) (side : RightSide)
    → begins_another (next (left_at from)) ≡ false → place ≡ place_of from
    → FoundAs (One Rhs) (depth + 1) old now from after (λ names inside. side_tree names side ≡ rhs_in inside)
    → TakesKind (lexeme.Punctuator punctuator.Semicolon) semicolon after to → depth + 1 ≤ limit
    → FoundAs (One Stmt) depth old now from to
    (λ names inside. DoOf index place (side_tree names side) ≡ statement_in index inside)
plain_found index side no_other at found semicolon within =
    all_read (over_token (plain_begins no_other found) semicolon refl refl within)
    (λ names more. rw (at, sym (first_place_found found), found.is names more) refl)
