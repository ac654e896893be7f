-- The steps of the parsing functions of patterns. They read the token that begins a pattern, or leave out a part. They
-- also say where a pattern is refused.
use Rattle.std.proofs.Common.{◌≡◌, ◌<◌, ℕ, ℤ, pos, ◌-ℤ◌, ◌^◌, Bool, true, false, List, [], ◌∷◌, ◌+◌, None, Some, refl, sym, ap, ◌∙◌, arith}
use Rattle.std.specs.Prelude.{neg_ℤ}
use Rattle.std.proofs.lemmas.Int.{ints}
use mir.Val.{to_z, of_z}
use mir.Syntax.{w128}
use denote.Enum.Bare.{sameb, same_true}
use Rattle.abs_lexer.specs.contracts.lexeme.Punctuator.{the_type}
use Rattle.abs_lexer.specs.declared.lexeme.Lexeme.{Lexeme}
use Rattle.abs_lexer.specs.declared.lexeme.Punctuator.{Punctuator}
use Rattle.abs_lexer.specs.declared.lexeme.Punctuator.TheVariants as punctuator
use Rattle.abs_lexer.specs.Tokens.{Lexed}
use Rattle.abs_tree.specs.declared.refusal.Code.{Code}
use Rattle.abs_parser.specs.TokenKinds.{Mark, TokenKind, PunctuatorKind, End, token_kind_of, fits, next}
use Rattle.abs_parser.specs.Productions.{Pattern, begins}
use Rattle.abs_parser.specs.Readings.{Goal, One, Wanted, Terminal, Subgoal, opened, Empty}
use Rattle.abs_parser.specs.ReaderAnswers.{left_at, asked, wrong_at, TakesKind, FoundAs, IsRefused}
use Rattle.abs_parser.specs.Refusing.{Refuses, Other, Shut, Open, Cut}
use Rattle.abs_parser.specs.Tokens.{Spot, TakesToken}
use Rattle.abs_tree.specs.declared.source_error.SourceError.{SourceError}
use Rattle.abs_tree.specs.declared.source_error.SourceError.TheVariants.{Refused, Memory}
use Rattle.abs_parser.proofs.grammar.BeginningLemmas.{may_begin, first_kinds}
use Rattle.abs_parser.proofs.grammar.FirstTokens.{begins_by_kind}
use Rattle.abs_parser.proofs.reader.StepLemmas.{HasRead, opens, all_read, refused_inside, refused_first_token, refused_shut, next_is}
use Rattle.abs_parser.proofs.grammar.PatternLemmas.{after_first, pattern_opened, any_opened, minus_opened, punctuator_shut, end_shut}
use Rattle.abs_parser.proofs.grammar.AskedLemmas.{punctuator_fits}
use Rattle.abs_parser.proofs.grammar.NonterminalLemmas.{part_shut}
use Rattle.list_facts.proofs.DigitLemmas.{narrowed}

-- the next token kind is the one that the token's lexeme and bytes give
pub next_taken : {kind : Lexeme} {token : Lexed} {from to : Spot} → TakesKind kind token from to
    → next (left_at from) ≡ token_kind_of kind token.bytes
next_taken {token = token} takes = next_is takes.takes ∙ ap (λ (k : Lexeme). token_kind_of k token.bytes) takes.kind_is

-- where no token is left, the end of the source is next
pub next_end : (spot : Spot) → spot.rest ≡ [] → next (left_at spot) ≡ End
next_end spot e = rw e refl

-- a pattern is opened by the token that begins it
pub pattern_begins : {kind : Lexeme} {token : Lexed} {from after : Spot} (depth : ℕ) (table : List (List ℕ))
    → TakesKind kind token from after → may_begin kind ≡ true
    → HasRead (One Pattern) depth table table from (λ rest. rest)
    (Terminal (asked kind) (depth + 1) ∷ after_first kind (depth + 1)) from
pattern_begins {kind} {token} {from} depth table takes is =
    opens (One Pattern) depth table from _
    (ap (λ (k : TokenKind). opened (One Pattern) k depth) (next_taken takes)
    ∙ pattern_opened kind token.bytes depth (sym (begins_by_kind first_kinds kind token.bytes) ∙ is))

-- at the end of the source a pattern is refused
pub refused_at_end : (depth : ℕ) (from : Spot) (error : SourceError) → error ≡ Refused (wrong_at from) → from.rest ≡ []
    → IsRefused (Subgoal (One Pattern) depth) from error
refused_at_end depth from error is none =
    rw is (refused_shut (One Pattern) depth from
    (ap (λ (k : TokenKind). opened (One Pattern) k depth) (next_end from none) ∙ end_shut depth))

-- a token that begins no pattern is refused
pub refused_no_pattern : {token : Lexed} {from after : Spot} (depth : ℕ) (error : SourceError)
    → error ≡ Refused (wrong_at from) → TakesToken token from after
    → begins Pattern (token_kind_of token.kind token.bytes) ≡ false → IsRefused (Subgoal (One Pattern) depth) from error
refused_no_pattern {token} {from} depth error is takes none =
    rw is (refused_shut (One Pattern) depth from
    (part_shut Pattern (next (left_at from)) depth (ap (begins Pattern) (next_is takes) ∙ none)))

-- what refuses the token that begins a pattern refuses the pattern
pub refused_pattern : {kind : Lexeme} {token : Lexed} {from after : Spot} (depth : ℕ) (error : SourceError)
    → TakesKind kind token from after → may_begin kind ≡ true
    → IsRefused (Terminal (asked kind) (depth + 1)) from error → IsRefused (Subgoal (One Pattern) depth) from error
refused_pattern depth error takes is refused = refused_inside (pattern_begins depth [] takes is) error refused

-- where an underscore is next, what refuses it refuses the pattern
pub refused_underscore : (depth : ℕ) (from : Spot) (error : SourceError) (which : Punctuator) {is : Bool}
    → next (left_at from) ≡ PunctuatorKind which → is ≡ sameb the_type which punctuator.Underscore → is ≡ true
    → IsRefused (Terminal (PunctuatorKind punctuator.Underscore) (depth + 1)) from error
    → IsRefused (Subgoal (One Pattern) depth) from error
refused_underscore depth from error which stands tells holds refused =
    refused_inside (opens (One Pattern) depth [] from _
    (ap (λ (k : TokenKind). opened (One Pattern) k depth)
    (stands ∙ ap PunctuatorKind (same_true the_type tt which punctuator.Underscore (sym tells ∙ holds)))
    ∙ any_opened depth)) error refused

-- where another punctuator is next, what refuses a minus refuses the pattern
pub refused_minus : (depth : ℕ) (from : Spot) (error : SourceError) (which : Punctuator) {is : Bool}
    → next (left_at from) ≡ PunctuatorKind which → is ≡ sameb the_type which punctuator.Underscore → is ≡ false
    → IsRefused (Terminal (PunctuatorKind punctuator.Minus) (depth + 1)) from error
    → IsRefused (Subgoal (One Pattern) depth) from error
refused_minus depth from error which stands tells fails refused =
    refused_first_token (PunctuatorKind punctuator.Minus) (depth + 1) (One Pattern) depth from error
    (λ fit. ap (λ (k : TokenKind). opened (One Pattern) k depth) (punctuator_fits punctuator.Minus _ fit)
    ∙ minus_opened depth)
    (λ other. ap (λ (k : TokenKind). opened (One Pattern) k depth) stands
    ∙ punctuator_shut which depth (sym tells ∙ fails)
    (ap (fits (PunctuatorKind punctuator.Minus)) (sym stands) ∙ other)) refused

-- a part that the next token leaves out is found empty
pub nothing_found : (goal : Goal) (depth : ℕ) (table : List (List ℕ)) (from : Spot)
    → opened goal (next (left_at from)) depth ≡ Some []
    → FoundAs goal depth table table from from (λ names inside. inside ≡ Empty)
nothing_found goal depth table from is = all_read (opens goal depth table from [] is) (λ names more. refl)

-- a refusal of a part that the next token does not open is also one of a token kind that this token does not fit
unfit_by : {part : Goal} {at : ℕ} {items others : List Wanted} (kind : TokenKind) (depth : ℕ) {ts rest : List Mark}
    {code : Code} → opened part (next ts) at ≡ None
    → fits kind (next ts) ≡ false → Refuses (Subgoal part at ∷ items) ts rest code
    → Refuses (Terminal kind depth ∷ others) ts rest code
unfit_by kind depth closed differs (Shut e is) = Other differs is
unfit_by kind depth closed differs (Open e refused) = absurd cc
unfit_by kind depth closed differs (Cut is) = Cut is

-- what refuses a part that the next token does not open refuses a token kind that this token does not fit
pub refused_unfit : (part : Goal) (at : ℕ) (kind : TokenKind) (depth : ℕ) (spot : Spot) (error : SourceError)
    → opened part (next (left_at spot)) at ≡ None
    → fits kind (next (left_at spot)) ≡ false → IsRefused (Subgoal part at) spot error
    → IsRefused (Terminal kind depth) spot error
refused_unfit part at kind depth spot (Refused refusal) closed differs refused = λ items.
    let found = refused items in
    record {
      mark = found.mark;
      after = found.after;
      code = found.code;
      refuses =
          unfit_by kind depth closed differs found.refuses;
      refusal_is = found.refusal_is;
    }
refused_unfit part at kind depth spot Memory closed differs refused = λ items. tt

-- the negation of a number below 2 ^ 127 is exact in signed 128 bits
pub narrowed_minus : (z : ℤ) (value : ℕ) → z ≡ pos value → value < 2 ^ 127
    → to_z w128 (of_z w128 (pos 0 -ℤ to_z w128 (of_z w128 z))) ≡ neg_ℤ (pos value)
narrowed_minus z value is fits = rw (narrowed z value is fits) (omega (arith, ints, fits))
