-- The steps of the parsing functions of guards. They read the value of a test and the `?` that may follow it. A test is
-- an element of the list that a guard is.
use Rattle.std.proofs.Common.{◌≡◌, ◌≤◌, ℕ, Bool, true, false, List, [], ◌∷◌, Some, refl, sym, ap, ◌∙◌}
use Rattle.abs_lexer.specs.declared.lexeme.Lexeme.TheVariants as lexeme
use Rattle.abs_lexer.specs.declared.lexeme.Punctuator.TheVariants as punctuator
use Rattle.abs_lexer.specs.Tokens.{Lexed}
use Rattle.abs_tree.specs.Syntax.{ExprTree, Tests, NoTest, NextTest}
use Rattle.abs_tree.specs.SyntaxViews.{expr_tree}
use Rattle.abs_tree.specs.declared.place.Place.{Place}
use Rattle.abs_tree.specs.declared.syntax.expression.Expr.{Expr}
use Rattle.abs_tree.specs.declared.syntax.statement.Test as code_test
use Rattle.abs_parser.specs.TokenKinds.{TokenKind, PunctuatorKind, fits, next}
use Rattle.abs_parser.specs.Productions.{Equal, Test, Question, begins}
use Rattle.abs_parser.specs.Readings.{One, Optional, Subgoal, opened, Forest}
use Rattle.abs_parser.specs.ReaderAnswers.{left_at, TakesKind, FoundAs, IsRefused}
use Rattle.abs_parser.specs.Stops.{limit}
use Rattle.abs_parser.specs.Tokens.{Spot, place_of}
use Rattle.abs_parser.specs.TreesOf.{equal_in, is_asked, place_in, test_in}
use Rattle.abs_tree.specs.declared.source_error.SourceError.{SourceError}
use Rattle.abs_parser.proofs.grammar.FirstPlaceLemmas.{first_place_found}
use Rattle.abs_parser.proofs.reader.InFrontSteps.{refused_in_front}
use Rattle.abs_parser.proofs.grammar.NameLemmas.{goes_on_further}
use Rattle.abs_parser.proofs.reader.PatternSteps.{nothing_found}
use Rattle.abs_parser.proofs.reader.FoundLemmas.{found_weaker, found_goes_on}
use Rattle.abs_parser.proofs.reader.StepLemmas.{opens, over_token, over_part, into_last, all_read, fits_next}
use Rattle.abs_parser.proofs.grammar.NonterminalLemmas.{begins_with_token, begins_with_part, part_shut, part_begun, part_opened, optional_opened, optional_left_out}

-- where a value may begin, a test opens to the value and an optional `?`
test_opened : (kind : TokenKind) (depth : ℕ) → begins Equal kind ≡ true
    → opened (One Test) kind depth ≡ Some (Subgoal (One Equal) depth ∷ Subgoal (Optional Question) depth ∷ [])
test_opened kind depth may = part_opened Test kind depth refl refl (begins_with_part Test kind refl ∙ may)

-- a test is refused where its value is
pub test_refused : (depth : ℕ) (from : Spot) (error : SourceError) → IsRefused (Subgoal (One Equal) depth) from error
    → IsRefused (Subgoal (One Test) depth) from error
test_refused depth from error refused =
    refused_in_front Equal depth (One Test) depth from error (test_opened _ depth)
    (λ none. part_shut Test _ depth (begins_with_part Test _ refl ∙ none)) refused

-- a `?` is found where it is next
pub question_found : {token : Lexed} {from to : Spot} (depth : ℕ) (table : List (List ℕ))
    → TakesKind (lexeme.Punctuator punctuator.Question) token from to → depth ≤ limit
    → FoundAs (Optional Question) depth table table from to (λ names inside. is_asked inside ≡ true)
question_found {from = from} depth table takes within =
    let fit = begins_with_token Question _ refl ∙ fits_next refl takes in
    all_read (into_last (opens (Optional Question) depth table from _ (optional_opened Question _ depth fit))
    (over_token (opens (One Question) depth table from _ (part_opened Question _ depth refl refl fit)) takes refl refl
    within)) (λ names more. refl)

-- a `?` is left out where it is not next
pub question_left_out : (depth : ℕ) (table : List (List ℕ)) (from : Spot)
    → fits (PunctuatorKind punctuator.Question) (next (left_at from)) ≡ false
    → FoundAs (Optional Question) depth table table from from (λ names inside. is_asked inside ≡ false)
question_left_out depth table from other =
    found_weaker (nothing_found (Optional Question) depth table from
    (optional_left_out Question _ depth (begins_with_token Question _ refl ∙ other)))
    (λ names more none. ap is_asked none)

-- this test was read, and its tree comes before any others
abbrev IsTest : code_test.Test → List (List ℕ) → Forest → Type 0
IsTest test names inside = (others : Tests)
    → NextTest test.place (expr_tree names test.value.value) test.asks others ≡ test_in inside others

-- a test is found with its value and an optional `?`
pub test_found : {depth : ℕ} {old now new : List (List ℕ)} {from here to : Spot} {value : Expr} (test : code_test.Test)
    → test.place ≡ place_of from → test.value.value ≡ value
    → FoundAs (One Equal) depth old now from here (λ names inside. expr_tree names value ≡ equal_in inside)
    → FoundAs (Optional Question) depth now new here to (λ names inside. is_asked inside ≡ test.asks)
    → FoundAs (One Test) depth old new from to (IsTest test)
test_found {depth} {old} {from = from} test at held found question =
    all_read (over_part (over_part (opens (One Test) depth old from _
    (test_opened _ depth (part_begun Equal _ depth found.rule_is))) found) question) (λ names more others.
    ap (λ (place : Place). NextTest place (expr_tree names test.value.value) test.asks others)
    (at ∙ sym (first_place_found found))
    ∙ (ap (λ (tree : ExprTree). NextTest (place_in found.inside) tree test.asks others)
    (ap (expr_tree names) held ∙ found.is names (goes_on_further (found_goes_on question) more))
    ∙ ap (λ (asks : Bool). NextTest (place_in found.inside) (equal_in found.inside) asks others)
    (sym (question.is names more))))

-- a test that was found before any others is found with no others after it
pub one_test : {depth : ℕ} {old new : List (List ℕ)} {from to : Spot} (test : code_test.Test)
    → FoundAs (One Test) depth old new from to (IsTest test)
    → FoundAs (One Test) depth old new from to
    (λ names inside. NextTest test.place (expr_tree names test.value.value) test.asks NoTest ≡ test_in inside NoTest)
one_test test found = found_weaker found (λ names more is. is NoTest)
