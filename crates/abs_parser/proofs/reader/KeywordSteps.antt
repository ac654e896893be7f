-- A part that begins with a keyword of its own. Once the keyword was read, the rest of the part is left. The part is
-- refused where the keyword is.
use Rattle.std.proofs.Common.{◌≡◌, ◌≤◌, ℕ, true, List, [], ◌∷◌, Some, refl, ap, ◌∙◌}
use Rattle.abs_lexer.specs.declared.lexeme.Keyword.{Keyword}
use Rattle.abs_lexer.specs.declared.lexeme.Lexeme.TheVariants as lexeme
use Rattle.abs_lexer.specs.Tokens.{Lexed}
use Rattle.abs_parser.specs.TokenKinds.{Token, TokenKind, KeywordKind, fits, next}
use Rattle.abs_parser.specs.Readings.{Goal, Wanted, Terminal, Subgoal, opened, Leaf}
use Rattle.abs_parser.specs.ReaderAnswers.{left_at, TakesKind, IsRefused}
use Rattle.abs_parser.specs.Stops.{limit}
use Rattle.abs_parser.specs.Tokens.{Spot}
use Rattle.abs_tree.specs.declared.source_error.SourceError.{SourceError}
use Rattle.abs_parser.proofs.grammar.AskedLemmas.{keyword_fits}
use Rattle.abs_parser.proofs.reader.PatternSteps.{next_taken}
use Rattle.abs_parser.proofs.reader.StepLemmas.{HasRead, opens, over_token, refused_inside}

-- the keyword that opens a part was read
pub keyword_read : {goal : Goal} {at : ℕ} {keyword : Keyword} {left : List Wanted} {token : Lexed} {from after : Spot}
    (depth : ℕ) (table : List (List ℕ))
    → opened goal (KeywordKind keyword) depth ≡ Some (Terminal (KeywordKind keyword) at ∷ left)
    → TakesKind (lexeme.Keyword keyword) token from after → at ≤ limit
    → HasRead goal depth table table from (λ rest. Leaf (Token token) at rest) left after
keyword_read {goal} {from = from} depth table is takes within =
    over_token (opens goal depth table from _ (ap (λ (k : TokenKind). opened goal k depth) (next_taken takes) ∙ is))
    takes refl refl within

-- where the keyword is next, what refuses it refuses the part
pub keyword_refused : {keyword : Keyword} {left : List Wanted} {at : ℕ} (goal : Goal) (depth : ℕ) (from : Spot)
    (error : SourceError)
    → opened goal (KeywordKind keyword) depth ≡ Some (Terminal (KeywordKind keyword) at ∷ left)
    → fits (KeywordKind keyword) (next (left_at from)) ≡ true → IsRefused (Terminal (KeywordKind keyword) at) from error
    → IsRefused (Subgoal goal depth) from error
keyword_refused {keyword} goal depth from error is fit refused =
    refused_inside (opens goal depth [] from _
    (ap (λ (k : TokenKind). opened goal k depth) (keyword_fits keyword _ fit) ∙ is)) error refused
