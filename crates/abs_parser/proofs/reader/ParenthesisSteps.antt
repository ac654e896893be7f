-- An expression in parentheses is found with its two parentheses, and a part that has one is read up to the token after
-- it.
use Rattle.std.proofs.Common.{◌≤◌, ◌<◌, ℕ, ◌+◌, List, ◌∷◌, length, refl, arith}
use Rattle.abs_lexer.specs.declared.lexeme.Lexeme.TheVariants as lexeme
use Rattle.abs_lexer.specs.declared.lexeme.Punctuator.TheVariants as punctuator
use Rattle.abs_lexer.specs.Tokens.{Lexed}
use Rattle.abs_parser.specs.TokenKinds.{Token, PunctuatorKind}
use Rattle.abs_parser.specs.Productions.{Expr}
use Rattle.abs_parser.specs.Readings.{Goal, One, Wanted, Terminal, Subgoal, Forest, Leaf, Node}
use Rattle.abs_parser.specs.ReaderAnswers.{TakesKind, FoundAs, FoundInParentheses}
use Rattle.abs_parser.specs.Stops.{limit}
use Rattle.abs_parser.specs.Tokens.{Spot}
use Rattle.abs_parser.proofs.reader.FoundLemmas.{token_shorter, found_shorter, found_few}
use Rattle.abs_parser.proofs.reader.StepLemmas.{HasRead, over_token, over_part}

-- an expression in parentheses is found
pub between_parentheses : {opening closing : Lexed} {from expr_at closing_at to : Spot} {depth : ℕ}
    {old new : List (List ℕ)} {is_read : List (List ℕ) → Forest → Type 0}
    → TakesKind (lexeme.Punctuator punctuator.OpenParen) opening from expr_at
    → FoundAs (One Expr) depth old new expr_at closing_at is_read
    → TakesKind (lexeme.Punctuator punctuator.CloseParen) closing closing_at to → depth ≤ limit
    → FoundInParentheses depth old new from to is_read
between_parentheses {opening} {closing} {expr_at = expr_at} {closing_at} opens expr closes within =
    record {
      opening = opening;
      expr_at = expr_at;
      closing_at = closing_at;
      closing = closing;
      opens = opens;
      expr =
          expr;
      closes = closes;
      within = within;
    }

-- an expression in parentheses was read inside a part
pub over_parentheses : {goal : Goal} {depth at : ℕ} {old now new : List (List ℕ)} {from here after : Spot}
    {make : Forest → Forest} {left : List Wanted} {is_read : List (List ℕ) → Forest → Type 0}
    → HasRead goal depth old now from make
    (Terminal (PunctuatorKind punctuator.OpenParen) at ∷ Subgoal (One Expr) at
    ∷ Terminal (PunctuatorKind punctuator.CloseParen) at ∷ left) here
    → (found : FoundInParentheses at now new here after is_read)
    → HasRead goal depth old new from
    (λ rest. make (Leaf (Token found.opening) at
    (Node (One Expr) found.expr.inside (Leaf (Token found.closing) at rest)))) left after
over_parentheses so found = over_token (over_part (over_token so found.opens refl refl found.within) found.expr)
    found.closes refl refl found.within

-- an expression in parentheses leaves at least two tokens fewer than there were
pub parentheses_shorter : {at : ℕ} {old new : List (List ℕ)} {from to : Spot}
    {is_read : List (List ℕ) → Forest → Type 0} → FoundInParentheses at old new from to is_read
    → length to.rest + 1 < length from.rest
parentheses_shorter found = omega
    (arith, token_shorter found.opens.takes, found_shorter found.expr, token_shorter found.closes.takes)

-- it adds no more names to the table than it takes tokens
pub parentheses_few : {at : ℕ} {old new : List (List ℕ)} {from to : Spot} {is_read : List (List ℕ) → Forest → Type 0}
    → FoundInParentheses at old new from to is_read
    → length new + length to.rest ≤ length old + length from.rest
parentheses_few found = omega (
  arith,
  token_shorter found.opens.takes,
  found_few found.expr,
  token_shorter
      found.closes.takes,
)
