-- The steps of the parsing functions of expressions. The next token says whether an expression is a `let`, an `if` or
-- an operator list. The tokens and parts of a `let` and of an `if` are read one by one, with the trees of what was
-- read.
use Rattle.std.proofs.Common.{◌≡◌, ◌≤◌, ℕ, ◌+◌, true, false, List, [], ◌∷◌, Some, None, refl, ap, ◌∙◌}
use Rattle.abs_tree.specs.Names.{with_name, number_of_name, name_of}
use Rattle.abs_tree.specs.declared.place.Place.{Place}
use Rattle.abs_tree.specs.Syntax.{ExprTree, IfElse, LetIn, Unresolved, TypeTree}
use Rattle.abs_tree.specs.SyntaxViews.{expr_tree, type_tree}
use Rattle.abs_tree.specs.declared.symbol.Symbol.{Symbol}
use Rattle.abs_tree.specs.declared.syntax.expression.Expr.{Expr}
use Rattle.abs_tree.specs.declared.syntax.types.TypeTerm.{TypeTerm}
use Rattle.abs_lexer.specs.declared.lexeme.Keyword.TheVariants as keyword
use Rattle.abs_lexer.specs.declared.lexeme.Lexeme.TheVariants as lexeme
use Rattle.abs_lexer.specs.declared.lexeme.Punctuator.TheVariants as punctuator
use Rattle.abs_lexer.specs.Tokens.{Lexed}
use Rattle.abs_parser.specs.Answers.{GoesOn}
use Rattle.abs_parser.specs.TokenKinds.{TokenKind, Token, LowerName, KeywordKind, PunctuatorKind, fits, next}
use Rattle.abs_parser.specs.Productions.{Type', Expr as ExprSymbol, Or, begins, begins_within, chosen}
use Rattle.abs_parser.specs.Readings.{One, Wanted, Terminal, Subgoal, opened, Forest, Leaf, Node}
use Rattle.abs_parser.specs.ReaderAnswers.{left_at, TakesKind, FoundAs, IsRefused}
use Rattle.abs_parser.specs.Stops.{limit}
use Rattle.abs_parser.specs.Tokens.{Spot}
use Rattle.abs_parser.specs.TreesOf.{type_in, expr_in, or_in}
use Rattle.abs_tree.specs.declared.source_error.SourceError.{SourceError}
use Rattle.abs_parser.proofs.grammar.NameLemmas.{goes_on_further, goes_on_all}
use Rattle.abs_parser.proofs.reader.FoundLemmas.{found_goes_on, symbol_kept}
use Rattle.abs_parser.proofs.reader.StepLemmas.{HasRead, opens, over_token, over_name, over_part, all_read}
use Rattle.abs_parser.proofs.grammar.NonterminalLemmas.{part_begun}
use Rattle.abs_parser.proofs.reader.InFrontSteps.{refused_in_front}
use Rattle.abs_parser.proofs.reader.KeywordSteps.{keyword_read}

-- an expression that begins with neither `let` nor `if` is an operator list
or_opened : (kind : TokenKind) (depth : ℕ) → fits (KeywordKind keyword.Let) kind ≡ false
    → fits (KeywordKind keyword.If) kind ≡ false → begins Or kind ≡ true
    → opened (One ExprSymbol) kind depth ≡ Some (Subgoal (One Or) (depth + 1) ∷ [])
unfolding chosen
or_opened kind depth no_let no_if e = rw (no_let, no_if, e) refl

-- where no operator list may begin either, no expression opens
expression_shut : (kind : TokenKind) (depth : ℕ) → fits (KeywordKind keyword.Let) kind ≡ false
    → fits (KeywordKind keyword.If) kind ≡ false → begins Or kind ≡ false → opened (One ExprSymbol) kind depth ≡ None
unfolding chosen
expression_shut kind depth no_let no_if e = rw (no_let, no_if, e) refl

-- an operator list that was found is an expression
pub or_found : {depth : ℕ} {old new : List (List ℕ)} {from to : Spot} (expr : Expr)
    → fits (KeywordKind keyword.Let) (next (left_at from)) ≡ false
    → fits (KeywordKind keyword.If) (next (left_at from)) ≡ false
    → FoundAs (One Or) (depth + 1) old new from to (λ names inside. expr_tree names expr ≡ or_in inside)
    → FoundAs (One ExprSymbol) depth old new from to (λ names inside. expr_tree names expr ≡ expr_in inside)
or_found {depth} {old} {from = from} expr no_let no_if found =
    let begun = part_begun Or _ (depth + 1) found.rule_is in
    all_read (over_part (opens (One ExprSymbol) depth old from _ (or_opened _ depth no_let no_if begun)) found) found.is

-- what refuses the operator list refuses the expression
pub or_refused : (depth : ℕ) (from : Spot) (error : SourceError)
    → fits (KeywordKind keyword.Let) (next (left_at from)) ≡ false
    → fits (KeywordKind keyword.If) (next (left_at from)) ≡ false
    → IsRefused (Subgoal (One Or) (depth + 1)) from error → IsRefused (Subgoal (One ExprSymbol) depth) from error
or_refused depth from error no_let no_if refused =
    refused_in_front Or (depth + 1) (One ExprSymbol) depth from error (or_opened _ depth no_let no_if)
    (expression_shut _ depth no_let no_if) refused

-- what follows the keyword of an `if`
abbrev after_if : ℕ → List Wanted
after_if at =
    Subgoal (One ExprSymbol) at ∷ Terminal (KeywordKind keyword.Then) at ∷ Subgoal (One ExprSymbol) at
    ∷ Terminal (KeywordKind keyword.Else) at ∷ Subgoal (One ExprSymbol) at ∷ []

-- `if` opens an expression
pub if_opened : (depth : ℕ) → opened (One ExprSymbol) (KeywordKind keyword.If) depth
    ≡ Some (Terminal (KeywordKind keyword.If) (depth + 1) ∷ after_if (depth + 1))
unfolding begins chosen begins_within
if_opened depth = refl

-- the keyword of an `if` was read
pub if_begins : {token : Lexed} {from after : Spot} (depth : ℕ) (table : List (List ℕ))
    → TakesKind (lexeme.Keyword keyword.If) token from after → depth + 1 ≤ limit
    → HasRead (One ExprSymbol) depth table table from (λ rest. Leaf (Token token) (depth + 1) rest)
    (after_if (depth + 1)) after
if_begins depth table takes within = keyword_read depth table (if_opened depth) takes within

-- what follows the name of a `let`
abbrev after_let_name : ℕ → List Wanted
after_let_name at =
    Terminal (PunctuatorKind punctuator.CloseParen) at ∷ Terminal (PunctuatorKind punctuator.Assign) at
    ∷ Subgoal (One ExprSymbol) at ∷ Terminal (KeywordKind keyword.In) at ∷ Subgoal (One ExprSymbol) at ∷ []

-- what follows the keyword of a `let`
abbrev after_let : ℕ → List Wanted
after_let at = Terminal (PunctuatorKind punctuator.OpenParen) at ∷ Subgoal (One Type') at ∷ Terminal LowerName at
    ∷ after_let_name at

-- `let` opens an expression
pub let_opened : (depth : ℕ) → opened (One ExprSymbol) (KeywordKind keyword.Let) depth
    ≡ Some (Terminal (KeywordKind keyword.Let) (depth + 1) ∷ after_let (depth + 1))
unfolding begins chosen begins_within
let_opened depth = refl

-- the keyword of a `let` was read
pub let_begins : {token : Lexed} {from after : Spot} (depth : ℕ) (table : List (List ℕ))
    → TakesKind (lexeme.Keyword keyword.Let) token from after → depth + 1 ≤ limit
    → HasRead (One ExprSymbol) depth table table from (λ rest. Leaf (Token token) (depth + 1) rest)
    (after_let (depth + 1)) after
let_begins depth table takes within = keyword_read depth table (let_opened depth) takes within

-- this expression was read
abbrev pub IsExpression : Expr → List (List ℕ) → Forest → Type 0
IsExpression expr names inside = expr_tree names expr ≡ expr_in inside

-- the test of an `if` and `then` were read
pub if_tested : {token then_token : Lexed} {from test_at then_at first_at : Spot} {depth : ℕ} {old now : List (List ℕ)}
    {is_read : List (List ℕ) → Forest → Type 0} → TakesKind (lexeme.Keyword keyword.If) token from test_at
    → (test : FoundAs (One ExprSymbol) (depth + 1) old now test_at then_at is_read)
    → TakesKind (lexeme.Keyword keyword.Then) then_token then_at first_at → depth + 1 ≤ limit
    → HasRead (One ExprSymbol) depth old now from
    (λ rest. Leaf (Token token) (depth + 1)
    (Node (One ExprSymbol) test.inside (Leaf (Token then_token) (depth + 1) rest)))
    (Subgoal (One ExprSymbol) (depth + 1) ∷ Terminal (KeywordKind keyword.Else) (depth + 1)
    ∷ Subgoal (One ExprSymbol) (depth + 1) ∷ []) first_at
if_tested {depth = depth} {old} token test then_token within =
    over_token (over_part (if_begins depth old token within) test) then_token refl refl within

-- the first choice of an `if` and `else` were read
pub if_chosen : {else_token : Lexed} {from first_at else_at second_at : Spot} {depth at : ℕ}
    {old now new : List (List ℕ)} {make : Forest → Forest} {is_read : List (List ℕ) → Forest → Type 0}
    → HasRead (One ExprSymbol) depth old now from make
    (Subgoal (One ExprSymbol) at ∷ Terminal (KeywordKind keyword.Else) at ∷ Subgoal (One ExprSymbol) at ∷ []) first_at
    → (first : FoundAs (One ExprSymbol) at now new first_at else_at is_read)
    → TakesKind (lexeme.Keyword keyword.Else) else_token else_at second_at → at ≤ limit
    → HasRead (One ExprSymbol) depth old new from
    (λ rest. make (Node (One ExprSymbol) first.inside (Leaf (Token else_token) at rest)))
    (Subgoal (One ExprSymbol) at ∷ []) second_at
if_chosen so first else_token within = over_token (over_part so first) else_token refl refl within

-- an `if` is found with its three expressions, each as it is stored
pub if_found : {token then_token else_token : Lexed} {from test_at then_at first_at else_at second_at end : Spot}
    {depth : ℕ} {old one two new : List (List ℕ)} {test first second : Expr} (held_test held_first held_second : Expr)
    → held_test ≡ test → held_first ≡ first → held_second ≡ second
    → TakesKind (lexeme.Keyword keyword.If) token from test_at
    → FoundAs (One ExprSymbol) (depth + 1) old one test_at then_at (IsExpression test)
    → TakesKind (lexeme.Keyword keyword.Then) then_token then_at first_at
    → FoundAs (One ExprSymbol) (depth + 1) one two first_at else_at (IsExpression first)
    → TakesKind (lexeme.Keyword keyword.Else) else_token else_at second_at
    → FoundAs (One ExprSymbol) (depth + 1) two new second_at end (IsExpression second) → depth + 1 ≤ limit
    → FoundAs (One ExprSymbol) depth old new from end
    (λ names inside. IfElse token.place (expr_tree names held_test) (expr_tree names held_first) (expr_tree names held_second)
    ≡ expr_in inside)
if_found held_test held_first held_second same_test same_first same_second token test then_token first else_token second
    within =
    all_read (over_part (if_chosen (if_tested token test then_token within) first else_token within) second)
    (λ names more.
    let after = goes_on_further (found_goes_on second) more in
    rw (
      same_test,
      same_first,
      same_second,
      test.is names (goes_on_further (found_goes_on first) after),
      first.is names
          after,
      second.is names more,
    ) refl)

-- the type and the name of a `let` were read, and the name was added to the table
pub let_named : {token paren name : Lexed} {from open_at type_at name_at close_at : Spot} {depth : ℕ}
    {old now table : List (List ℕ)} {is_read : List (List ℕ) → Forest → Type 0}
    → TakesKind (lexeme.Keyword keyword.Let) token from open_at
    → TakesKind (lexeme.Punctuator punctuator.OpenParen) paren open_at type_at
    → (type : FoundAs (One Type') (depth + 1) old now type_at name_at is_read)
    → TakesKind lexeme.LowerName name name_at close_at → table ≡ with_name now name.bytes → depth + 1 ≤ limit
    → HasRead (One ExprSymbol) depth old table from
    (λ rest. Leaf (Token token) (depth + 1)
    (Leaf (Token paren) (depth + 1) (Node (One Type') type.inside (Leaf (Token name) (depth + 1) rest))))
    (after_let_name (depth + 1)) close_at
let_named {depth = depth} {old} token paren type name is within =
    over_name (over_part (over_token (let_begins depth old token within) paren refl refl within) type) name refl refl
    within is

-- ")" and "=" of a `let` were read
pub let_assigned : {close equals : Lexed} {from close_at equals_at value_at : Spot} {depth at : ℕ}
    {old now : List (List ℕ)} {make : Forest → Forest}
    → HasRead (One ExprSymbol) depth old now from make (after_let_name at) close_at
    → TakesKind (lexeme.Punctuator punctuator.CloseParen) close close_at equals_at
    → TakesKind (lexeme.Punctuator punctuator.Assign) equals equals_at value_at → at ≤ limit
    → HasRead (One ExprSymbol) depth old now from (λ rest. make (Leaf (Token close) at (Leaf (Token equals) at rest)))
    (Subgoal (One ExprSymbol) at ∷ Terminal (KeywordKind keyword.In) at ∷ Subgoal (One ExprSymbol) at ∷ []) value_at
let_assigned so close equals within = over_token (over_token so close refl refl within) equals refl refl within

-- the value of a `let` and `in` were read
pub let_valued : {in_token : Lexed} {from value_at in_at body_at : Spot} {depth at : ℕ} {old now new : List (List ℕ)}
    {make : Forest → Forest} {is_read : List (List ℕ) → Forest → Type 0}
    → HasRead (One ExprSymbol) depth old now from make
    (Subgoal (One ExprSymbol) at ∷ Terminal (KeywordKind keyword.In) at ∷ Subgoal (One ExprSymbol) at ∷ []) value_at
    → (value : FoundAs (One ExprSymbol) at now new value_at in_at is_read)
    → TakesKind (lexeme.Keyword keyword.In) in_token in_at body_at → at ≤ limit
    → HasRead (One ExprSymbol) depth old new from
    (λ rest. make (Node (One ExprSymbol) value.inside (Leaf (Token in_token) at rest)))
    (Subgoal (One ExprSymbol) at ∷ []) body_at
let_valued so value in_token within = over_token (over_part so value) in_token refl refl within

-- a table with one more name extends the table before
pub goes_on_name : {table : List (List ℕ)} (names : List (List ℕ)) (name : List ℕ) → table ≡ with_name names name
    → GoesOn names table
goes_on_name names name is = rw is (goes_on_all names (name ∷ []))

-- the trees of two `let` expressions with equal parts are equal
let_tree : {type held_type : TypeTree} {name held_name : List ℕ} {value held_value body held_body : ExprTree}
    (place name_place : Place) → held_type ≡ type → held_name ≡ name → held_value ≡ value → held_body ≡ body
    → LetIn place held_type name_place (Unresolved held_name) held_value held_body
    ≡ LetIn place type name_place (Unresolved name) value body
let_tree place name_place type name value body = rw (type, name, value, body) refl

-- a `let` is found with its type, its name, its value and its body, each as it is stored
pub let_found : {token paren name close equals in_token : Lexed}
    {from open_at type_at name_at close_at equals_at value_at in_at body_at end : Spot} {depth : ℕ}
    {old one two three new : List (List ℕ)}
    {type_term : TypeTerm} {value body : Expr} (held_type : TypeTerm) (symbol : Symbol) (held_value held_body : Expr)
    → held_type ≡ type_term → held_value ≡ value → held_body ≡ body → TakesKind (lexeme.Keyword keyword.Let) token from open_at
    → TakesKind (lexeme.Punctuator punctuator.OpenParen) paren open_at type_at
    → FoundAs (One Type') (depth + 1) old one type_at name_at
    (λ names inside. type_tree names type_term ≡ type_in inside)
    → TakesKind lexeme.LowerName name name_at close_at → symbol.0 ≡ number_of_name one name.bytes
    → two ≡ with_name one name.bytes
    → TakesKind (lexeme.Punctuator punctuator.CloseParen) close close_at equals_at
    → TakesKind (lexeme.Punctuator punctuator.Assign) equals equals_at value_at
    → FoundAs (One ExprSymbol) (depth + 1) two three value_at in_at (IsExpression value)
    → TakesKind (lexeme.Keyword keyword.In) in_token in_at body_at
    → FoundAs (One ExprSymbol) (depth + 1) three new body_at end (IsExpression body) → depth + 1 ≤ limit
    → FoundAs (One ExprSymbol) depth old new from end
    (λ names inside. LetIn token.place (type_tree names held_type) name.place (Unresolved (name_of names symbol))
    (expr_tree names held_value) (expr_tree names held_body) ≡ expr_in inside)
let_found {token = token} {name = name_token} {one = one} held_type symbol held_value held_body same_type same_value same_body
    takes paren type name number is close equals value in_token body within =
    let named = let_named takes paren type name is within in
    all_read (over_part (let_valued (let_assigned named close equals within) value in_token within) body) (λ names more.
    let after = goes_on_further (found_goes_on body) more in
    let since = goes_on_further (found_goes_on value) after in
    let_tree token.place name_token.place
    (ap (type_tree names) same_type ∙ type.is names (goes_on_further (goes_on_name one name_token.bytes is) since))
    (symbol_kept one symbol number is names since)
    (ap (expr_tree names) same_value ∙ value.is names after) (ap (expr_tree names) same_body ∙ body.is names more))
