-- The steps of the parsing functions of statements that hold others: a block as a statement, an `if` and a `while`. The
-- last two have a keyword, a test and branches, and `else` may follow a branch. Their trees are those of what was read.
-- At the end of the source a statement is refused.
use Rattle.std.proofs.Common.{◌≡◌, ◌≤◌, ℕ, ◌+◌, true, false, List, [], ◌∷◌, ◌++◌, Option, Some, None, refl, sym, ap, ◌∙◌}
use Rattle.std.specs.declared.alloc.Global.{Global}
use Rattle.std.specs.declared.sync.Arc.{Arc}
use Rattle.std.specs.declared.vec.Vec.{Vec}
use Rattle.abs_tree.specs.declared.place.Place.{Place}
use Rattle.abs_tree.specs.declared.syntax.declaration.Body.{Body}
use Rattle.abs_tree.specs.declared.syntax.expression.Expr.{Expr as CodeExpr}
use Rattle.abs_tree.specs.declared.syntax.statement.Stmt as code_stmt
use Rattle.abs_tree.specs.declared.syntax.statement.Stmt.{Stmt as CodeStmt}
use Rattle.abs_tree.specs.Syntax.{Name, ExprTree, BlockOf, IfOf, WhileOf, MaybeStatements, Else as ElseTree, Statements}
use Rattle.abs_tree.specs.SyntaxSizes.{statement_count}
use Rattle.abs_tree.specs.SyntaxViews.{expr_tree, statement, statements, maybe_statements}
use Rattle.abs_tree.proofs.StatementLemmas.{statement-block, statement-if, statement-while}
use Rattle.abs_lexer.specs.declared.lexeme.Keyword.{Keyword}
use Rattle.abs_lexer.specs.declared.lexeme.Keyword.TheVariants as keyword
use Rattle.abs_lexer.specs.declared.lexeme.Lexeme.TheVariants as lexeme
use Rattle.abs_lexer.specs.declared.lexeme.Punctuator.TheVariants as punctuator
use Rattle.abs_lexer.specs.Tokens.{Lexed}
use Rattle.abs_parser.specs.Firsts.{IsBlock}
use Rattle.abs_parser.specs.TokenKinds.{Token, TokenKind, KeywordKind, PunctuatorKind, End, fits, next}
use Rattle.abs_parser.specs.Productions.{Stmt, Block, Else, Expr, begins, begins_within, chosen}
use Rattle.abs_parser.specs.Readings.{One, Optional, Repeated, Wanted, Terminal, Subgoal, opened, Forest, Empty, Leaf, Node}
use Rattle.abs_parser.specs.ReaderAnswers.{left_at, wrong_at, TakesKind, FoundAs, FoundInParentheses, AreRefused, IsRefused, in_parentheses_at}
use Rattle.abs_parser.specs.Stops.{limit}
use Rattle.abs_parser.specs.Tokens.{Spot, place_of}
use Rattle.abs_parser.specs.TreesOf.{place_in, statement_in, branch_of, else_in}
use Rattle.abs_tree.specs.declared.source_error.SourceError.{SourceError}
use Rattle.abs_tree.specs.declared.source_error.SourceError.TheVariants.{Refused}
use Rattle.abs_parser.proofs.reader.ExpressionSteps.{IsExpression}
use Rattle.abs_parser.proofs.grammar.FirstPlaceLemmas.{first_place_found}
use Rattle.abs_parser.proofs.grammar.NameLemmas.{goes_on_further}
use Rattle.abs_parser.proofs.reader.PatternSteps.{next_end, nothing_found}
use Rattle.abs_parser.proofs.reader.KeywordSteps.{keyword_read}
use Rattle.abs_parser.proofs.reader.ParenthesisSteps.{over_parentheses}
use Rattle.abs_parser.proofs.reader.KeywordStatementSteps.{statement_by_keyword}
use Rattle.abs_parser.proofs.reader.FoundLemmas.{found_goes_on, found_weaker}
use Rattle.abs_parser.proofs.reader.StepLemmas.{HasRead, opens, over_token, over_part, into_last, all_read, refused_shut, refused_row, fits_next}
use Rattle.abs_parser.proofs.grammar.NonterminalLemmas.{begins_with_token, part_shut, part_opened, optional_opened, optional_left_out}

-- this statement was read, from its first index
abbrev pub IsStatement : ℕ → CodeStmt → List (List ℕ) → Forest → Type 0
IsStatement index stmt names inside = statement names stmt ≡ statement_in index inside

-- Blocks

-- a block begins with "{"
block_begins : (kind : TokenKind) → begins Block kind ≡ fits (PunctuatorKind punctuator.OpenBrace) kind
block_begins kind = begins_with_token Block kind refl

-- "{" opens a block, and statements and "}" follow
pub block_opened : (kind : TokenKind) (depth : ℕ) → fits (PunctuatorKind punctuator.OpenBrace) kind ≡ true
    → opened (One Block) kind depth
    ≡ Some (Terminal (PunctuatorKind punctuator.OpenBrace) depth ∷ Subgoal (Repeated Stmt) depth
    ∷ Terminal (PunctuatorKind punctuator.CloseBrace) depth ∷ [])
block_opened kind depth fit = part_opened Block kind depth refl refl (block_begins kind ∙ fit)

-- nothing else opens a block
pub block_shut : (kind : TokenKind) (depth : ℕ) → fits (PunctuatorKind punctuator.OpenBrace) kind ≡ false
    → opened (One Block) kind depth ≡ None
block_shut kind depth differs = part_shut Block kind depth (block_begins kind ∙ differs)

-- "{" opens a statement, which is a block
nested_opened : (kind : TokenKind) (depth : ℕ) → fits (PunctuatorKind punctuator.OpenBrace) kind ≡ true
    → opened (One Stmt) kind depth ≡ Some (Subgoal (One Block) (depth + 1) ∷ [])
unfolding chosen
nested_opened kind depth fit = rw (block_begins kind ∙ fit) refl

-- a statement that begins with "{" begins with a block
pub nested_begins : (depth : ℕ) (table : List (List ℕ)) (from : Spot)
    → fits (PunctuatorKind punctuator.OpenBrace) (next (left_at from)) ≡ true
    → HasRead (One Stmt) depth table table from (λ rest. rest) (Subgoal (One Block) (depth + 1) ∷ []) from
nested_begins depth table from fit = opens (One Stmt) depth table from _ (nested_opened _ depth fit)

-- the block that was found is the statement
pub nested_found : {depth : ℕ} {old new : List (List ℕ)} {from to : Spot} {place : Place} (index : ℕ) (body : Body)
    → place ≡ place_of from → fits (PunctuatorKind punctuator.OpenBrace) (next (left_at from)) ≡ true
    → FoundAs (One Block) (depth + 1) old new from to (λ names inside. IsBlock index names body inside)
    → FoundAs (One Stmt) depth old new from to (IsStatement index (code_stmt.Block place body.statements))
nested_found {depth} {old} {from = from} {place = place} index body at fit found =
    all_read (over_part (nested_begins depth old from fit) found) (λ names more.
    statement-block names place body.statements
    ∙ (ap (λ (here : Place). BlockOf here (statements names body.statements.items)) (at ∙ sym (first_place_found found))
    ∙ ap (BlockOf (place_in found.inside)) ((found.is names more).statements_are)))

-- Tests

-- a keyword and an expression in parentheses, and what follows them
abbrev pub tested_by : Keyword → ℕ → List Wanted → List Wanted
tested_by which at left = Terminal (KeywordKind which) at ∷ in_parentheses_at at ++ left

-- the keyword and the expression in parentheses were read
pub test_read : {which : Keyword} {token : Lexed} {from test_at after : Spot} {depth : ℕ} {left : List Wanted}
    {old now : List (List ℕ)} {is_read : List (List ℕ) → Forest → Type 0}
    → opened (One Stmt) (KeywordKind which) depth ≡ Some (tested_by which (depth + 1) left)
    → TakesKind (lexeme.Keyword which) token from test_at
    → (test : FoundInParentheses (depth + 1) old now test_at after is_read) → depth + 1 ≤ limit
    → HasRead (One Stmt) depth old now from
    (λ rest. Leaf (Token token) (depth + 1)
    (Leaf (Token test.opening) (depth + 1)
    (Node (One Expr) test.expr.inside (Leaf (Token test.closing) (depth + 1) rest)))) left after
test_read {old = old} is takes test within = over_parentheses (keyword_read _ old is takes within) test

-- what refuses the expression in parentheses refuses the statement
pub refused_test : {which : Keyword} {token : Lexed} {from test_at : Spot} {left : List Wanted} (depth : ℕ)
    (error : SourceError)
    → opened (One Stmt) (KeywordKind which) depth ≡ Some (tested_by which (depth + 1) left)
    → TakesKind (lexeme.Keyword which) token from test_at → depth + 1 ≤ limit
    → AreRefused (in_parentheses_at (depth + 1)) test_at error → IsRefused (Subgoal (One Stmt) depth) from error
refused_test {left = left} depth error is takes within refused =
    refused_row (in_parentheses_at (depth + 1)) left (keyword_read _ [] is takes within) error refused

-- `while`

-- `while` opens a statement: a test, and one more statement
pub while_opened : (depth : ℕ) → opened (One Stmt) (KeywordKind keyword.While) depth
    ≡ Some (tested_by keyword.While (depth + 1) (Subgoal (One Stmt) (depth + 1) ∷ []))
unfolding begins chosen begins_within
while_opened depth = refl

-- the trees of two `while` statements with equal parts are equal
while_made : {test held_test : ExprTree} {body held_body : Statements} (index : ℕ) (place : Place) → held_test ≡ test
    → held_body ≡ body → WhileOf index place held_test held_body ≡ WhileOf index place test body
while_made index place test body = rw (test, body) refl

-- a `while` is found with its test and its body, as they are stored
pub while_found : {token : Lexed} {from test_at body_at end : Spot} {depth : ℕ} {old now new : List (List ℕ)}
    {test : CodeExpr}
    (index : ℕ) (held : Arc CodeExpr Global) (stmt : CodeStmt) (body : Vec CodeStmt Global) → held.value ≡ test
    → ((names : List Name) → statements names body.items ≡ branch_of (statement names stmt))
    → TakesKind (lexeme.Keyword keyword.While) token from test_at
    → FoundInParentheses (depth + 1) old now test_at body_at (IsExpression test)
    → FoundAs (One Stmt) (depth + 1) now new body_at end (IsStatement (index + 1) stmt) → depth + 1 ≤ limit
    → FoundAs (One Stmt) depth old new from end (IsStatement index (code_stmt.While index token.place held body))
while_found {token} {depth = depth} index held stmt body same are takes test found within =
    all_read (over_part (test_read (while_opened depth) takes test within) found) (λ names more.
    statement-while names index token.place held body
    ∙ (while_made index token.place
    (ap (expr_tree names) same ∙ test.expr.is names (goes_on_further (found_goes_on found) more))
    (are names ∙ ap branch_of (found.is names more))
    ∙ sym (statement_by_keyword index (depth + 1)
    (Leaf (Token test.opening) (depth + 1)
    (Node (One Expr) test.expr.inside (Leaf (Token test.closing) (depth + 1) (Node (One Stmt) found.inside Empty))))
    takes)))

-- `if` and `else`

-- `if` opens a statement: a test, one more statement, and perhaps `else`
pub if_opened : (depth : ℕ) → opened (One Stmt) (KeywordKind keyword.If) depth
    ≡ Some (tested_by keyword.If (depth + 1)
    (Subgoal (One Stmt) (depth + 1) ∷ Subgoal (Optional Else) (depth + 1) ∷ []))
unfolding begins chosen begins_within
if_opened depth = refl

-- the trees of two `if` statements with equal parts are equal
if_made : {test held_test : ExprTree} {first held_first : Statements} {other held_other : MaybeStatements} (index : ℕ)
    (place : Place) → held_test ≡ test → held_first ≡ first → held_other ≡ other
    → IfOf index place held_test held_first held_other ≡ IfOf index place test first other
if_made index place test first other = rw (test, first, other) refl

-- the test and the first branch of an `if` were read
pub if_chosen : {token : Lexed} {from test_at first_at here : Spot} {depth : ℕ} {old now new : List (List ℕ)}
    {is_read is_chosen : List (List ℕ) → Forest → Type 0}
    → TakesKind (lexeme.Keyword keyword.If) token from test_at
    → (test : FoundInParentheses (depth + 1) old now test_at first_at is_read)
    → (first : FoundAs (One Stmt) (depth + 1) now new first_at here is_chosen) → depth + 1 ≤ limit
    → HasRead (One Stmt) depth old new from
    (λ rest. Leaf (Token token) (depth + 1)
    (Leaf (Token test.opening) (depth + 1)
    (Node (One Expr) test.expr.inside (Leaf (Token test.closing) (depth + 1) (Node (One Stmt) first.inside rest)))))
    (Subgoal (Optional Else) (depth + 1) ∷ []) here
if_chosen {depth = depth} takes test first within = over_part (test_read (if_opened depth) takes test within) first

-- an `if` is found with its test and its branches, as they are stored
pub if_found : {token : Lexed} {from test_at first_at here end : Spot} {depth : ℕ} {old one two new : List (List ℕ)}
    {test : CodeExpr}
    (index middle : ℕ) (held : Arc CodeExpr Global) (stmt : CodeStmt) (first : Vec CodeStmt Global)
    (other : Option (Vec CodeStmt Global)) → held.value ≡ test
    → ((names : List Name) → statements names first.items ≡ branch_of (statement names stmt))
    → ((names : List Name) → middle ≡ index + 1 + statement_count (statements names first.items))
    → TakesKind (lexeme.Keyword keyword.If) token from test_at
    → FoundInParentheses (depth + 1) old one test_at first_at (IsExpression test)
    → FoundAs (One Stmt) (depth + 1) one two first_at here (IsStatement (index + 1) stmt)
    → FoundAs (Optional Else) (depth + 1) two new here end
    (λ names inside. maybe_statements names other ≡ else_in middle inside) → depth + 1 ≤ limit
    → FoundAs (One Stmt) depth old new from end (IsStatement index (code_stmt.If index token.place held first other))
if_found {token} {depth = depth} index middle held stmt first other same are is_middle takes test found after within =
    all_read (over_part (if_chosen takes test found within) after) (λ names more.
    let since = goes_on_further (found_goes_on after) more in
    let branch = are names ∙ ap branch_of (found.is names since) in
    statement-if names index token.place held first other
    ∙ (if_made index token.place (ap (expr_tree names) same
    ∙ test.expr.is names (goes_on_further (found_goes_on found) since)) branch
    (after.is names more ∙ (ap (λ (n : ℕ). else_in n after.inside) (is_middle names)
    ∙ ap (λ (trees : Statements). else_in (index + 1 + statement_count trees) after.inside) branch))
    ∙ sym (statement_by_keyword index (depth + 1)
    (Leaf (Token test.opening) (depth + 1)
    (Node (One Expr) test.expr.inside
    (Leaf (Token test.closing) (depth + 1) (Node (One Stmt) found.inside (Node (Optional Else) after.inside Empty)))))
    takes)))

-- what may follow the first branch begins with `else`
else_begins : (kind : TokenKind) → begins Else kind ≡ fits (KeywordKind keyword.Else) kind
else_begins kind = begins_with_token Else kind refl

-- `else` was read
pub else_read : {token : Lexed} {from after : Spot} (depth : ℕ) (table : List (List ℕ))
    → TakesKind (lexeme.Keyword keyword.Else) token from after → depth ≤ limit
    → HasRead (Optional Else) depth table table from (λ rest. Node (One Else) (Leaf (Token token) depth rest) Empty)
    (Subgoal (One Stmt) depth ∷ []) after
else_read {from = from} depth table takes within =
    let fit = else_begins _ ∙ fits_next refl takes in
    into_last (opens (Optional Else) depth table from _ (optional_opened Else _ depth fit))
    (over_token (opens (One Else) depth table from _ (part_opened Else _ depth refl refl fit)) takes refl refl within)

-- `else` is found with the statement after it
pub else_found : {token : Lexed} {from after to : Spot} {depth : ℕ} {old new : List (List ℕ)} (index : ℕ)
    (stmt : CodeStmt) (branch : Vec CodeStmt Global)
    → ((names : List Name) → statements names branch.items ≡ branch_of (statement names stmt))
    → TakesKind (lexeme.Keyword keyword.Else) token from after
    → FoundAs (One Stmt) depth old new after to (IsStatement index stmt) → depth ≤ limit
    → FoundAs (Optional Else) depth old new from to
    (λ names inside. maybe_statements names (Some branch) ≡ else_in index inside)
else_found {depth = depth} {old} index stmt branch are takes found within =
    all_read (over_part (else_read depth old takes within) found)
    (λ names more. ap ElseTree (are names ∙ ap branch_of (found.is names more)))

-- where `else` is not next, it is left out
pub else_left_out : (index depth : ℕ) (table : List (List ℕ)) (from : Spot)
    → fits (KeywordKind keyword.Else) (next (left_at from)) ≡ false
    → FoundAs (Optional Else) depth table table from from
    (λ names inside. maybe_statements names None ≡ else_in index inside)
else_left_out index depth table from other =
    found_weaker (nothing_found (Optional Else) depth table from
    (optional_left_out Else _ depth (else_begins _ ∙ other))) (λ names more none. sym (ap (else_in index) none))

-- The end of the source

-- the end of the source opens no statement
statement_end : (depth : ℕ) → opened (One Stmt) End depth ≡ None
unfolding begins chosen begins_within
statement_end depth = refl

-- so a statement is refused there
pub statement_refused_at_end : (depth : ℕ) (from : Spot) (error : SourceError) → error ≡ Refused (wrong_at from)
    → from.rest ≡ [] → IsRefused (Subgoal (One Stmt) depth) from error
statement_refused_at_end depth from error is none =
    rw is (refused_shut (One Stmt) depth from
    (ap (λ (k : TokenKind). opened (One Stmt) k depth) (next_end from none) ∙ statement_end depth))
