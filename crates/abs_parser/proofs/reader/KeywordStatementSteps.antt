-- The simple statements: a keyword, what follows it, and a semicolon. The keyword says what such a statement consists
-- of. The statement is read up to its semicolon, with its tree, and the semicolon completes it.
use Rattle.std.proofs.Common.{◌≡◌, ◌≤◌, ℕ, ◌+◌, true, List, [], ◌∷◌, ◌++◌, Some, refl, sym, ap, ◌∙◌}
use Rattle.std.specs.Prelude.{Result, Ok, Err, IfOk, IfErr}
use Rattle.std.specs.declared.alloc.Global.{Global}
use Rattle.std.specs.declared.sync.Arc.{Arc}
use Rattle.abs_tree.specs.declared.syntax.expression.Expr.{Expr as CodeExpr}
use Rattle.abs_tree.specs.declared.syntax.statement.Stmt.{Stmt as CodeStmt}
use Rattle.abs_tree.specs.Syntax.{Name, Statement, Tests, SkipOf, SuspendOf, AwaitOf, ReturnOf, PrintOf}
use Rattle.abs_tree.specs.SyntaxViews.{expr_tree, statement}
use Rattle.abs_lexer.specs.declared.lexeme.Keyword.{Keyword}
use Rattle.abs_lexer.specs.declared.lexeme.Keyword.TheVariants as keyword
use Rattle.abs_lexer.specs.declared.lexeme.Lexeme.{Lexeme}
use Rattle.abs_lexer.specs.declared.lexeme.Lexeme.TheVariants as lexeme
use Rattle.abs_lexer.specs.declared.lexeme.Punctuator.TheVariants as punctuator
use Rattle.abs_lexer.specs.Tokens.{Lexed}
use Rattle.abs_parser.specs.Answers.{GoesOn}
use Rattle.abs_parser.specs.Firsts.{is_simple}
use Rattle.abs_parser.specs.TokenKinds.{Token, TokenKind, KeywordKind, PunctuatorKind, token_kind_of, next}
use Rattle.abs_parser.specs.Productions.{Stmt, Guard, Expr, begins, begins_within, chosen}
use Rattle.abs_parser.specs.Readings.{One, Wanted, Terminal, Subgoal, opened, Forest, Empty, Leaf, Node}
use Rattle.abs_parser.specs.ReaderAnswers.{left_at, TakesKind, Passes, Parses, parse_of, FoundAs, FoundInParentheses, AreRefused, IsRefused, in_parentheses_at}
use Rattle.abs_parser.specs.Stops.{limit}
use Rattle.abs_parser.specs.Tokens.{Spot}
use Rattle.abs_parser.specs.TreesOf.{statement_in, statement_by, guard_in}
use Rattle.abs_tree.specs.declared.source_error.SourceError.{SourceError}
use Rattle.abs_parser.proofs.reader.ExpressionSteps.{IsExpression}
use Rattle.abs_parser.proofs.reader.FoundLemmas.{found_weaker}
use Rattle.abs_parser.proofs.reader.StepLemmas.{HasRead, opens, over_token, over_part, all_read, refused_inside, refused_row}
use Rattle.abs_parser.proofs.reader.KeywordSteps.{keyword_read}
use Rattle.abs_parser.proofs.reader.ParenthesisSteps.{over_parentheses}

-- the tree of a statement is the one for its keyword
pub statement_by_keyword : {which : Keyword} {token : Lexed} {from after : Spot} (index depth : ℕ) (inside : Forest)
    → TakesKind (lexeme.Keyword which) token from after
    → statement_in index (Leaf (Token token) depth inside) ≡ statement_by index (KeywordKind which) (Token token) inside
statement_by_keyword {token = token} index depth inside takes =
    ap (λ (kind : Lexeme). statement_by index (token_kind_of kind token.bytes) (Token token) inside) takes.kind_is

-- what follows the keyword of a simple statement
abbrev pub after_keyword : Keyword → ℕ → List Wanted
after_keyword keyword.Await at = Subgoal (One Guard) at ∷ Terminal (PunctuatorKind punctuator.Semicolon) at ∷ []
after_keyword keyword.Return at = Subgoal (One Expr) at ∷ Terminal (PunctuatorKind punctuator.Semicolon) at ∷ []
after_keyword keyword.Println at = in_parentheses_at at ++ Terminal (PunctuatorKind punctuator.Semicolon) at ∷ []
after_keyword _ at = Terminal (PunctuatorKind punctuator.Semicolon) at ∷ []

-- the keyword opens a simple statement
pub simple_opened : (which : Keyword) (depth : ℕ) → is_simple which ≡ true
    → opened (One Stmt) (KeywordKind which) depth
    ≡ Some (Terminal (KeywordKind which) (depth + 1) ∷ after_keyword which (depth + 1))
unfolding begins chosen begins_within
simple_opened keyword.Skip depth simple = refl
simple_opened keyword.Suspend depth simple = refl
simple_opened keyword.Await depth simple = refl
simple_opened keyword.Return depth simple = refl
simple_opened keyword.Println depth simple = refl
simple_opened _ depth simple = cc

-- the keyword of a simple statement was read
pub simple_begins : {which : Keyword} {token : Lexed} {from after : Spot} (depth : ℕ) (table : List (List ℕ))
    → is_simple which ≡ true → TakesKind (lexeme.Keyword which) token from after → depth + 1 ≤ limit
    → HasRead (One Stmt) depth table table from (λ rest. Leaf (Token token) (depth + 1) rest)
    (after_keyword which (depth + 1)) after
simple_begins {which} depth table simple takes within =
    keyword_read depth table (simple_opened which depth simple) takes within

-- where the keyword is refused, so is the statement
pub refused_simple : (which : Keyword) (depth : ℕ) (from : Spot) (error : SourceError) → is_simple which ≡ true
    → next (left_at from) ≡ KeywordKind which
    → IsRefused (Terminal (KeywordKind which) (depth + 1)) from error → IsRefused (Subgoal (One Stmt) depth) from error
refused_simple which depth from error simple is refused =
    refused_inside (opens (One Stmt) depth [] from _
    (ap (λ (kind : TokenKind). opened (One Stmt) kind depth) is ∙ simple_opened which depth simple)) error refused

-- where the guard of `await` is refused, so is the statement
pub refused_guard : {which : Keyword} {token : Lexed} {from after : Spot} (depth : ℕ) (error : SourceError)
    → which ≡ keyword.Await → TakesKind (lexeme.Keyword which) token from after → depth + 1 ≤ limit
    → IsRefused (Subgoal (One Guard) (depth + 1)) after error → IsRefused (Subgoal (One Stmt) depth) from error
refused_guard depth error is takes within refused =
    refused_inside (simple_begins depth [] refl (rw is at takes) within) error refused

-- where the value of `return` is refused, so is the statement
pub refused_value : {which : Keyword} {token : Lexed} {from after : Spot} (depth : ℕ) (error : SourceError)
    → which ≡ keyword.Return → TakesKind (lexeme.Keyword which) token from after → depth + 1 ≤ limit
    → IsRefused (Subgoal (One Expr) (depth + 1)) after error → IsRefused (Subgoal (One Stmt) depth) from error
refused_value depth error is takes within refused =
    refused_inside (simple_begins depth [] refl (rw is at takes) within) error refused

-- where the expression in parentheses after `println` is refused, so is the statement
pub refused_printed : {which : Keyword} {token : Lexed} {from after : Spot} (depth : ℕ) (error : SourceError)
    → which ≡ keyword.Println → TakesKind (lexeme.Keyword which) token from after → depth + 1 ≤ limit
    → AreRefused (in_parentheses_at (depth + 1)) after error → IsRefused (Subgoal (One Stmt) depth) from error
refused_printed depth error is takes within refused =
    refused_row (in_parentheses_at (depth + 1)) (Terminal (PunctuatorKind punctuator.Semicolon) (depth + 1) ∷ [])
    (simple_begins depth [] refl (rw is at takes) within) error refused

-- A simple statement was read up to its semicolon, with this tree.
pub record ReadsSimple (index depth : ℕ) (old now : List (List ℕ)) (from here : Spot) (tree : List Name → Statement)
    : Type 0 where
  pub make : Forest → Forest
  pub read : HasRead (One Stmt) depth old now from make
      (Terminal (PunctuatorKind punctuator.Semicolon) (depth + 1) ∷ []) here
  pub is : (names : List Name) → GoesOn now names → (rest : Forest) → tree names ≡ statement_in index (make rest)

-- `skip` was read
pub skip_read : {which : Keyword} {token : Lexed} {from here : Spot} {depth : ℕ} (index : ℕ) (table : List (List ℕ))
    → which ≡ keyword.Skip → TakesKind (lexeme.Keyword which) token from here → depth + 1 ≤ limit
    → ReadsSimple index depth table table from here (λ names. SkipOf index token.place)
skip_read {token = token} {depth = depth} index table is takes within =
    let takes_skip = rw is at takes in
    record {
      make = λ rest. Leaf (Token token) (depth + 1) rest;
      read = simple_begins depth table refl takes_skip within;
      is = λ names more rest. sym (statement_by_keyword index (depth + 1) rest takes_skip);
    }

-- `suspend` was read
pub suspend_read : {which : Keyword} {token : Lexed} {from here : Spot} {depth : ℕ} (index : ℕ) (table : List (List ℕ))
    → which ≡ keyword.Suspend → TakesKind (lexeme.Keyword which) token from here → depth + 1 ≤ limit
    → ReadsSimple index depth table table from here (λ names. SuspendOf index token.place)
suspend_read {token = token} {depth = depth} index table is takes within =
    let takes_suspend = rw is at takes in
    record {
      make = λ rest. Leaf (Token token) (depth + 1) rest;
      read = simple_begins depth table refl takes_suspend within;
      is = λ names more rest. sym (statement_by_keyword index (depth + 1) rest takes_suspend);
    }

-- `await` was read with its guard
pub await_read : {which : Keyword} {token : Lexed} {from after here : Spot} {depth : ℕ} {old now : List (List ℕ)}
    (index : ℕ) (guard : List Name → Tests) → which ≡ keyword.Await → TakesKind (lexeme.Keyword which) token from after
    → FoundAs (One Guard) (depth + 1) old now after here (λ names inside. guard names ≡ guard_in inside)
    → depth + 1 ≤ limit
    → ReadsSimple index depth old now from here (λ names. AwaitOf index token.place (guard names))
await_read {token = token} {depth = depth} {old} index guard is takes found within =
    let takes_await = rw is at takes in
    record {
      make = λ rest. Leaf (Token token) (depth + 1) (Node (One Guard) found.inside rest);
      read = over_part (simple_begins depth old refl takes_await within) found;
      is = λ names more rest.
          ap (AwaitOf index token.place) (found.is names more)
          ∙ sym (statement_by_keyword index (depth + 1) (Node (One Guard) found.inside rest) takes_await);
    }

-- `return` was read with its value, as it is stored
pub return_read : {which : Keyword} {token : Lexed} {from after here : Spot} {depth : ℕ} {old now : List (List ℕ)}
    {value : CodeExpr} (index : ℕ) (held : Arc CodeExpr Global) → which ≡ keyword.Return → held.value ≡ value
    → TakesKind (lexeme.Keyword which) token from after
    → FoundAs (One Expr) (depth + 1) old now after here (IsExpression value) → depth + 1 ≤ limit
    → ReadsSimple index depth old now from here (λ names. ReturnOf index token.place (expr_tree names held.value))
return_read {token = token} {depth = depth} {old} index held is same takes found within =
    let takes_return = rw is at takes in
    record {
      make = λ rest. Leaf (Token token) (depth + 1) (Node (One Expr) found.inside rest);
      read = over_part (simple_begins depth old refl takes_return within) found;
      is = λ names more rest.
          ap (ReturnOf index token.place) (ap (expr_tree names) same ∙ found.is names more)
          ∙ sym (statement_by_keyword index (depth + 1) (Node (One Expr) found.inside rest) takes_return);
    }

-- `println` was read with its value, as it is stored
pub println_read : {which : Keyword} {token : Lexed} {from after here : Spot} {depth : ℕ} {old now : List (List ℕ)}
    {value : CodeExpr} (index : ℕ) (held : Arc CodeExpr Global) → which ≡ keyword.Println → held.value ≡ value
    → TakesKind (lexeme.Keyword which) token from after
    → FoundInParentheses (depth + 1) old now after here (IsExpression value) → depth + 1 ≤ limit
    → ReadsSimple index depth old now from here (λ names. PrintOf index token.place (expr_tree names held.value))
println_read {token = token} {depth = depth} {old} index held is same takes found within =
    let takes_println = rw is at takes in
    record {
      make = λ rest. Leaf (Token token) (depth + 1)
          (Leaf (Token found.opening) (depth + 1)
          (Node (One Expr) found.expr.inside (Leaf (Token found.closing) (depth + 1) rest)));
      read = over_parentheses (simple_begins depth old refl takes_println within) found;
      is = λ names more rest.
          ap (PrintOf index token.place) (ap (expr_tree names) same ∙ found.expr.is names more)
          ∙ sym (statement_by_keyword index (depth + 1)
          (Leaf (Token found.opening) (depth + 1)
          (Node (One Expr) found.expr.inside (Leaf (Token found.closing) (depth + 1) rest))) takes_println);
    }

-- with its semicolon a simple statement is found
pub simple_found : {semicolon : Lexed} {from here end : Spot} {index depth : ℕ} {old now : List (List ℕ)}
    {tree : List Name → Statement} → ReadsSimple index depth old now from here tree
    → TakesKind (lexeme.Punctuator punctuator.Semicolon) semicolon here end → depth + 1 ≤ limit
    → FoundAs (One Stmt) depth old now from end (λ names inside. tree names ≡ statement_in index inside)
simple_found {semicolon} {depth = depth} so takes within =
    all_read (over_token so.read takes refl refl within)
    (λ names more. so.is names more (Leaf (Token semicolon) (depth + 1) Empty))

-- where the semicolon is refused, so is the statement
pub refused_semicolon : {from here : Spot} {index depth : ℕ} {old now : List (List ℕ)} {tree : List Name → Statement}
    (error : SourceError) → ReadsSimple index depth old now from here tree
    → IsRefused (Terminal (PunctuatorKind punctuator.Semicolon) (depth + 1)) here error
    → IsRefused (Subgoal (One Stmt) depth) from error
refused_semicolon error so refused = refused_inside so.read error refused

-- the statement is parsed where its semicolon is
pub parses_closed : {X : Type 0} {index depth : ℕ} {old now : List (List ℕ)} {from here : Spot}
    {tree : List Name → Statement} (stmt : CodeStmt) (stmt_of : X → CodeStmt) (to : X → Spot)
    (result : Result X SourceError)
    → ReadsSimple index depth old now from here tree → depth + 1 ≤ limit
    → ((names : List Name) → statement names stmt ≡ tree names) → IfOk result (λ found. stmt_of found ≡ stmt)
    → IfOk result (λ found. Passes (lexeme.Punctuator punctuator.Semicolon) here (to found))
    → IfErr result (λ error. IsRefused (Terminal (PunctuatorKind punctuator.Semicolon) (depth + 1)) here error)
    → Parses result (parse_of (One Stmt) depth old now from to
    (λ found names inside. statement names (stmt_of found) ≡ statement_in index inside))
parses_closed stmt stmt_of to (Ok found) read within is same passes refused =
    found_weaker (simple_found read passes.takes within)
    (λ names more found_is. ap (statement names) same ∙ (is names ∙ found_is))
parses_closed stmt stmt_of to (Err error) read within is same passes refused = refused_semicolon error read refused
