-- The statements of a block, up to its "}". These are the statements that were read so far, with their trees. The
-- lemmas also say where the block is refused.
use Rattle.std.proofs.Common.{◌≡◌, ◌≤◌, ◌<◌, ℕ, true, false, List, [], ◌∷◌, ◌++◌, ◌+◌, length, refl, sym, ap, ◌∙◌, arith}
use Rattle.abs_tree.specs.declared.syntax.declaration.Body.{Body}
use Rattle.abs_tree.specs.declared.syntax.statement.Stmt.{Stmt as CodeStmt}
use Rattle.abs_tree.specs.Syntax.{Name, Statement, NextStatement}
use Rattle.abs_tree.specs.SyntaxSizes.{count_of, statement_count}
use Rattle.abs_tree.specs.SyntaxViews.{statement, statements}
use Rattle.abs_lexer.specs.declared.lexeme.Lexeme.TheVariants as lexeme
use Rattle.abs_lexer.specs.declared.lexeme.Punctuator.TheVariants as punctuator
use Rattle.abs_lexer.specs.Tokens.{Lexed}
use Rattle.abs_parser.specs.Answers.{GoesOn}
use Rattle.abs_parser.specs.Firsts.{IsBlock}
use Rattle.abs_parser.specs.TokenKinds.{Mark, Token, PunctuatorKind, place_of_mark, fits, next}
use Rattle.abs_parser.specs.Productions.{Stmt, Block, begins, begins_within}
use Rattle.abs_parser.specs.Readings.{One, Repeated, Terminal, Subgoal, Forest, Empty, Leaf, Node}
use Rattle.abs_parser.specs.ReaderAnswers.{left_at, TakesKind, FoundAs, IsRefused}
use Rattle.abs_parser.specs.Stops.{limit}
use Rattle.abs_parser.specs.Tokens.{Spot}
use Rattle.abs_parser.specs.TreesOf.{statement_in, statements_in, block_in, block_end}
use Rattle.abs_tree.specs.declared.source_error.SourceError.{SourceError}
use Rattle.abs_parser.proofs.grammar.FirstPlaceLemmas.{found_fewer}
use Rattle.abs_parser.proofs.grammar.NameLemmas.{goes_on_further}
use Rattle.abs_parser.proofs.reader.RepeatSteps.{in_front, over_one_more, refused_up_to, none_before}
use Rattle.abs_parser.proofs.reader.StatementSteps.{IsStatement, block_opened}
use Rattle.abs_parser.proofs.reader.FoundLemmas.{token_shorter, found_goes_on}
use Rattle.abs_parser.proofs.reader.StepLemmas.{HasRead, opens, over_token, over_part, all_read, refused_inside, fits_next}
use Rattle.abs_parser.proofs.grammar.NonterminalLemmas.{part_begun, repeated_opened}
use Rattle.abs_tree.proofs.TreeLemmas.{statements_before, statements_all, statements_more}

-- one more statement adds its count to that of the statements before it
before_count : (names : List Name) (listed : List CodeStmt) (stmt : CodeStmt)
    → statement_count (statements names (listed ++ stmt ∷ []))
    ≡ statement_count (statements names listed) + count_of (statement names stmt)
before_count names [] stmt = omega arith
before_count names (first ∷ others) stmt = omega (arith, before_count names others stmt)

-- A block was read up to here, with the trees of its statements from a first index. Any further statements, from the
-- index that is free then, and the "}" after them complete it.
pub record ReadsBlock (index depth : ℕ) (old now : List (List ℕ)) (from here : Spot) (listed : List CodeStmt) : Type 0
  where
    pub make : Forest → Forest
    pub read : HasRead (One Block) depth old now from make
        (Subgoal (Repeated Stmt) depth ∷ Terminal (PunctuatorKind punctuator.CloseBrace) depth ∷ []) here
    pub shorter : length here.rest < length from.rest
    pub statements_are : (names : List Name) → GoesOn now names → (inside : Forest) (mark : Mark) (at : ℕ)
        → statements_before names listed (statements_in (index + statement_count (statements names listed)) inside)
        ≡ block_in index (make (Node (Repeated Stmt) inside (Leaf mark at Empty)))
    pub end_is : (inside : Forest) (mark : Mark) (at : ℕ)
        → place_of_mark mark ≡ block_end (make (Node (Repeated Stmt) inside (Leaf mark at Empty)))

-- without statements, the first index is free
none_counted : (index : ℕ) (inside : Forest) → statements_in (index + 0) inside ≡ statements_in index inside
none_counted index inside = let same : index + 0 ≡ index = omega arith in rw same refl

-- a block was read up to its first statement
pub first_statement : {brace : Lexed} {from here : Spot} {depth : ℕ} {listed : List CodeStmt} (index : ℕ)
    (table : List (List ℕ)) → listed ≡ [] → TakesKind (lexeme.Punctuator punctuator.OpenBrace) brace from here
    → depth ≤ limit
    → ReadsBlock index depth table table from here listed
first_statement {brace} {from} {depth = depth} index table same takes within = rw same (record {
  make = λ rest. Leaf (Token brace) depth rest;
  read = over_token (opens (One Block) depth table from _ (block_opened _ depth (fits_next refl takes))) takes refl refl
      within;
  shorter = omega (arith, token_shorter takes.takes);
  statements_are = λ names more inside mark at. none_counted index inside;
  end_is = λ inside mark at. refl;
})

-- one more statement comes before the further ones, whose indices begin after its own
one_more : (names : List Name) (index : ℕ) (listed : List CodeStmt) (stmt : CodeStmt) (found inside : Forest)
    → statement names stmt ≡ statement_in (index + statement_count (statements names listed)) found
    → statements_before names (listed ++ stmt ∷ [])
    (statements_in (index + statement_count (statements names (listed ++ stmt ∷ []))) inside)
    ≡ statements_before names listed
    (statements_in (index + statement_count (statements names listed))
    (Node (One Stmt) found (Node (Repeated Stmt) inside Empty)))
one_more names index listed stmt found inside is =
    let free : index + statement_count (statements names (listed ++ stmt ∷ []))
    ≡ index + statement_count (statements names listed) + count_of (statement names stmt) =
    omega (arith, before_count names listed stmt) in
    statements_more names listed stmt _
    ∙ (ap (λ (n : ℕ). statements_before names listed (NextStatement (statement names stmt) (statements_in n inside)))
    free
    ∙ ap (λ (tree : Statement). statements_before names listed
    (NextStatement tree (statements_in (index + statement_count (statements names listed) + count_of tree) inside))) is)

-- one more statement of the block was read
pub next_statement : {index depth free : ℕ} {old now new : List (List ℕ)} {from here to : Spot}
    {listed longer : List CodeStmt} (stmt : CodeStmt) → longer ≡ listed ++ stmt ∷ []
    → ReadsBlock index depth old now from here listed
    → ((names : List Name) → free ≡ index + statement_count (statements names listed))
    → FoundAs (One Stmt) depth now new here to (IsStatement free stmt) → ReadsBlock index depth old new from to longer
next_statement {index} {depth} {listed = listed} stmt same so is_free found = rw same (record {
  make = λ rest. so.make (in_front Stmt found.inside rest);
  read = over_one_more so.read (repeated_opened Stmt _ depth (part_begun Stmt _ depth found.rule_is)) found;
  shorter = omega (arith, so.shorter, found_fewer found);
  statements_are = λ names more inside mark at.
      one_more names index listed stmt found.inside inside
      (found.is names more ∙ ap (λ (n : ℕ). statement_in n found.inside) (is_free names))
      ∙ so.statements_are names (goes_on_further (found_goes_on found) more)
      (Node (One Stmt) found.inside (Node (Repeated Stmt) inside Empty)) mark at;
  end_is = λ inside mark at. so.end_is (Node (One Stmt) found.inside (Node (Repeated Stmt) inside Empty)) mark at;
})

-- the index that is free after one more statement
pub next_free : {free after : ℕ} {longer : List CodeStmt} (index : ℕ) (listed : List CodeStmt) (stmt : CodeStmt)
    → longer ≡ listed ++ stmt ∷ [] → ((names : List Name) → free ≡ index + statement_count (statements names listed))
    → ((names : List Name) → after ≡ free + count_of (statement names stmt)) → (names : List Name)
    → after ≡ index + statement_count (statements names longer)
next_free index listed stmt same is_free is_after names =
    rw same (omega (arith, is_free names, is_after names, before_count names listed stmt))

-- where "}" is not next, what refuses the next statement refuses the block
pub refused_statement : {depth : ℕ} {old now : List (List ℕ)} {index : ℕ} {from here : Spot} {listed : List CodeStmt}
    (error : SourceError) → ReadsBlock index depth old now from here listed
    → fits (PunctuatorKind punctuator.CloseBrace) (next (left_at here)) ≡ false
    → IsRefused (Subgoal (One Stmt) depth) here error → IsRefused (Subgoal (One Block) depth) from error
refused_statement error so other refused =
    refused_up_to (PunctuatorKind punctuator.CloseBrace) error so.read other refused

-- no statement begins with a "}"
no_statement_closes : begins Stmt (PunctuatorKind punctuator.CloseBrace) ≡ false
unfolding begins begins_within
no_statement_closes = refl

-- so where "}" is next, there is no further statement
no_statement : (depth : ℕ) (table : List (List ℕ)) (here : Spot)
    → fits (PunctuatorKind punctuator.CloseBrace) (next (left_at here)) ≡ true
    → FoundAs (Repeated Stmt) depth table table here here (λ names inside. inside ≡ Empty)
no_statement depth table here closes =
    none_before Stmt punctuator.CloseBrace depth table here no_statement_closes closes

-- where "}" is next, what refuses it refuses the block
pub refused_brace : {depth : ℕ} {old now : List (List ℕ)} {index : ℕ} {from here : Spot} {listed : List CodeStmt}
    (error : SourceError) → ReadsBlock index depth old now from here listed
    → fits (PunctuatorKind punctuator.CloseBrace) (next (left_at here)) ≡ true
    → IsRefused (Terminal (PunctuatorKind punctuator.CloseBrace) depth) here error
    → IsRefused (Subgoal (One Block) depth) from error
refused_brace {depth} {now = now} {here = here} error so closes refused =
    refused_inside (over_part so.read (no_statement depth now here closes)) error refused

-- with its "}" the block is found
pub block_found : {brace : Lexed} {depth : ℕ} {old now : List (List ℕ)} {index : ℕ} {from here end : Spot} (body : Body)
    → body.end ≡ brace.place → ReadsBlock index depth old now from here body.statements.items
    → TakesKind (lexeme.Punctuator punctuator.CloseBrace) brace here end → depth ≤ limit
    → FoundAs (One Block) depth old now from end (λ names inside. IsBlock index names body inside)
block_found {brace} {depth} {now = now} {index} {here = here} body closed so takes within =
    let none = no_statement depth now here (fits_next refl takes) in
    all_read (over_token (over_part so.read none) takes refl refl within) (λ names more. record {
      statements_are = sym (statements_all names body.statements.items)
          ∙ (sym (ap (λ (inside : Forest).
          statements_before names body.statements.items
          (statements_in (index + statement_count (statements names body.statements.items)) inside))
          (none.is names more)) ∙ so.statements_are names more none.inside (Token brace) depth);
      end_is = closed ∙ so.end_is none.inside (Token brace) depth;
    })
