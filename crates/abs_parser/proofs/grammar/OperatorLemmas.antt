-- What the readers of operators use: what a precedence and the operators after its first operand open to, given the
-- next token. Also the trees of what was read, and the steps of a reader over a first operand and over each operator
-- with its operand.
use Rattle.std.proofs.Common.{◌≡◌, ◌≤◌, ◌<◌, ℕ, true, false, cond, List, [], ◌∷◌, ◌++◌, length, Some, None, refl, sym, ap, ◌∙◌, arith}
use Rattle.std.proofs.lemmas.List.{append-nil}
use Rattle.std.proofs.lemmas.Bool.{cond-true, cond-false}
use Rattle.abs_tree.specs.Syntax.{Name, ExprTree, OperatorsOf, Operands, NoOperands, NextOperand}
use Rattle.abs_tree.specs.SyntaxViews.{expr_tree, operand_trees}
use Rattle.abs_tree.specs.declared.place.Place.{Place}
use Rattle.abs_tree.specs.declared.syntax.expression.Expr.{Expr}
use Rattle.abs_tree.specs.declared.syntax.expression.Operand.{Operand}
use Rattle.abs_tree.specs.declared.syntax.expression.Operator.{Operator}
use Rattle.abs_tree.specs.declared.syntax.expression.Operator.TheVariants as operator
use Rattle.abs_lexer.specs.declared.lexeme.Lexeme.{Lexeme}
use Rattle.abs_lexer.specs.declared.lexeme.Lexeme.TheVariants as lexeme
use Rattle.abs_lexer.specs.Tokens.{Lexed}
use Rattle.abs_parser.specs.Answers.{GoesOn}
use Rattle.abs_parser.specs.TokenKinds.{Mark, Token, TokenKind, PunctuatorKind, token_kind, token_kind_of, fits, next}
use Rattle.abs_parser.specs.Precedences.{nonterminal_of, operand_nonterminal, tail_nonterminal, repeats, rest_of, precedence_in, operand_in, operands_in, precedence_of, punctuator_of}
use Rattle.abs_parser.specs.Productions.{Or, OrTail, And, AndTail, Equal, EqualTail, Compare, CompareTail, Sum, SumTail, Mul, MulTail, begins, chosen, begins_within}
use Rattle.abs_parser.specs.Readings.{Goal, One, Wanted, Terminal, Subgoal, opened, Forest, Empty, Leaf, Node}
use Rattle.abs_parser.specs.ReaderAnswers.{left_at, TakesKind, FoundAs, IsRefused}
use Rattle.abs_parser.specs.Stops.{limit}
use Rattle.abs_parser.specs.Tokens.{Spot, place_of}
use Rattle.abs_parser.specs.TreesOf.{with_operators, operator_of, place_in}
use Rattle.abs_parser.specs.declared.operators.Precedence.{Precedence}
use Rattle.abs_parser.specs.declared.operators.Precedence.TheVariants as precedence
use Rattle.abs_tree.specs.declared.source_error.SourceError.{SourceError}
use Rattle.abs_parser.proofs.grammar.FirstPlaceLemmas.{first_place_found}
use Rattle.abs_parser.proofs.grammar.NameLemmas.{goes_on_further}
use Rattle.abs_parser.proofs.reader.PatternSteps.{next_taken}
use Rattle.abs_parser.proofs.reader.FoundLemmas.{found_goes_on}
use Rattle.abs_parser.proofs.reader.StepLemmas.{HasRead, opens, inside_alone, left_whole, over_token, over_part, into_last, all_read, refused_inside}
use Rattle.abs_parser.proofs.grammar.NonterminalLemmas.{begins_with_part, part_shut, part_begun}
use Rattle.abs_parser.proofs.reader.InFrontSteps.{refused_in_front}
use Rattle.list_facts.proofs.OptionLemmas.{cond-Some}
use Rattle.abs_tree.proofs.TreeLemmas.{operands_before, operands_more}

-- with at least one operator, `with_operators` builds a node
pub node_is : (names : List Name) (place : Place) (first : ExprTree) (operands : List Operand) → 0 < length operands
    → OperatorsOf place first (operand_trees names operands) ≡ with_operators place first (operand_trees names operands)
node_is names place first [] some = absurd (omega arith)
node_is names place first (operand ∷ others) some = refl

-- What a precedence consists of

-- a precedence opens to an operand and what follows it, where an operand may begin
precedence_opened : (precedence : Precedence) (kind : TokenKind) (depth : ℕ)
    → begins (operand_nonterminal precedence) kind ≡ true
    → opened (One (nonterminal_of precedence)) kind depth
    ≡ Some (Subgoal (One (operand_nonterminal precedence)) depth ∷ Subgoal (rest_of precedence) depth ∷ [])
unfolding chosen
precedence_opened precedence.Or kind depth e = rw e refl
precedence_opened precedence.And kind depth e = rw e refl
precedence_opened precedence.Equal kind depth e = rw e refl
precedence_opened precedence.Compare kind depth e = rw e refl
precedence_opened precedence.Sum kind depth e = rw e refl
precedence_opened precedence.Mul kind depth e = rw e refl

-- a precedence begins where its operand does
precedence_begins : (precedence : Precedence) (kind : TokenKind)
    → begins (nonterminal_of precedence) kind ≡ begins (operand_nonterminal precedence) kind
precedence_begins precedence.Or kind = begins_with_part Or kind refl
precedence_begins precedence.And kind = begins_with_part And kind refl
precedence_begins precedence.Equal kind = begins_with_part Equal kind refl
precedence_begins precedence.Compare kind = begins_with_part Compare kind refl
precedence_begins precedence.Sum kind = begins_with_part Sum kind refl
precedence_begins precedence.Mul kind = begins_with_part Mul kind refl

-- a precedence does not open where its operand may not begin
precedence_shut : (precedence : Precedence) (kind : TokenKind) (depth : ℕ)
    → begins (operand_nonterminal precedence) kind ≡ false → opened (One (nonterminal_of precedence)) kind depth ≡ None
precedence_shut precedence kind depth none =
    part_shut (nonterminal_of precedence) kind depth (precedence_begins precedence kind ∙ none)

-- further operators are read after an operator and its operand, where operators of the precedence repeat
abbrev further : Precedence → ℕ → List Wanted
further precedence depth = cond (repeats precedence) (Subgoal (rest_of precedence) depth ∷ []) []

-- an operator opens what follows the first operand of its precedence
rest_opened : (operator : Operator) (depth : ℕ)
    → opened (rest_of (precedence_of operator)) (PunctuatorKind (punctuator_of operator)) depth
    ≡ Some (Subgoal (One (tail_nonterminal (precedence_of operator))) depth ∷ further (precedence_of operator) depth)
unfolding begins chosen begins_within
rest_opened operator.Or depth = refl
rest_opened _ depth = refl

-- an operator is followed by an operand
tail_opened : (operator : Operator) (depth : ℕ)
    → opened (One (tail_nonterminal (precedence_of operator))) (PunctuatorKind (punctuator_of operator)) depth
    ≡ Some (Terminal (PunctuatorKind (punctuator_of operator)) depth
    ∷ Subgoal (One (operand_nonterminal (precedence_of operator))) depth ∷ [])
unfolding begins chosen begins_within
tail_opened operator.Or depth = refl
tail_opened _ depth = refl

-- nothing is read after the operands where no operator of the precedence is next
rest_ends : (precedence : Precedence) (kind : TokenKind) (depth : ℕ)
    → ((operator : Operator) → precedence_of operator ≡ precedence
    → fits (PunctuatorKind (punctuator_of operator)) kind ≡ false) → opened (rest_of precedence) kind depth ≡ Some []
unfolding begins begins_within
rest_ends precedence.Or kind depth none = rw (none operator.Or refl) refl
rest_ends precedence.And kind depth none = rw (none operator.And refl) refl
rest_ends precedence.Equal kind depth none = rw (none operator.Equal refl, none operator.NotEqual refl) refl
rest_ends precedence.Compare kind depth none =
    rw (
      none operator.Less refl,
      none operator.LessEqual refl,
      none operator.Greater refl,
      none operator.GreaterEqual
          refl,
    ) refl
rest_ends precedence.Sum kind depth none = rw (none operator.Plus refl, none operator.Minus refl) refl
rest_ends precedence.Mul kind depth none =
    rw (none operator.Times refl, none operator.Divide refl, none operator.Remainder refl) refl

-- any token opens what follows a first operand: to an operator with its operand, or to nothing
rest_is_opened : (precedence : Precedence) (kind : TokenKind) (depth : ℕ)
    → opened (rest_of precedence) kind depth
    ≡ Some (cond (begins (tail_nonterminal precedence) kind)
    (Subgoal (One (tail_nonterminal precedence)) depth ∷ further precedence depth) [])
rest_is_opened precedence.Or kind depth = cond-Some (begins OrTail kind) _ _
rest_is_opened precedence.And kind depth = cond-Some (begins AndTail kind) _ _
rest_is_opened precedence.Equal kind depth = cond-Some (begins EqualTail kind) _ _
rest_is_opened precedence.Compare kind depth = cond-Some (begins CompareTail kind) _ _
rest_is_opened precedence.Sum kind depth = cond-Some (begins SumTail kind) _ _
rest_is_opened precedence.Mul kind depth = cond-Some (begins MulTail kind) _ _

-- The trees

-- the tree of a precedence is that of its first operand with the operators after it
precedence_tree : (precedence : Precedence) (part rest : Goal) (first others : Forest)
    → precedence_in precedence (Node part first (Node rest others Empty))
    ≡ with_operators (place_in first) (operand_in precedence first) (operands_in precedence others)
precedence_tree precedence.Or part rest first others = refl
precedence_tree _ part rest first others = refl

-- where nothing follows the first operand there is no operator
no_operands : (precedence : Precedence) → operands_in precedence Empty ≡ NoOperands
no_operands precedence.Or = refl
no_operands _ = refl

-- an operator and its operand come before further ones, where operators of the precedence repeat
tail_tree : (precedence : Precedence) (tail part rest : Goal) (mark : Mark) (depth : ℕ) (right others : Forest)
    → repeats precedence ≡ true
    → operands_in precedence (Node tail (Leaf mark depth (Node part right Empty)) (Node rest others Empty))
    ≡ NextOperand (operator_of (token_kind mark)) (operand_in precedence right) (operands_in precedence others)
tail_tree precedence.Equal tail part rest mark depth right others again = absurd cc
tail_tree precedence.Compare tail part rest mark depth right others again = absurd cc
tail_tree _ tail part rest mark depth right others again = refl

-- an operator and its operand are the only ones, where operators of the precedence do not repeat
last_tree : (precedence : Precedence) (tail part : Goal) (mark : Mark) (depth : ℕ) (right : Forest)
    → repeats precedence ≡ false
    → operands_in precedence (Node tail (Leaf mark depth (Node part right Empty)) Empty)
    ≡ NextOperand (operator_of (token_kind mark)) (operand_in precedence right) NoOperands
last_tree precedence.Equal tail part mark depth right once = refl
last_tree precedence.Compare tail part mark depth right once = refl
last_tree _ tail part mark depth right once = absurd cc

-- the punctuator of an operator is read as that operator
punctuator_read : (operator : Operator) → operator_of (PunctuatorKind (punctuator_of operator)) ≡ operator
punctuator_read operator.Or = refl
punctuator_read _ = refl

-- followed by those of a list, they are those of both lists
operands_of_both : (names : List Name) (operands more : List Operand)
    → operands_before names operands (operand_trees names more) ≡ operand_trees names (operands ++ more)
operands_of_both names [] more = refl
operands_of_both names (operand ∷ others) more =
    ap (NextOperand operand.operator (expr_tree names operand.right)) (operands_of_both names others more)

-- The steps

-- a precedence is refused where its first operand is
pub first_operand_refused : (precedence : Precedence) (depth : ℕ) (from : Spot) (error : SourceError)
    → IsRefused (Subgoal (One (operand_nonterminal precedence)) depth) from error
    → IsRefused (Subgoal (One (nonterminal_of precedence)) depth) from error
first_operand_refused precedence depth from error refused =
    refused_in_front (operand_nonterminal precedence) depth (One (nonterminal_of precedence)) depth from error
    (precedence_opened precedence _ depth) (precedence_shut precedence _ depth) refused

-- an operator opens what follows the operands before it
rest_begins : {precedence : Precedence} {token : Lexed} {here after : Spot} (operator : Operator) (depth : ℕ)
    (table : List (List ℕ)) (left : List Wanted) → precedence_of operator ≡ precedence
    → TakesKind (lexeme.Punctuator (punctuator_of operator)) token here after → further precedence depth ≡ left
    → HasRead (rest_of precedence) depth table table here (λ rest. rest)
    (Subgoal (One (tail_nonterminal precedence)) depth ∷ left) here
rest_begins {here = here} operator depth table left is takes are =
    rw (← are, ← is) (opens (rest_of (precedence_of operator)) depth table here _
    (ap (λ (kind : TokenKind). opened (rest_of (precedence_of operator)) kind depth) (next_taken takes)
    ∙ rest_opened operator depth))

-- the step over an operator
operator_read : {precedence : Precedence} {token : Lexed} {here after : Spot} (operator : Operator) (depth : ℕ)
    (table : List (List ℕ)) → precedence_of operator ≡ precedence
    → TakesKind (lexeme.Punctuator (punctuator_of operator)) token here after → depth ≤ limit
    → HasRead (One (tail_nonterminal precedence)) depth table table here (λ rest. Leaf (Token token) depth rest)
    (Subgoal (One (operand_nonterminal precedence)) depth ∷ []) after
operator_read {here = here} operator depth table is takes within =
    rw (← is) (over_token {kind = lexeme.Punctuator (punctuator_of operator)}
    (opens (One (tail_nonterminal (precedence_of operator))) depth table here _
    (ap (λ (kind : TokenKind). opened (One (tail_nonterminal (precedence_of operator))) kind depth) (next_taken takes)
    ∙ tail_opened operator depth))
    takes refl refl within)

-- What was read so far of what follows a first operand, with the operators and operands that the code has of it.
-- Whatever else is read completes it.
pub record OperatorsSoFar (precedence : Precedence) (depth : ℕ) (old now : List (List ℕ)) (from here : Spot)
    (operands : List Operand) : Type 0 where
  pub make : Forest → Forest
  pub read : HasRead (rest_of precedence) depth old now from make (Subgoal (rest_of precedence) depth ∷ []) here
  pub is : (names : List (List ℕ)) → GoesOn now names → (inside : Forest)
      → operands_in precedence (make (Node (rest_of precedence) inside Empty))
      ≡ operands_before names operands (operands_in precedence inside)

-- no operator was read so far
pub no_operand_read : (precedence : Precedence) (depth : ℕ) (table : List (List ℕ)) (from : Spot)
    {operands : List Operand} → operands ≡ [] → OperatorsSoFar precedence depth table table from from operands
no_operand_read precedence depth table from none = rw none (record {
  make = inside_alone;
  read = left_whole (rest_of precedence) depth table from _ (rest_is_opened precedence _ depth);
  is = λ names more inside. refl;
})

-- what follows a first operand is refused where the operand after its next operator is
pub next_operand_refused : {precedence : Precedence} {depth : ℕ} {old now : List (List ℕ)} {from here after : Spot}
    {operands : List Operand} {token : Lexed} (operator : Operator) (error : SourceError)
    → OperatorsSoFar precedence depth old now from here operands → precedence_of operator ≡ precedence
    → TakesKind (lexeme.Punctuator (punctuator_of operator)) token here after → depth ≤ limit
    → IsRefused (Subgoal (One (operand_nonterminal precedence)) depth) after error
    → IsRefused (Subgoal (rest_of precedence) depth) from error
next_operand_refused {precedence} {depth} {now = now} operator error so is takes within refused =
    refused_inside so.read error (refused_inside
    (rest_begins operator depth now (further precedence depth) is takes refl) error
    (refused_inside (operator_read operator depth now is takes within) error refused))

-- the tree of an operator and its operand, before further ones where operators of the precedence repeat, and else alone
abbrev IsTail : Precedence → Operand → List (List ℕ) → Forest → Type 0
IsTail precedence operand names inside =
    (repeats precedence ≡ true → (others : Forest)
    → operands_in precedence (Node (One (tail_nonterminal precedence)) inside (Node (rest_of precedence) others Empty))
    ≡ NextOperand operand.operator (expr_tree names operand.right) (operands_in precedence others))
    × (repeats precedence ≡ false → operands_in precedence (Node (One (tail_nonterminal precedence)) inside Empty)
    ≡ NextOperand operand.operator (expr_tree names operand.right) NoOperands)

-- an operator with its operand was read
operand_found : {precedence : Precedence} {depth : ℕ} {now new : List (List ℕ)} {here after to : Spot} {token : Lexed}
    (operand : Operand) → precedence_of operand.operator ≡ precedence
    → TakesKind (lexeme.Punctuator (punctuator_of operand.operator)) token here after → depth ≤ limit
    → FoundAs (One (operand_nonterminal precedence)) depth now new after to
    (λ names inside. expr_tree names operand.right ≡ operand_in precedence inside)
    → FoundAs (One (tail_nonterminal precedence)) depth now new here to (IsTail precedence operand)
operand_found {precedence} {depth} {now} {new} {token = token} operand is takes within found =
    let operation : operator_of (token_kind (Token token)) ≡ operand.operator =
    ap (λ (kind : Lexeme). operator_of (token_kind_of kind token.bytes)) takes.kind_is
    ∙ punctuator_read operand.operator in
    let tail = λ (names : List (List ℕ)) (more : GoesOn new names) (others : Operands).
    ap (λ (operator : Operator). NextOperand operator (operand_in precedence found.inside) others) operation
    ∙ ap (λ (tree : ExprTree). NextOperand operand.operator tree others) (sym (found.is names more)) in
    all_read (over_part (operator_read operand.operator depth now is takes within) found) (λ names more. (
      λ again others. tail_tree precedence (One (tail_nonterminal precedence)) (One (operand_nonterminal precedence))
          (rest_of precedence) (Token token) depth found.inside others again
          ∙ tail names more (operands_in precedence others),
      λ once. last_tree precedence (One (tail_nonterminal precedence)) (One (operand_nonterminal precedence))
          (Token token) depth found.inside once ∙ tail names more NoOperands,
    ))

-- one more operator with its operand was read, where operators of the precedence repeat
pub next_operand_read : {precedence : Precedence} {depth : ℕ} {old now new : List (List ℕ)} {from here after to : Spot}
    {token : Lexed} (operands : List Operand) (operand : Operand)
    → OperatorsSoFar precedence depth old now from here operands → precedence_of operand.operator ≡ precedence
    → TakesKind (lexeme.Punctuator (punctuator_of operand.operator)) token here after → depth ≤ limit
    → FoundAs (One (operand_nonterminal precedence)) depth now new after to
    (λ names inside. expr_tree names operand.right ≡ operand_in precedence inside) → repeats precedence ≡ true
    → OperatorsSoFar precedence depth old new from to (operands ++ operand ∷ [])
next_operand_read {precedence} {depth} {now = now} operands operand so is takes within found again =
    let one = operand_found operand is takes within found in
    let tail = Node (One (tail_nonterminal precedence)) one.inside in
    record {
      make = λ rest. so.make (Node (rest_of precedence) (tail rest) Empty);
      read = into_last so.read (over_part
          (rest_begins operand.operator depth now _ is takes
          (cond-true (repeats precedence) (Subgoal (rest_of precedence) depth ∷ []) [] again)) one);
      is = λ names more inside.
          so.is names (goes_on_further (found_goes_on found) more) (tail (Node (rest_of precedence) inside Empty))
          ∙ (ap (operands_before names operands) ((one.is names more).0 again inside)
          ∙ sym (operands_more names operands operand (operands_in precedence inside)));
    }

-- `expr` is the expression of a first operand and of the operators and operands after it
abbrev IsNode : Place → Expr → List Operand → Expr → Type 0
IsNode place first operands expr = (names : List (List ℕ))
    → expr_tree names expr ≡ with_operators place (expr_tree names first) (operand_trees names operands)

-- what follows a first operand was read: together they are the expression `expr`
abbrev pub IsAfter : Precedence → Place → Expr → Expr → List (List ℕ) → Forest → Type 0
IsAfter precedence place first expr names inside =
    expr_tree names expr ≡ with_operators place (expr_tree names first) (operands_in precedence inside)

-- what follows a first operand is found where the rest after the operands read so far is
operators_found : {precedence : Precedence} {depth : ℕ} {old now new : List (List ℕ)} {from here to : Spot}
    {items operands : List Operand} (place : Place) (first expr : Expr) (others : List Operand)
    → OperatorsSoFar precedence depth old now from here operands
    → FoundAs (rest_of precedence) depth now new here to
    (λ names inside. operands_in precedence inside ≡ operand_trees names others)
    → items ≡ operands ++ others → IsNode place first items expr
    → FoundAs (rest_of precedence) depth old new from to (IsAfter precedence place first expr)
operators_found {operands = operands} place first expr others so found are is =
    all_read (over_part so.read found) (λ names more.
    is names
    ∙ ap (with_operators place (expr_tree names first))
    (ap (operand_trees names) are ∙ (sym (operands_of_both names operands others)
    ∙ (sym (ap (operands_before names operands) (found.is names more))
    ∙ sym (so.is names (goes_on_further (found_goes_on found) more) found.inside)))))

-- what follows a first operand is found with one last operator, where operators of the precedence do not repeat
pub last_operand_found : {precedence : Precedence} {depth : ℕ} {old now new : List (List ℕ)} {from here after to : Spot}
    {items operands : List Operand} {token : Lexed} (place : Place) (first expr : Expr) (operand : Operand)
    → OperatorsSoFar precedence depth old now from here operands → precedence_of operand.operator ≡ precedence
    → TakesKind (lexeme.Punctuator (punctuator_of operand.operator)) token here after → depth ≤ limit
    → FoundAs (One (operand_nonterminal precedence)) depth now new after to
    (λ names inside. expr_tree names operand.right ≡ operand_in precedence inside) → repeats precedence ≡ false
    → items ≡ operands ++ operand ∷ [] → IsNode place first items expr
    → FoundAs (rest_of precedence) depth old new from to (IsAfter precedence place first expr)
last_operand_found {precedence} {depth} {now = now} place first expr operand so is takes within found once =
    let one = operand_found operand is takes within found in
    operators_found place first expr (operand ∷ []) so
    (all_read (over_part (rest_begins operand.operator depth now [] is takes
    (cond-false (repeats precedence) (Subgoal (rest_of precedence) depth ∷ []) [] once)) one)
    (λ names more. (one.is names more).1 once))

-- what follows a first operand ends where no operator of the precedence is next
pub operators_end : {precedence : Precedence} {depth : ℕ} {old now : List (List ℕ)} {from here : Spot}
    {items operands : List Operand} (place : Place) (first expr : Expr)
    → OperatorsSoFar precedence depth old now from here operands
    → ((operator : Operator) → precedence_of operator ≡ precedence
    → fits (PunctuatorKind (punctuator_of operator)) (next (left_at here)) ≡ false)
    → items ≡ operands → IsNode place first items expr
    → FoundAs (rest_of precedence) depth old now from here (IsAfter precedence place first expr)
operators_end {precedence} {depth} {now = now} {here = here} {operands = operands} place first expr so none are =
    operators_found place first expr [] so
    (all_read (opens (rest_of precedence) depth now here [] (rest_ends precedence _ depth none))
    (λ names more. no_operands precedence)) (are ∙ sym (append-nil operands))

-- the step over the first operand of a precedence
pub first_operand_read : {depth : ℕ} {old now : List (List ℕ)} {from here : Spot}
    {is_read : List (List ℕ) → Forest → Type 0} (precedence : Precedence)
    → (found : FoundAs (One (operand_nonterminal precedence)) depth old now from here is_read)
    → HasRead (One (nonterminal_of precedence)) depth old now from
    (λ rest. Node (One (operand_nonterminal precedence)) found.inside rest) (Subgoal (rest_of precedence) depth ∷ [])
    here
first_operand_read {depth} {old} {from = from} precedence found =
    over_part (opens (One (nonterminal_of precedence)) depth old from _
    (precedence_opened precedence _ depth (part_begun (operand_nonterminal precedence) _ depth found.rule_is))) found

-- a precedence is its first operand with what follows it
pub precedence_found : {depth : ℕ} {old now new : List (List ℕ)} {from here to : Spot} (precedence : Precedence)
    (place : Place) (first expr : Expr)
    → FoundAs (One (operand_nonterminal precedence)) depth old now from here
    (λ names inside. expr_tree names first ≡ operand_in precedence inside) → place ≡ place_of from
    → FoundAs (rest_of precedence) depth now new here to (IsAfter precedence place first expr)
    → FoundAs (One (nonterminal_of precedence)) depth old new from to
    (λ names inside. expr_tree names expr ≡ precedence_in precedence inside)
precedence_found precedence place first expr found at after =
    all_read (over_part (first_operand_read precedence found) after) (λ names more.
    after.is names more
    ∙ (ap (λ (tree : ExprTree). with_operators place tree (operands_in precedence after.inside))
    (found.is names (goes_on_further (found_goes_on after) more))
    ∙ (ap (λ (p : Place). with_operators p (operand_in precedence found.inside) (operands_in precedence after.inside))
    (at ∙ sym (first_place_found found))
    ∙ sym (precedence_tree precedence (One (operand_nonterminal precedence)) (rest_of precedence) found.inside
    after.inside))))

-- nothing is read after the first operand where no operator of its precedence is next
pub no_operators : {depth : ℕ} {table : List (List ℕ)} {here : Spot} (precedence : Precedence) (place : Place)
    (first : Expr)
    → ((operator : Operator) → precedence_of operator ≡ precedence
    → fits (PunctuatorKind (punctuator_of operator)) (next (left_at here)) ≡ false)
    → FoundAs (rest_of precedence) depth table table here here (IsAfter precedence place first first)
no_operators {depth} {table} {here} precedence place first none =
    all_read (opens (rest_of precedence) depth table here [] (rest_ends precedence _ depth none))
    (λ names more. sym (ap (with_operators place (expr_tree names first)) (no_operands precedence)))
