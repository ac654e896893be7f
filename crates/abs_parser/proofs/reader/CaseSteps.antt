-- The steps of the parsing functions of `case` and its branches. They say what a `case` and a branch consist of, given
-- the next token, and how their tokens and parts are read. The branches that were read so far come with their trees.
use Rattle.std.proofs.Common.{◌≡◌, ◌≤◌, ◌<◌, ℕ, true, false, List, [], ◌∷◌, ◌++◌, length, Some, None, refl, sym, ap, ◌∙◌, arith}
use Rattle.std.specs.declared.alloc.Global.{Global}
use Rattle.std.specs.declared.boxed.Box.{Box}
use Rattle.std.specs.declared.vec.Vec.{Vec}
use Rattle.abs_tree.specs.declared.place.Place.{Place}
use Rattle.abs_tree.specs.Syntax.{ExprTree, CaseOf, Branches, NoBranch, NextBranch}
use Rattle.abs_tree.specs.SyntaxViews.{expr_tree, pattern_tree, branches}
use Rattle.abs_tree.specs.declared.syntax.expression.Branch as code_branch
use Rattle.abs_tree.specs.declared.syntax.expression.Expr as code_expr
use Rattle.abs_tree.specs.declared.syntax.expression.Expr.{Expr}
use Rattle.abs_tree.proofs.SyntaxLemmas.{expr_tree-case}
use Rattle.abs_lexer.specs.declared.lexeme.Keyword.TheVariants as keyword
use Rattle.abs_lexer.specs.declared.lexeme.Lexeme.{Lexeme}
use Rattle.abs_lexer.specs.declared.lexeme.Lexeme.TheVariants as lexeme
use Rattle.abs_lexer.specs.declared.lexeme.Punctuator.TheVariants as punctuator
use Rattle.abs_lexer.specs.Tokens.{Lexed}
use Rattle.abs_parser.specs.Answers.{GoesOn}
use Rattle.abs_parser.specs.TokenKinds.{Mark, Token, TokenKind, KeywordKind, PunctuatorKind, token_kind_of, fits, next}
use Rattle.abs_parser.specs.Productions.{Expr as ExprSymbol, Primary, Branch, Pattern, begins, begins_within, chosen}
use Rattle.abs_parser.specs.Readings.{One, Repeated, Wanted, Terminal, Subgoal, opened, Forest, Empty, Leaf, Node}
use Rattle.abs_parser.specs.ReaderAnswers.{left_at, TakesKind, FoundAs, IsRefused}
use Rattle.abs_parser.specs.Stops.{limit}
use Rattle.abs_parser.specs.Tokens.{Spot}
use Rattle.abs_parser.specs.TreesOf.{pattern_in, primary_in, primary_by, branch_in, branches_in}
use Rattle.abs_tree.specs.declared.source_error.SourceError.{SourceError}
use Rattle.abs_parser.proofs.grammar.NameLemmas.{goes_on_further}
use Rattle.abs_parser.proofs.reader.FoundLemmas.{found_goes_on, found_shorter, token_shorter}
use Rattle.abs_parser.proofs.reader.StepLemmas.{HasRead, opens, over_token, over_part, all_read, refused_inside, fits_next}
use Rattle.abs_parser.proofs.grammar.NonterminalLemmas.{begins_with_part, part_shut, part_begun, part_opened, repeated_opened}
use Rattle.abs_parser.proofs.reader.InFrontSteps.{refused_in_front}
use Rattle.abs_parser.proofs.reader.KeywordSteps.{keyword_read}
use Rattle.abs_parser.proofs.reader.RepeatSteps.{in_front, over_one_more, refused_up_to, none_before}
use Rattle.abs_parser.proofs.reader.ExpressionSteps.{IsExpression}

-- Branches

-- this branch was read
abbrev pub IsBranch : code_branch.Branch → List (List ℕ) → Forest → Type 0
IsBranch branch names inside = (others : Branches)
    → NextBranch (pattern_tree names branch.pattern) (expr_tree names branch.value) others ≡ branch_in inside others

-- a branch begins with the same tokens as a pattern
branch_begins : (kind : TokenKind) → begins Branch kind ≡ begins Pattern kind
branch_begins kind = begins_with_part Branch kind refl

-- a branch is a pattern, "=>", an expression and ";"
branch_opened : (kind : TokenKind) (depth : ℕ) → begins Pattern kind ≡ true
    → opened (One Branch) kind depth
    ≡ Some (Subgoal (One Pattern) depth ∷ Terminal (PunctuatorKind punctuator.Arrow) depth
    ∷ Subgoal (One ExprSymbol) depth ∷ Terminal (PunctuatorKind punctuator.Semicolon) depth ∷ [])
branch_opened kind depth may = part_opened Branch kind depth refl refl (branch_begins kind ∙ may)

-- where no pattern may begin, no branch opens
branch_shut : (kind : TokenKind) (depth : ℕ) → begins Pattern kind ≡ false → opened (One Branch) kind depth ≡ None
branch_shut kind depth none = part_shut Branch kind depth (branch_begins kind ∙ none)

-- the pattern of a branch was read
pub pattern_read : {depth : ℕ} {old new : List (List ℕ)} {from to : Spot} {is_read : List (List ℕ) → Forest → Type 0}
    → (found : FoundAs (One Pattern) depth old new from to is_read)
    → HasRead (One Branch) depth old new from (λ rest. Node (One Pattern) found.inside rest)
    (Terminal (PunctuatorKind punctuator.Arrow) depth ∷ Subgoal (One ExprSymbol) depth
    ∷ Terminal (PunctuatorKind punctuator.Semicolon) depth ∷ []) to
pattern_read {depth} {old} {from = from} found =
    over_part (opens (One Branch) depth old from _ (branch_opened _ depth (part_begun Pattern _ depth found.rule_is)))
    found

-- a branch is refused where its pattern is
pub refused_pattern : (depth : ℕ) (from : Spot) (error : SourceError)
    → IsRefused (Subgoal (One Pattern) depth) from error → IsRefused (Subgoal (One Branch) depth) from error
refused_pattern depth from error refused =
    refused_in_front Pattern depth (One Branch) depth from error (branch_opened _ depth) (branch_shut _ depth) refused

-- a branch with its pattern and its expression is found
pub branch_found : {arrow semicolon : Lexed} {from arrow_at value_at close_at end : Spot} {depth : ℕ}
    {old now new : List (List ℕ)} (branch : code_branch.Branch)
    → FoundAs (One Pattern) depth old now from arrow_at
    (λ names inside. pattern_tree names branch.pattern ≡ pattern_in inside)
    → TakesKind (lexeme.Punctuator punctuator.Arrow) arrow arrow_at value_at
    → FoundAs (One ExprSymbol) depth now new value_at close_at (IsExpression branch.value)
    → TakesKind (lexeme.Punctuator punctuator.Semicolon) semicolon close_at end → depth ≤ limit
    → FoundAs (One Branch) depth old new from end (IsBranch branch)
branch_found branch pattern arrow value semicolon within =
    all_read (over_token (over_part (over_token (pattern_read pattern) arrow refl refl within) value) semicolon refl
    refl within)
    (λ names more others. rw (pattern.is names (goes_on_further (found_goes_on value) more), value.is names more) refl)

-- the trees of these branches, followed by others
abbrev pub branches_before : List (List ℕ) → List code_branch.Branch → Branches → Branches
branches_before names [] after = after
branches_before names (branch ∷ others) after =
    NextBranch (pattern_tree names branch.pattern) (expr_tree names branch.value) (branches_before names others after)

-- followed by no others, they are the trees of the branches alone
all_branches : (names : List (List ℕ)) (arms : List code_branch.Branch)
    → branches_before names arms NoBranch ≡ branches names arms
all_branches names [] = refl
all_branches names (branch ∷ others) =
    ap (NextBranch (pattern_tree names branch.pattern) (expr_tree names branch.value)) (all_branches names others)

-- the tree of one more branch comes just before the others
one_branch : (names : List (List ℕ)) (arms : List code_branch.Branch) (branch : code_branch.Branch) (after : Branches)
    → branches_before names (arms ++ branch ∷ []) after
    ≡ branches_before names arms (NextBranch (pattern_tree names branch.pattern) (expr_tree names branch.value) after)
one_branch names [] branch after = refl
one_branch names (first ∷ others) branch after =
    ap (NextBranch (pattern_tree names first.pattern) (expr_tree names first.value)) (one_branch names others branch after)

-- A `case`

-- what follows the keyword of a `case`
abbrev after_case : ℕ → List Wanted
after_case at =
    Subgoal (One ExprSymbol) at ∷ Terminal (PunctuatorKind punctuator.OpenBrace) at ∷ Subgoal (One Branch) at
    ∷ Subgoal (Repeated Branch) at ∷ Terminal (PunctuatorKind punctuator.CloseBrace) at ∷ []

-- `case` opens a primary
case_opened : (depth : ℕ) → opened (One Primary) (KeywordKind keyword.Case) depth
    ≡ Some (Terminal (KeywordKind keyword.Case) depth ∷ after_case depth)
unfolding begins chosen begins_within
case_opened depth = refl

-- the keyword of a `case` was read
pub case_begins : {token : Lexed} {from after : Spot} (depth : ℕ) (table : List (List ℕ))
    → TakesKind (lexeme.Keyword keyword.Case) token from after → depth ≤ limit
    → HasRead (One Primary) depth table table from (λ rest. Leaf (Token token) depth rest) (after_case depth) after
case_begins depth table takes within = keyword_read depth table (case_opened depth) takes within

-- the keyword and the expression of a `case` were read, and "{"
pub case_asked : {token brace : Lexed} {from subject_at brace_at first_at : Spot} {depth : ℕ} {old now : List (List ℕ)}
    {is_read : List (List ℕ) → Forest → Type 0}
    → TakesKind (lexeme.Keyword keyword.Case) token from subject_at
    → (subject : FoundAs (One ExprSymbol) depth old now subject_at brace_at is_read)
    → TakesKind (lexeme.Punctuator punctuator.OpenBrace) brace brace_at first_at → depth ≤ limit
    → HasRead (One Primary) depth old now from
    (λ rest. Leaf (Token token) depth (Node (One ExprSymbol) subject.inside (Leaf (Token brace) depth rest)))
    (Subgoal (One Branch) depth ∷ Subgoal (Repeated Branch) depth
    ∷ Terminal (PunctuatorKind punctuator.CloseBrace) depth ∷ []) first_at
case_asked {depth = depth} {old} token subject brace within =
    over_token (over_part (case_begins depth old token within) subject) brace refl refl within

-- A `case` was read up to here, with the trees of its expression and of these branches. Any further branches and the
-- token after them complete it.
pub record ReadsCase (depth : ℕ) (old now : List (List ℕ)) (from here : Spot) (place : Place) (subject : Expr)
    (arms : List code_branch.Branch) : Type 0 where
  pub make : Forest → Forest
  pub read : HasRead (One Primary) depth old now from make
      (Subgoal (Repeated Branch) depth ∷ Terminal (PunctuatorKind punctuator.CloseBrace) depth ∷ []) here
  pub shorter : length here.rest < length from.rest
  pub is : (names : List (List ℕ)) → GoesOn now names → (inside : Forest) (mark : Mark) (at : ℕ)
      → primary_in (make (Node (Repeated Branch) inside (Leaf mark at Empty)))
      ≡ CaseOf place (expr_tree names subject) (branches_before names arms (branches_in inside))

-- a `case` was read with its first branch
pub first_branch : {token brace : Lexed} {from subject_at brace_at first_at here : Spot} {depth : ℕ}
    {old now new : List (List ℕ)} {subject : Expr} (first : code_branch.Branch) {arms : List code_branch.Branch}
    → arms ≡ first ∷ []
    → TakesKind (lexeme.Keyword keyword.Case) token from subject_at
    → FoundAs (One ExprSymbol) depth old now subject_at brace_at (IsExpression subject)
    → TakesKind (lexeme.Punctuator punctuator.OpenBrace) brace brace_at first_at
    → FoundAs (One Branch) depth now new first_at here (IsBranch first) → depth ≤ limit
    → ReadsCase depth old new from here token.place subject arms
first_branch {token} {brace} {depth = depth} {subject = expr} branch same takes subject takes_brace first within =
    rw same (record {
      make = λ rest. Leaf (Token token) depth
          (Node (One ExprSymbol) subject.inside (Leaf (Token brace) depth (Node (One Branch) first.inside rest)));
      read = over_part (case_asked takes subject takes_brace within) first;
      shorter = omega (
        arith,
        token_shorter takes.takes,
        found_shorter subject,
        token_shorter takes_brace.takes,
        found_shorter first,
      );
      is = λ names more inside mark at.
          ap (λ (kind : Lexeme). primary_by (token_kind_of kind token.bytes) (Token token)
          (Node (One ExprSymbol) subject.inside
          (Leaf (Token brace) depth (Node (One Branch) first.inside (Node (Repeated Branch) inside (Leaf mark at Empty))))))
          takes.kind_is
          ∙ (ap (λ (tree : ExprTree). CaseOf token.place tree (branch_in first.inside (branches_in inside)))
          (sym (subject.is names (goes_on_further (found_goes_on first) more)))
          ∙ ap (CaseOf token.place (expr_tree names expr)) (sym (first.is names more (branches_in inside))));
    })

-- one more branch of a `case` was read
pub next_branch : {depth : ℕ} {old now new : List (List ℕ)} {from here to : Spot} {place : Place} {subject : Expr}
    {arms longer : List code_branch.Branch} (branch : code_branch.Branch) → longer ≡ arms ++ branch ∷ []
    → ReadsCase depth old now from here place subject arms
    → FoundAs (One Branch) depth now new here to (IsBranch branch)
    → ReadsCase depth old new from to place subject longer
next_branch {depth} {place = place} {subject} {arms} branch same so found = rw same (record {
  make = λ rest. so.make (in_front Branch found.inside rest);
  read = over_one_more so.read (repeated_opened Branch _ depth (part_begun Branch _ depth found.rule_is)) found;
  shorter = omega (arith, so.shorter, found_shorter found);
  is = λ names more inside mark at.
      so.is names (goes_on_further (found_goes_on found) more)
      (Node (One Branch) found.inside (Node (Repeated Branch) inside Empty)) mark at
      ∙ ap (CaseOf place (expr_tree names subject))
      (ap (branches_before names arms) (sym (found.is names more (branches_in inside)))
      ∙ sym (one_branch names arms branch (branches_in inside)));
})

-- where "}" is not next, what refuses the next branch refuses the `case`
pub refused_branch : {depth : ℕ} {old now : List (List ℕ)} {from here : Spot} {place : Place} {subject : Expr}
    {arms : List code_branch.Branch} (error : SourceError)
    → ReadsCase depth old now from here place subject arms
    → fits (PunctuatorKind punctuator.CloseBrace) (next (left_at here)) ≡ false
    → IsRefused (Subgoal (One Branch) depth) here error
    → IsRefused (Subgoal (One Primary) depth) from error
refused_branch error so other refused = refused_up_to (PunctuatorKind punctuator.CloseBrace) error so.read other refused

-- no branch begins with a "}"
no_branch_closes : begins Branch (PunctuatorKind punctuator.CloseBrace) ≡ false
unfolding begins begins_within
no_branch_closes = refl

-- so where "}" is next, there is no further branch
no_branch : (depth : ℕ) (table : List (List ℕ)) (here : Spot)
    → fits (PunctuatorKind punctuator.CloseBrace) (next (left_at here)) ≡ true
    → FoundAs (Repeated Branch) depth table table here here (λ names inside. inside ≡ Empty)
no_branch depth table here closes = none_before Branch punctuator.CloseBrace depth table here no_branch_closes closes

-- where "}" is next, what refuses it refuses the `case`
pub refused_brace : {depth : ℕ} {old now : List (List ℕ)} {from here : Spot} {place : Place} {subject : Expr}
    {arms : List code_branch.Branch} (error : SourceError)
    → ReadsCase depth old now from here place subject arms
    → fits (PunctuatorKind punctuator.CloseBrace) (next (left_at here)) ≡ true
    → IsRefused (Terminal (PunctuatorKind punctuator.CloseBrace) depth) here error
    → IsRefused (Subgoal (One Primary) depth) from error
refused_brace {depth} {now = now} {here = here} error so closes refused =
    refused_inside (over_part so.read (no_branch depth now here closes)) error refused

-- with its last branch and "}" a `case` is found, as it is stored
pub case_found : {brace : Lexed} {depth : ℕ} {old now : List (List ℕ)} {from here end : Spot} {place : Place}
    {subject : Expr} (held : Box Expr Global) (arms : Vec code_branch.Branch Global) → held.value ≡ subject
    → ReadsCase depth old now from here place subject arms.items
    → TakesKind (lexeme.Punctuator punctuator.CloseBrace) brace here end → depth ≤ limit
    → FoundAs (One Primary) depth old now from end
    (λ names inside. expr_tree names (code_expr.Case place held arms) ≡ primary_in inside)
case_found {brace} {depth} {now = now} {here = here} {place = place} {subject} held arms same so takes within =
    let none = no_branch depth now here (fits_next refl takes) in
    all_read (over_token (over_part so.read none) takes refl refl within) (λ names more.
    expr_tree-case names place held arms
    ∙ (ap (λ (expr : Expr). CaseOf place (expr_tree names expr) (branches names arms.items)) same
    ∙ (ap (CaseOf place (expr_tree names subject))
    (sym (all_branches names arms.items)
    ∙ sym (ap (λ (inside : Forest). branches_before names arms.items (branches_in inside)) (none.is names more)))
    ∙ sym (so.is names more none.inside (Token brace) depth))))
