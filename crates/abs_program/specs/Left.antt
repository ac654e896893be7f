-- What is left at a statement: lists of statements, the innermost first. It is what the table of events speaks of,
-- where a chosen branch goes before the rest, and a true loop puts its body and itself before the rest.
--
--   `lefts`, `lefts_of`, `else_lefts`  what is left at each statement of a list, in the order of their indices
--   `opened`, `opened_of`              statements up to the first one that has an index
--   `first_left`                       what is left, without empty lists and bare blocks before the first statement
--   `IsLeftAt`, `IsAt`                 this is left at the statement with an index; control is where this is left
--   `Steps`                            where control goes, that is left which the table of events says
use Rattle.std.specs.Prelude.{◌≡◌, ℕ, ◌+◌, List, [], ◌∷◌, ◌++◌, slice_get, Option, Some, None}
use Rattle.abs_program.specs.Control.{Goes, Next, ByAnswer, Point}
use Rattle.abs_tree.specs.Syntax.{Statement, BlockOf, IfOf, WhileOf, MaybeStatements, NoElse, Else, Statements, NoStatement, NextStatement}

unfoldable mutual
  -- what is left at each statement of a list that is followed by these lists
  pub lefts : Statements → List Statements → List (List Statements)
  lefts NoStatement rest = []
  lefts (NextStatement first others) rest = lefts_of first others rest ++ lefts others rest

  -- what is left at a statement and in it, where these are the others of its list
  pub lefts_of : Statement → Statements → List Statements → List (List Statements)
  lefts_of (BlockOf place block) others rest = lefts block (others ∷ rest)
  lefts_of (IfOf index place condition first second) others rest =
      (NextStatement (IfOf index place condition first second) others ∷ rest)
      ∷ lefts first (others ∷ rest) ++ else_lefts second (others ∷ rest)
  lefts_of (WhileOf index place condition body) others rest =
      (NextStatement (WhileOf index place condition body) others ∷ rest)
      ∷ lefts body (NextStatement (WhileOf index place condition body) others ∷ rest)
  lefts_of statement others rest = (NextStatement statement others ∷ rest) ∷ []

  pub else_lefts : MaybeStatements → List Statements → List (List Statements)
  else_lefts NoElse rest = []
  else_lefts (Else branch) rest = lefts branch rest

unfoldable mutual
  -- statements that are followed by these lists, up to the first one that has an index. If there is none here, it is in
  -- `later`, which is what these lists open to.
  pub opened : Statements → List Statements → List Statements → List Statements
  opened NoStatement rest later = later
  opened (NextStatement first others) rest later = opened_of first others rest (opened others rest later)

  pub opened_of : Statement → Statements → List Statements → List Statements → List Statements
  opened_of (BlockOf place block) others rest later = opened block (others ∷ rest) later
  opened_of statement others rest later = NextStatement statement others ∷ rest

-- what is left, from its first statement that has an index on: empty lists are passed, and bare blocks opened
unfoldable pub first_left : List Statements → List Statements
first_left [] = []
first_left (statements ∷ rest) = opened statements rest (first_left rest)

-- the branch that a missing `else` takes has no statement
abbrev pub else_branch : MaybeStatements → Statements
else_branch NoElse = NoStatement
else_branch (Else branch) = branch

-- This is left at the statement with an index, where the statements have indices from `start` on.
pub record IsLeftAt (start : ℕ) (all : List (List Statements)) (index : ℕ) (left : List Statements) : Type 0 where
  pub offset : ℕ
  pub is : index ≡ start + offset
  pub there : slice_get all offset ≡ Some left

-- Control is at the statement at which this is left, or past the last one, where nothing is left.
abbrev pub IsAt : ℕ → List (List Statements) → Option ℕ → List Statements → Type 0
IsAt start all None left = left ≡ []
IsAt start all (Some index) left = IsLeftAt start all index left

-- where control goes after a statement without statements in it
abbrev pub NextIsAt : ℕ → List (List Statements) → Goes → List Statements → Type 0
NextIsAt start all (Next index) left = IsAt start all index left
NextIsAt start all (ByAnswer when_true when_false) left = ⊥

-- where control goes by the answer of a condition
abbrev pub AnswerIsAt : ℕ → List (List Statements) → Goes → List Statements → List Statements → Type 0
AnswerIsAt start all (Next index) left_when_true left_when_false = ⊥
AnswerIsAt start all (ByAnswer when_true when_false) left_when_true left_when_false =
    IsAt start all when_true left_when_true × IsAt start all when_false left_when_false

-- after the first of the statements that are left, that is left which the table of events says
abbrev pub FirstSteps : ℕ → List (List Statements) → Statement → Statements → List Statements → Goes → Type 0
FirstSteps start all (IfOf index place condition first second) others rest goes =
    AnswerIsAt start all goes (first_left (first ∷ others ∷ rest)) (first_left (else_branch second ∷ others ∷ rest))
FirstSteps start all (WhileOf index place condition body) others rest goes =
    AnswerIsAt start all goes (first_left (body ∷ NextStatement (WhileOf index place condition body) others ∷ rest))
    (first_left (others ∷ rest))
FirstSteps start all (BlockOf place block) others rest goes = ⊥
FirstSteps start all statement others rest goes = NextIsAt start all goes (first_left (others ∷ rest))

-- The first of what is left is the statement of the point, and where control goes next exactly that is left which the
-- table of events says. The statements have indices from `start` on.
abbrev pub Steps : ℕ → List (List Statements) → List Statements → Point → Type 0
Steps start all [] point = ⊥
Steps start all (NoStatement ∷ rest) point = ⊥
Steps start all (NextStatement first others ∷ rest) point =
    (point.statement ≡ first) × FirstSteps start all first others rest point.goes
