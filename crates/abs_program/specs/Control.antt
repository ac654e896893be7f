-- Where control goes. The statements of a program have indices in the order of the source: first those of the methods,
-- and then those of the main block. A bare block has no index, but the statements in it do.
--
--   `Goes`, `Point`                        where control goes after a statement, and a statement with that
--   `entry`, `entry_of`, `else_entry`      where control is before statements
--   `points`, `points_of`, `else_points`   the points of statements, in the order of their indices
--   `program_points`                       those of a program
use Rattle.std.specs.Prelude.{ℕ, ◌+◌, List, [], ◌∷◌, ◌++◌, Option, Some, None}
use Rattle.abs_tree.specs.Syntax.{Statement, BlockOf, IfOf, WhileOf, MaybeStatements, NoElse, Else, Statements, NoStatement, NextStatement, MemberTree, FieldTree, MethodTree, DeclTree, ClassTree, SourceTree}
use Rattle.abs_tree.specs.SyntaxSizes.{count_of, statement_count, member_statements, decl_statements}

-- where control goes after a statement: to the next one, or by the answer of its condition. It is the index of a
-- statement, or nothing where no statement of the body is left
pub data Goes : Type 0 where
  Next : (index : Option ℕ) → Goes
  ByAnswer : (when_true when_false : Option ℕ) → Goes

-- a statement that has an index, and where control goes after it
pub record Point : Type 0 where
  pub statement : Statement
  pub goes : Goes

unfoldable mutual
  -- where control is before statements, the first of which has this index, and after which it goes to `after`
  pub entry : ℕ → Statements → Option ℕ → Option ℕ
  entry index NoStatement after = after
  entry index (NextStatement first others) after = entry_of index first (entry (index + count_of first) others after)

  pub entry_of : ℕ → Statement → Option ℕ → Option ℕ
  entry_of index (BlockOf place block) after = entry index block after
  entry_of index statement after = Some index

-- where control is before the other branch of an `if`; a missing one goes on
abbrev pub else_entry : ℕ → MaybeStatements → Option ℕ → Option ℕ
else_entry index NoElse after = after
else_entry index (Else branch) after = entry index branch after

unfoldable mutual
  -- the points of statements
  pub points : ℕ → Statements → Option ℕ → List Point
  points index NoStatement after = []
  points index (NextStatement first others) after =
      points_of index first (entry (index + count_of first) others after) ++ points (index + count_of first) others after

  -- the points of a statement. The end of the body of a `while` goes back to it.
  pub points_of : ℕ → Statement → Option ℕ → List Point
  points_of index (BlockOf place block) after = points index block after
  points_of index (IfOf own place condition first second) after = record {
    statement = IfOf own place condition first second;
    goes =
        ByAnswer (entry (index + 1) first after) (else_entry (index + 1 + statement_count first) second after);
  } ∷ points (index + 1) first after ++ else_points (index + 1 + statement_count first) second after
  points_of index (WhileOf own place condition body) after = record {
    statement = WhileOf own place condition body;
    goes = ByAnswer (entry (index + 1) body (Some index)) after;
  } ∷ points (index + 1) body (Some index)
  points_of index statement after = record { statement = statement; goes = Next after } ∷ []

  pub else_points : ℕ → MaybeStatements → Option ℕ → List Point
  else_points index NoElse after = []
  else_points index (Else branch) after = points index branch after

-- the points of the methods of a class, of declarations, and of a program
abbrev pub member_points : ℕ → List MemberTree → List Point
member_points index [] = []
member_points index (FieldTree type name initial ∷ others) = member_points index others
member_points index (MethodTree signature end body ∷ others) =
    points index body None ++ member_points (index + statement_count body) others

abbrev pub decl_points : ℕ → List DeclTree → List Point
decl_points index [] = []
decl_points index (ClassTree place name params implemented members ∷ others) =
    member_points index members ++ decl_points (index + member_statements members) others
decl_points index (_ ∷ others) = decl_points index others

abbrev pub program_points : SourceTree → List Point
program_points program =
    decl_points 0 program.declarations ++ points (decl_statements program.declarations) program.main None
