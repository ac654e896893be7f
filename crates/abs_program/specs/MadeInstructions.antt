-- What the maker of instructions counts and makes. It serves proofs only.
--
--   `begins_with_this`             a list of operands begins with `this`
--   `loop_sizes`, `loop_sizes_of`, `member_loops`, `decl_loops`      how large the bodies of loops are
--   `made_by`                      the instructions that were made, in order
--   `Counts`                       what a count of statements gives
--   `MayMake`, `Makes`             what a maker needs for some points, and that it made their instructions
--   `MadeOne`                      it made that of a statement
--   `MadeStatement`, `MadeStatements`      it made those of a statement with the ones in it, and of statements
--   `MayEnter`, `Entered`          it may enter a loop, and it did
use Rattle.std.specs.Prelude.{◌≡◌, ℕ, ◌+◌, ◌<◌, ◌≤◌, Bool, false, List, [], ◌∷◌, ◌++◌, map, reverse, Option, Some}
use Rattle.abs_program.specs.Control.{ByAnswer, Point, entry, entry_of, else_entry, points, points_of, else_points, member_points, decl_points}
use Rattle.abs_program.specs.InstructionViews.{instruction_tree, goes_tree}
use Rattle.abs_program.specs.Instructions.{InstructionTree, instruction_of}
use Rattle.abs_program.specs.Slots.{is_this}
use Rattle.abs_tree.specs.Syntax.{Name, ExprTrees, NoExpr, NextExpr, Statement, BlockOf, IfOf, WhileOf, MaybeStatements, NoElse, Else, Statements, NoStatement, NextStatement, MemberTree, FieldTree, MethodTree, DeclTree, ClassTree}
use Rattle.abs_tree.specs.SyntaxSizes.{count_of, count_of_else, statement_count, member_statements, decl_statements}
use Rattle.abs_program.specs.declared.tables.control.Successor.{Successor}
use Rattle.abs_program.specs.declared.tables.instructions.Maker.{Maker}

-- whether a list of operands begins with `this`
abbrev pub begins_with_this : ExprTrees → Bool
begins_with_this NoExpr = false
begins_with_this (NextExpr first others) = is_this first

abbrev mutual
  -- how many statements the body of each loop has: for each loop, after those in it
  pub loop_sizes : Statements → List ℕ
  loop_sizes NoStatement = []
  loop_sizes (NextStatement first others) = loop_sizes_of first ++ loop_sizes others

  pub loop_sizes_of : Statement → List ℕ
  loop_sizes_of (BlockOf place block) = loop_sizes block
  loop_sizes_of (IfOf index place condition first second) = loop_sizes first ++ loop_sizes_of_else second
  loop_sizes_of (WhileOf index place condition body) = loop_sizes body ++ statement_count body ∷ []
  loop_sizes_of _ = []

  pub loop_sizes_of_else : MaybeStatements → List ℕ
  loop_sizes_of_else NoElse = []
  loop_sizes_of_else (Else branch) = loop_sizes branch

-- the sizes of the loops in the methods of a class, and in declarations
abbrev pub member_loops : List MemberTree → List ℕ
member_loops [] = []
member_loops (FieldTree type name initial ∷ others) = member_loops others
member_loops (MethodTree signature end body ∷ others) = loop_sizes body ++ member_loops others

abbrev pub decl_loops : List DeclTree → List ℕ
decl_loops [] = []
decl_loops (ClassTree place name params implemented members ∷ others) = member_loops members ++ decl_loops others
decl_loops (_ ∷ others) = decl_loops others

-- the instructions that a maker made, in the order of their indices
abbrev pub made_by : List Name → Maker → List InstructionTree
made_by names maker = map (instruction_tree names) (reverse maker.instructions.items)

-- A count is right, and to a list of sizes were added those of the bodies of the loops.
pub record Counts (size : ℕ) (sizes : List ℕ) (count : ℕ) (old new : List ℕ) : Type 0 where
  pub count_is : count ≡ size
  pub loops_are : new ≡ old ++ sizes

-- A maker may make so many instructions, of statements whose loops have bodies of these sizes.
pub record MayMake (count : ℕ) (sizes : List ℕ) (maker : Maker) : Type 0 where
  pub room : count ≤ maker.next
  pub earlier : List ℕ
  pub loops_are : maker.loops.items ≡ earlier ++ sizes

-- It may make those of a statement with the ones in it, and of statements.
abbrev pub MayMakeStatement : Statement → Maker → Type 0
MayMakeStatement statement maker = MayMake (count_of statement) (loop_sizes_of statement) maker

abbrev pub MayMakeStatements : Statements → Maker → Type 0
MayMakeStatements statements maker = MayMake (statement_count statements) (loop_sizes statements) maker

-- It may make those of the other branch of an `if`, of both branches, and of the body of a loop and of the loop.
abbrev pub MayMakeOther : MaybeStatements → Maker → Type 0
MayMakeOther other maker = MayMake (count_of_else other) (loop_sizes_of_else other) maker

abbrev pub MayMakeBranches : Statements → MaybeStatements → Maker → Type 0
MayMakeBranches first second maker =
    MayMake (statement_count first + count_of_else second) (loop_sizes first ++ loop_sizes_of_else second) maker

abbrev pub MayMakeLoop : Statements → Maker → Type 0
MayMakeLoop body maker = MayMake (1 + statement_count body) (loop_sizes body ++ statement_count body ∷ []) maker

-- It may make those of members of a class, and of declarations.
abbrev pub MayMakeMembers : List MemberTree → Maker → Type 0
MayMakeMembers members maker = MayMake (member_statements members) (member_loops members) maker

abbrev pub MayMakeDecls : List DeclTree → Maker → Type 0
MayMakeDecls declarations maker = MayMake (decl_statements declarations) (decl_loops declarations) maker

-- A maker made the instructions of these points, of which there are so many, and whose loops have bodies of these
-- sizes.
pub record Makes (names : List Name) (count : ℕ) (sizes : List ℕ) (made : List Point) (old new : Maker) : Type 0 where
  pub next_is : new.next + count ≡ old.next
  pub loops_are : old.loops.items ≡ new.loops.items ++ sizes
  pub made_are : made_by names new ≡ map instruction_of made ++ made_by names old

-- It made that of a statement with these successors, which has this index.
pub record MadeOne (names : List Name) (statement : Statement) (goes : Successor) (index : Option ℕ) (old new : Maker)
    : Type 0 where
  pub index_is : index ≡ Some new.next
  pub makes : Makes names 1 [] (record { statement = statement; goes = goes_tree goes } ∷ []) old new

-- It made those of a statement and of the ones in it, or of statements, after which control goes to `after`, and before
-- which it is at `first`.
pub record MadeStatement (names : List Name) (statement : Statement) (after first : Option ℕ) (old new : Maker)
    : Type 0 where
  pub first_is : first ≡ entry_of new.next statement after
  pub makes : Makes names (count_of statement) (loop_sizes_of statement) (points_of new.next statement after) old new

pub record MadeStatements (names : List Name) (statements : Statements) (after first : Option ℕ) (old new : Maker)
    : Type 0 where
  pub first_is : first ≡ entry new.next statements after
  pub makes : Makes names (statement_count statements) (loop_sizes statements) (points new.next statements after) old
      new

pub record MadeOther (names : List Name) (other : MaybeStatements) (after first : Option ℕ) (old new : Maker)
    : Type 0 where
  pub first_is : first ≡ else_entry new.next other after
  pub makes : Makes names (count_of_else other) (loop_sizes_of_else other) (else_points new.next other after) old new

-- It made those of the branches of an `if`, or of the body of a loop, which has these successors.
pub record MadeBranches (names : List Name) (first : Statements) (second : MaybeStatements) (after : Option ℕ)
    (goes : Successor) (old new : Maker) : Type 0 where
  pub goes_is : goes_tree goes
      ≡ ByAnswer (entry new.next first after) (else_entry (new.next + statement_count first) second after)
  pub makes : Makes names (statement_count first + count_of_else second) (loop_sizes first ++ loop_sizes_of_else second)
      (points new.next first after ++ else_points (new.next + statement_count first) second after) old new

pub record MadeBody (names : List Name) (body : Statements) (after : Option ℕ) (goes : Successor) (old new : Maker)
    : Type 0 where
  pub own : ℕ
  pub own_is : own + 1 ≡ new.next
  pub goes_is : goes_tree goes ≡ ByAnswer (entry new.next body (Some own)) after
  pub makes : Makes names (statement_count body) (loop_sizes body ++ statement_count body ∷ [])
      (points new.next body (Some own)) old new

-- It made those of members of a class, and of declarations.
abbrev pub MadeMembers : List Name → List MemberTree → Maker → Maker → Type 0
MadeMembers names members old new =
    Makes names (member_statements members) (member_loops members) (member_points new.next members) old new

abbrev pub MadeDecls : List Name → List DeclTree → Maker → Maker → Type 0
MadeDecls names declarations old new =
    Makes names (decl_statements declarations) (decl_loops declarations) (decl_points new.next declarations) old new

-- A maker may enter the last loop that is left, since the body is shorter than all that is left.
pub record MayEnter (maker : Maker) : Type 0 where
  pub earlier : List ℕ
  pub size : ℕ
  pub loops_are : maker.loops.items ≡ earlier ++ size ∷ []
  pub room : size < maker.next

-- It entered that loop, whose index is that of its body's first statement less one.
pub record Entered (index : ℕ) (old new : Maker) : Type 0 where
  pub size : ℕ
  pub loops_are : old.loops.items ≡ new.loops.items ++ size ∷ []
  pub index_is : index + 1 + size ≡ new.next
  pub next_is : new.next ≡ old.next
  pub instructions_are : new.instructions ≡ old.instructions
