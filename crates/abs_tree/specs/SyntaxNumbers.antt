-- How the statements of a body are numbered: in the order in which they begin, without a gap. A block has no index, but
-- the statements in it do. In each definition `first` is the first index that is still free.
--
--   `IsNumbered`, `BranchIsNumbered`                   a statement, and a branch that may be missing
--   `AreNumbered`                                      the statements of a list
use Rattle.std.specs.Prelude.{◌≡◌, ⊤, ℕ, ◌+◌}
use Rattle.abs_tree.specs.Syntax.{Statement, BlockOf, SkipOf, SuspendOf, AwaitOf, ReturnOf, PrintOf, IfOf, WhileOf, DeclareOf, AssignOf, DoOf, MaybeStatements, NoElse, Else, Statements, NoStatement, NextStatement}
use Rattle.abs_tree.specs.SyntaxSizes.{count_of, statement_count}

abbrev mutual
  -- a statement has the first index, and the statements in it have the next ones
  pub IsNumbered : ℕ → Statement → Type 0
  IsNumbered first (BlockOf place block) = AreNumbered first block
  IsNumbered first (IfOf index place condition branch other) =
      (index ≡ first) × AreNumbered (first + 1) branch × BranchIsNumbered (first + 1 + statement_count branch) other
  IsNumbered first (WhileOf index place condition body) = (index ≡ first) × AreNumbered (first + 1) body
  IsNumbered first (SkipOf index place) = index ≡ first
  IsNumbered first (SuspendOf index place) = index ≡ first
  IsNumbered first (AwaitOf index place guard) = index ≡ first
  IsNumbered first (ReturnOf index place value) = index ≡ first
  IsNumbered first (PrintOf index place value) = index ≡ first
  IsNumbered first (DeclareOf index place type variable_place variable initial) = index ≡ first
  IsNumbered first (AssignOf index place target side) = index ≡ first
  IsNumbered first (DoOf index place side) = index ≡ first

  pub BranchIsNumbered : ℕ → MaybeStatements → Type 0
  BranchIsNumbered first NoElse = ⊤
  BranchIsNumbered first (Else branch) = AreNumbered first branch

  -- in a list, each statement is numbered from where the one before it ends
  pub AreNumbered : ℕ → Statements → Type 0
  AreNumbered first NoStatement = ⊤
  AreNumbered first (NextStatement one others) = IsNumbered first one × AreNumbered (first + count_of one) others
