-- Where the body of a method ends, with its bare blocks spliced into the statements around them.
--
--   `is_empty`, `are_empty`            blocks without a statement
--   `returns`, `ends_with_return`      the last statement is `return`
use Rattle.std.specs.Prelude.{Bool, true, false, ◌&&◌, if◌then◌else◌}
use Rattle.abs_tree.specs.Syntax.{Statement, BlockOf, ReturnOf, Statements, NoStatement, NextStatement}

abbrev mutual
  -- whether a statement is a block in which there is none but such blocks
  pub is_empty : Statement → Bool
  is_empty (BlockOf place block) = are_empty block
  is_empty _ = false

  pub are_empty : Statements → Bool
  are_empty NoStatement = true
  are_empty (NextStatement first others) = is_empty first && are_empty others

abbrev mutual
  -- whether a statement is `return`, or a block that ends with it
  pub returns : Statement → Bool
  returns (ReturnOf index place value) = true
  returns (BlockOf place block) = ends_with_return block
  returns _ = false

  -- whether the last statement is `return`; empty blocks after it do not count
  pub ends_with_return : Statements → Bool
  ends_with_return NoStatement = false
  ends_with_return (NextStatement first others) =
      if are_empty others then returns first else ends_with_return others
