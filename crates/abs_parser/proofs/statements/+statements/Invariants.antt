use Rattle.std.proofs.Common.{◌≡◌, ◌≤◌, ◌+◌, ◌*◌, List, length}
use Rattle.abs_tree.specs.Syntax.{Name}
use Rattle.abs_tree.specs.SyntaxSizes.{statement_count}
use Rattle.abs_tree.specs.SyntaxViews.{statements}
use Rattle.abs_parser.specs.Views.{spot}
use Rattle.abs_parser.proofs.reader.BlockSteps.{ReadsBlock}
use Rattle.abs_parser.proofs.statements.+statements.Given as goal

-- each call has fewer tokens left than its caller, or as many and a smaller part of the grammar
abbrev pub decreases-statement : goal.decreases-statement
decreases-statement l = 4 * length (spot l.from).rest + 3

abbrev pub decreases-keyword_statement : goal.decreases-keyword_statement
decreases-keyword_statement l = 4 * length (spot l.from).rest + 2

abbrev pub decreases-block_statement : goal.decreases-block_statement
decreases-block_statement l = 4 * length (spot l.from).rest + 1

abbrev pub decreases-if_statement : goal.decreases-if_statement
decreases-if_statement l = 4 * length (spot l.from).rest + 1

abbrev pub decreases-else_branch : goal.decreases-else_branch
decreases-else_branch l = 4 * length (spot l.from).rest

abbrev pub decreases-while_statement : goal.decreases-while_statement
decreases-while_statement l = 4 * length (spot l.from).rest + 1

abbrev pub decreases-block : goal.decreases-block
decreases-block l = 4 * length (spot l.from).rest

-- what was read so far
abbrev pub invariant-block-loop-symbols : goal.invariant-block-loop-symbols
invariant-block-loop-symbols l = record {
  read : ReadsBlock l.index l.depth l.fn.symbols l.symbols (spot l.from) (spot l.here) l.statements.items;
  free : (names : List Name) → l.free ≡ l.index + statement_count (statements names l.statements.items);
  few : l.free + length (spot l.here).rest ≤ l.index + length (spot l.from).rest;
}

abbrev pub decreases-block-loop-symbols : goal.decreases-block-loop-symbols
decreases-block-loop-symbols l = length (spot l.here).rest
