-- The code's parts without their memory: the trees of each sort, with the name of each symbol written out.
use Rattle.std.specs.Prelude.{List, map}
use Rattle.abs_tree.specs.Syntax.{Name}
use Rattle.abs_tree.specs.SyntaxViews.{declared, type_tree, param_tree, constructor_tree, pattern_tree, expr_tree, decl_tree}
use Rattle.abs_tree.specs.declared.syntax.expression.Branch.{Branch}
use Rattle.abs_prelude.specs.Codes.{BranchTree, Parts}
use Rattle.abs_prelude.specs.declared.parts.Parts as code_parts

-- the tree of a branch
abbrev pub branch_tree : List Name → Branch → BranchTree
branch_tree names branch =
    record { pattern = pattern_tree names branch.pattern; value = expr_tree names branch.value }

-- the trees of the parts that no code has taken yet
abbrev pub part_trees : List Name → code_parts.Parts → Parts
part_trees names parts = record {
  types = map (type_tree names) parts.types.items;
  type_params = map (declared names) parts.type_params.items;
  constructors = map (constructor_tree names) parts.constructors.items;
  params = map (param_tree names) parts.params.items;
  patterns = map (pattern_tree names) parts.patterns.items;
  expressions = map (expr_tree names) parts.expressions.items;
  branches = map (branch_tree names) parts.branches.items;
  declarations = map (decl_tree names) parts.declarations.items;
}
