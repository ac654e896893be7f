-- Parts of expressions, and what they give together. These words serve contracts of this crate alone.
--
--   `tree_typed`, `tree_offends`       the type and the offences of a tree where a context is known
--   `rights_of`                        the right operands of operators
--   `branch_typed`, `branch_offends`   the type of a branch, if its pattern fits the subject, and its offences
--   `with_last`                        one more type after several
use Rattle.std.specs.Prelude.{List, [], ◌∷◌, ◌++◌, map, Option, Some, None, if◌then◌else◌}
use Rattle.abs_tree.specs.Syntax.{ExprTree}
use Rattle.abs_tree.specs.SyntaxViews.{pattern_tree}
use Rattle.abs_tree.specs.declared.refusal.Offence.{Offence}
use Rattle.abs_tree.specs.declared.syntax.expression.Branch.{Branch}
use Rattle.abs_tree.specs.declared.syntax.expression.Expr.{Expr}
use Rattle.abs_tree.specs.declared.syntax.expression.Operand.{Operand}
use Rattle.abs_types.specs.ExpressionOffences.{expr_offences}
use Rattle.abs_types.specs.PatternTypes.{pattern_fits, pattern_offences, pattern_types}
use Rattle.abs_types.specs.PlainTypes.{PlainType}
use Rattle.abs_types.specs.Typing.{type_in}
use Rattle.check_fun.specs.Contexts.{offends, typed, with_bound, Context}

-- the type of a tree, and its offences
abbrev pub tree_typed : Context → ExprTree → Option PlainType
tree_typed context tree = type_in context.declarations context.frame context.bound tree

abbrev pub tree_offends : Context → ExprTree → List Offence
tree_offends context tree = expr_offences context.declarations context.frame context.bound tree

-- the right operands of operators, in their order
abbrev pub rights_of : List Operand → List Expr
rights_of operands = map (λ (one : Operand). one.right) operands

-- a context with the variables of the pattern of a branch
abbrev pub in_branch : Context → Option PlainType → Branch → Context
in_branch context subject branch =
    with_bound context (pattern_types context.declarations subject (pattern_tree context.names branch.pattern))

-- the type of a branch, if its pattern fits the subject
abbrev pub branch_typed : Context → Option PlainType → Branch → Option PlainType
branch_typed context subject branch =
    if pattern_fits context.declarations subject (pattern_tree context.names branch.pattern) then
    typed (in_branch context subject branch) branch.value else None

-- its offences
abbrev pub branch_offends : Context → Option PlainType → Branch → List Offence
branch_offends context subject branch =
    pattern_offences context.declarations subject (pattern_tree context.names branch.pattern)
    ++ offends (in_branch context subject branch) branch.value

-- one more type after several
abbrev pub with_last : Option (List PlainType) → Option PlainType → Option (List PlainType)
with_last (Some types) (Some type) = Some (types ++ type ∷ [])
with_last _ _ = None
