use Rattle.std.proofs.Common.{◌∙◌, ap, sym}
use Rattle.abs_tree.proofs.StatementLemmas.{statement-block}
use Rattle.abs_tree.specs.SyntaxSizes.{count_of}
use Rattle.abs_tree.specs.SyntaxViews.{statement as statement_tree}
use Rattle.abs_parser.specs.TreesOf.{branch_of}
use Rattle.abs_parser.proofs.statements.branch.Goals as goal

pub returns-in-Block-clause-found : goal.returns-in-Block-clause-found
returns-in-Block-clause-found c =
    λ names. sym (ap branch_of (ap (statement_tree names) c.in-Block.is
    ∙ statement-block names c.in-Block.field-0 c.in-Block.statements))

pub returns-in-Block-clause-count : goal.returns-in-Block-clause-count
returns-in-Block-clause-count c =
    λ names. sym (ap count_of (ap (statement_tree names) c.in-Block.is
    ∙ statement-block names c.in-Block.field-0 c.in-Block.statements))
