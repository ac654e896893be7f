use Rattle.std.proofs.Common.{◌≡◌, ◌∙◌, map}
use Rattle.std.proofs.lemmas.Result.{IfOk-weaker}
use Rattle.abs_tree.specs.SyntaxViews.{decl_tree}
use Rattle.abs_prelude.proofs.TableLemmas.{table_trees}
use Rattle.abs_prelude.proofs.declarations.prelude.Goals as goal
use Rattle.abs_prelude.specs.Codes.{trees_of}
use Rattle.abs_prelude.specs.Prelude.{prelude}
use Rattle.abs_prelude.specs.declared.table.TheConstants.{CODES}

pub returns : goal.returns
returns c =
    let names = c.args.symbols.now in
    IfOk-weaker c.build.result (λ found. map (decl_tree names) found.items ≡ trees_of CODES.now)
    (λ found. map (decl_tree names) found.items ≡ prelude) (λ found is. is ∙ table_trees) c.build.ensures
