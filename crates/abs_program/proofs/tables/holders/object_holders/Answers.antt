use Rattle.std.proofs.Common.{◌∙◌, ap, map}
use Rattle.std.proofs.lemmas.Result.{IfOk-weaker}
use Rattle.abs_graph.specs.Views.{graph_of}
use Rattle.abs_program.proofs.EdgeLemmas.{holdings_built, holdings_have_nodes}
use Rattle.abs_program.proofs.HolderLemmas.{holders_are}
use Rattle.abs_tree.specs.SyntaxViews.{decl_tree}
use Rattle.abs_program.proofs.tables.holders.object_holders.Goals as goal

pub reaching-requires : goal.reaching-requires
reaching-requires c = record {
  nodes =
      holdings_have_nodes (map (decl_tree c.args.symbols.now) c.args.declarations.now) c.requires.spaces
      c.in_ok-graph.ensures (ap graph_of c.as_slice.ensures.value);
}

pub returns : goal.returns
returns c =
    let trees = map (decl_tree c.args.symbols.now) c.args.declarations.now in
    IfOk-weaker c.reaching.result _ _
    (λ found is. is ∙ holders_are trees
    (holdings_built trees c.requires.spaces c.in_ok-graph.ensures (ap graph_of c.as_slice.ensures.value))
    (c.as_slice-2.ensures.value ∙ c.in_ok-interfaces.ensures c.args.symbols.now))
    c.reaching.ensures
