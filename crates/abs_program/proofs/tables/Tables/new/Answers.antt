use Rattle.std.proofs.Common.{◌∙◌, ap, map}
use Rattle.abs_graph.specs.Views.{graph_of}
use Rattle.abs_program.proofs.EdgeLemmas.{supertypes_built, supertypes_have_nodes}
use Rattle.abs_tree.specs.SyntaxViews.{decl_tree}
use Rattle.abs_program.proofs.tables.Tables.new.Goals as goal

pub closure_of-requires-clause-nodes : goal.closure_of-requires-clause-nodes
closure_of-requires-clause-nodes c =
    supertypes_have_nodes (map (decl_tree c.args.symbols.now) c.args.declarations.now) c.requires.spaces
    c.in_ok-graph.ensures (ap graph_of c.as_slice.ensures.value)

pub returns : goal.returns
returns c =
    record {
      spaces = c.requires.spaces;
      proper = c.requires.proper;
      supertypes_are =
          supertypes_built (map (decl_tree c.args.symbols.now) c.args.declarations.now) c.requires.spaces
          c.in_ok-graph.ensures (c.in_ok-closure_of.ensures ∙ ap graph_of c.as_slice.ensures.value);
      holders_are = c.in_ok-holders.ensures;
      methods_are = c.in_ok-new.ensures;
      signatures_are = c.in_ok-new-2.ensures;
      fields_are = c.in_ok-new-3.ensures c.args.symbols.now;
      control_is = c.in_ok-new-4.ensures;
    }
