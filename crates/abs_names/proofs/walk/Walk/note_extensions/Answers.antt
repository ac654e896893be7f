use Rattle.std.proofs.Common.{◌∙◌, List, Bool, ap, fold, map}
use Rattle.abs_graph.specs.Graphs.{on_cycles}
use Rattle.abs_graph.specs.Views.{graph_of}
use Rattle.abs_tree.specs.Offences.{earlier}
use Rattle.abs_tree.specs.SyntaxViews.{decl_tree}
use Rattle.abs_program.proofs.EdgeLemmas.{supertypes_built, supertypes_have_nodes}
use Rattle.abs_names.specs.Extension.{extension_offences}
use Rattle.abs_names.proofs.ExtensionLemmas.{supertypes_of_walk}
use Rattle.abs_names.proofs.walk.Walk.note_extensions.Goals as goal

pub on_cycles-requires : goal.on_cycles-requires
on_cycles-requires c =
    supertypes_have_nodes (map (decl_tree c.args.self.now.scope.names.after) c.args.declarations.now) c.requires
    (supertypes_of_walk c.args.declarations.now c.around.ensures.names c.around.ensures.around
    c.in_ok-graph.ensures) (ap graph_of c.as_slice.ensures.value)

pub returns-clause-noted : goal.returns-clause-noted
returns-clause-noted c =
    let names = c.args.self.now.scope.names.after in
    let trees = map (decl_tree names) c.args.declarations.now in
    let graph = supertypes_built trees c.requires
    (supertypes_of_walk c.args.declarations.now c.around.ensures.names c.around.ensures.around
    c.in_ok-graph.ensures) (ap graph_of c.as_slice.ensures.value) in
    c.note_cycles.ensures.noted names
    ∙ ap (λ (cycles : List Bool). fold earlier c.args.self.now.first (extension_offences cycles trees))
    (c.as_slice-2.ensures.value ∙ (c.in_ok-cycles.ensures ∙ ap on_cycles graph))
