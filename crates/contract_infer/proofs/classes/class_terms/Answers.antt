use denote.Ref.{Bor}
use Rattle.std.proofs.Common.{◌≡◌, ◌∙◌, List, Some, map, refl, sym, ap, subst}
use Rattle.std.specs.declared.alloc.Global.{Global}
use Rattle.std.specs.declared.vec.Vec.{Vec}
use Rattle.abs_program.specs.Bodies.{class_entry}
use Rattle.abs_program.specs.InstructionViews.{class_entry_tree, shared_expr_trees}
use Rattle.abs_program.specs.NamedViews.{named_tree}
use Rattle.abs_program.specs.declared.named.Named.{Named}
use Rattle.abs_graph.specs.Graphs.{HasNodes, reaches}
use Rattle.abs_graph.specs.Views.{graph_of}
use Rattle.abs_tree.specs.Names.{name_of}
use Rattle.abs_tree.specs.Syntax.{ExprTrees}
use Rattle.abs_tree.specs.SyntaxViews.{member_tree, param_tree}
use Rattle.abs_types.proofs.KeepLemmas.{keeps_transitive}
use Rattle.contract_infer.proofs.ClassTermLemmas.{class_methods, initials_are}
use Rattle.contract_infer.proofs.GatheringLemmas.{calls_have_nodes, class_gathered}
use Rattle.contract_infer.specs.BodyViews.{names_of, source_of}
use Rattle.contract_terms.specs.Reading.{AreReads}
use Rattle.contract_terms.specs.Views.{accepts_tree, reads_tree}
use Rattle.contract_infer.proofs.classes.class_terms.Goals as goal

pub reach_of_calls-requires : goal.reach_of_calls-requires
reach_of_calls-requires c =
    let names = names_of c.args.checker.now in
    let source = source_of c.args.checker.now in
    let name = name_of names c.args.name in
    let params = map (param_tree names) c.args.params.now in
    let methods = class_methods c.args.checker.now c.enter_class.new.checker c.args.class c.args.first name params
    c.args.members.now c.in_ok-fields.fields.items c.in_ok-methods.methods c.in_ok-fields.ensures.keeps.program_is
    c.requires.there c.requires.start c.in_ok-fields.ensures.inside c.in_ok-fields.ensures.fields
    (λ one its there inside fields start. c.in_ok-methods.ensures.found one its there inside
    (ap (map (accepts_tree (names_of c.enter_class.new.checker))) c.as_slice.ensures.value ∙ fields) start) in
    subst (λ (rows : List (Vec _ Global)). HasNodes (graph_of rows)) (sym c.as_slice-2.ensures.value)
    (calls_have_nodes source names c.args.class name params (map (member_tree names) c.args.members.now) c.requires.there
    c.in_ok-methods.methods methods)

pub returns-clause-found : goal.returns-clause-found
returns-clause-found c =
    let names = names_of c.args.checker.now in
    let source = source_of c.args.checker.now in
    let name = name_of names c.args.name in
    let params = map (param_tree names) c.args.params.now in
    let members = map (member_tree names) c.args.members.now in
    let methods = class_methods c.args.checker.now c.enter_class.new.checker c.args.class c.args.first name params
    c.args.members.now c.in_ok-fields.fields.items c.in_ok-methods.methods c.in_ok-fields.ensures.keeps.program_is
    c.requires.there c.requires.start c.in_ok-fields.ensures.inside c.in_ok-fields.ensures.fields
    (λ one its there inside fields start. c.in_ok-methods.ensures.found one its there inside
    (ap (map (accepts_tree (names_of c.enter_class.new.checker))) c.as_slice.ensures.value ∙ fields) start) in
    let same = c.in_ok-methods.ensures.keeps.program_is ∙ c.in_ok-fields.ensures.keeps.program_is in
    let entry = subst (λ (program : Bor Named). Some (class_entry_tree program.now.symbols c.in-Some.entry.now)
    ≡ class_entry (named_tree program.now).declarations c.args.class) same c.in-Some.ensures in
    let initials = initials_are source c.args.class name params members (class_entry_tree names c.in-Some.entry.now)
    c.requires.there entry in
    class_gathered source names c.args.class name params members c.requires.there c.in_ok-methods.methods methods _
    c.in_ok-fields.ensures.fields
    (subst (λ (expr_trees : ExprTrees). AreReads expr_trees (map reads_tree c.in_ok-initials.initials.items)) initials
    (subst (λ list. AreReads (shared_expr_trees names list) (map reads_tree c.in_ok-initials.initials.items))
    (c.as_slice-3.ensures.value ∙ ap (λ (list : Vec _ Global). list.items) c.deref.ensures)
    (c.in_ok-initials.ensures names)))
    refl (λ one other. c.in_ok-calls.ensures one other
    ∙ ap (λ (rows : List (Vec _ Global)). reaches (graph_of rows) one other) c.as_slice-2.ensures.value)

pub returns-clause-keeps : goal.returns-clause-keeps
returns-clause-keeps c = keeps_transitive c.in_ok-fields.ensures.keeps c.in_ok-methods.ensures.keeps
