use denote.Ref.{Bor}
use Rattle.std.proofs.Common.{◌∙◌, List, map, refl, ap, subst}
use Rattle.abs_program.specs.declared.named.Named.{Named}
use Rattle.abs_tree.specs.Names.{name_of}
use Rattle.abs_tree.specs.SyntaxViews.{member_tree, param_tree}
use Rattle.abs_tree.specs.declared.syntax.types.TypeTerm.{TypeTerm}
use Rattle.abs_types.proofs.KeepLemmas.{keeps_transitive}
use Rattle.abs_types.specs.PlainTypes.{plain}
use Rattle.check_fun.proofs.FoundLemmas.{keeps_same}
use Rattle.check_fun.specs.Contexts.{context_in}
use Rattle.contract_infer.proofs.ClassTermLemmas.{class_entered}
use Rattle.contract_infer.specs.BodyViews.{names_of, source_of}
use Rattle.contract_infer.specs.ClassViews.{IsInClass}
use Rattle.contract_infer.specs.DeclaredTypes.{type_trees_at}
use Rattle.contract_terms.specs.Accepts.{accepts_in}
use Rattle.contract_terms.specs.BodyContexts.{class_types}
use Rattle.contract_infer.proofs.classes.enter_class.Goals as goal

pub returns-clause-inside : goal.returns-clause-inside
unfolding context_in
returns-clause-inside c =
    let names = names_of c.args.checker.now in
    let types = class_types (map (param_tree names) c.args.params.now) (map (member_tree names) c.args.members.now) in
    let types_are = ap (λ (list : List (Bor TypeTerm)). type_trees_at names list) c.as_slice.ensures.value
    ∙ c.in_ok-types.ensures names in
    let found = c.in_ok-indices.ensures.found (context_in c.args.checker.now) (record { is = refl })
    ∙ ap (map plain) types_are in
    let entered = class_entered c.field_indices.new.checker c.enter_body.new.self c.new.result.items
    c.in_ok-indices.indices.items c.args.name types c.new.ensures.items found c.enter_body.ensures.knows in
    subst (λ (program : Bor Named). IsInClass c.enter_body.new.self (name_of program.now.symbols c.args.name) types)
    c.in_ok-indices.ensures.stays.keeps.program_is entered

pub returns-clause-fields : goal.returns-clause-fields
returns-clause-fields c =
    let names = names_of c.args.checker.now in
    c.in_ok-fields.ensures
    ∙ ap (map (accepts_in (source_of c.args.checker.now).declarations))
    (ap (λ (list : List (Bor TypeTerm)). type_trees_at names list) c.as_slice-2.ensures.value ∙ c.in_ok-types.ensures names)

pub returns-clause-keeps : goal.returns-clause-keeps
returns-clause-keeps c =
    keeps_transitive c.in_ok-indices.ensures.stays.keeps (keeps_same c.enter_body.ensures.table)
