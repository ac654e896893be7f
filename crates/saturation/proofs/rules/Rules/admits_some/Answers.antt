use Rattle.std.proofs.Common.{◌∙◌, ap, sym, rules, tests}
use Rattle.std.specs.List.{list_any}
use Rattle.std.proofs.lemmas.Iterator.{YieldsList-from_slice}
use Rattle.std.proofs.lemmas.Iterator.Search.{any_from_yields_List}
use Rattle.abs_tree.specs.Names.{name_of}
use Rattle.contract_terms.specs.Atoms.{is_admitted}
use Rattle.contract_terms.specs.Views.{objects_tree}
use Rattle.list_facts.proofs.MapLemmas.{list_any-map}
use Rattle.saturation.specs.RuleViews.{names_of, program_of}
use Rattle.saturation.proofs.rules.Rules.admits_some.Goals as goal

pub returns : goal.returns
returns c =
    let names = names_of c.args.self.now in
    let admitted = is_admitted (program_of c.args.self.now).source.declarations (objects_tree names c.args.objects) in
    any_from_yields_List (λ class. admitted (name_of names class)) _ _ c.any.result c.any.ensures.ran
    (YieldsList-from_slice c.classes_made-classes.result.now cc) (λ x b q k. search (rules, tests))
    ∙ sym (list_any-map (name_of names) admitted c.classes_made-classes.result.now)
    ∙ ap (list_any admitted) (c.classes_made-classes.ensures names ∙ c.args.self.now.made c.args.place)
