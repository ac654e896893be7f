use Rattle.std.proofs.Common.{Some, None, ◌∙◌}
use Rattle.abs_tree.specs.Names.{name_of}
use Rattle.abs_program.specs.NamedViews.{program_tree}
use Rattle.step_rules.proofs.LookupLemmas.{found_method}
use Rattle.step_rules.proofs.lookups.method.Goals as goal

pub returns-in_err-method : goal.returns-in_err-method
returns-in_err-method c =
    let names = c.args.program.now.symbols in
    c.from_residual-in_err-method.ensures ∙ found_method (program_tree c.args.program.now) (name_of names c.args.class)
    (name_of names c.args.method) c.in_ok-class.field-0 None c.in_ok-class.ensures c.in_err-method.ensures

pub returns : goal.returns
returns c =
    let names = c.args.program.now.symbols in
    c.body.ensures ∙ found_method (program_tree c.args.program.now) (name_of names c.args.class)
    (name_of names c.args.method) c.in_ok-class.field-0 (Some c.in_ok-method.field-0) c.in_ok-class.ensures
    c.in_ok-method.ensures
