use Rattle.std.proofs.Common.{◌∙◌, map, sym, ap}
use Rattle.std.proofs.lemmas.Result.{IfOk-weaker}
use Rattle.abs_values.specs.Results.{AllGive, result_tree}
use Rattle.abs_program.specs.NamedViews.{program_tree}
use Rattle.abs_values.specs.ValueViews.{value_tree}
use Rattle.step_rules.specs.InputViews.{input_tree}
use Rattle.show_run.proofs.OutputLemmas.{only, output_of_one, output_of_rows}
use Rattle.show_run.proofs.inputs.output_for.Goals as goal

-- a single expression gives a value
pub returns-in_ok-vec-in-Good : goal.returns-in_ok-vec-in-Good
returns-in_ok-vec-in-Good c =
    let names = c.args.program.now.symbols in
    ap AllGive (c.new.ensures ∙ ap (map value_tree) c.in_ok-vec-in-Good.ensures.items)
    ∙ ap (λ found. only (result_tree found)) (sym c.in-Good.is)
    ∙ output_of_one (program_tree c.args.program.now) (input_tree names c.args.input.now) names
    c.as_slice-exprs.result.now c.as_slice-inits.result.now c.expr-item.result c.in-len1.len_at_least
    c.in-len1.len_below c.expr-item.is c.if-is_empty.ensures (c.as_slice-exprs.ensures names)
    (c.as_slice-inits.ensures names) c.in_ok-value-in-len1.field-0 c.in_ok-value-in-len1.ensures

-- or a fault
pub returns-in-Bad : goal.returns-in-Bad
returns-in-Bad c =
    let names = c.args.program.now.symbols in
    ap (λ found. only (result_tree found)) (sym c.in-Bad.is)
    ∙ output_of_one (program_tree c.args.program.now) (input_tree names c.args.input.now) names
    c.as_slice-exprs.result.now c.as_slice-inits.result.now c.expr-item.result c.in-len1.len_at_least
    c.in-len1.len_below c.expr-item.is c.if-is_empty.ensures (c.as_slice-exprs.ensures names)
    (c.as_slice-inits.ensures names) c.in_ok-value-in-len1.field-0 c.in_ok-value-in-len1.ensures

-- any other input has its own list
pub returns-in_default : goal.returns-in_default
returns-in_default c =
    let names = c.args.program.now.symbols in
    IfOk-weaker c.eval_all.result _ _ (λ output is. is
    ∙ output_of_rows (program_tree c.args.program.now) (input_tree names c.args.input.now) _ _
    (c.as_slice-exprs.ensures names) (c.as_slice-inits.ensures names)) c.eval_all.ensures
