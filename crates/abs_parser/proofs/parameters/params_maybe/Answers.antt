use Rattle.std.proofs.Common.{◌∙◌, ap, sym, map}
use Rattle.abs_tree.specs.SyntaxViews.{param_tree}
use Rattle.abs_parser.specs.Productions.{Params}
use Rattle.abs_parser.specs.Readings.{Optional}
use Rattle.abs_parser.specs.TreesOf.{params_maybe}
use Rattle.abs_parser.specs.Views.{spot}
use Rattle.abs_parser.proofs.reader.ListSteps.{maybe_found}
use Rattle.abs_parser.proofs.reader.ParameterSteps.{list_of_params, params_begin}
use Rattle.abs_parser.proofs.reader.ResultLemmas.{parses_further}
use Rattle.abs_parser.proofs.reader.FoundLemmas.{found_weaker}
use Rattle.abs_parser.proofs.reader.StepLemmas.{opens, all_read, refused_inside}
use Rattle.abs_parser.proofs.grammar.NonterminalLemmas.{optional_opened, optional_left_out}
use Rattle.abs_parser.proofs.parameters.params_maybe.Goals as goal

pub returns-then-not-is : goal.returns-then-not-is
returns-then-not-is c =
    all_read (opens (Optional Params) 0 c.args.symbols.now (spot c.args.from) _
    (optional_left_out Params _ 0 (params_begin _ ∙ (sym c.is.ensures ∙ c.if-not-is.true))))
    (λ names more. ap (map (param_tree names)) c.new.ensures.items)

pub returns : goal.returns
returns c =
    parses_further _ _ c.params.result
    (λ found read. found_weaker (maybe_found list_of_params read)
    (λ names more is. read.is names more ∙ sym (ap params_maybe is))) (λ error refused.
    refused_inside (opens (Optional Params) 0 c.args.symbols.now (spot c.args.from) _
    (optional_opened Params _ 0 (params_begin _ ∙ (sym c.is.ensures ∙ c.if-not-is.false)))) error refused)
    c.params.ensures
