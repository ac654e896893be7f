use Rattle.std.proofs.Common.{refl, map, arith}
use Rattle.abs_tree.specs.SyntaxViews.{declared as declared_tree}
use Rattle.abs_parser.specs.Views.{spot}
use Rattle.abs_parser.proofs.reader.NameListSteps.{HeadsNames, extends_names, implements_names, no_names_found, names_begin, names_read}
use Rattle.abs_parser.proofs.reader.ResultLemmas.{parses_further, passed_on}
use Rattle.abs_parser.proofs.reader.StepLemmas.{over_name, all_read, refused_inside}
use Rattle.abs_parser.proofs.names.interface_names.Goals.{in-Extends, in-Implements}
use Rattle.abs_parser.proofs.names.interface_names.Goals as goal

pub returns-in_default : goal.returns-in_default
returns-in_default c =
    let so : HeadsNames c.args.heading c.match-heading.keyword =
    elim c.match-heading.branch [
      | in-Extends w ↦ extends_names w.in-Extends.is w.keyword-is
      | in-Implements w ↦
          implements_names w.in-Implements.is w.keyword-is
    ] in
    no_names_found 0 c.args.symbols.now (spot c.args.from) so c.in_default.ensures.other c.new.ensures.items

pub returns-in_err-name : goal.returns-in_err-name
returns-in_err-name c =
    let so : HeadsNames c.args.heading c.match-heading.keyword =
    elim c.match-heading.branch [
      | in-Extends w ↦ extends_names w.in-Extends.is w.keyword-is
      | in-Implements w ↦
          implements_names w.in-Implements.is w.keyword-is
    ] in
    passed_on _ _ c.from_residual.result c.from_residual.ensures.1
    (refused_inside (names_begin 0 c.args.symbols.now so c.in-Some.ensures.found (omega arith)) _
    c.in_err-name.ensures.refused)

pub returns : goal.returns
returns c =
    let so : HeadsNames c.args.heading c.match-heading.keyword =
    elim c.match-heading.branch [
      | in-Extends w ↦ extends_names w.in-Extends.is w.keyword-is
      | in-Implements w ↦
          implements_names w.in-Implements.is w.keyword-is
    ] in
    parses_further _ _ c.more_names.result (λ found others.
    let read = names_read c.in_ok-intern.field-0 (λ names. map (declared_tree names) found.0.items) so
    c.in-Some.ensures.found c.in_ok-name.ensures.found c.in_ok-intern.ensures.symbol c.in_ok-intern.ensures.names
    (omega arith)
    others in
    all_read read.read (λ names more. read.is names more _)) (λ error refused.
    refused_inside (over_name (names_begin 0 c.args.symbols.now so c.in-Some.ensures.found (omega arith))
    c.in_ok-name.ensures.found refl refl (omega arith) c.in_ok-intern.ensures.names) error refused)
    c.more_names.ensures
