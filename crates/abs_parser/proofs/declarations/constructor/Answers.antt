use Rattle.std.proofs.Common.{refl, arith}
use Rattle.abs_tree.specs.declared.syntax.declaration.Constructor.{Constructor as CodeConstructor}
use Rattle.abs_parser.specs.TokenKinds.{UpperName}
use Rattle.abs_parser.specs.Productions.{Constructor}
use Rattle.abs_parser.specs.Readings.{One}
use Rattle.abs_parser.specs.Views.{spot}
use Rattle.abs_parser.proofs.reader.DeclarationSteps.{constructor_opened, constructor_shut, constructor_named, constructor_found}
use Rattle.abs_parser.proofs.reader.ResultLemmas.{passed_on}
use Rattle.abs_parser.proofs.reader.StepLemmas.{refused_inside, refused_first_token}
use Rattle.abs_parser.proofs.declarations.constructor.Goals as goal

pub returns-in_err-name : goal.returns-in_err-name
returns-in_err-name c =
    passed_on _ _ c.from_residual.result c.from_residual.ensures.1
    (refused_first_token UpperName 0 (One Constructor) 0 (spot c.args.from) _ (constructor_opened _ 0)
    (constructor_shut _ 0) c.in_err-name.ensures.refused)

pub returns-in_err-types : goal.returns-in_err-types
returns-in_err-types c =
    passed_on _ _ c.from_residual-in_err-types.result c.from_residual-in_err-types.ensures.1
    (refused_inside (constructor_named c.in_ok-name.ensures.found c.in_ok-name-2.ensures.names (omega arith)) _
    c.in_err-types.ensures)

pub returns : goal.returns
returns c =
    let constructor : CodeConstructor =
    record {
      name = record { place = c.in_ok-name.name.place; name = c.in_ok-name-2.name };
      types =
          c.in_ok-types.types;
    } in
    constructor_found constructor refl c.in_ok-name.ensures.found c.in_ok-name-2.ensures.symbol
    c.in_ok-name-2.ensures.names c.in_ok-types.ensures (omega arith)
