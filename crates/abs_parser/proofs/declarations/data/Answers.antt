use Rattle.std.proofs.Common.{◌∙◌, arith}
use Rattle.abs_parser.specs.Productions.{Decl}
use Rattle.abs_parser.specs.Readings.{One}
use Rattle.abs_parser.specs.Views.{spot}
use Rattle.abs_parser.proofs.reader.KeywordSteps.{keyword_read, keyword_refused}
use Rattle.abs_parser.proofs.reader.DeclarationSteps.{heading_read, data_opened, data_assigned, first_constructor, next_constructor, next_constructor_begins, refused_constructor, refused_closing, all_parts}
use Rattle.abs_parser.proofs.reader.ResultLemmas.{passed_on}
use Rattle.abs_parser.proofs.reader.FoundLemmas.{found_weaker, token_shorter, found_shorter}
use Rattle.abs_parser.proofs.reader.StepLemmas.{over_part, refused_inside}
use Rattle.abs_parser.proofs.declarations.data.Goals as goal

pub returns-in_err-token-clause-parses : goal.returns-in_err-token-clause-parses
returns-in_err-token-clause-parses c =
    passed_on _ _ c.from_residual.result c.from_residual.ensures.1
    (keyword_refused (One Decl) 0 (spot c.args.from) _ (data_opened 0) c.requires.begins c.in_err-token.ensures.refused)

pub returns-in_err-name-clause-parses : goal.returns-in_err-name-clause-parses
returns-in_err-name-clause-parses c =
    passed_on _ _ c.from_residual-in_err-name.result c.from_residual-in_err-name.ensures.1
    (refused_inside (keyword_read 0 c.args.symbols.now (data_opened 0) c.in_ok-token.ensures.found (omega arith)) _
    c.in_err-name.ensures.refused)

pub returns-in_err-parameters-clause-parses : goal.returns-in_err-parameters-clause-parses
returns-in_err-parameters-clause-parses c =
    let named = heading_read (data_opened 0) c.in_ok-token.ensures.found c.in_ok-name.ensures.found
    c.in_ok-intern.ensures.names (omega arith) in
    passed_on _ _ c.from_residual-in_err-parameters.result c.from_residual-in_err-parameters.ensures.1
    (refused_inside named _ c.in_err-parameters.ensures)

pub returns-in_err-first_at-clause-parses : goal.returns-in_err-first_at-clause-parses
returns-in_err-first_at-clause-parses c =
    let named = heading_read (data_opened 0) c.in_ok-token.ensures.found c.in_ok-name.ensures.found
    c.in_ok-intern.ensures.names (omega arith) in
    passed_on _ _ c.from_residual-in_err-first_at.result c.from_residual-in_err-first_at.ensures.1
    (refused_inside (over_part named c.in_ok-parameters.ensures) _ c.in_err-first_at.ensures.refused)

pub constructor-requires : goal.constructor-requires
constructor-requires c =
    let assigned = data_assigned c.in_ok-token.ensures.found c.in_ok-name.ensures.found c.in_ok-intern.ensures.names
    c.in_ok-parameters.ensures c.in_ok-first_at.ensures.found (omega arith) in
    let few = assigned.few in
    omega arith

pub returns-in_err-first-clause-parses : goal.returns-in_err-first-clause-parses
returns-in_err-first-clause-parses c =
    let assigned = data_assigned c.in_ok-token.ensures.found c.in_ok-name.ensures.found c.in_ok-intern.ensures.names
    c.in_ok-parameters.ensures c.in_ok-first_at.ensures.found (omega arith) in
    passed_on _ _ c.from_residual-in_err-first.result c.from_residual-in_err-first.ensures.1
    (refused_inside assigned _ c.in_err-first.ensures)

pub loop-next_at-init : goal.loop-next_at-init
loop-next_at-init c =
    record {
      read = first_constructor c.in_ok-intern.field-0 c.in_ok-parameters.parameters.items c.in_ok-first.first
          c.in_ok-constructors.ensures.items c.in_ok-token.ensures.found c.in_ok-name.ensures.found
          c.in_ok-intern.ensures.symbol c.in_ok-intern.ensures.names c.in_ok-parameters.ensures
          c.in_ok-first_at.ensures.found c.in_ok-first.ensures (omega arith);
    }

pub constructor-requires-in-Some : goal.constructor-requires-in-Some
constructor-requires-in-Some c =
    let few = c.loop-next_at.invariant.read.read.few in
    let bar = token_shorter c.in-Some.ensures.found.takes in
    omega arith

pub returns-in_err-next-clause-parses : goal.returns-in_err-next-clause-parses
returns-in_err-next-clause-parses c =
    passed_on _ _ c.from_residual-in_err-next.result c.from_residual-in_err-next.ensures.1
    (refused_constructor _ c.loop-next_at.invariant.read c.in-Some.ensures.found (omega arith) c.in_err-next.ensures)

pub loop-next_at-smaller : goal.loop-next_at-smaller
loop-next_at-smaller c =
    let bar = token_shorter c.in-Some.ensures.found.takes in
    let constructor = found_shorter c.in_ok-next.ensures in
    omega arith

pub loop-next_at-preserved : goal.loop-next_at-preserved
loop-next_at-preserved c =
    record {
      read = next_constructor c.in_ok-next.next c.in_ok-push.ensures.items c.loop-next_at.invariant.read
          c.in-Some.ensures.found c.in_ok-next.ensures (omega arith);
    }

pub returns-in_err-end-clause-parses : goal.returns-in_err-end-clause-parses
returns-in_err-end-clause-parses c =
    passed_on _ _ c.from_residual-in_err-end.result c.from_residual-in_err-end.ensures.1
    (refused_closing _ c.loop-next_at.invariant.read (next_constructor_begins _ ∙ c.in_default.ensures.other)
    c.in_err-end.ensures.refused)

pub returns-clause-parses : goal.returns-clause-parses
returns-clause-parses c =
    found_weaker (all_parts c.loop-next_at.invariant.read c.in_ok-end.ensures.found (omega arith))
    (λ names more read index. read index tt)
