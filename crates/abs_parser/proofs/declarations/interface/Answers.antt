use Rattle.std.proofs.Common.{◌∙◌, arith, sym}
use Rattle.abs_parser.specs.Productions.{Decl}
use Rattle.abs_parser.specs.Readings.{One}
use Rattle.abs_parser.specs.Views.{spot}
use Rattle.abs_parser.proofs.grammar.FirstPlaceLemmas.{found_fewer}
use Rattle.abs_parser.proofs.reader.KeywordSteps.{keyword_read, keyword_refused}
use Rattle.abs_parser.proofs.reader.DeclarationSteps.{heading_read, refused_part, refused_closing, all_parts}
use Rattle.abs_parser.proofs.reader.SignatureSteps.{signatures_of, interface_opened, first_signature, next_signature}
use Rattle.abs_parser.proofs.reader.ResultLemmas.{passed_on}
use Rattle.abs_parser.proofs.reader.FoundLemmas.{found_weaker}
use Rattle.abs_parser.proofs.reader.StepLemmas.{over_part, refused_inside}
use Rattle.abs_parser.proofs.declarations.interface.Goals as goal

pub returns-in_err-token-clause-parses : goal.returns-in_err-token-clause-parses
returns-in_err-token-clause-parses c =
    passed_on _ _ c.from_residual.result c.from_residual.ensures.1
    (keyword_refused (One Decl) 0 (spot c.args.from) _ (interface_opened 0) c.requires.begins
    c.in_err-token.ensures.refused)

pub returns-in_err-name-clause-parses : goal.returns-in_err-name-clause-parses
returns-in_err-name-clause-parses c =
    passed_on _ _ c.from_residual-in_err-name.result c.from_residual-in_err-name.ensures.1
    (refused_inside (keyword_read 0 c.args.symbols.now (interface_opened 0) c.in_ok-token.ensures.found (omega arith)) _
    c.in_err-name.ensures.refused)

pub returns-in_err-extended-clause-parses : goal.returns-in_err-extended-clause-parses
returns-in_err-extended-clause-parses c =
    let named = heading_read (interface_opened 0) c.in_ok-token.ensures.found c.in_ok-name.ensures.found
    c.in_ok-intern.ensures.names (omega arith) in
    passed_on _ _ c.from_residual-in_err-extended.result c.from_residual-in_err-extended.ensures.1
    (refused_inside named _ c.in_err-extended.ensures)

pub returns-in_err-here-clause-parses : goal.returns-in_err-here-clause-parses
returns-in_err-here-clause-parses c =
    let named = heading_read (interface_opened 0) c.in_ok-token.ensures.found c.in_ok-name.ensures.found
    c.in_ok-intern.ensures.names (omega arith) in
    passed_on _ _ c.from_residual-in_err-here.result c.from_residual-in_err-here.ensures.1
    (refused_inside (over_part named c.in_ok-extended.ensures) _ c.in_err-here.ensures.refused)

pub loop-alloc-init : goal.loop-alloc-init
loop-alloc-init c =
    record {
      read = first_signature c.in_ok-intern.field-0 c.in_ok-extended.extended.items c.new-signatures.ensures.items
          c.in_ok-token.ensures.found c.in_ok-name.ensures.found c.in_ok-intern.ensures.symbol
          c.in_ok-intern.ensures.names c.in_ok-extended.ensures c.in_ok-here.ensures.found (omega arith);
    }

pub signature-requires : goal.signature-requires
signature-requires c =
    let few = c.loop-alloc.invariant.read.read.few in
    omega arith

pub returns-in_err-next-clause-parses : goal.returns-in_err-next-clause-parses
returns-in_err-next-clause-parses c =
    passed_on _ _ c.from_residual-in_err-next.result c.from_residual-in_err-next.ensures.1
    (refused_part _ c.loop-alloc.invariant.read (sym c.is.ensures ∙ c.loop-alloc-test.true) c.in_err-next.ensures)

pub loop-alloc-smaller : goal.loop-alloc-smaller
loop-alloc-smaller c =
    let shorter = found_fewer c.in_ok-next.ensures in
    omega arith

pub loop-alloc-preserved : goal.loop-alloc-preserved
loop-alloc-preserved c =
    record {
      read = next_signature c.in_ok-next.next c.in_ok-push.ensures.items c.loop-alloc.invariant.read
          c.in_ok-next.ensures;
    }

pub returns-in_err-end-clause-parses : goal.returns-in_err-end-clause-parses
returns-in_err-end-clause-parses c =
    passed_on _ _ c.from_residual-in_err-end.result c.from_residual-in_err-end.ensures.1
    (refused_closing _ c.loop-alloc.invariant.read
    (signatures_of.closing_ends _ (sym c.is.ensures ∙ c.loop-alloc-test.false)) c.in_err-end.ensures.refused)

pub returns-clause-parses : goal.returns-clause-parses
returns-clause-parses c =
    found_weaker (all_parts c.loop-alloc.invariant.read c.in_ok-end.ensures.found (omega arith))
    (λ names more read index. read index tt)
