use Rattle.std.proofs.Common.{◌∙◌, arith, refl, sym}
use Rattle.abs_parser.specs.Productions.{Decl}
use Rattle.abs_parser.specs.Readings.{One}
use Rattle.abs_parser.specs.Views.{spot}
use Rattle.abs_parser.proofs.grammar.FirstPlaceLemmas.{found_fewer}
use Rattle.abs_parser.proofs.reader.ClassSteps.{members_of, class_opened, class_begun, first_member, next_member, next_member_free}
use Rattle.abs_parser.proofs.reader.KeywordSteps.{keyword_read, keyword_refused}
use Rattle.abs_parser.proofs.reader.DeclarationSteps.{heading_read, refused_part, refused_closing, all_parts}
use Rattle.abs_parser.proofs.reader.ResultLemmas.{passed_on}
use Rattle.abs_parser.proofs.reader.FoundLemmas.{found_weaker}
use Rattle.abs_parser.proofs.reader.StepLemmas.{over_part, refused_inside}
use Rattle.abs_parser.proofs.classes.class.Goals as goal

pub returns-in_err-token-clause-parses : goal.returns-in_err-token-clause-parses
returns-in_err-token-clause-parses c =
    passed_on _ _ c.from_residual.result c.from_residual.ensures.1
    (keyword_refused (One Decl) 0 (spot c.args.from) _ (class_opened 0) c.requires.begins
    c.in_err-token.ensures.refused)

pub returns-in_err-name-clause-parses : goal.returns-in_err-name-clause-parses
returns-in_err-name-clause-parses c =
    let token = keyword_read 0 c.args.symbols.now (class_opened 0) c.in_ok-token.ensures.found (omega arith) in
    passed_on _ _ c.from_residual-in_err-name.result c.from_residual-in_err-name.ensures.1
    (refused_inside token _ c.in_err-name.ensures.refused)

pub returns-in_err-params-clause-parses : goal.returns-in_err-params-clause-parses
returns-in_err-params-clause-parses c =
    let named = heading_read (class_opened 0) c.in_ok-token.ensures.found c.in_ok-name.ensures.found
    c.in_ok-intern.ensures.names (omega arith) in
    passed_on _ _ c.from_residual-in_err-params.result c.from_residual-in_err-params.ensures.1
    (refused_inside named _ c.in_err-params.ensures)

pub interface_names-requires : goal.interface_names-requires
interface_names-requires c =
    let few = (class_begun c.in_ok-token.ensures.found c.in_ok-name.ensures.found c.in_ok-intern.ensures.names
    c.in_ok-params.ensures (omega arith)).few in
    record { names = omega arith }

pub returns-in_err-implemented-clause-parses : goal.returns-in_err-implemented-clause-parses
returns-in_err-implemented-clause-parses c =
    let begun = class_begun c.in_ok-token.ensures.found c.in_ok-name.ensures.found c.in_ok-intern.ensures.names
    c.in_ok-params.ensures (omega arith) in
    passed_on _ _ c.from_residual-in_err-implemented.result c.from_residual-in_err-implemented.ensures.1
    (refused_inside begun _ c.in_err-implemented.ensures)

pub returns-in_err-here-clause-parses : goal.returns-in_err-here-clause-parses
returns-in_err-here-clause-parses c =
    let begun = class_begun c.in_ok-token.ensures.found c.in_ok-name.ensures.found c.in_ok-intern.ensures.names
    c.in_ok-params.ensures (omega arith) in
    passed_on _ _ c.from_residual-in_err-here.result c.from_residual-in_err-here.ensures.1
    (refused_inside (over_part begun c.in_ok-implemented.ensures) _ c.in_err-here.ensures.refused)

pub loop-alloc-init : goal.loop-alloc-init
loop-alloc-init c =
    let read = first_member c.args.index c.in_ok-intern.field-0 c.in_ok-params.params.items
    c.in_ok-implemented.implemented.items c.new-members.ensures.items c.in_ok-token.ensures.found
    c.in_ok-name.ensures.found c.in_ok-intern.ensures.symbol c.in_ok-intern.ensures.names c.in_ok-params.ensures
    c.in_ok-implemented.ensures c.in_ok-here.ensures.found (omega arith) in
    let shorter = read.read.shorter in
    record {
      read = read;
      free = λ names. rw c.new-members.ensures.items (omega arith);
      few = omega arith;
    }

pub member-requires-clause-names : goal.member-requires-clause-names
member-requires-clause-names c =
    let few = c.loop-alloc.invariant.read.read.few in
    omega arith

pub returns-in_err-next-clause-parses : goal.returns-in_err-next-clause-parses
returns-in_err-next-clause-parses c =
    passed_on _ _ c.from_residual-in_err-next.result c.from_residual-in_err-next.ensures.1
    (refused_part _ c.loop-alloc.invariant.read (sym c.is.ensures ∙ c.loop-alloc-test.true)
    c.in_err-next.ensures.parses)

pub loop-alloc-smaller : goal.loop-alloc-smaller
loop-alloc-smaller c =
    let shorter = found_fewer c.in_ok-next.ensures.parses in
    omega arith

pub loop-alloc-preserved : goal.loop-alloc-preserved
loop-alloc-preserved c =
    let few = c.in_ok-next.ensures.few in
    let before = c.loop-alloc.invariant.few in
    record {
      read = next_member c.in_ok-next.next c.in_ok-push.ensures.items c.loop-alloc.invariant.read
          c.loop-alloc.invariant.free c.in_ok-next.ensures.parses;
      free = next_member_free c.args.index c.loop-alloc.members.items c.in_ok-next.next c.in_ok-push.ensures.items
          c.loop-alloc.invariant.free c.in_ok-next.ensures.free;
      few = omega arith;
    }

pub returns-in_err-end-clause-parses : goal.returns-in_err-end-clause-parses
returns-in_err-end-clause-parses c =
    passed_on _ _ c.from_residual-in_err-end.result c.from_residual-in_err-end.ensures.1
    (refused_closing _ c.loop-alloc.invariant.read
    (members_of.closing_ends _ (sym c.is.ensures ∙ c.loop-alloc-test.false)) c.in_err-end.ensures.refused)

pub returns-clause-parses : goal.returns-clause-parses
returns-clause-parses c =
    found_weaker (all_parts c.loop-alloc.invariant.read c.in_ok-end.ensures.found (omega arith))
    (λ names more read. read c.args.index refl)

pub returns-clause-free : goal.returns-clause-free
returns-clause-free c names = omega (arith, c.loop-alloc.invariant.free names)
