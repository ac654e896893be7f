use Rattle.std.proofs.Common.{sym, arith}
use Rattle.abs_types.proofs.KeepLemmas.{keeps_reflexive, keeps_transitive}
use Rattle.abs_types.proofs.MetSoFarLemmas.{MetSoFar-next, heads_failed, argument_failed, next_among, next_below}
use Rattle.abs_types.proofs.MeetLemmas.{closed_met, future_bottom, future_future, future_other, open_bottom, open_other}
use Rattle.abs_types.proofs.OpenLemmas.{parameter_type, future_type, bottom_type, not_bottom, not_future}
use Rattle.abs_types.specs.TypeShapes.{type_at, types_at}
use Rattle.abs_types.specs.TypeTables.{declarations_of, types_in}
use Rattle.abs_types.proofs.table.TypeTable.+meeting.Goals as goal

pub meet-returns-then-not-branch-clause-met : goal.meet-returns-then-not-branch-clause-met
meet-returns-then-not-branch-clause-met t c =
    heads_failed (types_at (types_in c.args.self.now) c.args.met.now.items) c.in_ok-heads.ensures.are
    (rw c.if-not-branch.true at c.in_ok-meet_heads.ensures.met)

pub meet-meet-requires : goal.meet-meet-requires
meet-meet-requires t c =
    let among = next_among c.in-Some.pair c.pop.new.self.items c.loop-pair.invariant c.in-Some.ensures.items in
    let below = next_below c.in-Some.pair c.pop.new.self.items c.loop-pair.invariant c.in-Some.ensures.items in
    (omega arith, (among.0, (among.1, c.loop-pair.invariant.met_among)))

pub meet-returns-in_err-meet-clause-keeps : goal.meet-returns-in_err-meet-clause-keeps
meet-returns-in_err-meet-clause-keeps t c = keeps_transitive c.loop-pair.invariant.keeps c.meet.ensures.keeps

pub meet-returns-then-not-branch-2-clause-met : goal.meet-returns-then-not-branch-2-clause-met
meet-returns-then-not-branch-2-clause-met t c =
    argument_failed c.in-Some.pair c.pop.new.self.items c.loop-pair.invariant c.in-Some.ensures.items
    (rw c.if-not-branch-2.true at c.in_ok-meet.ensures.met)

pub meet-returns-then-not-branch-2-clause-keeps : goal.meet-returns-then-not-branch-2-clause-keeps
meet-returns-then-not-branch-2-clause-keeps t c = keeps_transitive c.loop-pair.invariant.keeps c.meet.ensures.keeps

pub meet-loop-pair-preserved : goal.meet-loop-pair-preserved
meet-loop-pair-preserved t c =
    MetSoFar-next c.in-Some.pair c.loop-pair.invariant c.in-Some.ensures.items c.meet.ensures.keeps c.meet.ensures.among
    (rw c.if-not-branch-2.false at c.in_ok-meet.ensures.met)

pub meet_heads-returns-then-not-has_parameter-clause-met : goal.meet_heads-returns-then-not-has_parameter-clause-met
meet_heads-returns-then-not-has_parameter-clause-met t c =
    closed_met (declarations_of c.args.self.now) (type_at (types_in c.args.self.now) c.args.heads.one)
    (type_at (types_in c.args.self.now) c.args.heads.other) (types_at (types_in c.args.self.now) c.args.met.now.items)
    (sym c.if-not-has_parameter.ensures) c.fits.ensures

pub meet_heads-returns-in-Parameter-clause-met : goal.meet_heads-returns-in-Parameter-clause-met
meet_heads-returns-in-Parameter-clause-met t c =
    rw (parameter_type c.args.self.now.program.now.symbols (types_in c.args.self.now) c.in-Parameter.is
    c.shape.ensures.is) c.meet_parameter.ensures.met

pub meet_heads-returns-in-Bottom-clause-met : goal.meet_heads-returns-in-Bottom-clause-met
meet_heads-returns-in-Bottom-clause-met t c =
    let names = c.args.self.now.program.now.symbols in
    let types = types_in c.args.self.now in
    future_bottom (declarations_of c.args.self.now) (type_at types c.in-Fut.value)
    (types_at types c.args.met.now.items) (future_type names types c.in-Fut.is c.shape.ensures.is)
    (bottom_type names types c.in-Bottom.is c.shape-in-Fut.ensures.is) (sym c.if-not-has_parameter.ensures)

pub meet_heads-returns-in-Fut-shape-clause-met : goal.meet_heads-returns-in-Fut-shape-clause-met
meet_heads-returns-in-Fut-shape-clause-met t c =
    let names = c.args.self.now.program.now.symbols in
    let types = types_in c.args.self.now in
    rw (sym (future_future (declarations_of c.args.self.now) (type_at types c.in-Fut.value)
    (type_at types c.in-Fut-shape.given)
    (types_at types c.args.met.now.items) (future_type names types c.in-Fut.is c.shape.ensures.is)
    (future_type names types c.in-Fut-shape.is c.shape-in-Fut.ensures.is) (sym c.if-not-has_parameter.ensures)))
    c.meet.ensures.met

pub meet_heads-returns-in_default-shape : goal.meet_heads-returns-in_default-shape
meet_heads-returns-in_default-shape t c =
    let names = c.args.self.now.program.now.symbols in
    let types = types_in c.args.self.now in record {
      met = future_other (declarations_of c.args.self.now) (type_at types c.in-Fut.value)
          (type_at types c.args.heads.other) (types_at types c.args.met.now.items)
          (future_type names types c.in-Fut.is c.shape.ensures.is)
          (not_bottom names types c.in_default-shape.not-Bottom c.shape-in-Fut.ensures.is)
          (λ inner. not_future names types inner c.in_default-shape.not-Fut c.shape-in-Fut.ensures.is)
          (sym c.if-not-has_parameter.ensures);
      among = c.requires.met;
      keeps = keeps_reflexive;
    }

pub meet_heads-returns-in-Bottom-matches : goal.meet_heads-returns-in-Bottom-matches
meet_heads-returns-in-Bottom-matches t c =
    let names = c.args.self.now.program.now.symbols in
    let types = types_in c.args.self.now in record {
      met = open_bottom (declarations_of c.args.self.now) names types (types_at types c.args.met.now.items)
          c.in_default.not-Fut c.in_default.not-Parameter c.shape.ensures.is (sym c.if-not-has_parameter.ensures)
          (bottom_type names types c.in-Bottom-matches.is c.shape-in_default.ensures.is);
      among = c.requires.met;
      keeps = keeps_reflexive;
    }

pub meet_heads-returns-in_default-matches : goal.meet_heads-returns-in_default-matches
meet_heads-returns-in_default-matches t c =
    let names = c.args.self.now.program.now.symbols in
    let types = types_in c.args.self.now in record {
      met = open_other (declarations_of c.args.self.now) names types (type_at types c.args.heads.other)
          (types_at types c.args.met.now.items) c.in_default.not-Fut c.in_default.not-Parameter c.shape.ensures.is
          (sym c.if-not-has_parameter.ensures)
          (not_bottom names types c.in_default-matches.not-Bottom c.shape-in_default.ensures.is) c.requires.last;
      among = c.requires.met;
      keeps = keeps_reflexive;
    }
