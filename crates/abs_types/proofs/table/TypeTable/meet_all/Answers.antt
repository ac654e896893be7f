use Rattle.std.proofs.Common.{None, arith}
use Rattle.abs_types.proofs.AllMetLemmas.{AllMetSoFar-next, next_met, lengths_failed}
use Rattle.abs_types.proofs.KeepLemmas.{among_kept, keeps_transitive}
use Rattle.abs_types.specs.TypeShapes.{types_at}
use Rattle.abs_types.specs.TypeTables.{declarations_of, types_in}
use Rattle.abs_types.proofs.table.TypeTable.meet_all.Goals as goal

pub returns-then-takes-given-clause-met : goal.returns-then-takes-given-clause-met
returns-then-takes-given-clause-met c =
    lengths_failed (declarations_of c.args.self.now) (types_in c.args.self.now) c.args.takes.now c.args.given.now
    (types_at (types_in c.args.self.now) c.args.met.now.items) c.if-takes-given.true

pub meet-requires-clause-takes : goal.meet-requires-clause-takes
meet-requires-clause-takes c =
    among_kept c.loop-index.invariant.keeps
    (c.requires.takes c.loop-index.index (record { 0 = 0 }) c.loop-index-test.true)

pub meet-requires-clause-given : goal.meet-requires-clause-given
meet-requires-clause-given c =
    among_kept c.loop-index.invariant.keeps (c.requires.given c.loop-index.index (record { 0 = 0 }) (omega arith))

pub returns-in_err-meet-clause-keeps : goal.returns-in_err-meet-clause-keeps
returns-in_err-meet-clause-keeps c = keeps_transitive c.loop-index.invariant.keeps c.meet.ensures.keeps

pub returns-then-not-branch-clause-met : goal.returns-then-not-branch-clause-met
returns-then-not-branch-clause-met c =
    next_met (record { 0 = 0 }) None c.loop-index.invariant c.requires.takes c.requires.given c.loop-index-test.true
    (omega arith) (rw c.if-not-branch.true at c.in_ok-meet.ensures.met)

pub returns-then-not-branch-clause-keeps : goal.returns-then-not-branch-clause-keeps
returns-then-not-branch-clause-keeps c = keeps_transitive c.loop-index.invariant.keeps c.meet.ensures.keeps

pub loop-index-preserved : goal.loop-index-preserved
loop-index-preserved c =
    AllMetSoFar-next (record { 0 = 0 }) c.loop-index.invariant c.requires.takes c.requires.given c.loop-index-test.true
    (omega arith) c.meet.ensures.keeps c.meet.ensures.among (rw c.if-not-branch.false at c.in_ok-meet.ensures.met)
