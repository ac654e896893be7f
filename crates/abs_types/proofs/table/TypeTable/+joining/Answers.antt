use Rattle.std.proofs.Common.{Option, IfOk, sym, subst, arith}
use Rattle.abs_types.proofs.KeepLemmas.{among_kept, keeps_transitive}
use Rattle.abs_types.proofs.NamedLemmas.{none_extends_itself}
use Rattle.abs_types.proofs.TableJoinLemmas.{future_join, applied_join, same_join, heads_stop, applied_init, next_pair, applied_step, applied_stop, found_kept}
use Rattle.abs_types.specs.PlainTypes.{PlainType}
use Rattle.abs_types.specs.TypeParts.{IsFound}
use Rattle.abs_types.specs.TypeTables.{declarations_of}
use Rattle.abs_types.proofs.table.TypeTable.+joining.Goals as goal

pub join_once-returns-then-are_same-clause-found : goal.join_once-returns-then-are_same-clause-found
join_once-returns-then-are_same-clause-found t c =
    same_join (declarations_of c.args.self.now) _ _ (c.are_same.ensures.0 c.if-are_same.true)

pub join_once-remember-requires-clause-one : goal.join_once-remember-requires-clause-one
join_once-remember-requires-clause-one t c = among_kept c.join_parts.ensures.keeps c.requires.one

pub join_once-remember-requires-clause-other : goal.join_once-remember-requires-clause-other
join_once-remember-requires-clause-other t c = among_kept c.join_parts.ensures.keeps c.requires.other

pub join_once-returns-in_err-remember-clause-keeps : goal.join_once-returns-in_err-remember-clause-keeps
join_once-returns-in_err-remember-clause-keeps t c = keeps_transitive c.join_parts.ensures.keeps c.remember.ensures.keeps

pub join_once-returns-clause-found : goal.join_once-returns-clause-found
join_once-returns-clause-found t c = (found_kept c.remember.ensures.keeps c.in_ok-found.ensures.found).is

pub join_once-returns-clause-among : goal.join_once-returns-clause-among
join_once-returns-clause-among t c = (found_kept c.remember.ensures.keeps c.in_ok-found.ensures.found).among

pub join_once-returns-clause-keeps : goal.join_once-returns-clause-keeps
join_once-returns-clause-keeps t c = keeps_transitive c.join_parts.ensures.keeps c.remember.ensures.keeps

pub join_applied-returns-in_default-clause-found :
    goal.join_applied-returns-in_default-clause-found
join_applied-returns-in_default-clause-found t c = record {
  among = tt;
  is = heads_stop c.in_ok-innermost.ensures (rw c.in_default.is at c.in_ok-joined.ensures.found);
}

pub join_applied-loop-pair-init : goal.join_applied-loop-pair-init
join_applied-loop-pair-init t c =
    applied_init c.in_ok-innermost.ensures c.join_once.ensures.keeps (rw c.in-Some.is at c.in_ok-joined.ensures.among)
    (rw c.in-Some.is at c.in_ok-joined.ensures.found)

pub join_applied-join_once-requires-in-Some-pop : goal.join_applied-join_once-requires-in-Some-pop
join_applied-join_once-requires-in-Some-pop t c =
    let next = next_pair c.in-Some-pop.pair c.pop.new.self.items c.loop-pair.invariant c.in-Some-pop.ensures.items in
    (omega (arith, next.below), next.among)

pub join_applied-returns-in_err-argument-clause-keeps :
    goal.join_applied-returns-in_err-argument-clause-keeps
join_applied-returns-in_err-argument-clause-keeps t c =
    keeps_transitive c.loop-pair.invariant.keeps c.join_once-in-Some-pop.ensures.keeps

pub join_applied-returns-in_default-2-clause-found :
    goal.join_applied-returns-in_default-2-clause-found
join_applied-returns-in_default-2-clause-found t c = record {
  among = tt;
  is = applied_stop c.in-Some-pop.pair c.pop.new.self.items c.loop-pair.invariant c.in-Some-pop.ensures.items
      (rw c.in_default-2.is at c.in_ok-argument.ensures.found);
}

pub join_applied-returns-in_default-2-clause-keeps :
    goal.join_applied-returns-in_default-2-clause-keeps
join_applied-returns-in_default-2-clause-keeps t c =
    keeps_transitive c.loop-pair.invariant.keeps c.join_once-in-Some-pop.ensures.keeps

pub join_applied-applied-requires-clause-head : goal.join_applied-applied-requires-clause-head
join_applied-applied-requires-clause-head t c =
    among_kept c.join_once-in-Some-pop.ensures.keeps c.loop-pair.invariant.joined_among

pub join_applied-returns-in_err-joined-2-clause-keeps :
    goal.join_applied-returns-in_err-joined-2-clause-keeps
join_applied-returns-in_err-joined-2-clause-keeps t c =
    keeps_transitive c.loop-pair.invariant.keeps
    (keeps_transitive c.join_once-in-Some-pop.ensures.keeps c.applied.ensures.keeps)

pub join_applied-loop-pair-preserved : goal.join_applied-loop-pair-preserved
join_applied-loop-pair-preserved t c =
    applied_step c.in-Some-pop.pair c.in-Some-2.argument c.pop.new.self.items c.loop-pair.invariant
    c.in-Some-pop.ensures.items c.join_once-in-Some-pop.ensures.keeps (rw c.in-Some-2.is at c.in_ok-argument.ensures.found)
    c.applied.ensures.keeps c.in_ok-joined-2.ensures.found

pub join_futures-returns-in_err-future-in-Some-clause-keeps :
    goal.join_futures-returns-in_err-future-in-Some-clause-keeps
join_futures-returns-in_err-future-in-Some-clause-keeps t c =
    keeps_transitive c.join_once.ensures.keeps c.future.ensures.keeps

pub join_futures-returns-in_ok-future-in-Some-clause-keeps :
    goal.join_futures-returns-in_ok-future-in-Some-clause-keeps
join_futures-returns-in_ok-future-in-Some-clause-keeps t c =
    keeps_transitive c.join_once.ensures.keeps c.future.ensures.keeps

pub join_parts-returns-in-Futures-clause-found : goal.join_parts-returns-in-Futures-clause-found
join_parts-returns-in-Futures-clause-found t c =
    let futures = rw c.in-Futures.is at c.requires.parts in
    subst (λ (type : Option PlainType).
    IfOk c.join_futures.result (λ found. IsFound c.join_futures.new.self found type))
    (sym (future_join (declarations_of c.args.self.now) (none_extends_itself c.args.self.now.program.now) futures))
    c.join_futures.ensures.found

pub join_parts-returns-in-Applied-clause-found : goal.join_parts-returns-in-Applied-clause-found
join_parts-returns-in-Applied-clause-found t c =
    let applied = rw c.in-Applied.is at c.requires.parts in
    subst (λ (type : Option PlainType).
    IfOk c.join_applied.result (λ found. IsFound c.join_applied.new.self found type))
    (sym (applied_join (declarations_of c.args.self.now) (none_extends_itself c.args.self.now.program.now) applied))
    c.join_applied.ensures.found
