use Rattle.std.proofs.Common.{sym, arith}
use Rattle.abs_types.proofs.KeepLemmas.{among_kept, all_among_kept, keeps_transitive}
use Rattle.abs_types.proofs.OpenLemmas.{parameter_type, future_type}
use Rattle.abs_types.proofs.ReplacedSoFarLemmas.{ReplacedSoFar-start, ReplacedSoFar-next, next_below, next_among, replaced_parameter, past_parameter, replaced_future, nothing_open}
use Rattle.abs_types.proofs.ReplacementLemmas.{replaced_without}
use Rattle.abs_types.specs.TypeShapes.{type_at, types_at}
use Rattle.abs_types.specs.TypeTables.{types_in}
use Rattle.abs_types.proofs.table.TypeTable.+replacing.Goals as goal

pub replaced-loop-argument-init : goal.replaced-loop-argument-init
replaced-loop-argument-init t c =
    ReplacedSoFar-start c.args.types.now c.in_ok-head.ensures.is c.replaced_head.ensures.keeps
    c.in_ok-found.ensures.found

pub replaced-replaced-requires : goal.replaced-replaced-requires
replaced-replaced-requires t c =
    let rest = c.pop.new.self.items in
    let below = next_below c.in-Some.argument rest c.loop-argument.invariant c.in-Some.ensures.items in (
      omega arith,
      (
        all_among_kept c.args.types.now c.loop-argument.invariant.keeps c.requires.types,
        next_among c.in-Some.argument rest c.loop-argument.invariant c.in-Some.ensures.items c.requires.index,
      ),
    )

pub replaced-returns-in_err-argument-clause-keeps : goal.replaced-returns-in_err-argument-clause-keeps
replaced-returns-in_err-argument-clause-keeps t c =
    keeps_transitive c.loop-argument.invariant.keeps c.replaced.ensures.keeps

pub replaced-applied-requires-clause-head : goal.replaced-applied-requires-clause-head
replaced-applied-requires-clause-head t c =
    among_kept c.replaced.ensures.keeps c.loop-argument.invariant.found_among

pub replaced-returns-in_err-found-2-clause-keeps : goal.replaced-returns-in_err-found-2-clause-keeps
replaced-returns-in_err-found-2-clause-keeps t c =
    keeps_transitive c.loop-argument.invariant.keeps
    (keeps_transitive c.replaced.ensures.keeps c.applied.ensures.keeps)

pub replaced-loop-argument-preserved : goal.replaced-loop-argument-preserved
replaced-loop-argument-preserved t c =
    ReplacedSoFar-next c.in-Some.argument c.loop-argument.invariant c.in-Some.ensures.items c.requires.index
    c.requires.types c.replaced.ensures.keeps c.in_ok-argument.ensures.found c.applied.ensures.keeps
    c.in_ok-found-2.ensures.found

pub replaced_head-returns-then-not-has_parameter-clause-found : goal.replaced_head-returns-then-not-has_parameter-clause-found
replaced_head-returns-then-not-has_parameter-clause-found t c = record {
  among = c.requires.head;
  is = sym (replaced_without (types_at (types_in c.args.self.now) c.args.types.now)
      (type_at (types_in c.args.self.now) c.args.head) (sym c.if-not-has_parameter.ensures));
}

pub replaced_head-returns-in-Some-clause-found : goal.replaced_head-returns-in-Some-clause-found
replaced_head-returns-in-Some-clause-found t c =
    replaced_parameter c.args.types.now c.in-Some.found.now
    (parameter_type c.args.self.now.program.now.symbols (types_in c.args.self.now) c.in-Parameter.is c.shape.ensures.is)
    c.requires.types c.in-Some.ensures.lookup.3.0 c.in-Some.ensures.lookup.1

pub replaced_head-returns-in-None-clause-found : goal.replaced_head-returns-in-None-clause-found
replaced_head-returns-in-None-clause-found t c =
    past_parameter c.args.types.now c.args.head
    (parameter_type c.args.self.now.program.now.symbols (types_in c.args.self.now) c.in-Parameter.is c.shape.ensures.is)
    c.requires.head c.in-None.ensures.lookup.3

pub replaced_head-returns-in_ok-value-in-Fut-clause-found : goal.replaced_head-returns-in_ok-value-in-Fut-clause-found
replaced_head-returns-in_ok-value-in-Fut-clause-found t c =
    replaced_future (types_at (types_in c.args.self.now) c.args.types.now) c.future.result c.future.new.self
    (future_type c.args.self.now.program.now.symbols (types_in c.args.self.now) c.in-Fut.is c.shape.ensures.is)
    c.in_ok-value-in-Fut.ensures.found c.future.ensures.found

pub replaced_head-returns-in_ok-value-in-Fut-clause-keeps : goal.replaced_head-returns-in_ok-value-in-Fut-clause-keeps
replaced_head-returns-in_ok-value-in-Fut-clause-keeps t c =
    keeps_transitive c.replaced.ensures.keeps c.future.ensures.keeps

pub replaced_head-returns-in_default : goal.replaced_head-returns-in_default
replaced_head-returns-in_default t c =
    absurd (nothing_open c.args.self.now.program.now.symbols (types_in c.args.self.now) c.in_default.not-Fut
    c.in_default.not-Parameter c.shape.ensures.is (sym c.if-not-has_parameter.ensures) c.requires.last)
