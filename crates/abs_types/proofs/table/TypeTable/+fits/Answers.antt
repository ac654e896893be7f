use Rattle.std.proofs.Common.{◌∙◌, sym, arith}
use Rattle.abs_types.proofs.PartLemmas.{futures_fit, heads_fit, arguments_unfit, same_fits}
use Rattle.abs_types.specs.TypeTables.{declarations_of}
use Rattle.abs_types.proofs.table.TypeTable.+fits.Goals as goal

pub returns-then-are_same : goal.returns-then-are_same
returns-then-are_same t c =
    sym (c.loop-pair.invariant.is
    ∙ same_fits (declarations_of c.args.self.now) _ _ (c.are_same.ensures.0 c.if-are_same.true))

pub returns-in-Futures : goal.returns-in-Futures
returns-in-Futures t c =
    let futures = rw c.in-Futures.is at c.in-Some.ensures in
    c.fits.ensures ∙ sym (c.loop-pair.invariant.is ∙ futures_fit (declarations_of c.args.self.now) futures)

pub returns-then-not-fits : goal.returns-then-not-fits
returns-then-not-fits t c =
    let applied = rw c.in-Applied.is at c.in-Some.ensures in
    sym (c.loop-pair.invariant.is
    ∙ arguments_unfit (declarations_of c.args.self.now) applied (sym c.if-not-fits.ensures))

pub loop-pair-preserved : goal.loop-pair-preserved
loop-pair-preserved t c =
    let applied = rw c.in-Applied.is at c.in-Some.ensures in
    record {
      among = (omega (arith, applied.heads_one_below), omega (arith, applied.heads_other_below));
      below = omega (arith, applied.heads_one_below);
      is = c.loop-pair.invariant.is
          ∙ heads_fit (declarations_of c.args.self.now) applied (sym c.if-not-fits.ensures);
    }
