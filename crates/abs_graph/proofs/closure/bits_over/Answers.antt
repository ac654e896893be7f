use Rattle.std.proofs.Common.{ℕ, ◌<◌, [], length, get_or, refl, sym, ◌∙◌, subst, eqb-true, arith}
use Rattle.std.proofs.lemmas.List.{get_or_read}
use Rattle.abs_graph.specs.BitSets.{AreNewBits}
use Rattle.abs_graph.specs.Columns.{count_of}
use Rattle.abs_graph.proofs.TableLemmas.{union_none, union_empty, union_more, wide_new, wide_same, wide_column}
use Rattle.abs_graph.proofs.closure.bits_over.Goals as goal

pub loop-next-init : goal.loop-next-init
loop-next-init c =
    let new : AreNewBits (count_of c.args.columns.now) c.in_ok-bits.bits =
    subst (λ (bound : ℕ). AreNewBits bound c.in_ok-bits.bits) c.count.ensures c.in_ok-bits.ensures in (
      union_none c.args.columns.now c.args.rows.now c.args.filled.now c.in_ok-bits.bits (count_of c.args.columns.now)
          new (omega (arith, new.room)),
      wide_new (count_of c.args.columns.now) c.in_ok-bits.bits new,
    )

pub returns-then-is_empty : goal.returns-then-is_empty
returns-then-is_empty c =
    union_empty c.args.columns.now c.args.rows.now c.args.filled.now c.in_ok-empty.empty c.args.nodes.now
    c.in_ok-empty.ensures (eqb-true (length c.args.nodes.now) 0 (sym c.is_empty.ensures ∙ c.if-is_empty.true))

pub add-requires : goal.add-requires
add-requires c =
    wide_column c.args.columns.now c.loop-next.bits (get_or c.args.nodes.now c.loop-next.next-index 0) c.column.result
    c.loop-next.invariant.1 (c.requires.columns c.loop-next.next-index 0 c.loop-next-test.true) c.column.ensures

pub loop-next-preserved : goal.loop-next-preserved
loop-next-preserved c =
    let next : ℕ = get_or c.args.nodes.now c.loop-next.next-index 0 in
    let inside : next < length c.args.rows.now = c.requires.nodes c.loop-next.next-index 0 c.loop-next-test.true in (
      union_more c.args.columns.now c.args.rows.now c.args.filled.now c.args.nodes.now c.loop-next.next-index next
          c.column.result c.loop-next.bits c.add.new.self c.add_all.new.self c.index-rows-next.result
          c.loop-next.invariant.0 c.loop-next-test.true refl c.if-not-filled-next.false
          (c.requires.columns c.loop-next.next-index 0 c.loop-next-test.true) c.column.ensures
          (get_or_read c.args.rows.now next c.index-rows-next.result inside c.index-rows-next.is [])
          c.add.ensures.room c.add.ensures.added c.add_all.ensures.room c.add_all.ensures.added,
      wide_same (count_of c.args.columns.now) c.loop-next.bits c.add.new.self c.add_all.new.self
          c.loop-next.invariant.1 c.add.ensures.room c.add_all.ensures.room,
    )
