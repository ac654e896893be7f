use Rattle.std.proofs.Common.{◌∙◌, ℕ, List, ap, length, fold, take, arith}
use Rattle.abs_tree.specs.Names.{with_name}
use Rattle.abs_prelude.specs.Prelude.{prelude_names}
use Rattle.abs_prelude.proofs.NameLemmas.{next_name, one_more_name, first_names}
use Rattle.abs_prelude.proofs.text.add_names.Goals as goal

pub loop-index-preserved : goal.loop-index-preserved
loop-index-preserved c =
    let more = one_more_name c.loop-index.symbols c.name.result.now in (
      next_name c.args.symbols.now c.loop-index.symbols c.intern.new.self c.loop-index.index c.name.result.now
          c.loop-index-test.true c.loop-index.invariant.0 c.name.ensures c.in_ok-intern.ensures.names,
      omega (
        arith,
        more,
        c.if-len-ge-TABLE_LIMIT.false,
        c.len.ensures,
        ap (λ (names : List (List ℕ)). length names) c.in_ok-intern.ensures.names,
      ),
    )

pub returns-clause-earlier : goal.returns-clause-earlier
returns-clause-earlier c =
    let more = take c.loop-index.index prelude_names in
    ap (take c.len-count.result) c.loop-index.invariant.0
    ∙ (ap (λ (n : ℕ). take n (fold with_name c.args.symbols.now more)) c.len-count.ensures
    ∙ first_names c.args.symbols.now more)
