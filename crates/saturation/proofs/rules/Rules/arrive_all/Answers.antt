use Rattle.std.proofs.Common.{arith, refl}
use Rattle.std.proofs.lemmas.List.{length-map}
use Rattle.contract_terms.specs.Views.{reads_tree}
use Rattle.saturation.proofs.EachLemmas.{adds_up_more, adds_up_none}
use Rattle.saturation.proofs.StartLemmas.{arrives_any}
use Rattle.saturation.proofs.StepLemmas.{adds_nothing}
use Rattle.saturation.proofs.rules.Rules.arrive_all.Goals as goal

pub loop-expr-init : goal.loop-expr-init
loop-expr-init c = adds_up_none _ _ (adds_nothing _ _ refl)

pub loop-expr-preserved : goal.loop-expr-preserved
loop-expr-preserved c =
    adds_up_more 0 _ c.loop-expr.expr (omega arith) c.loop-expr.invariant c.arrive_each.ensures

pub returns : goal.returns
returns c =
    arrives_any c.loop-expr.expr (omega (
      arith,
      length-map c.args.term.now.reads.items reads_tree,
      c.loop-expr-test.false,
      c.len-expr-end.ensures,
    )) c.loop-expr.invariant
