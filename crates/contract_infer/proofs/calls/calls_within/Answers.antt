use Rattle.std.proofs.Common.{ℕ, ◌∙◌, ap, arith}
use Rattle.std.specs.declared.alloc.Global.{Global}
use Rattle.std.specs.declared.vec.Vec.{Vec}
use Rattle.abs_program.specs.NamedViews.{named_tree}
use Rattle.contract_infer.proofs.CallLemmas.{calls_added, calls_kept, calls_done}
use Rattle.contract_infer.proofs.calls.calls_within.Goals as goal
use Rattle.contract_infer.proofs.calls.calls_within.Goals.{in-Some+in_ok-push, in_default}

pub loop-index-preserved : goal.loop-index-preserved
loop-index-preserved c =
    let source = named_tree c.args.program.now in
    let after = c.match-call_at.found.items in
    let items = λ (found : Vec ℕ Global). found.items in
    elim c.match-call_at.branch [
      | in-Some+in_ok-push w ↦ calls_added source c.args.class c.args.first after w.in-Some.member
          c.loop-index.invariant c.loop-index.auto.index w.in-Some.ensures
          (ap items w.found-is ∙ w.in_ok-push.ensures.items)
      | in_default w ↦ calls_kept source c.args.class c.args.first after c.loop-index.invariant w.in_default.ensures
          (ap items w.found-is)
    ]

pub returns : goal.returns
returns c =
    let end = c.saturating_add-index-end.ensures in
    calls_done (named_tree c.args.program.now) c.args.class c.args.first c.args.count c.loop-index.invariant
    c.args.program.now.few_statements (omega arith) (λ index below few. omega arith)
