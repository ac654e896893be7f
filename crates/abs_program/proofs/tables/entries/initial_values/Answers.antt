use Rattle.std.proofs.Common.{ap, ◌∙◌}
use Rattle.std.specs.declared.alloc.Global.{Global}
use Rattle.std.specs.declared.sync.Arc.{Arc}
use Rattle.std.specs.declared.vec.Vec.{Vec}
use Rattle.abs_program.proofs.ClassEntryLemmas.{field_found, initials_done, method_passed}
use Rattle.abs_program.proofs.tables.entries.initial_values.Goals as goal
use Rattle.abs_program.proofs.tables.entries.initial_values.Goals.{in-Field+in_ok-value-in-Field+in_ok-push-in-Field, in-Method}
use Rattle.abs_tree.specs.declared.syntax.expression.Expr.{Expr}

pub loop-member-preserved : goal.loop-member-preserved
loop-member-preserved c =
    let items = λ (values : Vec (Arc Expr Global) Global). values.items in
    elim c.match-member.branch [
      | in-Field+in_ok-value-in-Field+in_ok-push-in-Field w ↦ field_found c.member-item.result _ _ _
          w.in_ok-value-in-Field.value c.loop-member.invariant c.loop-member-test.true c.member-item.is
          w.in-Field.is w.in_ok-value-in-Field.ensures
          (ap items w.values-is ∙ w.in_ok-push-in-Field.ensures.items)
      | in-Method w ↦ method_passed c.member-item.result _ _ c.loop-member.invariant c.loop-member-test.true
          c.member-item.is w.in-Method.is (ap items w.values-is)
    ]

pub returns : goal.returns
returns c names = initials_done names c.loop-member.invariant c.loop-member-test.false
