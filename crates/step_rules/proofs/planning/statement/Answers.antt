use Rattle.std.proofs.Common.{[], ◌∷◌, true, Some, refl, ap, ◌∙◌}
use Rattle.std.proofs.lemmas.Result.{err_from_is_err_and, on_err_weaker}
use Rattle.abs_program.specs.InstructionViews.{goes_tree}
use Rattle.abs_tree.specs.SyntaxViews.{variable_tree}
use Rattle.abs_values.specs.ValueTrees.{NullValue}
use Rattle.config_state.specs.ConfigViews.{configuration}
use Rattle.step_rules.proofs.MoverLemmas.{goes_is, goes_to, count_is}
use Rattle.step_rules.proofs.StatementLemmas.{whole_is, whole_open, suspended, stored, chosen, printed, returned}
use Rattle.step_rules.proofs.planning.statement.Goals as goal
use Rattle.step_rules.proofs.planning.statement.Goals.{in-Skip, in-Suspend, in-Await, in-Choose, in-Return, in-Print, in-Clear, in-Store, in-Make+in_ok-plan-in-Make, in-Send+in_ok-plan-in-Send, in-CallOwn+in_ok-plan-in-CallOwn, in-CallOther}

pub returns-in_err-plan-in-Send-clause-memory : goal.returns-in_err-plan-in-Send-clause-memory
returns-in_err-plan-in-Send-clause-memory c =
    let failed = err_from_is_err_and c.from_residual-in_err-plan-in-Send.result
    c.from_residual-in_err-plan-in-Send.ensures.1 in
    rw failed.1 (λ runner point change moves. whole_open c.args.at runner point c.args.values _ _ change moves
    c.in-Send.is refl (c.in_err-plan-in-Send.ensures.memory runner point moves))

pub returns-in_err-plan-in-CallOwn-clause-memory : goal.returns-in_err-plan-in-CallOwn-clause-memory
returns-in_err-plan-in-CallOwn-clause-memory c =
    let failed = err_from_is_err_and c.from_residual-in_err-plan-in-CallOwn.result
    c.from_residual-in_err-plan-in-CallOwn.ensures.1 in
    rw failed.1 (λ runner point change moves. whole_open c.args.at runner point c.args.values _ _ change moves
    c.in-CallOwn.is refl (c.in_err-plan-in-CallOwn.ensures.memory runner point moves))

pub returns-in-Get-clause-memory : goal.returns-in-Get-clause-memory
returns-in-Get-clause-memory c = on_err_weaker c.get.result
    (λ open_still runner point change moves found. open_still runner point change moves
    (whole_is c.args.at runner point c.args.values _ _ moves c.in-Get.is refl ∙ found)) c.get.ensures.memory

pub returns-clause-plan : goal.returns-clause-plan
returns-clause-plan c = λ runner point moves.
    let at = c.args.at in
    let values = c.args.values in
    let names = at.program.now.symbols in
    let config = configuration names at.config.now in
    let goes = goes_tree at.instruction.now.goes in
    let after = c.successor-next.result in
    let next = c.successor-next.ensures ∙ goes_to at runner point true moves in
    let whole = whole_is at runner point values in
    elim c.match-at.branch [
      | in-Skip w ↦ whole _ _ moves w.in-Skip.is
          (rw (w.plan-is, ← next) (w.advance-plan.ensures names config runner))
      | in-Suspend w ↦ whole _ _ moves w.in-Suspend.is
          (rw (w.plan-is, w.of-plan.ensures, ← next) (suspended config runner names after))
      | in-Await w ↦ whole _ _ moves w.in-Await.is
          (rw w.plan-is (rw w.as_slice.ensures.value at (w.wait-plan.ensures runner point moves)))
      | in-Choose w ↦ whole _ _ moves w.in-Choose.is
          (rw (w.plan-is, ← goes_is at runner point moves) (w.choose-plan.ensures config runner
          ∙ ap Some (rw w.only.ensures (chosen config runner names goes values))))
      | in-Return w ↦ whole _ _ moves w.in-Return.is
          (rw w.plan-is (w.give-plan.ensures names config runner (w.len.ensures ∙ count_is at runner point moves)
          ∙ rw w.only-in-Return.ensures (returned config runner values)))
      | in-Print w ↦ whole _ _ moves w.in-Print.is
          (rw (w.plan-is, ← next) (w.print-plan.ensures names config runner
          ∙ ap Some (rw w.only-in-Print.ensures (printed config runner after values))))
      | in-Clear w ↦ whole _ _ moves w.in-Clear.is
          (rw (w.plan-is, ← next) (w.store-plan.ensures names config runner
          ∙ ap Some (rw (w.target_of.ensures names)
          (stored config runner (Some (variable_tree names w.in-Clear.target)) after (NullValue ∷ [])))))
      | in-Store w ↦ whole _ _ moves w.in-Store.is
          (rw (w.plan-is, ← next) (w.store-plan-in-Store.ensures names config runner
          ∙ ap Some (rw (w.target_of-in-Store.ensures names, w.only-in-Store.ensures)
          (stored config runner _ after values))))
      | in-Make+in_ok-plan-in-Make w ↦ whole _ _ moves w.in-Make.is
          (rw w.plan-is (w.in_ok-plan-in-Make.ensures.plan runner point moves))
      | in-Send+in_ok-plan-in-Send w ↦ whole _ _ moves w.in-Send.is
          (rw w.plan-is (w.in_ok-plan-in-Send.ensures.plan runner point moves))
      | in-CallOwn+in_ok-plan-in-CallOwn w ↦ whole _ _ moves w.in-CallOwn.is
          (rw w.plan-is (w.in_ok-plan-in-CallOwn.ensures.plan runner point moves))
      | in-CallOther w ↦ whole _ _ moves w.in-CallOther.is
          (rw w.plan-is (w.fault-plan.ensures names config runner))
    ]
