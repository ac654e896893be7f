use Rattle.std.proofs.Common.{sym, ◌∙◌}
use Rattle.abs_program.proofs.EqualNameLemmas.{decided}
use Rattle.abs_program.proofs.EqualExprLemmas.{shared_equal-Decides}
use Rattle.step_rules.proofs.inputs.initials_equal.Goals as goal

pub returns : goal.returns
returns c =
    decided c.eq.ensures (shared_equal-Decides _ _)
    (λ same names. sym (c.as_slice.ensures names) ∙ (same names ∙ c.as_slice-2.ensures names))
    (λ same names. c.as_slice.ensures names ∙ (same names ∙ sym (c.as_slice-2.ensures names)))
