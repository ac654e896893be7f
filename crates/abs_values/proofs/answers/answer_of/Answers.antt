use Rattle.std.proofs.Common.{sym, ◌∙◌}
use Rattle.abs_values.proofs.AnswerLemmas.{parts_not}
use Rattle.abs_values.proofs.answers.answer_of.Goals as goal

pub returns-else-is_empty : goal.returns-else-is_empty
returns-else-is_empty c names is_yes is_no =
    rw c.in-Built.is
    (sym (parts_not names c.in-Built.symbol.0 c.as_slice.result.now c.in-Built.parts
    (sym c.is_empty.ensures ∙ c.if-is_empty.false) c.as_slice.ensures))
