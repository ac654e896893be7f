use Rattle.std.proofs.Common.{sym, ◌∙◌}
use Rattle.abs_tree.proofs.OffenceLemmas.{no_offence}
use Rattle.check_obj.proofs.program.check.Goals as goal

pub new-requires : goal.new-requires
new-requires c = no_offence _ (sym c.in_ok-offence.ensures ∙ c.in-None.is)
