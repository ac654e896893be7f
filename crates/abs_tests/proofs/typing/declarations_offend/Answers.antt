use Rattle.std.proofs.Common.{refl}
use Rattle.abs_types.specs.Methods.{inherited_signatures}
use Rattle.abs_types.specs.Subtyping.{fits}
use Rattle.abs_types.specs.TypeOffences.{class_offences, function_offences, interface_offences, main_offences, type_offences}
use Rattle.abs_graph.specs.Graphs.{reaches_within}
use Rattle.abs_program.specs.Supertypes.{is_below}
use Rattle.abs_tests.proofs.typing.declarations_offend.Goals as goal

pub returns-clause-met : goal.returns-clause-met
unfolding class_offences function_offences interface_offences main_offences type_offences inherited_signatures is_below reaches_within fits
returns-clause-met c = refl

pub returns-clause-not_met : goal.returns-clause-not_met
unfolding class_offences function_offences interface_offences main_offences type_offences inherited_signatures is_below reaches_within fits
returns-clause-not_met c = refl

pub returns-clause-agree : goal.returns-clause-agree
unfolding class_offences function_offences interface_offences main_offences type_offences inherited_signatures is_below reaches_within fits
returns-clause-agree c = refl

pub returns-clause-do_not_agree : goal.returns-clause-do_not_agree
unfolding class_offences function_offences interface_offences main_offences type_offences inherited_signatures is_below reaches_within fits
returns-clause-do_not_agree c = refl

pub returns-clause-no_return : goal.returns-clause-no_return
unfolding class_offences function_offences interface_offences main_offences type_offences inherited_signatures is_below reaches_within fits
returns-clause-no_return c = refl
