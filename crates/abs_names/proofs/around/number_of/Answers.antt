use Rattle.abs_prelude.proofs.NameLemmas.{name_of_found}
use Rattle.abs_names.proofs.around.number_of.Goals as goal

pub returns-in-Some-clause-name : goal.returns-in-Some-clause-name
returns-in-Some-clause-name c =
    name_of_found c.args.symbols.now c.args.name.now c.in-Some.symbol c.in-Some.ensures
