use Rattle.abs_program.proofs.KnownNameLemmas.{name_is_told, known_name_is_told}
use Rattle.abs_program.proofs.laws.known_names_are_told.Goals as goal

pub returns : goal.returns
returns c = record {
  table = name_is_told;
  program = known_name_is_told;
}
