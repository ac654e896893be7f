use Rattle.abs_parser.proofs.grammar.DeclaredNameLemmas.{declared_are_read, declared_are_in_table}
use Rattle.abs_parser.proofs.laws.declared_names_are_written.Goals as goal

pub returns-clause-read : goal.returns-clause-read
returns-clause-read c = declared_are_read

pub returns-clause-table : goal.returns-clause-table
returns-clause-table c = declared_are_in_table
