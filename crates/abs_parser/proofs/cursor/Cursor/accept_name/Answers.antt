use Rattle.std.proofs.Common.{rules}
use Rattle.abs_parser.proofs.cursor.Cursor.accept_name.Goals as goal

pub returns-in_default-clause-other : goal.returns-in_default-clause-other
returns-in_default-clause-other c = search rules
