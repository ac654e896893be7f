-- A cursor without its memory.
use Rattle.std.specs.Prelude.{drop}
use Rattle.abs_parser.specs.declared.cursor.Cursor.{Cursor}
use Rattle.abs_parser.specs.Tokens.{Spot}

abbrev pub spot : Cursor → Spot
spot cursor = record { rest = drop cursor.index cursor.tokens.now.tokens; end = cursor.tokens.now.end }
