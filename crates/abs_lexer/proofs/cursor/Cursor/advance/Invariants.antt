use Rattle.std.proofs.Common.{◌≡◌, ◌+◌, ◌≤◌, take}
use Rattle.abs_tree.specs.Places.{place_after}
use Rattle.abs_lexer.proofs.cursor.Cursor.advance.Given as goal

abbrev pub invariant-loop-byte : goal.invariant-loop-byte
invariant-loop-byte l = record {
  place : l.place ≡ place_after l.self.place (take l.byte-index l.piece);
  offset : l.place.offset ≡ l.self.place.offset + l.byte-index;
  line : l.place.line ≤ l.place.offset + 1;
  column : l.place.column ≤ l.place.offset + 1;
}
