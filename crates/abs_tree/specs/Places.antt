-- Places in a source.
--
--   `start`                                the place of the first byte
--   `place_after_byte`, `place_after`      the place after a byte, and after several
use Rattle.std.specs.Prelude.{ℕ, ◌+◌, ◌==◌, if◌then◌else◌, List, fold}
use Rattle.abs_tree.specs.declared.place.Place.{Place}

-- the place of the first byte of a source
abbrev pub start : Place
start = record { offset = 0; line = 1; column = 1 }

-- the place after the byte at this place; a line feed ends its line
abbrev pub place_after_byte : Place → ℕ → Place
place_after_byte place byte = record {
  offset = place.offset + 1;
  line = if byte == 10 then place.line + 1 else place.line;
  column = if byte == 10 then 1 else place.column + 1;
}

-- the place after these bytes, of which the first is at this place
abbrev pub place_after : Place → List ℕ → Place
place_after place bytes = fold place_after_byte place bytes
