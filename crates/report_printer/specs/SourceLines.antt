-- Lines and columns of a source, by the number of bytes before a place.
--
--   `is_feed`                      whether a byte is a line feed
--   `source_place`                 the place after some of the first bytes
--   `after_feeds`, `before_feed`   the bytes after the last line feed, and those before the first one
--   `quoted_line`                  the line in which a place is
use Rattle.std.specs.Prelude.{ℕ, ◌==◌, Bool, List, [], ◌∷◌, ◌++◌, fold, take, drop, if◌then◌else◌}
use Rattle.abs_tree.specs.Places.{start, place_after}
use Rattle.abs_tree.specs.declared.place.Place.{Place}

-- whether a byte is a line feed
abbrev pub is_feed : ℕ → Bool
is_feed byte = byte == 10

-- the place after the first bytes, as many as the offset says
abbrev pub source_place : List ℕ → ℕ → Place
source_place bytes offset = place_after start (take offset bytes)

-- the bytes since the last line feed, with one byte more
abbrev pub with_byte : List ℕ → ℕ → List ℕ
with_byte line byte = if is_feed byte then [] else line ++ byte ∷ []

-- the bytes after the last line feed, or all of them if there is none
abbrev pub after_feeds : List ℕ → List ℕ
after_feeds bytes = fold with_byte [] bytes

-- the bytes before the first line feed, or all of them if there is none
abbrev pub before_feed : List ℕ → List ℕ
before_feed [] = []
before_feed (byte ∷ bytes) = if is_feed byte then [] else byte ∷ before_feed bytes

-- The line of the byte at an offset, without its line feed and with all else: what comes before the byte since the last
-- line feed, and what comes from there on up to the next one.
unfoldable pub quoted_line : List ℕ → ℕ → List ℕ
quoted_line bytes offset = after_feeds (take offset bytes) ++ before_feed (drop offset bytes)
