-- What a reader of expressions has noted, and what a part of its walk adds to that.
--
--   `Noted`    the reader has noted that a location is read
--   `Notes`    what is noted after a part of the walk is what was noted before it, and what was read in it
use Rattle.std.specs.Prelude.{◌≡◌, ◌↔◌, ◌⊎◌, ⊤, false, true, Contains}
use Rattle.abs_values.specs.Scopes.{Location, InSlot, InField, InBound, InThis}
use Rattle.contract_infer.specs.declared.reads.Reader.{Reader}

-- The reader has noted that this location is read. It keeps no bound variables: each of them counts as noted.
abbrev pub Noted : Reader → Location → Type 0
Noted reader (InSlot slot) = Contains reader.slots.items slot
Noted reader (InField field) = Contains reader.fields.items field
Noted reader (InBound depth) = ⊤
Noted reader InThis = reader.this ≡ true

-- Unless an allocation has failed, none had failed before, and just what was read was noted in addition.
pub record Notes (old new : Reader) (IsRead : Location → Type 0) : Type 0 where
  pub worked : new.failed ≡ false → old.failed ≡ false
  pub noted : new.failed ≡ false → (location : Location)
      → Noted new location ↔ (Noted old location ⊎ IsRead location)
