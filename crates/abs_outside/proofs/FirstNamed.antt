-- What looking for a file by its name finds.
use Rattle.std.proofs.Common.{◌≡◌, ℕ, zero, suc, ◌<◌, List, [], ◌∷◌, Some, None, length, position, slice_get, arith, refl}
use Rattle.abs_outside.specs.Names.{Selects, IsNotHeld}
use Rattle.abs_outside.specs.Files.{has_name, found, content, first_named}
use Rattle.abs_outside.specs.declared.memory_source.NamedBytes.{NamedBytes}
use Rattle.list_facts.proofs.FindLemmas.{position-within, find-at_position, find-no_position}

-- what the file at an index holds is what its name selects
pub Selects-at : (files : List NamedBytes) (index : ℕ) → index < length files
    → Selects (found (slice_get files index)) (Some (content (slice_get files index)))
Selects-at [] index within = absurd (omega arith)
Selects-at (file ∷ files) zero within = refl
Selects-at (file ∷ files) (suc index) within = Selects-at files index (omega arith)

-- the content of the file at the first index of a name is what that name selects
pub Selects-first_named : (files : List NamedBytes) (name : List ℕ) (index : ℕ)
    → position (has_name name) files ≡ Some index
    → Selects (first_named files name) (Some (content (slice_get files index)))
Selects-first_named files name index at =
    rw (find-at_position (has_name name) files index at)
    (Selects-at files index (position-within (has_name name) files index at))

-- a name that no file has is not held
pub IsNotHeld-first_named : (files : List NamedBytes) (name : List ℕ) → position (has_name name) files ≡ None
    → IsNotHeld (first_named files name)
IsNotHeld-first_named files name none = rw (find-no_position (has_name name) files none) tt
