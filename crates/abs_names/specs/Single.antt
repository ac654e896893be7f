-- The offence of one name.
--
--   `unknown`              a name that is unknown
--   `unwritten`            what a source does not write
--   `twice`, `cyclic`      a name that is declared already, and one whose interface extends itself
use Rattle.std.specs.Prelude.{Bool, List, [], ◌∷◌, if◌then◌else◌}
use Rattle.abs_tree.specs.Offences.{offence_if}
use Rattle.abs_tree.specs.declared.place.Place.{Place}
use Rattle.abs_tree.specs.declared.refusal.Code.TheVariants.{N1, N2, N4}
use Rattle.abs_tree.specs.declared.refusal.Offence.{Offence}

-- the offence of a name at this place that is unknown, unless it is known
abbrev pub unknown : Bool → Place → List Offence
unknown known place = if known then [] else record { place = place; code = N2 } ∷ []

-- the offence of what a source does not write: a part at this place that is resolved already
abbrev pub unwritten : Place → List Offence
unwritten place = record { place = place; code = N2 } ∷ []

-- the offence of a declaration at this place, if its name is declared already
abbrev pub twice : Bool → Place → List Offence
twice taken place = offence_if taken N1 place

-- the offence of an interface whose name is at this place, if it extends itself
abbrev pub cyclic : Bool → Place → List Offence
cyclic extends_itself place = offence_if extends_itself N4 place
