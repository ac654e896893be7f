-- The offence of one expression or right side by its type. It offends where all its parts have types, and it has none,
-- or one that does not fit.
--
--   `mistyped_if`          that of a wrong type (T1)
--   `untyped`              that of a part all of whose parts have types and which has none
--   `unfit`                that of a part whose type does not fit the type that is asked for
use Rattle.std.specs.Prelude.{Bool, false, not, ◌&&◌, List, Option, Some, None, is_none}
use Rattle.abs_tree.specs.Offences.{offence_if}
use Rattle.abs_tree.specs.Syntax.{DeclTree}
use Rattle.abs_tree.specs.declared.place.Place.{Place}
use Rattle.abs_tree.specs.declared.refusal.Code.TheVariants.{T1}
use Rattle.abs_tree.specs.declared.refusal.Offence.{Offence}
use Rattle.abs_types.specs.PlainTypes.{PlainType}
use Rattle.abs_types.specs.Subtyping.{fits}

-- the offence of a wrong type, if there is reason for it
abbrev pub mistyped_if : Bool → Place → List Offence
mistyped_if offends place = offence_if offends T1 place

-- the offence of an expression at this place, if all its parts have types and it has none
abbrev pub untyped : Bool → Option PlainType → Place → List Offence
untyped parts_typed type_of place = mistyped_if (parts_typed && is_none type_of) place

-- whether a type does not fit the type that is asked for; a part without a type does not offend by that
abbrev pub does_not_fit : List DeclTree → Option PlainType → PlainType → Bool
does_not_fit declarations (Some given) asked = not (fits declarations given asked)
does_not_fit declarations None asked = false

-- the offence of a part at this place whose type does not fit the type that is asked for
abbrev pub unfit : List DeclTree → Option PlainType → PlainType → Place → List Offence
unfit declarations given asked place = mistyped_if (does_not_fit declarations given asked) place
