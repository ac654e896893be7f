-- Names that are declared twice in a name space (N1): types, constructors, functions or classes.
--
--   `spaces_offences`          the offences of declarations after others
--   `space_offences`           those of one declaration
use Rattle.std.specs.Prelude.{ℕ, ◌+◌, List, [], ◌∷◌, ◌++◌, is_some}
use Rattle.abs_program.specs.NameSpaces.{NameSpaces, with_constructor, with_declaration}
use Rattle.abs_tree.specs.Syntax.{ConstructorTree, DeclTree, DataTree, FunctionTree, InterfaceTree, ClassTree}
use Rattle.abs_program.specs.Tables.{Table, meaning_of}
use Rattle.abs_program.specs.declared.name_spaces.ConstructorMeaning.{ConstructorMeaning}
use Rattle.abs_tree.specs.declared.refusal.Offence.{Offence}
use Rattle.abs_names.specs.Single.{twice}

-- constructors after these, the first of which is at this index among those of its data
abbrev pub constructors_offences : ℕ → ℕ → Table ConstructorMeaning → List ConstructorTree → List Offence
constructors_offences owner index known [] = []
constructors_offences owner index known (constructor ∷ others) =
    twice (is_some (meaning_of known constructor.name.name)) constructor.name.place
    ++ constructors_offences owner (index + 1) (with_constructor owner index known constructor) others

-- a declaration after these, which is at this index
abbrev pub space_offences : ℕ → NameSpaces → DeclTree → List Offence
space_offences index known (DataTree place name type_params constructors) =
    twice (is_some (meaning_of known.types name.name)) name.place
    ++ constructors_offences index 0 known.constructors constructors
space_offences index known (FunctionTree place result name type_params params value) =
    twice (is_some (meaning_of known.functions name.name)) name.place
space_offences index known (InterfaceTree place name extended signatures) =
    twice (is_some (meaning_of known.types name.name)) name.place
space_offences index known (ClassTree place name params implemented members) =
    twice (is_some (meaning_of known.classes name.name)) name.place

-- declarations after these, from this index on
abbrev pub spaces_offences : ℕ → NameSpaces → List DeclTree → List Offence
spaces_offences index known [] = []
spaces_offences index known (declaration ∷ others) =
    space_offences index known declaration
    ++ spaces_offences (index + 1) (with_declaration index known declaration) others
