-- Interfaces that extend themselves (N4), in one step or in more.
--
--   `name_place`               where the name of a declaration is
--   `extension_offences`       the offences of declarations, given which of them extend themselves
use Rattle.std.specs.Prelude.{Bool, List, [], ◌∷◌, ◌++◌}
use Rattle.abs_tree.specs.Syntax.{DeclTree, DataTree, FunctionTree, InterfaceTree, ClassTree}
use Rattle.abs_tree.specs.declared.place.Place.{Place}
use Rattle.abs_tree.specs.declared.refusal.Offence.{Offence}
use Rattle.abs_names.specs.Single.{cyclic}

-- where the name of a declaration is
abbrev pub name_place : DeclTree → Place
name_place (DataTree place name type_params constructors) = name.place
name_place (FunctionTree place result name type_params params value) = name.place
name_place (InterfaceTree place name extended signatures) = name.place
name_place (ClassTree place name params implemented members) = name.place

-- declarations, of each of which it is known whether it extends itself
abbrev pub extension_offences : List Bool → List DeclTree → List Offence
extension_offences [] declarations = []
extension_offences (extends_itself ∷ others) [] = []
extension_offences (extends_itself ∷ others) (declaration ∷ declarations) =
    cyclic extends_itself (name_place declaration) ++ extension_offences others declarations
