-- In a source without a name that is declared twice each type is what its name stands for, once it is resolved.
--
--   `resolved_once`            the law
use Rattle.std.proofs.Common.{◌≡◌, ℕ, ◌+◌, true, false, Bool, List, [], ◌∷◌, refl}
use Rattle.std.specs.Prelude.{is_some, length}
use Rattle.abs_program.proofs.KeptMeaningLemmas.{added_means, types_stay}
use Rattle.abs_program.specs.NamedDeclarations.{IsFirstType, TypesAreOnce}
use Rattle.abs_program.specs.NameSpaces.{NameSpaces, with_declaration, with_declarations}
use Rattle.abs_program.specs.Tables.{meaning_of}
use Rattle.abs_program.specs.declared.name_spaces.TypeMeaning.TheVariants as type
use Rattle.abs_tree.specs.Syntax.{DeclTree, DataTree, FunctionTree, InterfaceTree, ClassTree}
use Rattle.abs_tree.specs.declared.place.Place.{Place}
use Rattle.abs_names.specs.Resolution.{resolved_declaration, resolved_declarations}
use Rattle.abs_names.specs.Single.{twice}
use Rattle.abs_names.specs.Spaces.{constructors_offences, space_offences, spaces_offences}
use Rattle.list_facts.proofs.AppendLemmas.{both_empty}

-- a name that does not offend is declared once
is_single : (taken : Bool) (at : Place) → twice taken at ≡ [] → taken ≡ false
is_single false at none = refl
is_single true at none = absurd cc

-- one declaration, whatever it is resolved with, where others follow
one_is_first : (index : ℕ) (known around : NameSpaces) (declaration : DeclTree) (others : List DeclTree)
    → space_offences index known declaration ≡ []
    → IsFirstType (with_declarations index known (declaration ∷ others)) index (resolved_declaration around declaration)
one_is_first index known around (DataTree place name type_params constructors) others none =
    let own = both_empty (twice (is_some (meaning_of known.types name.name)) name.place)
    (constructors_offences index 0 known.constructors constructors) none in
    let meaning = type.Data (record { declaration = index; arity = length type_params }) in
    types_stay (index + 1) (with_declaration index known (DataTree place name type_params constructors)) others name.name
    meaning (added_means known.types name.name meaning
    (is_single (is_some (meaning_of known.types name.name)) name.place own.0))
one_is_first index known around (InterfaceTree place name extended signatures) others none =
    types_stay (index + 1) (with_declaration index known (InterfaceTree place name extended signatures)) others name.name
    (type.Interface index) (added_means known.types name.name (type.Interface index)
    (is_single (is_some (meaning_of known.types name.name)) name.place none))
one_is_first index known around (FunctionTree place result name type_params params value) others none = tt
one_is_first index known around (ClassTree place name params implemented members) others none = tt

-- all of them
pub resolved_once : (index : ℕ) (known around : NameSpaces) (declarations : List DeclTree)
    → spaces_offences index known declarations ≡ []
    → TypesAreOnce (with_declarations index known declarations) index (resolved_declarations around declarations)
resolved_once index known around [] none = tt
resolved_once index known around (declaration ∷ others) none =
    let parts = both_empty (space_offences index known declaration)
    (spaces_offences (index + 1) (with_declaration index known declaration) others) none in (
      one_is_first index known around declaration others parts.0,
      resolved_once (index + 1) (with_declaration index known declaration) around others parts.1,
    )
