-- What resolution leaves of declarations as it was: their names, what they declare, and the interfaces above them.
use Rattle.std.proofs.Common.{◌≡◌, ℕ, ◌+◌, Bool, List, [], ◌∷◌, ◌++◌, refl, ap, ◌∙◌}
use Rattle.abs_graph.specs.Graphs.{Graph, on_cycles}
use Rattle.abs_program.specs.NameSpaces.{NameSpaces, built_in, with_constructor, with_constructors, with_declaration, with_declarations, spaces_of}
use Rattle.abs_program.specs.Supertypes.{above, supertypes_in, supertypes}
use Rattle.abs_tree.specs.Syntax.{AtSlot, AtField, ConstructorTree, DeclTree, DataTree, FunctionTree, InterfaceTree, ClassTree}
use Rattle.abs_program.specs.Tables.{Table, with_first}
use Rattle.abs_program.specs.declared.name_spaces.ConstructorMeaning.{ConstructorMeaning}
use Rattle.abs_program.specs.declared.name_spaces.FunctionMeaning.TheVariants as function
use Rattle.abs_tree.specs.declared.place.Place.{Place}
use Rattle.abs_tree.specs.declared.refusal.Offence.{Offence}
use Rattle.abs_names.specs.Extension.{extension_offences, name_place}
use Rattle.abs_names.specs.Resolution.{resolved_constructors, resolved_declaration, resolved_declarations}
use Rattle.abs_names.specs.Single.{cyclic}
use Rattle.abs_names.specs.TypeNames.{Around, around_of}
use Rattle.abs_names.proofs.ParamLemmas.{params_length}
use Rattle.abs_names.proofs.ThereTypeLemmas.{types_kept}

-- the same constructors
constructors_kept : (owner index : ℕ) (known : Table ConstructorMeaning) (around : Around)
    (constructors : List ConstructorTree)
    → with_constructors owner index known (resolved_constructors around constructors)
    ≡ with_constructors owner index known constructors
constructors_kept owner index known around [] = refl
constructors_kept owner index known around (constructor ∷ others) =
    let kept = with_constructor owner index known constructor in
    ap (λ (n : ℕ). with_constructors owner (index + 1) (with_first known constructor.name.name
    (record { taking = record { declaration = owner; arity = n }; index = index }))
    (resolved_constructors around others)) (types_kept around constructor.types)
    ∙ constructors_kept owner (index + 1) kept around others

-- the same name spaces
declaration_kept : (index : ℕ) (known spaces : NameSpaces) (declaration : DeclTree)
    → with_declaration index known (resolved_declaration spaces declaration)
    ≡ with_declaration index known declaration
declaration_kept index known spaces (DataTree place name type_params constructors) =
    let one = with_declaration index known (DataTree place name type_params []) in
    ap (λ (table : Table ConstructorMeaning). record one { constructors = table })
    (constructors_kept index 0 known.constructors (around_of spaces type_params) constructors)
declaration_kept index known spaces (FunctionTree place result name type_params params value) =
    ap (λ (n : ℕ). record known {
      functions = with_first known.functions name.name
          (function.Defined (record { declaration = index; arity = n }));
    }) (params_length (around_of spaces type_params) AtSlot 0 params)
declaration_kept index known spaces (InterfaceTree place name extended signatures) = refl
declaration_kept index known spaces (ClassTree place name params implemented members) =
    ap (λ (n : ℕ). record known {
      classes = with_first known.classes name.name (record { declaration = index; arity = n });
    }) (params_length (around_of spaces []) AtField 0 params)

declarations_kept : (index : ℕ) (known spaces : NameSpaces) (declarations : List DeclTree)
    → with_declarations index known (resolved_declarations spaces declarations)
    ≡ with_declarations index known declarations
declarations_kept index known spaces [] = refl
declarations_kept index known spaces (declaration ∷ others) =
    ap (λ (s : NameSpaces). with_declarations (index + 1) s (resolved_declarations spaces others))
    (declaration_kept index known spaces declaration)
    ∙ declarations_kept (index + 1) (with_declaration index known declaration) spaces others

pub spaces_kept : (spaces : NameSpaces) (declarations : List DeclTree)
    → spaces_of (resolved_declarations spaces declarations) ≡ spaces_of declarations
spaces_kept spaces declarations = declarations_kept 0 built_in spaces declarations

-- the same names
name_place_kept : (spaces : NameSpaces) (declaration : DeclTree)
    → name_place (resolved_declaration spaces declaration) ≡ name_place declaration
name_place_kept spaces (DataTree place name type_params constructors) = refl
name_place_kept spaces (FunctionTree place result name type_params params value) = refl
name_place_kept spaces (InterfaceTree place name extended signatures) = refl
name_place_kept spaces (ClassTree place name params implemented members) = refl

pub extension_offences_kept : (spaces : NameSpaces) (cycles : List Bool) (declarations : List DeclTree)
    → extension_offences cycles (resolved_declarations spaces declarations) ≡ extension_offences cycles declarations
extension_offences_kept spaces [] declarations = refl
extension_offences_kept spaces (extends_itself ∷ cycles) [] = refl
extension_offences_kept spaces (extends_itself ∷ cycles) (declaration ∷ declarations) =
    ap (λ (p : Place).
    cyclic extends_itself p ++ extension_offences cycles (resolved_declarations spaces declarations))
    (name_place_kept spaces declaration)
    ∙ ap (λ (xs : List Offence). cyclic extends_itself (name_place declaration) ++ xs)
    (extension_offences_kept spaces cycles declarations)

-- the same interfaces above
above_kept : (known spaces : NameSpaces) (declaration : DeclTree)
    → above known (resolved_declaration spaces declaration) ≡ above known declaration
above_kept known spaces (DataTree place name type_params constructors) = refl
above_kept known spaces (FunctionTree place result name type_params params value) = refl
above_kept known spaces (InterfaceTree place name extended signatures) = refl
above_kept known spaces (ClassTree place name params implemented members) = refl

supertypes_in_kept : (known spaces : NameSpaces) (declarations : List DeclTree)
    → supertypes_in known (resolved_declarations spaces declarations) ≡ supertypes_in known declarations
supertypes_in_kept known spaces [] = refl
supertypes_in_kept known spaces (declaration ∷ declarations) =
    ap (λ (row : List ℕ). row ∷ supertypes_in known (resolved_declarations spaces declarations))
    (above_kept known spaces declaration)
    ∙ ap (λ (graph : Graph). above known declaration ∷ graph) (supertypes_in_kept known spaces declarations)

pub supertypes_kept : (spaces : NameSpaces) (declarations : List DeclTree)
    → supertypes (resolved_declarations spaces declarations) ≡ supertypes declarations
supertypes_kept spaces declarations =
    ap (λ (s : NameSpaces). supertypes_in s (resolved_declarations spaces declarations))
    (spaces_kept spaces declarations)
    ∙ supertypes_in_kept (spaces_of declarations) spaces declarations

-- the same offences of those that extend themselves
pub cycles_kept : (spaces : NameSpaces) (declarations : List DeclTree)
    → extension_offences (on_cycles (supertypes (resolved_declarations spaces declarations)))
    (resolved_declarations spaces declarations)
    ≡ extension_offences (on_cycles (supertypes declarations)) declarations
cycles_kept spaces declarations =
    ap (λ (graph : Graph). extension_offences (on_cycles graph) (resolved_declarations spaces declarations))
    (supertypes_kept spaces declarations)
    ∙ extension_offences_kept spaces (on_cycles (supertypes declarations)) declarations
