-- Futures in values of an accepted program: they are only inside values of a type in which `Fut` occurs. No constructor
-- takes such a type, so futures are not in data but through its arguments. No field of an object has such a type.
--
--   `constructor_types_are_there`      the types of a constructor are there
--   `future_inside_has_type`           where a future is inside a value of a type, the type holds futures
--   `field_holds_no_future`            no field of an object holds a future
use Rattle.std.proofs.Common.{◌≡◌, ℕ, ◌+◌, zero, suc, Bool, true, false, ◌||◌, List, [], ◌∷◌, ◌++◌, Option, Some, None, refl, sym, ap, ap₂, ◌∙◌, subst, length, true≢false}
use Rattle.std.specs.Prelude.{slice_get, flat_map, option_and_then, if◌then◌else◌}
use Rattle.std.proofs.lemmas.Bool.{or_from, or_parts}
use Rattle.std.proofs.lemmas.Option.{none-some, same_Some}
use Rattle.abs_profile.specs.Accepted.{IsAcceptedProgram}
use Rattle.abs_profile.specs.Profile.{future_offences, types_offences, constructor_offences, param_offences, value_offences, member_offences, decl_offences, statements_offences}
use Rattle.abs_program.specs.NameSpaces.{NameSpaces, spaces_of}
use Rattle.abs_program.specs.Whole.{Inside, inside_types, TypeIsThere, TypesAreThere, ParamsAreThere, MembersAreThere, DeclarationIsThere, IsWhole}
use Rattle.abs_tree.specs.Syntax.{Name, VariableTree, AtField, TypeTree, UnresolvedType, IntType, StringType, FutType, DataType, InterfaceType, ParameterType, BottomType, NullType, ClassType, TypeTrees, NoType, NextType, ParamTree, ConstructorTree, MemberTree, FieldTree, MethodTree, DeclTree, DataTree, FunctionTree, InterfaceTree, ClassTree, SourceTree, ProgramTree}
use Rattle.abs_tree.specs.SyntaxSizes.{fields_among}
use Rattle.abs_tree.specs.declared.refusal.Offence.{Offence}
use Rattle.abs_types.proofs.SchemeLemmas.{Constructs, constructor_scheme_is}
use Rattle.abs_types.specs.Holds.{holds_futures_in, any_holds_futures}
use Rattle.abs_types.specs.PlainTypes.{PlainType, PlainClass, PlainData, plain, plains}
use Rattle.abs_types.specs.Schemes.{Scheme, param_types, scheme_of_constructor}
use Rattle.abs_types.specs.TypeOffences.{field_types}
use Rattle.abs_values.specs.References.{ToFuture, IsIn}
use Rattle.abs_values.specs.ValueTrees.{ValueTree}
use Rattle.config_state.specs.Bodies.{class_index}
use Rattle.list_facts.proofs.AllLemmas.{All-slice_get}
use Rattle.list_facts.proofs.AppendLemmas.{both_empty, not_empty}
use Rattle.type_sound.proofs.HeldLemmas.{Kind, holds, any_holds, applied_holds, IsOfKind, ConstructorsHold, inside_is_held}
use Rattle.type_sound.specs.Holding.{IsKnownType}
use Rattle.type_sound.specs.Routines.{fields_in_class, fields_if_there, fields_of_class}
use Rattle.type_sound.specs.Values.{World, ValueHas}

-- futures are in `Fut` alone
abbrev of_futures : Kind
of_futures = record { in_data = λ name. false; in_futures = true; in_objects = false }

mutual
  -- the plain type of a type that is there holds futures where the type does
  plain_holds_futures : (inside : Inside) (type : TypeTree) → TypeIsThere inside type
      → holds of_futures (plain type) ≡ holds_futures_in type
  plain_holds_futures inside (IntType place) there = refl
  plain_holds_futures inside (StringType place) there = refl
  plain_holds_futures inside (FutType place value) there = refl
  plain_holds_futures inside (DataType place name arguments) there =
      applied_holds of_futures (PlainData name) (plains arguments) ∙ plains_hold_futures inside arguments there.1
  plain_holds_futures inside (InterfaceType place name) there = refl
  plain_holds_futures inside (ParameterType place parameter) there = refl
  plain_holds_futures inside (UnresolvedType place name arguments) there = absurd there
  plain_holds_futures inside BottomType there = refl
  plain_holds_futures inside NullType there = refl
  plain_holds_futures inside (ClassType name) there = refl

  plains_hold_futures : (inside : Inside) (types : TypeTrees) → TypesAreThere inside types
      → any_holds of_futures (plains types) ≡ any_holds_futures types
  plains_hold_futures inside NoType there = refl
  plains_hold_futures inside (NextType first others) there =
      ap₂ (◌||◌) (plain_holds_futures inside first there.0) (plains_hold_futures inside others there.1)

-- where an offence is noted under a condition, and none is there, the condition is not so
not_noted : (held : Bool) (offence : Offence) → (if held then offence ∷ [] else []) ≡ [] → held ≡ false
not_noted true offence none = not_empty offence [] none
not_noted false offence none = refl

-- a type without offence holds no future
no_future_in_type : (type : TypeTree) → future_offences type ≡ [] → holds_futures_in type ≡ false
no_future_in_type (FutType place value) none = not_empty _ [] none
no_future_in_type (DataType place name arguments) none = not_noted (any_holds_futures arguments) _ none
no_future_in_type (IntType place) none = refl
no_future_in_type (StringType place) none = refl
no_future_in_type (InterfaceType place name) none = refl
no_future_in_type (ParameterType place parameter) none = refl
no_future_in_type (UnresolvedType place name arguments) none = refl
no_future_in_type BottomType none = refl
no_future_in_type NullType none = refl
no_future_in_type (ClassType name) none = refl

no_future_in_types : (types : TypeTrees) → types_offences types ≡ [] → any_holds_futures types ≡ false
no_future_in_types NoType none = refl
no_future_in_types (NextType first others) none =
    let parts = both_empty (future_offences first) (types_offences others) none in
    or_from (holds_futures_in first) (any_holds_futures others) (no_future_in_type first parts.0)
    (no_future_in_types others parts.1)

-- where several items have no offence, an item of them has none
item_has_none : {A : Type 0} (offences : A → List Offence) (items : List A) (index : ℕ) (item : A)
    → flat_map offences items ≡ [] → slice_get items index ≡ Some item → offences item ≡ []
item_has_none offences [] index item none there = absurd (none-some item there)
item_has_none offences (first ∷ others) zero item none there =
    subst (λ one. offences one ≡ []) (same_Some first item there)
    (both_empty (offences first) (flat_map offences others) none).0
item_has_none offences (first ∷ others) (suc index) item none there =
    item_has_none offences others index item (both_empty (offences first) (flat_map offences others) none).1 there

-- no declaration of an accepted program has an offence of the profile
declaration_in_profile : (program : ProgramTree) → IsAcceptedProgram program → (index : ℕ) (declaration : DeclTree)
    → slice_get program.source.declarations index ≡ Some declaration → decl_offences declaration ≡ []
declaration_in_profile program accepted index declaration there =
    item_has_none decl_offences program.source.declarations index declaration
    (both_empty (flat_map decl_offences program.source.declarations) (statements_offences program.source.main)
    accepted.in_profile).0 there

-- the types of a constructor are there
pub constructor_types_are_there : (source : SourceTree) (scheme : Scheme) → IsWhole source
    → (from : Constructs source.declarations scheme)
    → TypesAreThere (inside_types (spaces_of source.declarations) (length from.type_params)) from.constructor.types
constructor_types_are_there source scheme whole from =
    let spaces = spaces_of source.declarations in
    let inside = inside_types spaces (length from.type_params) in
    All-slice_get (λ (constructor : ConstructorTree). TypesAreThere inside constructor.types) from.constructors
    from.index from.constructor
    (All-slice_get (DeclarationIsThere spaces) source.declarations from.declaration
    (DataTree from.place from.owner from.type_params from.constructors) whole.declarations_are from.declared)
    from.among

-- no constructor takes a type that holds futures
constructor_takes_no_future : (program : ProgramTree) → IsAcceptedProgram program → (name : Name) (scheme : Scheme)
    → scheme_of_constructor program.source.declarations name ≡ Some scheme
    → any_holds of_futures scheme.takes ≡ false
constructor_takes_no_future program accepted name scheme named =
    let from = constructor_scheme_is program.source.declarations name scheme named in
    let inside = inside_types (spaces_of program.source.declarations) (length from.type_params) in
    ap (λ (one : Scheme). any_holds of_futures one.takes) (sym from.is)
    ∙ (plains_hold_futures inside from.constructor.types
    (constructor_types_are_there program.source scheme accepted.whole from)
    ∙ no_future_in_types from.constructor.types
    (item_has_none constructor_offences from.constructors from.index from.constructor
    (declaration_in_profile program accepted from.declaration
    (DataTree from.place from.owner from.type_params from.constructors) from.declared) from.among))

-- so what it takes is held by what it gives
constructors_hold_futures : (program : ProgramTree) → IsAcceptedProgram program
    → ConstructorsHold of_futures program.source.declarations
constructors_hold_futures program accepted = record {
  gives = λ name scheme named held.
      absurd (true≢false (sym held ∙ constructor_takes_no_future program accepted name scheme named));
}

-- a future is of the kind of futures
is_future : (task : ℕ) → IsOfKind of_futures (ToFuture task)
is_future task = record {
  to_object = λ object same. absurd cc;
  to_future = λ other same. refl;
}

-- each type of a value that has a future inside holds futures
future_is_held : (program : ProgramTree) → IsAcceptedProgram program → (world : World) (value : ValueTree)
    (type : PlainType) (task : ℕ) → ValueHas program world value type → IsIn (ToFuture task) value
    → holds of_futures type ≡ true
future_is_held program accepted world value type task has inside =
    inside_is_held program world of_futures (ToFuture task) (constructors_hold_futures program accepted)
    (is_future task) value type has inside

-- where a future is inside a value of a type, the type holds futures
pub future_inside_has_type : (program : ProgramTree) (world : World) (value : ValueTree) (type : TypeTree) (task : ℕ)
    → IsAcceptedProgram program → IsKnownType program type → ValueHas program world value (plain type)
    → IsIn (ToFuture task) value → holds_futures_in type ≡ true
future_inside_has_type program world value (ClassType name) task accepted known has inside =
    future_is_held program accepted world value (PlainClass name) task has inside
future_inside_has_type program world value type task accepted known has inside =
    sym (plain_holds_futures (inside_types (spaces_of program.source.declarations) 0) type known)
    ∙ future_is_held program accepted world value (plain type) task has inside

-- of types none of which holds futures, none does
none_holds : (types : List PlainType) (index : ℕ) (type : PlainType) → any_holds of_futures types ≡ false
    → slice_get types index ≡ Some type → holds of_futures type ≡ false
none_holds [] index type none there = absurd (none-some type there)
none_holds (first ∷ others) zero type none there =
    subst (λ one. holds of_futures one ≡ false) (same_Some first type there)
    (or_parts (holds of_futures first) (any_holds of_futures others) none).0
none_holds (first ∷ others) (suc index) type none there =
    none_holds others index type (or_parts (holds of_futures first) (any_holds of_futures others) none).1 there

-- where none of some types holds futures, and none of others, none of both does
none_of_both : (types others : List PlainType) → any_holds of_futures types ≡ false
    → any_holds of_futures others ≡ false → any_holds of_futures (types ++ others) ≡ false
none_of_both [] others none other_none = other_none
none_of_both (type ∷ types) others none other_none =
    let parts = or_parts (holds of_futures type) (any_holds of_futures types) none in
    or_from (holds of_futures type) (any_holds of_futures (types ++ others)) parts.0
    (none_of_both types others parts.1 other_none)

-- the plain type of a type that is there, without offence, holds no future
no_future_in_plain : (inside : Inside) (type : TypeTree) → TypeIsThere inside type → future_offences type ≡ []
    → holds of_futures (plain type) ≡ false
no_future_in_plain inside type there none = plain_holds_futures inside type there ∙ no_future_in_type type none

-- so do the types of parameters
no_future_in_params : (inside : Inside) (make : ℕ → VariableTree) (index : ℕ) (params : List ParamTree)
    → ParamsAreThere inside make index params → flat_map param_offences params ≡ []
    → any_holds of_futures (param_types params) ≡ false
no_future_in_params inside make index [] there none = refl
no_future_in_params inside make index (param ∷ others) there none =
    let parts = both_empty (param_offences param) (flat_map param_offences others) none in
    or_from (holds of_futures (plain param.type_of)) (any_holds of_futures (param_types others))
    (no_future_in_plain inside param.type_of there.0 parts.0)
    (no_future_in_params inside make (index + 1) others there.2 parts.1)

-- and the types of the fields among members
no_future_in_fields : (spaces : NameSpaces) (fields earlier : ℕ) (members : List MemberTree)
    → MembersAreThere spaces fields earlier members → flat_map member_offences members ≡ []
    → any_holds of_futures (field_types members) ≡ false
no_future_in_fields spaces fields earlier [] there none = refl
no_future_in_fields spaces fields earlier (FieldTree type name initial ∷ others) there none =
    let parts = both_empty (member_offences (FieldTree type name initial)) (flat_map member_offences others) none in
    let own = both_empty (future_offences type) (value_offences initial) parts.0 in
    or_from (holds of_futures (plain type)) (any_holds of_futures (field_types others))
    (no_future_in_plain (inside_types spaces 0) type there.0.0 own.0)
    (no_future_in_fields spaces fields (earlier + 1) others there.1 parts.1)
no_future_in_fields spaces fields earlier (MethodTree signature end body ∷ others) there none =
    no_future_in_fields spaces fields (earlier + 0) others there.1
    (both_empty (statements_offences body) (flat_map member_offences others) none).1

-- and the fields of a declaration that is there
no_future_in_class : (spaces : NameSpaces) (declaration : DeclTree) → DeclarationIsThere spaces declaration
    → decl_offences declaration ≡ [] → any_holds of_futures (fields_in_class declaration) ≡ false
no_future_in_class spaces (ClassTree place name params implemented members) there none =
    let parts = both_empty (flat_map param_offences params) (flat_map member_offences members) none in
    none_of_both (param_types params) (field_types members)
    (no_future_in_params (inside_types spaces 0) AtField 0 params there.1 parts.0)
    (no_future_in_fields spaces (length params + fields_among members) (length params) members there.2 parts.1)
no_future_in_class spaces (DataTree place name type_params constructors) there none = refl
no_future_in_class spaces (FunctionTree place result name type_params params value) there none = refl
no_future_in_class spaces (InterfaceTree place name extended signatures) there none = refl

-- no type of a field holds futures, whatever a class is found as
no_future_in_found : (program : ProgramTree) → IsAcceptedProgram program → (class : Option ℕ)
    → any_holds of_futures (fields_if_there (option_and_then (slice_get program.source.declarations) class)) ≡ false
no_future_in_found program accepted None = refl
no_future_in_found program accepted (Some index) = by_case (slice_get declarations index) refl
  where
    declarations : List DeclTree
    declarations = program.source.declarations

    by_case : (found : Option DeclTree) → slice_get declarations index ≡ found
        → any_holds of_futures (fields_if_there found) ≡ false
    by_case None is = refl
    by_case (Some declaration) is =
        no_future_in_class (spaces_of declarations) declaration
        (All-slice_get (DeclarationIsThere (spaces_of declarations)) declarations index declaration
        accepted.whole.declarations_are is) (declaration_in_profile program accepted index declaration is)

-- no field of an object holds a future
pub field_holds_no_future : (program : ProgramTree) → IsAcceptedProgram program → (world : World) (class : Name)
    (field : ℕ) (value : ValueTree) (type : PlainType) (task : ℕ)
    → slice_get (fields_of_class program class) field ≡ Some type → ValueHas program world value type
    → IsIn (ToFuture task) value → ⊥
field_holds_no_future program accepted world class field value type task there has inside =
    true≢false (sym (future_is_held program accepted world value type task has inside)
    ∙ none_holds (fields_of_class program class) field type
    (no_future_in_found program accepted (class_index program class)) there)
