-- Objects in values of an accepted program: they are only inside values of an interface, of a class, and of data that
-- holds objects. No two types have one name, so the name of data stands for its own declaration.
--
--   `constructors_hold_objects`        data holds objects where one of its constructors takes a type that does
--   `object_inside_fits`               the class of an object inside a value of a type is one that the type can hold
use Rattle.std.proofs.Common.{◌≡◌, ℕ, Bool, true, false, ◌||◌, List, [], ◌∷◌, ◌++◌, Option, Some, None, refl, sym, ap, ap₂, ◌∙◌, get_or, length, map, nat_eq, eq-eqb, true≢false, ⊎_elim}
use Rattle.std.specs.List.{list_any, range_with_len}
use Rattle.std.specs.Prelude.{slice_get}
use Rattle.std.proofs.lemmas.Bool.{or_cases, or_left, or_right}
use Rattle.std.proofs.lemmas.List.Folds.{list_any-append}
use Rattle.std.proofs.lemmas.Slice.Eq.{bytes_eq-Decides}
use Rattle.abs_profile.specs.Accepted.{IsAcceptedProgram}
use Rattle.abs_program.proofs.DeclaredLemmas.{interface_is_declared}
use Rattle.abs_program.proofs.PreludeTypeLemmas.{type_is_first}
use Rattle.abs_program.specs.Holdings.{declaration_of, declarations_in, declarations_in_all, holders}
use Rattle.abs_program.specs.NameSpaces.{spaces_of, means_interface}
use Rattle.abs_program.specs.Tables.{meaning_of}
use Rattle.abs_program.specs.Whole.{Inside, inside_types, TypeIsThere, TypesAreThere}
use Rattle.abs_program.specs.declared.name_spaces.TypeMeaning.{TypeMeaning}
use Rattle.abs_program.specs.declared.name_spaces.TypeMeaning.TheVariants as type
use Rattle.abs_tree.specs.Syntax.{Name, TypeTree, UnresolvedType, IntType, StringType, FutType, DataType, InterfaceType, ParameterType, BottomType, NullType, ClassType, TypeTrees, NoType, NextType, DeclTree, DataTree, ProgramTree}
use Rattle.abs_types.proofs.ConstructorLemmas.{data_is_built}
use Rattle.abs_types.proofs.SchemeLemmas.{constructor_scheme_is}
use Rattle.abs_types.proofs.SpineLemmas.{data_apart}
use Rattle.abs_types.specs.Applications.{replaced}
use Rattle.abs_types.specs.Holds.{data_holds, holds_objects_in, any_holds_objects}
use Rattle.abs_types.specs.PlainTypes.{PlainType, PlainInterface, PlainData, PlainParameter, PlainClass, plain, plains}
use Rattle.abs_types.specs.Schemes.{Scheme}
use Rattle.abs_types.specs.Subtyping.{fits, implements_name}
use Rattle.abs_values.specs.References.{ToObject, IsIn, IsInAny}
use Rattle.abs_values.specs.ValueTrees.{ValueTree, IntValue, StringValue, BuiltValue, ObjectValue, FutureValue, NullValue, ValueTrees, NoPart, NextPart}
use Rattle.type_sound.proofs.FutureLemmas.{constructor_types_are_there}
use Rattle.type_sound.proofs.HeldLemmas.{Kind, holds, any_holds, applied_holds, IsOfKind, ConstructorsHold, inside_is_held}
use Rattle.type_sound.proofs.HolderLemmas.{Has, interface_is_holder, data_is_holder}
use Rattle.type_sound.specs.Holding.{CanHold, IsKnownType}
use Rattle.type_sound.specs.Values.{World, ValueHas, PartsHave}

-- objects are in interfaces and classes, and in data that holds objects
abbrev of_objects : List DeclTree → Kind
of_objects declarations = record {
  in_data = λ name. data_holds declarations (meaning_of (spaces_of declarations).types name);
  in_futures = false;
  in_objects = true;
}

mutual
  -- the plain type of a type that is there holds objects where the type does
  plain_holds_objects : (declarations : List DeclTree) (inside : Inside) (type : TypeTree) → TypeIsThere inside type
      → holds (of_objects declarations) (plain type) ≡ holds_objects_in declarations type
  plain_holds_objects declarations inside (IntType place) there = refl
  plain_holds_objects declarations inside (StringType place) there = refl
  plain_holds_objects declarations inside (FutType place value) there = refl
  plain_holds_objects declarations inside (DataType place name arguments) there =
      applied_holds (of_objects declarations) (PlainData name) (plains arguments)
      ∙ ap (λ (b : Bool). data_holds declarations (meaning_of (spaces_of declarations).types name) || b)
      (plains_hold_objects declarations inside arguments there.1)
  plain_holds_objects declarations inside (InterfaceType place name) there = refl
  plain_holds_objects declarations inside (ParameterType place parameter) there = refl
  plain_holds_objects declarations inside (UnresolvedType place name arguments) there = absurd there
  plain_holds_objects declarations inside BottomType there = refl
  plain_holds_objects declarations inside NullType there = refl
  plain_holds_objects declarations inside (ClassType name) there = absurd there

  plains_hold_objects : (declarations : List DeclTree) (inside : Inside) (types : TypeTrees)
      → TypesAreThere inside types
      → any_holds (of_objects declarations) (plains types) ≡ any_holds_objects declarations types
  plains_hold_objects declarations inside NoType there = refl
  plains_hold_objects declarations inside (NextType first others) there =
      ap₂ (◌||◌) (plain_holds_objects declarations inside first there.0)
      (plains_hold_objects declarations inside others there.1)

-- One of these declarations holds objects.
record Holder (declarations : List DeclTree) (numbers : List ℕ) : Type 0 where
  node : ℕ
  had : Has numbers node
  held : get_or (holders declarations) node false ≡ true

-- where one of some declarations does, one of these and others does
holder_first : {declarations : List DeclTree} (numbers others : List ℕ) → Holder declarations numbers
    → Holder declarations (numbers ++ others)
holder_first numbers others holder = record {
  node = holder.node;
  had = list_any-append (λ other. nat_eq other holder.node) numbers others
      ∙ or_left (list_any (λ other. nat_eq other holder.node) numbers)
      (list_any (λ other. nat_eq other holder.node) others) holder.had;
  held = holder.held;
}

holder_second : {declarations : List DeclTree} (numbers others : List ℕ) → Holder declarations others
    → Holder declarations (numbers ++ others)
holder_second numbers others holder = record {
  node = holder.node;
  had = list_any-append (λ other. nat_eq other holder.node) numbers others
      ∙ or_right (list_any (λ other. nat_eq other holder.node) numbers)
      (list_any (λ other. nat_eq other holder.node) others) holder.had;
  held = holder.held;
}

-- a declaration that holds objects is one of a list with it alone
holder_alone : (declarations : List DeclTree) (node : ℕ) → get_or (holders declarations) node false ≡ true
    → Holder declarations (node ∷ [])
holder_alone declarations node held =
    record { node = node; had = or_left (nat_eq node node) false (eq-eqb node node refl); held = held }

-- data that holds objects is declared so
data_holder : (declarations : List DeclTree) (meaning : Option TypeMeaning) → data_holds declarations meaning ≡ true
    → Holder declarations (declaration_of meaning)
data_holder declarations (Some (type.Data taking)) held = holder_alone declarations taking.declaration held
data_holder declarations (Some (type.Interface index)) held = absurd (true≢false (sym held))
data_holder declarations (Some type.Int) held = absurd (true≢false (sym held))
data_holder declarations (Some type.String) held = absurd (true≢false (sym held))
data_holder declarations (Some type.Fut) held = absurd (true≢false (sym held))
data_holder declarations None held = absurd (true≢false (sym held))

-- what is named as an interface holds objects
interface_holder : (declarations : List DeclTree) (name : Name) (meaning : Option TypeMeaning)
    → meaning_of (spaces_of declarations).types name ≡ meaning → means_interface meaning ≡ true
    → Holder declarations (declaration_of meaning)
interface_holder declarations name (Some (type.Interface index)) is means =
    holder_alone declarations index
    (interface_is_holder declarations name index (interface_is_declared declarations name index is))
interface_holder declarations name (Some (type.Data taking)) is means = absurd (true≢false (sym means))
interface_holder declarations name (Some type.Int) is means = absurd (true≢false (sym means))
interface_holder declarations name (Some type.String) is means = absurd (true≢false (sym means))
interface_holder declarations name (Some type.Fut) is means = absurd (true≢false (sym means))
interface_holder declarations name None is means = absurd (true≢false (sym means))

mutual
  -- in a type that is there and holds objects is a declaration that does
  type_holder : (declarations : List DeclTree) (count : ℕ) (type : TypeTree)
      → TypeIsThere (inside_types (spaces_of declarations) count) type → holds_objects_in declarations type ≡ true
      → Holder declarations (declarations_in (spaces_of declarations) type)
  type_holder declarations count (InterfaceType place name) there held =
      interface_holder declarations name (meaning_of (spaces_of declarations).types name) refl there
  type_holder declarations count (DataType place name arguments) there held =
      let meaning = meaning_of (spaces_of declarations).types name in
      let own = declaration_of meaning in
      let inner = declarations_in_all (spaces_of declarations) arguments in
      ⊎_elim
      (λ by_name. holder_first own inner (data_holder declarations meaning by_name))
      (λ by_argument. holder_second own inner (types_holder declarations count arguments there.1 by_argument))
      (or_cases (data_holds declarations meaning) (any_holds_objects declarations arguments) held)
  type_holder declarations count (IntType place) there held = absurd (true≢false (sym held))
  type_holder declarations count (StringType place) there held = absurd (true≢false (sym held))
  type_holder declarations count (FutType place value) there held = absurd (true≢false (sym held))
  type_holder declarations count (ParameterType place parameter) there held = absurd (true≢false (sym held))
  type_holder declarations count (UnresolvedType place name arguments) there held = absurd there
  type_holder declarations count BottomType there held = absurd there
  type_holder declarations count NullType there held = absurd there
  type_holder declarations count (ClassType name) there held = absurd there

  types_holder : (declarations : List DeclTree) (count : ℕ) (types : TypeTrees)
      → TypesAreThere (inside_types (spaces_of declarations) count) types
      → any_holds_objects declarations types ≡ true
      → Holder declarations (declarations_in_all (spaces_of declarations) types)
  types_holder declarations count NoType there held = absurd (true≢false (sym held))
  types_holder declarations count (NextType first others) there held =
      let own = declarations_in (spaces_of declarations) first in
      let inner = declarations_in_all (spaces_of declarations) others in
      ⊎_elim
      (λ here. holder_first own inner (type_holder declarations count first there.0 here))
      (λ further. holder_second own inner (types_holder declarations count others there.1 further))
      (or_cases (holds_objects_in declarations first) (any_holds_objects declarations others) held)

-- data holds objects where one of its constructors takes a type that does
pub constructors_hold_objects : (program : ProgramTree) → IsAcceptedProgram program
    → ConstructorsHold (of_objects program.source.declarations) program.source.declarations
constructors_hold_objects program accepted = record {
  gives = λ name scheme found held.
      let declarations = program.source.declarations in
      let from = constructor_scheme_is declarations name scheme found in
      let count = length from.type_params in
      let inside = inside_types (spaces_of declarations) count in
      let there = constructor_types_are_there program.source scheme accepted.whole from in
      let taken : any_holds_objects declarations from.constructor.types ≡ true =
      sym (plains_hold_objects declarations inside from.constructor.types there)
      ∙ (ap (λ (one : Scheme). any_holds (of_objects declarations) one.takes) from.is ∙ held) in
      let holder = types_holder declarations count from.constructor.types there taken in
      let own : get_or (holders declarations) from.declaration false ≡ true =
      data_is_holder declarations from.declaration from.place from.owner from.type_params from.constructors from.index
      from.constructor holder.node from.declared from.among holder.had holder.held in
      let parameters = map PlainParameter (range_with_len 0 count) in
      ap (λ (one : Scheme). holds (of_objects declarations) one.gives) (sym from.is)
      ∙ (applied_holds (of_objects declarations) (PlainData from.owner.name) parameters
      ∙ or_left (holds (of_objects declarations) (PlainData from.owner.name))
      (any_holds (of_objects declarations) parameters)
      (ap (data_holds declarations)
      (type_is_first program.source from.declaration
      (DataTree from.place from.owner from.type_params from.constructors) accepted.whole from.declared) ∙ own));
}

-- of two references to objects that are the same the objects are
same_object : (one other : ℕ) → ToObject one ≡ ToObject other → one ≡ other
same_object one other same = cc

mutual
  unfolding ValueHas PartsHave IsIn IsInAny

  -- an object that is inside a value of a type has a class
  object_has_class : (program : ProgramTree) (world : World) (object : ℕ) (value : ValueTree) (type : PlainType)
      → ValueHas program world value type → IsIn (ToObject object) value
      → (class : Name) × (slice_get world.classes object ≡ Some class)
  object_has_class program world object (IntValue number) type has inside = absurd inside
  object_has_class program world object (StringValue string) type has inside = absurd inside
  object_has_class program world object NullValue type has inside = absurd inside
  object_has_class program world object (ObjectValue own) type has inside =
      (has.0, ap (slice_get world.classes) (same_object object own inside) ∙ has.1)
  object_has_class program world object (FutureValue task) type has inside = absurd cc
  object_has_class program world object (BuiltValue constructor parts) type has inside =
      object_in_parts program world object parts (map (replaced has.2) has.1.takes) has.7 inside

  object_in_parts : (program : ProgramTree) (world : World) (object : ℕ) (parts : ValueTrees) (types : List PlainType)
      → PartsHave program world parts types → IsInAny (ToObject object) parts
      → (class : Name) × (slice_get world.classes object ≡ Some class)
  object_in_parts program world object NoPart types have inside = absurd inside
  object_in_parts program world object (NextPart first others) [] have inside = absurd have
  object_in_parts program world object (NextPart first others) (type ∷ types) have inside = ⊎_elim
      (λ here. object_has_class program world object first type have.0 here)
      (λ there. object_in_parts program world object others types have.1 there)
      inside

-- of a value of an interface the object inside it is the value, and its class implements the interface
object_of_interface : (program : ProgramTree) (world : World) (value : ValueTree) (name : Name) (object : ℕ)
    → ValueHas program world value (PlainInterface name) → IsIn (ToObject object) value
    → (class : Name) × (slice_get world.classes object ≡ Some class)
    × (implements_name program.source.declarations class name ≡ true)
unfolding ValueHas IsIn fits
object_of_interface program world (IntValue number) name object has inside = absurd inside
object_of_interface program world (StringValue string) name object has inside = absurd inside
object_of_interface program world NullValue name object has inside = absurd inside
object_of_interface program world (ObjectValue own) name object has inside =
    (has.0, ap (slice_get world.classes) (same_object object own inside) ∙ has.1, has.2)
object_of_interface program world (FutureValue task) name object has inside = absurd cc
object_of_interface program world (BuiltValue constructor parts) name object has inside =
    let declarations = program.source.declarations in
    let built = data_is_built declarations has.0 has.1 has.2 has.4 has.5 in
    absurd (true≢false (sym has.6 ∙ (ap (λ one. fits declarations one (PlainInterface name)) built.1
    ∙ sym (data_apart declarations built.0 has.2 (PlainInterface name) refl))))

-- an object is of the kind of objects
is_object : (declarations : List DeclTree) (object : ℕ) → IsOfKind (of_objects declarations) (ToObject object)
is_object declarations object = record {
  to_object = λ other same. refl;
  to_future = λ task same. absurd cc;
}

-- a type of a value with an object inside holds objects, and the object has a class
object_in_type : (program : ProgramTree) → IsAcceptedProgram program → (world : World) (value : ValueTree) (type : TypeTree) (object : ℕ)
    → TypeIsThere (inside_types (spaces_of program.source.declarations) 0) type
    → ValueHas program world value (plain type) → IsIn (ToObject object) value
    → (class : Name) × (slice_get world.classes object ≡ Some class)
    × (holds_objects_in program.source.declarations type ≡ true)
object_in_type program accepted world value type object there has inside =
    let declarations = program.source.declarations in
    let found = object_has_class program world object value (plain type) has inside in (
      found.0,
      found.1,
      sym (plain_holds_objects declarations (inside_types (spaces_of declarations) 0) type there)
          ∙ inside_is_held program world (of_objects declarations) (ToObject object)
          (constructors_hold_objects program accepted) (is_object declarations object) value (plain type) has
          inside,
    )

-- of a value of a class the object inside it is the value, and it is of the class
object_of_class : (program : ProgramTree) (world : World) (value : ValueTree) (name : Name) (object : ℕ)
    → ValueHas program world value (PlainClass name) → IsIn (ToObject object) value
    → (class : Name) × (slice_get world.classes object ≡ Some class) × (class ≡ name)
unfolding ValueHas IsIn fits
object_of_class program world (IntValue number) name object has inside = absurd inside
object_of_class program world (StringValue string) name object has inside = absurd inside
object_of_class program world NullValue name object has inside = absurd inside
object_of_class program world (ObjectValue own) name object has inside = (
  has.0,
  ap (slice_get world.classes) (same_object object own inside) ∙ has.1,
  (bytes_eq-Decides has.0 name).0 has.2,
)
object_of_class program world (FutureValue task) name object has inside = absurd cc
object_of_class program world (BuiltValue constructor parts) name object has inside =
    let declarations = program.source.declarations in
    let built = data_is_built declarations has.0 has.1 has.2 has.4 has.5 in
    absurd (true≢false (sym has.6 ∙ (ap (λ one. fits declarations one (PlainClass name)) built.1
    ∙ sym (data_apart declarations built.0 has.2 (PlainClass name) refl))))

-- the class of an object inside a value of a type is one that the type can hold
pub object_inside_fits : (program : ProgramTree) (world : World) (value : ValueTree) (type : TypeTree) (object : ℕ)
    → IsAcceptedProgram program → IsKnownType program type → ValueHas program world value (plain type)
    → IsIn (ToObject object) value
    → (class : Name) × (slice_get world.classes object ≡ Some class) × CanHold program.source.declarations class type
object_inside_fits program world value (InterfaceType place name) object accepted known has inside =
    object_of_interface program world value name object has inside
object_inside_fits program world value (ClassType name) object accepted known has inside =
    object_of_class program world value name object has inside
object_inside_fits program world value type object accepted known has inside =
    object_in_type program accepted world value type object known has inside
