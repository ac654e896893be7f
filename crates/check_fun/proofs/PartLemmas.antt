-- The types of the parts of a constructor, in a type that is matched.
--
--   `given_to`                             the arguments of data with a name
--   `not_applied`, `has_value`             what the shape of a type says of it
--   `arguments_found`, `not_that_data`     the arguments of a type, walked down its heads
--   `no_parts`, `bottom_parts`             the parts where there is no constructor, and in the type of no value
--   `parts_replaced`                       the parts in another type, by its arguments
--   `parts_matched`                        the parts, if there are as many
--   `takes_found`                          what a constructor takes is of the table
use Rattle.std.proofs.Common.{◌≡◌, ◌≢◌, ℕ, ◌-◌, Bool, true, false, List, [], ◌∷◌, ◌++◌, Option, Some, None, option_map, refl, sym, subst, ap, ap₂, ◌∙◌, length, map, reverse, replicate, arith}
use Rattle.std.specs.Prelude.{option_and_then, if◌then◌else◌, nat_eq}
use Rattle.std.specs.List.{range_with_len}
use Rattle.std.specs.Str.{bytes_eq}
use Rattle.std.proofs.lemmas.Bool.{false_from_ne_true}
use Rattle.std.proofs.lemmas.List.{append-nil, append_assoc, length-map, reverse-append}
use Rattle.std.proofs.lemmas.List.Elements.{All-replicate}
use Rattle.std.proofs.lemmas.Option.{same_Some}
use Rattle.std.proofs.lemmas.Simd.{map-map, splat_is_map}
use Rattle.std.proofs.lemmas.Slice.Eq.{bytes_eq-Decides}
use Rattle.abs_tree.specs.Names.{name_of}
use Rattle.abs_tree.specs.Syntax.{Name}
use Rattle.abs_types.proofs.ConstructorLemmas.{data_arguments}
use Rattle.abs_types.specs.Applications.{replaced}
use Rattle.abs_types.specs.Heads.{IsSpine, applied_back}
use Rattle.abs_types.specs.PatternTypes.{DataOf, arguments_of, constructor_parts, if_as_many, parts_by, parts_if_same}
use Rattle.abs_types.specs.PlainTypes.{PlainType, PlainBottom, PlainData, PlainApplied, PlainParameter}
use Rattle.abs_types.specs.Schemes.{Scheme, scheme_of_constructor}
use Rattle.abs_types.specs.TypeShapes.{shape_type, type_at, types_at, IsAmong}
use Rattle.abs_types.specs.TypeTables.{types_in}
use Rattle.abs_types.specs.declared.table.shape.Shape.{Shape}
use Rattle.abs_types.specs.declared.table.shape.Shape.TheVariants as shape
use Rattle.abs_types.specs.declared.table.shape.TypeIndex.{TypeIndex}
use Rattle.check_fun.specs.Contexts.{Context, built_at, Finds, FindsAll, FindsConstructor, FoundAll}
use Rattle.check_fun.specs.declared.checker.Checker.{Checker}
use Rattle.check_fun.specs.declared.schemes.ConstructorTakes.{ConstructorTakes}
use Rattle.list_facts.proofs.AllLemmas.{All-reverse}
use Rattle.list_facts.proofs.MapLemmas.{reverse-map}

-- the arguments of data, if it has this name
abbrev pub given_to : Name → Option DataOf → Option (List PlainType)
given_to name found =
    option_and_then (λ (known : DataOf). if bytes_eq name known.name then Some known.arguments else None) found

-- a type of another shape is not applied
shape_not_applied : (names : List Name) (types : List PlainType) (found : Shape) (one other : PlainType)
    → ((head argument : TypeIndex) → found ≡ shape.Applied head argument → ⊥)
    → shape_type names types found ≢ PlainApplied one other
unfolding shape_type
shape_not_applied names types (shape.Applied head argument) one other apart = absurd (apart head argument refl)
shape_not_applied names types found one other apart = λ same. cc

-- so a type whose shape is another one is not applied
pub not_applied : (names : List Name) (types : List PlainType) {type one other : PlainType} {found : Shape}
    → ((head argument : TypeIndex) → found ≡ shape.Applied head argument → ⊥)
    → type ≡ shape_type names types found → type ≢ PlainApplied one other
not_applied names types {type} {one} {other} {found} apart is same =
    shape_not_applied names types found one other apart (sym is ∙ same)

-- a type of another shape is not that of no value
shape_not_bottom : (names : List Name) (types : List PlainType) (found : Shape) → (found ≡ shape.Bottom → ⊥)
    → shape_type names types found ≢ PlainBottom
unfolding shape_type
shape_not_bottom names types shape.Bottom apart = absurd (apart refl)
shape_not_bottom names types found apart = λ same. cc

-- one argument more is the last one
more_given : (name : Name) (found : Option DataOf) (last : PlainType)
    → given_to name (option_map (λ (known : DataOf). record known { arguments = known.arguments ++ last ∷ [] }) found)
    ≡ option_map (λ (types : List PlainType). types ++ last ∷ []) (given_to name found)
more_given name None last = refl
more_given name (Some known) last =
    elim (bytes_eq name known.name) as (λ same.
    (if same then Some (known.arguments ++ last ∷ []) else None)
    ≡ option_map (λ (types : List PlainType). types ++ last ∷ []) (if same then Some known.arguments else None)) [
      | true ↦ refl
      | false ↦ refl
    ]

-- nothing more is added
added_nothing : (given : Option (List PlainType))
    → given ≡ option_map (λ (types : List PlainType). types ++ []) given
added_nothing None = refl
added_nothing (Some types) = ap Some (sym (append-nil types))

-- what is added in two steps is added
added_twice : (given : Option (List PlainType)) (more last : List PlainType)
    → option_map (λ (types : List PlainType). types ++ last) (option_map (λ (types : List PlainType). types ++ more) given)
    ≡ option_map (λ (types : List PlainType). types ++ (more ++ last)) given
added_twice None more last = refl
added_twice (Some types) more last = ap Some (append_assoc types more last)

-- the arguments of an applied type are those of its head, and then those to which that is applied
given_back : (name : Name) (head : PlainType) (arguments : List PlainType)
    → given_to name (arguments_of (applied_back head arguments))
    ≡ option_map (λ (types : List PlainType). types ++ reverse arguments) (given_to name (arguments_of head))
given_back name head [] = added_nothing (given_to name (arguments_of head))
given_back name head (last ∷ before) =
    more_given name (arguments_of (applied_back head before)) last
    ∙ (ap (option_map (λ (types : List PlainType). types ++ last ∷ [])) (given_back name head before)
    ∙ (added_twice (given_to name (arguments_of head)) (reverse before) (last ∷ [])
    ∙ ap (λ (all : List PlainType). option_map (λ (types : List PlainType). types ++ all)
    (given_to name (arguments_of head))) (sym (reverse-append (last ∷ []) before))))

-- data has no arguments by itself
given_itself : (name : Name) → given_to name (arguments_of (PlainData name)) ≡ Some []
given_itself name = ap (λ (same : Bool). if same then Some [] else None) ((bytes_eq-Decides name name).1 refl)

-- what is not applied has none, if it is not that data
given_none : (name : Name) (head : PlainType) → ((one other : PlainType) → head ≢ PlainApplied one other)
    → head ≢ PlainData name → given_to name (arguments_of head) ≡ None
given_none name (PlainApplied one other) apart differ = absurd (apart one other refl)
given_none name (PlainData other) apart differ =
    ap (λ (same : Bool). if same then Some [] else None)
    (false_from_ne_true (bytes_eq name other) (λ reported. differ (ap PlainData (sym ((bytes_eq-Decides name other).0 reported)))))
given_none name head apart differ = refl

-- the type of a subject, walked down its heads
walked : {checker : Checker} {subject head : TypeIndex} {arguments : List TypeIndex} {type : PlainType}
    → Finds checker (Some subject) (Some type) → IsSpine (types_in checker.table) subject head arguments
    → type ≡ applied_back (type_at (types_in checker.table) head) (types_at (types_in checker.table) arguments)
walked {checker} {subject} {type = type} found spine =
    sym (same_Some (type_at (types_in checker.table) subject) type found.is) ∙ spine.is

-- the arguments of data are those that stand before its name
pub arguments_found : {checker : Checker} {subject head owner : TypeIndex} {arguments after : List TypeIndex}
    {type : PlainType} {name : Name} → Finds checker (Some subject) (Some type)
    → Finds checker (Some owner) (Some (PlainData name)) → IsSpine (types_in checker.table) subject head arguments
    → type_at (types_in checker.table) head ≡ type_at (types_in checker.table) owner → after ≡ reverse arguments
    → FindsAll checker (Some after) (given_to name (arguments_of type))
arguments_found {checker} {subject} {head} {owner} {arguments} {after} {type} {name} found owner_found spine same is =
    let types = types_in checker.table in
    let there = found.found_is.among in
    let given = types_at types arguments in
    let is_data : type ≡ applied_back (PlainData name) given =
    walked found spine
    ∙ ap (λ (one : PlainType). applied_back one given)
    (same ∙ same_Some (type_at types owner) (PlainData name) owner_found.is) in
    record {
      found_are = record {
        among = rw is (All-reverse (IsAmong types) arguments
            (λ index default below. let argument = spine.arguments_below index default below in omega arith));
      };
      are = ap Some (ap (types_at types) is ∙ sym (reverse-map (type_at types) arguments))
          ∙ sym (ap (λ (one : PlainType). given_to name (arguments_of one)) is_data
          ∙ (given_back name (PlainData name) given
          ∙ ap (option_map (λ (one : List PlainType). one ++ reverse given)) (given_itself name)));
    }

-- a type whose innermost head is not that data has no arguments of it
pub not_that_data : {checker : Checker} {subject head owner : TypeIndex} {arguments : List TypeIndex}
    {type : PlainType} {name : Name} → Finds checker (Some subject) (Some type)
    → Finds checker (Some owner) (Some (PlainData name)) → IsSpine (types_in checker.table) subject head arguments
    → ((one other : PlainType) → type_at (types_in checker.table) head ≢ PlainApplied one other)
    → type_at (types_in checker.table) head ≢ type_at (types_in checker.table) owner
    → FindsAll checker None (given_to name (arguments_of type))
not_that_data {checker} {subject} {head} {owner} {arguments} {type} {name} found owner_found spine apart differ =
    let types = types_in checker.table in
    let given = types_at types arguments in
    record {
      found_are = record { among = tt };
      are = sym (ap (λ (one : PlainType). given_to name (arguments_of one)) (walked found spine)
          ∙ (given_back name (type_at types head) given
          ∙ ap (option_map (λ (one : List PlainType). one ++ reverse given))
          (given_none name (type_at types head) apart
          (λ same. differ (same ∙ sym (same_Some (type_at types owner) (PlainData name) owner_found.is))))));
    }

-- where there is no constructor there are no parts
pub no_parts : {checker : Checker} {context : Context} {found : Option ConstructorTakes} (type : PlainType)
    (constructor : Name)
    → FindsConstructor checker context found (scheme_of_constructor context.declarations constructor)
    → ((one : ConstructorTakes) → found ≡ Some one → ⊥)
    → FindsAll checker None (constructor_parts context.declarations type constructor)
unfolding constructor_parts
no_parts {found = None} type constructor takes none =
    record { found_are = record { among = tt }; are = ap (option_and_then (parts_by type)) takes.is }
no_parts {found = Some one} type constructor takes none = absurd (none one refl)

-- no part has a value in the type of no value
pub bottom_parts : {checker : Checker} {context : Context} {subject : TypeIndex} {type : PlainType}
    {found : ConstructorTakes} {items : List TypeIndex} (names : List Name) (constructor : Name)
    → Finds checker (Some subject) (Some type)
    → type_at (types_in checker.table) subject ≡ shape_type names (types_in checker.table) shape.Bottom
    → FindsConstructor checker context (Some found) (scheme_of_constructor context.declarations constructor)
    → items ≡ replicate (length found.takes.items) subject
    → FindsAll checker (Some items) (constructor_parts context.declarations type constructor)
unfolding constructor_parts shape_type
bottom_parts {checker} {context} {subject} {type} {found} {items} names constructor subject_found bottom takes is =
    let types = types_in checker.table in
    let taken = found.takes.items in
    let type_is : PlainBottom ≡ type =
    sym bottom ∙ same_Some (type_at types subject) type subject_found.is in
    let all_bottom : types_at types items ≡ map (λ (one : PlainType). PlainBottom) (types_at types taken) =
    ap (types_at types) (is ∙ splat_is_map taken (length taken) subject refl)
    ∙ (map-map (type_at types) (λ (one : TypeIndex). subject) taken
    ∙ (ap (λ (one : PlainType). map (λ (index : TypeIndex). one) taken) bottom
    ∙ sym (map-map (λ (one : PlainType). PlainBottom) (type_at types) taken))) in
    record {
      found_are = record {
        among = rw is (All-replicate (IsAmong types) (length taken) subject
            subject_found.found_is.among);
      };
      are = ap Some all_bottom
          ∙ ap₂ (λ (one : PlainType) (scheme : Option Scheme). option_and_then (parts_by one) scheme) type_is takes.is;
    }

-- the parts in another type are those of the scheme, if the type is the same data
parts_by_data : (scheme : Scheme) (type : PlainType) → type ≢ PlainBottom
    → parts_by type scheme ≡ parts_if_same scheme (arguments_of scheme.gives) (arguments_of type)
parts_by_data scheme PlainBottom differ = absurd (differ refl)
parts_by_data scheme type differ = refl

-- they are what the constructor takes, with the arguments of the data in place of the type parameters
parts_by_arguments : (scheme : Scheme) (given : DataOf) (subject : Option DataOf)
    → option_map (λ (arguments : List PlainType). map (replaced arguments) scheme.takes) (given_to given.name subject)
    ≡ parts_if_same scheme (Some given) subject
parts_by_arguments scheme given None = refl
parts_by_arguments scheme given (Some subject) =
    elim (bytes_eq given.name subject.name) as (λ same.
    option_map (λ (arguments : List PlainType). map (replaced arguments) scheme.takes)
    (if same then Some subject.arguments else None)
    ≡ (if same then Some (map (replaced subject.arguments) scheme.takes) else None)) [
      | true ↦ refl
      | false ↦ refl
    ]

-- the parts in a type that has a value, by the arguments of the data that it is
pub parts_replaced : {checker : Checker} {context : Context} {type : PlainType} {found : ConstructorTakes}
    {given : Option (List PlainType)} (constructor : Name) → type ≢ PlainBottom
    → FindsConstructor checker context (Some found) (scheme_of_constructor context.declarations constructor)
    → given ≡ given_to (name_of context.names found.owner) (arguments_of type)
    → option_map (λ (arguments : List PlainType).
    map (replaced arguments) (types_at (types_in checker.table) found.takes.items)) given
    ≡ constructor_parts context.declarations type constructor
unfolding constructor_parts
parts_replaced {checker} {context} {type} {found} {given} constructor differ takes is =
    let scheme = built_at context.names (types_in checker.table) found in
    let own = map PlainParameter (range_with_len 0 found.parameters) in
    let subject : DataOf = record { name = name_of context.names found.owner; arguments = own } in
    ap (option_map (λ (arguments : List PlainType). map (replaced arguments) scheme.takes)) is
    ∙ (parts_by_arguments scheme subject (arguments_of type)
    ∙ (sym (parts_by_data scheme type differ
    ∙ ap (λ (one : Option DataOf). parts_if_same scheme one (arguments_of type))
    (data_arguments (name_of context.names found.owner) own))
    ∙ ap (option_and_then (parts_by type)) takes.is))

-- the parts count if there are as many
parts_if_as_many : {checker : Checker} {items : List TypeIndex} {types : Option (List PlainType)}
    {result : Option (List TypeIndex)} (count : ℕ) → FindsAll checker (Some items) types
    → result ≡ (if nat_eq (length items) count then Some items else None)
    → FindsAll checker result (option_and_then (if_as_many count) types)
parts_if_as_many {checker} {items} {types} {result} count found is =
    let are = types_at (types_in checker.table) items in
    rw (is, ← found.are, length-map items (type_at (types_in checker.table)))
    (elim (nat_eq (length items) count) as (λ enough.
    FindsAll checker (if enough then Some items else None) (if enough then Some are else None)) [
      | true ↦ record { found_are = found.found_are; are = refl }
      | false ↦ record { found_are = record { among = tt }; are = refl }
    ])

-- so do those of a subject, whose type is known by its index
pub parts_matched : {before now : Checker} {subject : TypeIndex} {type : Option PlainType} {items : List TypeIndex}
    {result : Option (List TypeIndex)} (count : ℕ) (parts : PlainType → Option (List PlainType))
    → Finds before (Some subject) type
    → ((one : PlainType) → Finds before (Some subject) (Some one) → FindsAll now (Some items) (parts one))
    → result ≡ (if nat_eq (length items) count then Some items else None)
    → FindsAll now result (option_and_then (if_as_many count) (option_and_then parts type))
parts_matched {before} {now} {subject} {type} {items} {result} count parts found parts_found is =
    let at = type_at (types_in before.table) subject in
    subst (λ (one : Option PlainType).
    FindsAll now result (option_and_then (if_as_many count) (option_and_then parts one)))
    found.is
    (parts_if_as_many count (parts_found at (record { found_is = found.found_is; is = refl })) is)

-- what a constructor takes is of the table
pub takes_found : {checker : Checker} {context : Context} {found : ConstructorTakes} {scheme : Option Scheme}
    → FindsConstructor checker context (Some found) scheme → FoundAll checker (Some found.takes.items)
takes_found found = record { among = found.among }

-- a type whose shape is not that of the type of no value has one
pub has_value : {checker : Checker} {subject : TypeIndex} {type : PlainType} {found : Shape} (names : List Name)
    → Finds checker (Some subject) (Some type) → (found ≡ shape.Bottom → ⊥)
    → type_at (types_in checker.table) subject ≡ shape_type names (types_in checker.table) found → type ≢ PlainBottom
has_value {checker} {subject} {type} {found} names is apart stands bottom =
    shape_not_bottom names (types_in checker.table) found apart
    (sym stands ∙ (same_Some (type_at (types_in checker.table) subject) type is.is ∙ bottom))
