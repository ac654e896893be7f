-- What a constructor's pattern finds in the type of its subject: the types that the constructor takes, with the type
-- parameters replaced by the arguments of the subject's data.
--
--   `data_arguments`           data that is applied to arguments has these
--   `applied_end`              a type that is applied to arguments and one more is applied to this one last
--   `built_is`                 what a constructor gives, by what its type parameters are replaced by
--   `built_parts`              what was applied to a constructor fits what is found in the type of the application
--   `parts_below`              where data fits a type, what is found in it fits what is found in that type
--   `no_value_parts`           so does what is found in the type of no value
--   `replaced_parts`           where data fits a replaced type, what its constructor takes fits what is found in the type
use Rattle.std.proofs.Common.{◌≡◌, ℕ, true, List, [], ◌∷◌, ◌++◌, Option, Some, None, refl, sym, ap, ◌∙◌, subst, length, map, get_or, true≢false, arith, All}
use Rattle.std.specs.List.{range_with_len}
use Rattle.std.specs.Prelude.{option_map, option_and_then, if◌then◌else◌}
use Rattle.std.specs.Str.{bytes_eq}
use Rattle.std.proofs.lemmas.List.{append-nil, append_assoc, get_or_default, length-map}
use Rattle.std.proofs.lemmas.List.FromFn.{fill_by_all}
use Rattle.std.proofs.lemmas.Option.{none-some, same_Some, cond_some}
use Rattle.std.proofs.lemmas.Simd.{map-map}
use Rattle.std.proofs.lemmas.Slice.Eq.{bytes_eq-Decides}
use Rattle.abs_tree.specs.Syntax.{Name, DeclTree, SourceTree}
use Rattle.abs_program.specs.Whole.{IsWhole}
use Rattle.abs_types.proofs.ApplicationLemmas.{application_fits, application_length}
use Rattle.abs_types.proofs.ReplacementLemmas.{all_replaced_twice, replacements_fit, AllFit-length, AllFit-reflexive}
use Rattle.abs_types.proofs.SchemeLemmas.{Constructs, constructor_scheme_is, constructor_is_closed}
use Rattle.abs_types.proofs.SpineLemmas.{spine_cases, data_apart, data_fitting}
use Rattle.abs_types.specs.Applications.{AllFit, applied_type, met_by, replaced}
use Rattle.abs_types.specs.PatternTypes.{DataOf, arguments_of, constructor_parts, parts_by, parts_if_same}
use Rattle.abs_types.specs.PlainTypes.{PlainType, PlainBottom, PlainData, PlainApplied, PlainParameter, applied_to}
use Rattle.abs_types.specs.Schemes.{Scheme, scheme_of_constructor, IsClosed, ParametersBelow}
use Rattle.abs_types.specs.Subtyping.{fits}

-- a type that is applied to arguments has these after its own
arguments_applied : (head : PlainType) (known : DataOf) (arguments : List PlainType)
    → arguments_of head ≡ Some known
    → arguments_of (applied_to head arguments) ≡ Some (record known { arguments = known.arguments ++ arguments })
arguments_applied head known [] is =
    is ∙ ap (λ (types : List PlainType). Some (record known { arguments = types })) (sym (append-nil known.arguments))
arguments_applied head known (argument ∷ others) is =
    arguments_applied (PlainApplied head argument) (record known { arguments = known.arguments ++ argument ∷ [] }) others
    (ap (option_map (λ (k : DataOf). record k { arguments = k.arguments ++ argument ∷ [] })) is)
    ∙ ap (λ (types : List PlainType). Some (record known { arguments = types }))
    (append_assoc known.arguments (argument ∷ []) others)

-- data that is applied to arguments has these
pub data_arguments : (name : Name) (arguments : List PlainType)
    → arguments_of (applied_to (PlainData name) arguments) ≡ Some (record { name = name; arguments = arguments })
data_arguments name arguments =
    arguments_applied (PlainData name) (record { name = name; arguments = [] }) arguments refl

-- a type that is applied to arguments and one more is applied to this one last
pub applied_end : (head : PlainType) (arguments : List PlainType) (last : PlainType)
    → applied_to head (arguments ++ last ∷ []) ≡ PlainApplied (applied_to head arguments) last
applied_end head [] last = refl
applied_end head (argument ∷ others) last = applied_end (PlainApplied head argument) others last

-- an applied type is data with its arguments, if its head is
applied_is : (head argument : PlainType) (known : DataOf) (inner : Option DataOf)
    → ((data_head : DataOf) → inner ≡ Some data_head
    → applied_to (PlainData data_head.name) data_head.arguments ≡ head)
    → option_map (λ (k : DataOf). record k { arguments = k.arguments ++ argument ∷ [] }) inner ≡ Some known
    → applied_to (PlainData known.name) known.arguments ≡ PlainApplied head argument
applied_is head argument known None of_head is = absurd (none-some known is)
applied_is head argument known (Some inner) of_head is =
    subst (λ (k : DataOf). applied_to (PlainData k.name) k.arguments ≡ PlainApplied head argument)
    (same_Some (record inner { arguments = inner.arguments ++ argument ∷ [] }) known is)
    (applied_end (PlainData inner.name) inner.arguments argument
    ∙ ap (λ (type : PlainType). PlainApplied type argument) (of_head inner refl))

-- a type that has arguments is data which is applied to them
data_is : (type : PlainType) (known : DataOf) → arguments_of type ≡ Some known
    → applied_to (PlainData known.name) known.arguments ≡ type
data_is (PlainData name) known is =
    ap (λ (k : DataOf). applied_to (PlainData k.name) k.arguments)
    (sym (same_Some (record { name = name; arguments = [] }) known is))
data_is (PlainApplied head argument) known is =
    applied_is head argument known (arguments_of head) (data_is head) is
data_is type known is = absurd (none-some known is)

-- the parts that are found in data
parts_of_data : (scheme : Scheme) (name : Name) (arguments : List PlainType)
    → parts_by (applied_to (PlainData name) arguments) scheme
    ≡ parts_if_same scheme (arguments_of scheme.gives) (Some (record { name = name; arguments = arguments }))
parts_of_data scheme name arguments =
    spine_cases
    (λ subject. parts_by subject scheme ≡ parts_if_same scheme (arguments_of scheme.gives) (arguments_of subject))
    (λ n. refl) (λ head argument. refl) name arguments
    ∙ ap (parts_if_same scheme (arguments_of scheme.gives)) (data_arguments name arguments)

-- there are parts if the names are the same
parts_of_same : (scheme : Scheme) (given subject : DataOf) → bytes_eq given.name subject.name ≡ true
    → parts_if_same scheme (Some given) (Some subject) ≡ Some (map (replaced subject.arguments) scheme.takes)
parts_of_same scheme given subject same =
    ap (λ test. if test then Some (map (replaced subject.arguments) scheme.takes) else None) same

-- types fit others after the replacement of their type parameters, if what replaces these fits
takes_fit : (declarations : List DeclTree) (ones others takes : List PlainType) → AllFit declarations ones others
    → AllFit declarations (map (replaced ones) takes) (map (replaced others) takes)
takes_fit declarations ones others [] all = tt
takes_fit declarations ones others (one ∷ takes) all =
    (replacements_fit declarations ones others one all, takes_fit declarations ones others takes all)

-- types of parts are found that fit others
abbrev FindsFitting : List DeclTree → Option (List PlainType) → List PlainType → Type 0
FindsFitting declarations found parts =
    (others : List PlainType) × (found ≡ Some others) × AllFit declarations others parts

-- what is found in data fits what is found in a type that it fits, if that type is data
below_if_same : (declarations : List DeclTree) (scheme : Scheme) (owner : Name) (arguments : List PlainType)
    (other : PlainType) (parts : List PlainType) (given subject : Option DataOf)
    → fits declarations (applied_to (PlainData owner) arguments) other ≡ true → arguments_of other ≡ subject
    → parts_if_same scheme given subject ≡ Some parts
    → FindsFitting declarations
    (parts_if_same scheme given (Some (record { name = owner; arguments = arguments }))) parts
below_if_same declarations scheme owner arguments other parts (Some given) (Some subject) reported at is =
    let kept = cond_some (bytes_eq given.name subject.name) (map (replaced subject.arguments) scheme.takes) parts is in
    let fit = data_fitting declarations owner subject.name arguments subject.arguments
    (ap (fits declarations (applied_to (PlainData owner) arguments)) (data_is other subject at) ∙ reported) in (
      map (replaced arguments) scheme.takes,
      parts_of_same scheme given (record { name = owner; arguments = arguments })
          (ap (bytes_eq given.name) fit.0 ∙ kept.0),
      subst (AllFit declarations (map (replaced arguments) scheme.takes)) kept.1
          (takes_fit declarations arguments subject.arguments scheme.takes fit.1),
    )
below_if_same declarations scheme owner arguments other parts given subject reported at is = absurd (none-some parts is)

-- the same by the form of the type
below_by_form : (declarations : List DeclTree) (scheme : Scheme) (owner : Name) (arguments : List PlainType)
    (other : PlainType) (parts : List PlainType)
    → fits declarations (applied_to (PlainData owner) arguments) other ≡ true → parts_by other scheme ≡ Some parts
    → FindsFitting declarations
    (parts_if_same scheme (arguments_of scheme.gives) (Some (record { name = owner; arguments = arguments }))) parts
below_by_form declarations scheme owner arguments PlainBottom parts reported is =
    absurd (true≢false (sym reported ∙ sym (data_apart declarations owner arguments PlainBottom refl)))
below_by_form declarations scheme owner arguments other parts reported is =
    below_if_same declarations scheme owner arguments other parts (arguments_of scheme.gives) (arguments_of other) reported
    refl is

-- the same by the scheme that is found, if there is one
below_by_scheme : (declarations : List DeclTree) (owner : Name) (arguments : List PlainType) (other : PlainType)
    (parts : List PlainType) (found : Option Scheme)
    → fits declarations (applied_to (PlainData owner) arguments) other ≡ true
    → option_and_then (parts_by other) found ≡ Some parts
    → FindsFitting declarations (option_and_then (parts_by (applied_to (PlainData owner) arguments)) found) parts
below_by_scheme declarations owner arguments other parts None reported is = absurd (none-some parts is)
below_by_scheme declarations owner arguments other parts (Some scheme) reported is =
    subst (λ (found : Option (List PlainType)). FindsFitting declarations found parts)
    (sym (parts_of_data scheme owner arguments))
    (below_by_form declarations scheme owner arguments other parts reported is)

-- what is found in data fits what is found in a type that it fits
pub parts_below : (declarations : List DeclTree) (name owner : Name) (arguments : List PlainType) (other : PlainType)
    (parts : List PlainType) → fits declarations (applied_to (PlainData owner) arguments) other ≡ true
    → constructor_parts declarations other name ≡ Some parts
    → FindsFitting declarations (constructor_parts declarations (applied_to (PlainData owner) arguments) name) parts
unfolding constructor_parts
parts_below declarations name owner arguments other parts reported is =
    below_by_scheme declarations owner arguments other parts (scheme_of_constructor declarations name) reported is

-- types of no value fit what a constructor takes, with the type parameters replaced
none_fit : (declarations : List DeclTree) (types takes : List PlainType)
    → AllFit declarations (map (λ (taken : PlainType). PlainBottom) takes) (map (replaced types) takes)
unfolding fits
none_fit declarations types [] = tt
none_fit declarations types (one ∷ takes) = (refl, none_fit declarations types takes)

-- so they fit what is found in data
none_below_same : (declarations : List DeclTree) (scheme : Scheme) (parts : List PlainType)
    (given subject : Option DataOf) → parts_if_same scheme given subject ≡ Some parts
    → AllFit declarations (map (λ (taken : PlainType). PlainBottom) scheme.takes) parts
none_below_same declarations scheme parts (Some given) (Some subject) is =
    subst (AllFit declarations (map (λ (taken : PlainType). PlainBottom) scheme.takes))
    (cond_some (bytes_eq given.name subject.name) (map (replaced subject.arguments) scheme.takes) parts is).1
    (none_fit declarations subject.arguments scheme.takes)
none_below_same declarations scheme parts given subject is = absurd (none-some parts is)

-- and what is found in any type
none_below : (declarations : List DeclTree) (scheme : Scheme) (other : PlainType) (parts : List PlainType)
    → parts_by other scheme ≡ Some parts
    → AllFit declarations (map (λ (taken : PlainType). PlainBottom) scheme.takes) parts
none_below declarations scheme PlainBottom parts is =
    let none = map (λ (taken : PlainType). PlainBottom) scheme.takes in
    subst (AllFit declarations none) (same_Some none parts is) (AllFit-reflexive declarations none)
none_below declarations scheme other parts is =
    none_below_same declarations scheme parts (arguments_of scheme.gives) (arguments_of other) is

-- the same by the scheme that is found, if there is one
none_by_scheme : (declarations : List DeclTree) (other : PlainType) (parts : List PlainType) (found : Option Scheme)
    → option_and_then (parts_by other) found ≡ Some parts
    → FindsFitting declarations (option_and_then (parts_by PlainBottom) found) parts
none_by_scheme declarations other parts None is = absurd (none-some parts is)
none_by_scheme declarations other parts (Some scheme) is =
    (map (λ (taken : PlainType). PlainBottom) scheme.takes, refl, none_below declarations scheme other parts is)

-- what is found in the type of no value fits what is found in each other type
pub no_value_parts : (declarations : List DeclTree) (name : Name) (other : PlainType) (parts : List PlainType)
    → constructor_parts declarations other name ≡ Some parts
    → FindsFitting declarations (constructor_parts declarations PlainBottom name) parts
unfolding constructor_parts
no_value_parts declarations name other parts is =
    none_by_scheme declarations other parts (scheme_of_constructor declarations name) is

-- the type parameters are replaced in the head and in the arguments
pub replaced_applied : (types : List PlainType) (head : PlainType) (arguments : List PlainType)
    → replaced types (applied_to head arguments) ≡ applied_to (replaced types head) (map (replaced types) arguments)
unfolding replaced
replaced_applied types head [] = refl
replaced_applied types head (argument ∷ others) = replaced_applied types (PlainApplied head argument) others

-- as many type parameters as there are types are replaced by these
replaced_own : (types : List PlainType) (count : ℕ) → length types ≡ count
    → map (replaced types) (map PlainParameter (range_with_len 0 count)) ≡ types
unfolding replaced
replaced_own types count long =
    map-map (replaced types) PlainParameter (range_with_len 0 count)
    ∙ sym (fill_by_all (λ index. get_or types index (PlainParameter index)) types count PlainBottom long
    (λ index below. get_or_default types index PlainBottom (PlainParameter index) (omega (arith, long))))

-- the type of an application of a constructor is its data, applied to what the type parameters have met
pub built_is : (owner : Name) (met : List PlainType) (count : ℕ) → length met ≡ count
    → replaced met (applied_to (PlainData owner) (map PlainParameter (range_with_len 0 count)))
    ≡ applied_to (PlainData owner) met
unfolding replaced
built_is owner met count long =
    replaced_applied met (PlainData owner) (map PlainParameter (range_with_len 0 count))
    ∙ ap (applied_to (PlainData owner)) (replaced_own met count long)

-- what is found in the type of an application of a constructor is what it takes, with the type parameters replaced by
-- what they have met
parts_of_built : {declarations : List DeclTree} {scheme : Scheme} (met : List PlainType)
    → Constructs declarations scheme → length met ≡ scheme.parameters
    → parts_by (replaced met scheme.gives) scheme ≡ Some (map (replaced met) scheme.takes)
parts_of_built {declarations} {scheme} met from long =
    let owner = from.owner.name in
    let count = length from.type_params in
    let own = map PlainParameter (range_with_len 0 count) in
    let gives : scheme.gives ≡ applied_to (PlainData owner) own = ap (λ (s : Scheme). s.gives) (sym from.is) in
    let many : length met ≡ count = long ∙ ap (λ (s : Scheme). s.parameters) (sym from.is) in
    ap (λ type. parts_by type scheme) (ap (replaced met) gives ∙ built_is owner met count many)
    ∙ parts_of_data scheme owner met
    ∙ ap (λ given. parts_if_same scheme given (Some (record { name = owner; arguments = met })))
    (ap arguments_of gives ∙ data_arguments owner own)
    ∙ parts_of_same scheme (record { name = owner; arguments = own }) (record { name = owner; arguments = met })
    ((bytes_eq-Decides owner owner).1 refl)

-- what a constructor is applied to fits what is found in the type of the application, by what type parameters have met
built_by_met : (source : SourceTree) (name : Name) (scheme : Scheme) (given : List PlainType) (built : PlainType)
    (found : Option (List PlainType)) → IsWhole source
    → scheme_of_constructor source.declarations name ≡ Some scheme
    → met_by source.declarations scheme given ≡ found → option_map (λ met. replaced met scheme.gives) found ≡ Some built
    → (parts : List PlainType) × (constructor_parts source.declarations built name ≡ Some parts)
    × AllFit source.declarations given parts
unfolding constructor_parts
built_by_met source name scheme given built None whole named met_is is = absurd (none-some built is)
built_by_met source name scheme given built (Some met) whole named met_is is =
    let many = application_length source.declarations scheme given met met_is in (
      map (replaced met) scheme.takes,
      ap (option_and_then (parts_by built)) named
          ∙ ap (λ type. parts_by type scheme) (sym (same_Some (replaced met scheme.gives) built is))
          ∙ parts_of_built met (constructor_scheme_is source.declarations name scheme named) many,
      application_fits source.declarations scheme given met (constructor_is_closed source name scheme whole named)
          met_is,
    )

-- the same by the type of the application
pub built_parts : (source : SourceTree) (name : Name) (scheme : Scheme) (given : List PlainType) (built : PlainType)
    → IsWhole source → scheme_of_constructor source.declarations name ≡ Some scheme
    → applied_type source.declarations scheme given ≡ Some built
    → (parts : List PlainType) × (constructor_parts source.declarations built name ≡ Some parts)
    × AllFit source.declarations given parts
unfolding applied_type
built_parts source name scheme given built whole named is =
    built_by_met source name scheme given built (met_by source.declarations scheme given) whole named refl is

-- what a constructor gives is its data, applied to what its type parameters are replaced by
pub data_is_built : (declarations : List DeclTree) (name : Name) (scheme : Scheme) (arguments : List PlainType)
    → scheme_of_constructor declarations name ≡ Some scheme → length arguments ≡ scheme.parameters
    → (owner : Name) × (replaced arguments scheme.gives ≡ applied_to (PlainData owner) arguments)
data_is_built declarations name scheme arguments named many =
    let from = constructor_scheme_is declarations name scheme named in
    let count = length from.type_params in
    let gives = ap (λ (s : Scheme). s.gives) (sym from.is) in (
      from.owner.name,
      ap (replaced arguments) gives
          ∙ built_is from.owner.name arguments count (many ∙ ap (λ (s : Scheme). s.parameters) (sym from.is)),
    )

-- in what is no data a pattern finds nothing
none_if_same : (scheme : Scheme) (given : Option DataOf) → None ≡ parts_if_same scheme given None
none_if_same scheme None = refl
none_if_same scheme (Some given) = refl

-- what a pattern finds in data with a name, if it is that of the constructor
parts_if_owner : (scheme : Scheme) (name : Name) (arguments parts : List PlainType)
    → parts_if_same scheme (arguments_of scheme.gives) (Some (record { name = name; arguments = arguments }))
    ≡ Some parts → map (replaced arguments) scheme.takes ≡ parts
parts_if_owner scheme name arguments parts is = by_given (arguments_of scheme.gives) is
  where
    by_given : (given : Option DataOf)
        → parts_if_same scheme given (Some (record { name = name; arguments = arguments })) ≡ Some parts
        → map (replaced arguments) scheme.takes ≡ parts
    by_given None is = absurd (none-some parts is)
    by_given (Some given) is =
        (cond_some (bytes_eq given.name name) (map (replaced arguments) scheme.takes) parts is).1

-- where data fits a replaced type, what its constructor takes fits what is found in the type, replaced
replaced_if_data : (declarations : List DeclTree) (scheme : Scheme) (owner : Name) (arguments types : List PlainType)
    (subject : PlainType) (parts : List PlainType) (known : DataOf) → IsClosed scheme
    → length arguments ≡ scheme.parameters → arguments_of subject ≡ Some known
    → fits declarations (applied_to (PlainData owner) arguments) (replaced types subject) ≡ true
    → parts_if_same scheme (arguments_of scheme.gives) (Some known) ≡ Some parts
    → AllFit declarations (map (replaced arguments) scheme.takes) (map (replaced types) parts)
unfolding replaced
replaced_if_data declarations scheme owner arguments types subject parts known closed many at reported is =
    let fit = data_fitting declarations owner known.name arguments (map (replaced types) known.arguments)
    (ap (fits declarations (applied_to (PlainData owner) arguments))
    (sym (replaced_applied types (PlainData known.name) known.arguments)
    ∙ ap (replaced types) (data_is subject known at)) ∙ reported) in
    let long : length known.arguments ≡ scheme.parameters =
    sym (length-map known.arguments (replaced types)) ∙ (sym (AllFit-length declarations arguments
    (map (replaced types) known.arguments) fit.1) ∙ many) in
    let takes = all_replaced_twice known.arguments types scheme.takes
    (subst (λ (count : ℕ). All (ParametersBelow count) scheme.takes) (sym long) closed.takes_own) in
    subst (AllFit declarations (map (replaced arguments) scheme.takes))
    (sym takes ∙ ap (map (replaced types)) (parts_if_owner scheme known.name known.arguments parts is))
    (takes_fit declarations arguments (map (replaced types) known.arguments) scheme.takes fit.1)

-- the same by the form of the type
replaced_by_form : (declarations : List DeclTree) (scheme : Scheme) (owner : Name) (arguments types : List PlainType)
    (subject : PlainType) (parts : List PlainType) → IsClosed scheme → length arguments ≡ scheme.parameters
    → fits declarations (applied_to (PlainData owner) arguments) (replaced types subject) ≡ true
    → parts_by subject scheme ≡ Some parts
    → AllFit declarations (map (replaced arguments) scheme.takes) (map (replaced types) parts)
unfolding replaced
replaced_by_form declarations scheme owner arguments types PlainBottom parts closed many reported is =
    absurd (true≢false (sym reported ∙ sym (data_apart declarations owner arguments PlainBottom refl)))
replaced_by_form declarations scheme owner arguments types subject parts closed many reported is =
    by_subject (arguments_of subject) refl is
  where
    by_subject : (found : Option DataOf) → arguments_of subject ≡ found
        → parts_if_same scheme (arguments_of scheme.gives) found ≡ Some parts
        → AllFit declarations (map (replaced arguments) scheme.takes) (map (replaced types) parts)
    by_subject None at is = absurd (none-some parts (none_if_same scheme (arguments_of scheme.gives) ∙ is))
    by_subject (Some known) at is =
        replaced_if_data declarations scheme owner arguments types subject parts known closed many at reported is

-- the same by the name of the constructor
pub replaced_parts : (source : SourceTree) (name : Name) (scheme : Scheme) (arguments types : List PlainType)
    (subject : PlainType) (parts : List PlainType) → IsWhole source
    → scheme_of_constructor source.declarations name ≡ Some scheme → length arguments ≡ scheme.parameters
    → fits source.declarations (replaced arguments scheme.gives) (replaced types subject) ≡ true
    → constructor_parts source.declarations subject name ≡ Some parts
    → AllFit source.declarations (map (replaced arguments) scheme.takes) (map (replaced types) parts)
unfolding constructor_parts
replaced_parts source name scheme arguments types subject parts whole named many reported is =
    let built = data_is_built source.declarations name scheme arguments named many in
    replaced_by_form source.declarations scheme built.0 arguments types subject parts
    (constructor_is_closed source name scheme whole named) many
    (ap (λ (type : PlainType). fits source.declarations type (replaced types subject)) (sym built.1) ∙ reported)
    (ap (option_and_then (parts_by subject)) (sym named) ∙ is)
