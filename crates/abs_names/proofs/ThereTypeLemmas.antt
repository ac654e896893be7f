-- Where types have no name offence, what they name is there once they are resolved.
use Rattle.std.proofs.Common.{◌≡◌, ℕ, ◌+◌, ◌<◌, Bool, true, false, [], ◌∷◌, inl, inr, refl, sym, ap, ◌∙◌, eqb, arith}
use Rattle.std.specs.Prelude.{Option, Some, None}
use Rattle.std.proofs.lemmas.Bool.{cases_Bool, eqb-true, cond-false}
use Rattle.std.proofs.lemmas.Option.{none-some, same_Some}
use Rattle.abs_program.specs.NameSpaces.{NameSpaces, count_types, data_arity, means_interface}
use Rattle.abs_tree.specs.Syntax.{Name, TypeTree, UnresolvedType, IntType, StringType, FutType, DataType, InterfaceType, ParameterType, BottomType, NullType, ClassType, TypeTrees, NoType, NextType}
use Rattle.abs_program.specs.Tables.{meaning_of}
use Rattle.abs_program.specs.Whole.{Inside, TypeIsThere, TypesAreThere}
use Rattle.abs_program.specs.declared.name_spaces.TypeMeaning.{TypeMeaning}
use Rattle.abs_program.specs.declared.name_spaces.TypeMeaning.TheVariants as type
use Rattle.abs_tree.specs.declared.place.Place.{Place}
use Rattle.abs_tree.specs.declared.refusal.Offence.{Offence}
use Rattle.abs_tree.specs.declared.refusal.Code.TheVariants.{N3}
use Rattle.abs_names.specs.Single.{unknown}
use Rattle.abs_names.specs.TypeNames.{Around, applied, taken_by, type_taking, type_offences, types_offences, future_type, named_type, resolved_type, resolved_types}
use Rattle.list_facts.proofs.AppendLemmas.{not_empty, both_empty}

-- a name that is not unknown is known
pub is_known : (known : Bool) (place : Place) → unknown known place ≡ [] → known ≡ true
is_known true place none = refl
is_known false place none = not_empty _ [] none

-- a name that takes as many arguments as it is given, and is known
pub takes_given : (taken : Option ℕ) (given : ℕ) (place : Place) → applied taken given place ≡ []
    → taken ≡ Some given
takes_given None given place none = not_empty _ [] none
takes_given (Some taken) given place none =
    let offence : Offence = record { place = place; code = N3 } in
    elim (cases_Bool (eqb taken given)) [
      | inl same ↦ ap Some (eqb-true taken given same)
      | inr other ↦
          not_empty offence [] (sym (cond-false (eqb taken given) [] (offence ∷ []) other) ∙ none)
    ]

-- What is around says of the names of types what a part of a program can use.
pub record Surrounds (inside : Inside) (around : Around) : Type 0 where
  pub spaces : around.spaces ≡ inside.spaces
  pub type_params : (name : Name) (parameter : ℕ) → meaning_of around.type_params name ≡ Some parameter
      → parameter < inside.type_params

-- resolving keeps how many types there are
pub types_kept : (around : Around) (types : TypeTrees) → count_types (resolved_types around types) ≡ count_types types
types_kept around NoType = refl
types_kept around (NextType first others) = ap (λ (n : ℕ). 1 + n) (types_kept around others)

-- `Fut` of one type
future_there : (inside : Inside) (place : Place) (name : Name) (arguments : TypeTrees) → 1 ≡ count_types arguments
    → TypesAreThere inside arguments → TypeIsThere inside (future_type place name arguments)
future_there inside place name NoType counted are = absurd (omega (arith, counted))
future_there inside place name (NextType value NoType) counted are = are.0
future_there inside place name (NextType value (NextType other others)) counted are =
    absurd (omega (arith, counted))

-- a name that takes as many arguments as it is given
named_there : (inside : Inside) (place : Place) (name : Name) (arguments : TypeTrees) (parameter : Option ℕ)
    (meaning : Option TypeMeaning) → ((index : ℕ) → parameter ≡ Some index → index < inside.type_params)
    → meaning_of inside.spaces.types name ≡ meaning → taken_by parameter meaning ≡ Some (count_types arguments)
    → TypesAreThere inside arguments → TypeIsThere inside (named_type place name arguments parameter meaning)
named_there inside place name arguments (Some index) meaning below is counted are = below index refl
named_there inside place name arguments None (Some type.Int) below is counted are = tt
named_there inside place name arguments None (Some type.String) below is counted are = tt
named_there inside place name arguments None (Some type.Fut) below is counted are =
    future_there inside place name arguments (same_Some 1 (count_types arguments) counted) are
named_there inside place name arguments None (Some (type.Data taking)) below is counted are =
    (ap data_arity is ∙ counted, are)
named_there inside place name arguments None (Some (type.Interface index)) below is counted are =
    ap means_interface is
named_there inside place name arguments None None below is counted are =
    absurd (none-some (count_types arguments) counted)

mutual
  -- a type without a name offence
  pub type_there : (inside : Inside) (around : Around) (type : TypeTree) → Surrounds inside around
      → type_offences around type ≡ [] → TypeIsThere inside (resolved_type around type)
  type_there inside around (UnresolvedType place name arguments) surrounds none =
      let taken = type_taking around name in
      let parts = both_empty (applied taken (count_types arguments) place) (types_offences around arguments) none in
      named_there inside place name (resolved_types around arguments) (meaning_of around.type_params name)
      (meaning_of around.spaces.types name) (surrounds.type_params name)
      (ap (λ (spaces : NameSpaces). meaning_of spaces.types name) (sym surrounds.spaces))
      (takes_given taken (count_types arguments) place parts.0 ∙ ap Some (sym (types_kept around arguments)))
      (types_there inside around arguments surrounds parts.1)
  type_there inside around (FutType place value) surrounds none = not_empty _ _ none
  type_there inside around (DataType place name arguments) surrounds none = not_empty _ _ none
  type_there inside around (IntType place) surrounds none = not_empty _ _ none
  type_there inside around (StringType place) surrounds none = not_empty _ _ none
  type_there inside around (InterfaceType place name) surrounds none = not_empty _ _ none
  type_there inside around (ParameterType place parameter) surrounds none = not_empty _ _ none
  type_there inside around BottomType surrounds none = not_empty _ _ none
  type_there inside around NullType surrounds none = not_empty _ _ none
  type_there inside around (ClassType name) surrounds none = not_empty _ _ none

  -- types without one
  pub types_there : (inside : Inside) (around : Around) (types : TypeTrees) → Surrounds inside around
      → types_offences around types ≡ [] → TypesAreThere inside (resolved_types around types)
  types_there inside around NoType surrounds none = tt
  types_there inside around (NextType first others) surrounds none =
      let parts = both_empty (type_offences around first) (types_offences around others) none in
      (type_there inside around first surrounds parts.0, types_there inside around others surrounds parts.1)
