-- Constructors in an accepted program: where the scheme of one comes from, and that two of them have one number only if
-- they have one name.
--
--   `BuildsDeclared`               a scheme is that of a declared constructor with a name
--   `constructor_builds`           so is each scheme that is found for a name
--   `same_by_number`               of two constructors with one number both names are the same
use Rattle.std.proofs.Common.{◌≡◌, ℕ, zero, suc, List, [], ◌∷◌, Option, Some, None, refl, sym, ap, ◌∙◌, subst, length, arith, Contains}
use Rattle.std.specs.Prelude.{option_and_then, slice_get}
use Rattle.std.proofs.lemmas.List.Elements.{Contains-append_left, Contains-append_right}
use Rattle.std.proofs.lemmas.Option.{none-some, same_Some}
use Rattle.abs_profile.specs.Accepted.{IsAcceptedProgram}
use Rattle.abs_program.proofs.DeclaredLemmas.{constructor_is_declared}
use Rattle.abs_program.proofs.KnownNameLemmas.{known_name_is_told}
use Rattle.abs_program.specs.NameSpaces.{spaces_of}
use Rattle.abs_program.specs.NamedDeclarations.{IsConstructor}
use Rattle.abs_program.specs.Tables.{meaning_of}
use Rattle.abs_program.specs.declared.name_spaces.ConstructorMeaning.{ConstructorMeaning}
use Rattle.abs_tree.specs.DeclaredNames.{constructor_names, decl_names, decls_names, declared_names}
use Rattle.abs_tree.specs.Names.{number_of_name}
use Rattle.abs_tree.specs.Syntax.{Name, ConstructorTree, DeclTree, DataTree, SourceTree, ProgramTree}
use Rattle.abs_types.specs.Schemes.{Scheme, built_scheme, data_scheme, constructor_scheme, scheme_of_constructor}

-- A scheme is that of a constructor with this name, which is declared.
pub record BuildsDeclared (declarations : List DeclTree) (name : Name) (scheme : Scheme) : Type 0 where
  pub meaning : ConstructorMeaning
  pub from : IsConstructor declarations name meaning
  pub is : built_scheme from.declared.name (length from.type_params) from.constructor ≡ scheme

-- the scheme of what a name stands for is such a scheme
meaning_builds : (declarations : List DeclTree) (name : Name) (scheme : Scheme) (found : Option ConstructorMeaning)
    → meaning_of (spaces_of declarations).constructors name ≡ found
    → constructor_scheme declarations found ≡ Some scheme → BuildsDeclared declarations name scheme
meaning_builds declarations name scheme None means is = absurd (none-some scheme is)
meaning_builds declarations name scheme (Some meaning) means is =
    let from = constructor_is_declared declarations name meaning means in
    let built = built_scheme from.declared.name (length from.type_params) from.constructor in
    let own : ConstructorTree → Option Scheme =
    λ constructor. Some (built_scheme from.declared.name (length from.type_params) constructor) in
    record {
      meaning = meaning;
      from = from;
      is = same_Some built scheme
          (sym (ap (option_and_then (data_scheme meaning.index)) from.there ∙ ap (option_and_then own)
          from.constructor_there) ∙ is);
    }

-- so is the scheme that is found for a name
pub constructor_builds : (declarations : List DeclTree) (name : Name) (scheme : Scheme)
    → scheme_of_constructor declarations name ≡ Some scheme → BuildsDeclared declarations name scheme
unfolding scheme_of_constructor
constructor_builds declarations name scheme named =
    meaning_builds declarations name scheme (meaning_of (spaces_of declarations).constructors name) refl named

-- the name of a constructor at an index is one of those of the constructors
constructor_among : (constructors : List ConstructorTree) (index : ℕ) (constructor : ConstructorTree)
    → slice_get constructors index ≡ Some constructor
    → Contains (constructor_names constructors) constructor.name.name
constructor_among [] index constructor there = absurd (none-some constructor there)
constructor_among (first ∷ others) zero constructor there =
    (0, omega arith, ap (λ (one : ConstructorTree). one.name.name) (same_Some first constructor there))
constructor_among (first ∷ others) (suc index) constructor there =
    Contains-append_right (first.name.name ∷ []) (constructor_names others) constructor.name.name
    (constructor_among others index constructor there)

-- a name that a declaration declares is one of those that the declarations declare
name_among : (declarations : List DeclTree) (index : ℕ) (declaration : DeclTree) (name : Name)
    → slice_get declarations index ≡ Some declaration → Contains (decl_names declaration) name
    → Contains (decls_names declarations) name
name_among [] index declaration name there among = absurd (none-some declaration there)
name_among (first ∷ others) zero declaration name there among =
    Contains-append_left (decl_names first) (decls_names others) name
    (subst (λ (one : DeclTree). Contains (decl_names one) name) (sym (same_Some first declaration there)) among)
name_among (first ∷ others) (suc index) declaration name there among =
    Contains-append_right (decl_names first) (decls_names others) name
    (name_among others index declaration name there among)

-- the name of a constructor is one of those that the source declares
constructor_is_named : (source : SourceTree) (name : Name) (scheme : Scheme)
    → scheme_of_constructor source.declarations name ≡ Some scheme → Contains (declared_names source) name
constructor_is_named source name scheme named =
    let builds = constructor_builds source.declarations name scheme named in
    let declared = builds.from in
    name_among source.declarations builds.meaning.taking.declaration
    (DataTree declared.place declared.declared declared.type_params declared.constructors) name declared.there
    (subst (Contains (constructor_names declared.constructors)) declared.name_is
    (constructor_among declared.constructors builds.meaning.index declared.constructor declared.constructor_there))

-- of two constructors with one number both names are the same
pub same_by_number : (program : ProgramTree) (one other : Name) (first second : Scheme) → IsAcceptedProgram program
    → scheme_of_constructor program.source.declarations one ≡ Some first
    → scheme_of_constructor program.source.declarations other ≡ Some second
    → number_of_name program.names one ≡ number_of_name program.names other → one ≡ other
same_by_number program one other first second accepted one_named other_named same =
    same_Some one other
    (sym (known_name_is_told program one accepted.names (constructor_is_named program.source one first one_named))
    ∙ (ap (slice_get program.names) same
    ∙ known_name_is_told program other accepted.names (constructor_is_named program.source other second other_named)))
