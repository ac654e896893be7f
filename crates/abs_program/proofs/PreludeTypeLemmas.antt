-- The types of the prelude in a program in which everything is there.
--
--   `type_is_first`            data or an interface of such a program is what its name stands for
--   `prelude_is_alone`         what is declared with the name of a type of the prelude is that type
--   `true_means`, `false_means`, `unit_means`      what these constructors are
use Rattle.std.proofs.Common.{◌≡◌, ◌<◌, ℕ, zero, suc, ◌+◌, ◌||◌, Bool, true, false, List, [], ◌∷◌, refl, sym, ap, ◌∙◌, subst, true≢false, arith, length}
use Rattle.std.specs.Prelude.{All, codes, slice_get, Some}
use Rattle.std.specs.List.{list_any}
use Rattle.std.specs.Str.{bytes_eq}
use Rattle.std.proofs.lemmas.List.Elements.{All-from_recursion, All-head, All-tail}
use Rattle.std.proofs.lemmas.Option.{none-some, same_Some}
use Rattle.std.proofs.lemmas.Slice.Eq.{bytes_eq-Decides}
use Rattle.abs_prelude.specs.Prelude.{unit_data, bool_data}
use Rattle.abs_program.specs.NamedDeclarations.{IsFirstType, TypesAreOnce}
use Rattle.abs_program.specs.NameSpaces.{NameSpaces, built_in, spaces_of, with_declaration, with_declarations}
use Rattle.abs_program.specs.PreludeTypes.{names_prelude_type, prelude_types, prelude_type_names, resolved_list, resolved_maybe, resolved_pair, without_parts}
use Rattle.abs_program.specs.Tables.{meaning_of}
use Rattle.abs_program.specs.Whole.{IsWhole}
use Rattle.abs_program.specs.declared.name_spaces.TypeMeaning.{TypeMeaning}
use Rattle.abs_program.specs.declared.name_spaces.TypeMeaning.TheVariants as type
use Rattle.abs_program.proofs.KeptMeaningLemmas.{constructors_stay, types_stay}
use Rattle.abs_tree.specs.Syntax.{Name, DeclTree, DataTree, SourceTree}
use Rattle.list_facts.proofs.EntryLemmas.{slice_get-before}

-- one of declarations whose types are declared once
first_at : (spaces : NameSpaces) (start index place : ℕ) (declarations : List DeclTree) (declaration : DeclTree)
    → place ≡ start + index → TypesAreOnce spaces start declarations
    → slice_get declarations index ≡ Some declaration → IsFirstType spaces place declaration
first_at spaces start index place [] declaration at once there = absurd (none-some declaration there)
first_at spaces start zero place (first ∷ others) declaration at once there =
    let here : start ≡ place = omega (arith, at) in
    subst (IsFirstType spaces place) (same_Some first declaration there)
    (subst (λ (n : ℕ). IsFirstType spaces n first) here once.0)
first_at spaces start (suc index) place (first ∷ others) declaration at once there =
    first_at spaces (start + 1) index place others declaration (omega (arith, at)) once.1 there

-- data or an interface of a program in which everything is there is what its name stands for
pub type_is_first : (source : SourceTree) (index : ℕ) (declaration : DeclTree) → IsWhole source
    → slice_get source.declarations index ≡ Some declaration
    → IsFirstType (spaces_of source.declarations) index declaration
type_is_first source index declaration whole there =
    first_at (spaces_of source.declarations) 0 index index source.declarations declaration (omega arith) whole.types_once
    there

-- The name stands for data among the first five declarations.
record IsEarlyData (spaces : NameSpaces) (name : Name) : Type 0 where
  index : ℕ
  arity : ℕ
  early : index < 5
  means : meaning_of spaces.types name ≡ Some (type.Data (record { declaration = index; arity = arity }))

-- what all of some names have, a name has that is one of them
one_has : (Has : Name → Type 0) (own : Name) (names : List Name) → All Has names → list_any (bytes_eq own) names ≡ true
    → Has own
one_has Has own [] have among = absurd (true≢false (sym among))
one_has Has own (name ∷ names) have among = by_name (bytes_eq own name) refl among
    (one_has Has own names (All-tail Has name names have))
  where
    by_name : (same : Bool) → bytes_eq own name ≡ same → (bytes_eq own name || list_any (bytes_eq own) names) ≡ true
        → (list_any (bytes_eq own) names ≡ true → Has own) → Has own
    by_name true same among later =
        subst Has (sym ((bytes_eq-Decides own name).0 same)) (All-head Has name names have)
    by_name false apart among later =
        later (sym (ap (λ (b : Bool). b || list_any (bytes_eq own) names) apart) ∙ among)

-- the name spaces of the types of the prelude
abbrev prelude_spaces : NameSpaces
prelude_spaces = with_declarations 0 built_in prelude_types

-- each name of a type of the prelude stands for that type
prelude_names_are_early : (source : SourceTree) → IsWhole source
    → All (IsEarlyData (spaces_of source.declarations)) prelude_type_names
unfolding prelude_types
prelude_names_are_early source whole =
    All-from_recursion (IsEarlyData (spaces_of source.declarations)) prelude_type_names (
      early (codes "Unit") 0 0 (omega arith) refl,
      (
        early (codes "Bool") 1 0 (omega arith) refl,
        (
          early (codes "List") 2 1 (omega arith) refl,
          (early (codes "Maybe") 3 1 (omega arith) refl, (early (codes "Pair") 4 2 (omega arith) refl, tt)),
        ),
      ),
    )
  where
    early : (name : Name) (index arity : ℕ) → index < 5
        → meaning_of prelude_spaces.types name ≡ Some (type.Data (record { declaration = index; arity = arity }))
        → IsEarlyData (spaces_of source.declarations) name
    early name index arity below means = record {
      index = index;
      arity = arity;
      early = below;
      means = ap (λ (all : List DeclTree). meaning_of (spaces_of all).types name) whole.prelude_first.are
          ∙ types_stay 5 prelude_spaces whole.prelude_first.others name
          (type.Data (record { declaration = index; arity = arity })) means;
    }

-- the index of the declaration of data
abbrev data_index : TypeMeaning → ℕ
data_index (type.Data taking) = taking.declaration
data_index _ = 0

-- what is declared with the name of a type of the prelude is that type
pub prelude_is_alone : (source : SourceTree) (index : ℕ) (declaration : DeclTree) → IsWhole source
    → slice_get source.declarations index ≡ Some declaration → names_prelude_type declaration ≡ true
    → slice_get prelude_types index ≡ Some declaration
unfolding prelude_types
prelude_is_alone source index (DataTree place name type_params constructors) whole there named =
    let own = type_is_first source index (DataTree place name type_params constructors) whole there in
    let known = one_has (IsEarlyData (spaces_of source.declarations)) name.name prelude_type_names
    (prelude_names_are_early source whole) named in
    let same : known.index ≡ index =
    ap data_index (same_Some _ _ (sym known.means ∙ own)) in
    let within : index < length prelude_types = omega (arith, known.early, same) in
    sym (slice_get-before prelude_types whole.prelude_first.others index within)
    ∙ (ap (λ (all : List DeclTree). slice_get all index) (sym whole.prelude_first.are) ∙ there)
prelude_is_alone source index declaration whole there named = absurd (true≢false (sym named))

-- the name spaces after the first two types
abbrev first_spaces : NameSpaces
first_spaces = with_declaration 1 (with_declaration 0 built_in unit_data) bool_data

-- what the name of a constructor of the first two types means
first_means : (source : SourceTree) (name : Name) (declaration index : ℕ) → IsWhole source
    → meaning_of first_spaces.constructors name ≡ Some (without_parts declaration index)
    → meaning_of (spaces_of source.declarations).constructors name ≡ Some (without_parts declaration index)
unfolding prelude_types
first_means source name declaration index whole means =
    let begins = whole.prelude_first in
    ap (λ (all : List DeclTree). meaning_of (spaces_of all).constructors name) begins.are
    ∙ constructors_stay 2 first_spaces (resolved_list ∷ resolved_maybe ∷ resolved_pair ∷ begins.others) name
    (without_parts declaration index) means

pub true_means : (source : SourceTree) → IsWhole source
    → meaning_of (spaces_of source.declarations).constructors (codes "True") ≡ Some (without_parts 1 0)
true_means source whole = first_means source (codes "True") 1 0 whole refl

pub false_means : (source : SourceTree) → IsWhole source
    → meaning_of (spaces_of source.declarations).constructors (codes "False") ≡ Some (without_parts 1 1)
false_means source whole = first_means source (codes "False") 1 1 whole refl

pub unit_means : (source : SourceTree) → IsWhole source
    → meaning_of (spaces_of source.declarations).constructors (codes "Unit") ≡ Some (without_parts 0 0)
unit_means source whole = first_means source (codes "Unit") 0 0 whole refl
