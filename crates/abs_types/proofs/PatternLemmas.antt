-- The relation of patterns agrees with the functions: a pattern matches exactly where it has no offence, and its
-- variables have the types that the function gives.
--
--   `pattern_matched`          a pattern without offences matches
--   `match_unoffending`        a pattern that matches has no offence
--   `match_types`              the types of the variables of a pattern that matches
--   `fitting_unoffending`      a pattern that fits has no offence
--   `unoffending_fitting`      a pattern without offences fits
use Rattle.std.proofs.Common.{◌≡◌, ℕ, true, List, [], ◌∷◌, ◌++◌, map, length, nat_eq, Option, Some, is_none, refl, sym, ap, ap₂, ◌∙◌, arith}
use Rattle.std.proofs.lemmas.Bool.{eq-eqb, eqb-true}
use Rattle.std.proofs.lemmas.List.{map-append, nil_from_length}
use Rattle.std.proofs.lemmas.Option.{option_and_then_some, same_Some}
use Rattle.abs_tree.specs.Syntax.{Name, DeclTree, PatternTree, AnyValue, Binds, SameNumber, SameString, Built, PatternTrees, NoPattern, NextPattern}
use Rattle.abs_tree.specs.SyntaxCounts.{count_patterns}
use Rattle.abs_tree.specs.declared.refusal.Code.TheVariants.{T1}
use Rattle.abs_types.specs.Matching.{Matches, MatchAll}
use Rattle.abs_types.specs.Matching.Matches.{any, binds, same_number, same_string, built}
use Rattle.abs_types.specs.Matching.MatchAll.{none as all_none, next as all_next}
use Rattle.abs_types.specs.Mistyped.{mistyped_if}
use Rattle.abs_types.specs.PatternTypes.{constructor_parts, if_as_many, parts_matched, subjects, pattern_types, patterns_types, pattern_offences, patterns_offences, pattern_fits}
use Rattle.abs_types.specs.PlainTypes.{PlainType, PlainInt, PlainString}
use Rattle.abs_types.proofs.OffenceLemmas.{offence_if_unoffending, unfit_unoffending, unoffending_if_fit}
use Rattle.abs_types.proofs.SubtypingLemmas.{fits_found, fits_whole}
use Rattle.list_facts.proofs.AppendLemmas.{both_empty, empty_both}
use Rattle.list_facts.proofs.OptionLemmas.{is_none-found, if-found}

-- a pattern without offences fits
pub unoffending_fitting : (declarations : List DeclTree) (subject : Option PlainType) (pattern : PatternTree)
    → pattern_offences declarations subject pattern ≡ [] → pattern_fits declarations subject pattern ≡ true
unoffending_fitting declarations subject pattern none = rw none refl

-- a pattern that fits has no offence
pub fitting_unoffending : (declarations : List DeclTree) (subject : Option PlainType) (pattern : PatternTree)
    → pattern_fits declarations subject pattern ≡ true → pattern_offences declarations subject pattern ≡ []
fitting_unoffending declarations subject pattern reported =
    nil_from_length (pattern_offences declarations subject pattern)
    (eqb-true (length (pattern_offences declarations subject pattern)) 0 reported)

-- where there are as many parts as patterns, they are the parts of the constructor
as_many_found : (count : ℕ) (parts matched : List PlainType) → if_as_many count parts ≡ Some matched
    → (parts ≡ matched) × (length parts ≡ count)
as_many_found count parts matched reported =
    let both = if-found (nat_eq (length parts) count) (Some parts) matched reported in
    (same_Some parts matched both.1, eqb-true (length parts) count both.0)

-- the parts that are matched are those of the constructor, and there is a pattern for each
parts_found : (declarations : List DeclTree) (subject : PlainType) (constructor : Name) (arguments : PatternTrees)
    (parts : List PlainType) → parts_matched declarations subject constructor arguments ≡ Some parts
    → (constructor_parts declarations subject constructor ≡ Some parts)
    × (length parts ≡ count_patterns arguments)
parts_found declarations subject constructor arguments parts reported =
    option_and_then_some (if_as_many (count_patterns arguments)) (constructor_parts declarations subject constructor)
    parts reported
    (λ found found_is counted.
    let both = as_many_found (count_patterns arguments) found parts counted in
    (found_is ∙ ap Some both.0, sym (ap length both.0) ∙ both.1))

-- the parts of the constructor are matched, if there is a pattern for each
parts_whole : (declarations : List DeclTree) (subject : PlainType) (constructor : Name) (arguments : PatternTrees)
    (parts : List PlainType) → constructor_parts declarations subject constructor ≡ Some parts
    → length parts ≡ count_patterns arguments
    → parts_matched declarations subject constructor arguments ≡ Some parts
parts_whole declarations subject constructor arguments parts reported as_many =
    rw reported (rw (eq-eqb (length parts) (count_patterns arguments) as_many) refl)

mutual
  -- a pattern without offences matches
  pub pattern_matched : (declarations : List DeclTree) (subject : PlainType) (pattern : PatternTree)
      → pattern_offences declarations (Some subject) pattern ≡ []
      → (variables : List PlainType) × Matches declarations subject pattern variables
  pattern_matched declarations subject (AnyValue place) none = ([], any subject place)
  pattern_matched declarations subject (Binds place variable) none = (subject ∷ [], binds subject place variable)
  pattern_matched declarations subject (SameNumber place number) none = (
    [],
    same_number subject place number
        (fits_found declarations subject PlainInt (unfit_unoffending declarations subject PlainInt place none)),
  )
  pattern_matched declarations subject (SameString place string) none = (
    [],
    same_string subject place string
        (fits_found declarations subject PlainString (unfit_unoffending declarations subject PlainString place none)),
  )
  pattern_matched declarations subject (Built place constructor arguments) none =
      let matched = parts_matched declarations subject constructor arguments in
      let both = both_empty (mistyped_if (is_none matched) place)
      (patterns_offences declarations (subjects matched) arguments) none in
      let found = is_none-found matched (offence_if_unoffending (is_none matched) T1 place both.0) in
      let parts = parts_found declarations subject constructor arguments found.0 found.1 in
      let rest = patterns_matched declarations found.0 arguments parts.1
      (sym (ap (λ one. patterns_offences declarations (subjects one) arguments) found.1) ∙ both.1) in
      (rest.0, built subject place constructor arguments found.0 rest.0 parts.0 rest.1)

  -- patterns without offences match parts, of which there are as many
  patterns_matched : (declarations : List DeclTree) (parts : List PlainType) (patterns : PatternTrees)
      → length parts ≡ count_patterns patterns → patterns_offences declarations (map Some parts) patterns ≡ []
      → (variables : List PlainType) × MatchAll declarations parts patterns variables
  patterns_matched declarations [] NoPattern as_many none = ([], all_none)
  patterns_matched declarations (part ∷ parts) NoPattern as_many none = absurd (omega (arith, as_many))
  patterns_matched declarations [] (NextPattern first others) as_many none = absurd (omega (arith, as_many))
  patterns_matched declarations (part ∷ parts) (NextPattern first others) as_many none =
      let both = both_empty (pattern_offences declarations (Some part) first)
      (patterns_offences declarations (map Some parts) others) none in
      let one = pattern_matched declarations part first both.0 in
      let more = patterns_matched declarations parts others (omega (arith, as_many)) both.1 in
      (one.0 ++ more.0, all_next part parts first others one.0 more.0 one.1 more.1)

-- there are as many parts that match as patterns
match_all_counts : {declarations : List DeclTree} {parts : List PlainType} {patterns : PatternTrees}
    {types : List PlainType} → MatchAll declarations parts patterns types → length parts ≡ count_patterns patterns
match_all_counts all_none = refl
match_all_counts (all_next part parts first others types more one later) =
    let rest = match_all_counts later in omega (arith, rest)

mutual
  -- a pattern that matches has no offence
  pub match_unoffending : {declarations : List DeclTree} {subject : PlainType} {pattern : PatternTree}
      {types : List PlainType} → Matches declarations subject pattern types
      → pattern_offences declarations (Some subject) pattern ≡ []
  match_unoffending (any subject place) = refl
  match_unoffending (binds subject place variable) = refl
  match_unoffending {declarations} (same_number subject place number fit) =
      unoffending_if_fit declarations subject PlainInt place (fits_whole fit)
  match_unoffending {declarations} (same_string subject place string fit) =
      unoffending_if_fit declarations subject PlainString place (fits_whole fit)
  match_unoffending {declarations} (built subject place constructor arguments parts types reported matched) =
      rw (parts_whole declarations subject constructor arguments parts reported (match_all_counts matched))
      (match_all_unoffending matched)

  -- the same of several patterns
  match_all_unoffending : {declarations : List DeclTree} {parts : List PlainType} {patterns : PatternTrees}
      {types : List PlainType} → MatchAll declarations parts patterns types
      → patterns_offences declarations (map Some parts) patterns ≡ []
  match_all_unoffending all_none = refl
  match_all_unoffending {declarations} (all_next part parts first others types more one later) =
      empty_both (pattern_offences declarations (Some part) first)
      (patterns_offences declarations (map Some parts) others) (match_unoffending one) (match_all_unoffending later)

mutual
  -- the variables of a pattern that matches have the types that the function gives
  pub match_types : {declarations : List DeclTree} {subject : PlainType} {pattern : PatternTree}
      {types : List PlainType} → Matches declarations subject pattern types
      → pattern_types declarations (Some subject) pattern ≡ map Some types
  match_types (any subject place) = refl
  match_types (binds subject place variable) = refl
  match_types (same_number subject place number fit) = refl
  match_types (same_string subject place string fit) = refl
  match_types {declarations} (built subject place constructor arguments parts types reported matched) =
      rw (parts_whole declarations subject constructor arguments parts reported (match_all_counts matched))
      (match_all_types matched)

  -- the same of several patterns
  match_all_types : {declarations : List DeclTree} {parts : List PlainType} {patterns : PatternTrees}
      {types : List PlainType} → MatchAll declarations parts patterns types
      → patterns_types declarations (map Some parts) patterns ≡ map Some types
  match_all_types all_none = refl
  match_all_types (all_next part parts first others types more one later) =
      ap₂ ◌++◌ (match_types one) (match_all_types later) ∙ sym (map-append Some types more)
