-- What the variables of a pattern take from a value has their types.
--
--   `matched_have`         so it is for a pattern that fits the type of the value
use Rattle.std.proofs.Common.{◌≡◌, ℕ, ℤ, List, [], ◌∷◌, ◌++◌, Option, Some, None, refl, sym, ap, ◌∙◌, subst, map, nat_eq, eqb-true, int_eq, bytes_eq}
use Rattle.std.proofs.lemmas.List.{map-append}
use Rattle.std.proofs.lemmas.Option.{none-some, same_Some, cond_some, option_and_then_some}
use Rattle.abs_profile.specs.Accepted.{IsAcceptedProgram}
use Rattle.abs_tree.specs.Names.{number_of_name}
use Rattle.abs_tree.specs.Syntax.{Name, DeclTree, PatternTree, SameNumber, SameString, Built, PatternTrees, ProgramTree}
use Rattle.abs_tree.specs.declared.place.Place.{Place}
use Rattle.abs_types.proofs.ConstructorLemmas.{replaced_parts}
use Rattle.abs_types.specs.Applications.{replaced}
use Rattle.abs_types.specs.Matching.{Matches, MatchAll}
use Rattle.abs_types.specs.Matching.Matches.{any, binds, same_number, same_string, built}
use Rattle.abs_types.specs.Matching.MatchAll.{none, next}
use Rattle.abs_types.specs.PatternTypes.{constructor_parts, parts_by}
use Rattle.abs_types.specs.PlainTypes.{PlainType}
use Rattle.abs_types.specs.Schemes.{Scheme, scheme_of_constructor}
use Rattle.abs_values.specs.Operations.{all_matched, both_matched, matched}
use Rattle.abs_values.specs.ValueTrees.{ValueTree, IntValue, StringValue, BuiltValue, ValueTrees, NoPart, NextPart}
use Rattle.list_facts.proofs.OptionLemmas.{if-found}
use Rattle.type_sound.proofs.ConstructorLemmas.{same_by_number}
use Rattle.type_sound.proofs.ValueLemmas.{parts_up}
use Rattle.type_sound.specs.Values.{World, ValueHas, PartsHave, AllHave}

-- values and others have the types of both
all_have_both : (program : ProgramTree) (world : World) (values others : List ValueTree) (types more : List PlainType)
    → AllHave program world values types → AllHave program world others more
    → AllHave program world (values ++ others) (types ++ more)
all_have_both program world [] others [] more first second = second
all_have_both program world [] others (type ∷ types) more first second = absurd first
all_have_both program world (value ∷ values) others [] more first second = absurd first
all_have_both program world (value ∷ values) others (type ∷ types) more first second =
    (first.0, all_have_both program world values others types more first.1 second)

-- a pattern of a number takes nothing
number_takes : (names : List Name) (place : Place) (number : ℤ) (value : ValueTree) (values : List ValueTree)
    → matched names (SameNumber place number) value ≡ Some values → [] ≡ values
unfolding matched
number_takes names place number (IntValue other) values is = (cond_some (int_eq number other) [] values is).1
number_takes names place number value values is = absurd (none-some values is)

-- nor does that of a string
string_takes : (names : List Name) (place : Place) (string : List ℕ) (value : ValueTree) (values : List ValueTree)
    → matched names (SameString place string) value ≡ Some values → [] ≡ values
unfolding matched
string_takes names place string (StringValue other) values is = (cond_some (bytes_eq string other) [] values is).1
string_takes names place string value values is = absurd (none-some values is)

-- a pattern of a constructor matches a value of that constructor, and takes what its patterns take from the parts
parts_taken : (names : List Name) (place : Place) (constructor : Name) (patterns : PatternTrees) (value : ValueTree)
    (values : List ValueTree) → matched names (Built place constructor patterns) value ≡ Some values
    → (parts : ValueTrees) × (value ≡ BuiltValue (number_of_name names constructor) parts)
    × (all_matched names patterns parts ≡ Some values)
unfolding matched
parts_taken names place constructor patterns (BuiltValue other parts) values is =
    let number = number_of_name names constructor in
    let both = if-found (nat_eq number other) (all_matched names patterns parts) values is in
    (parts, ap (λ (n : ℕ). BuiltValue n parts) (sym (eqb-true number other both.0)), both.1)
parts_taken names place constructor patterns value values is = absurd (none-some values is)

-- two patterns that both match take what each of them takes
both_taken : (one other : Option (List ValueTree)) (values : List ValueTree) → both_matched one other ≡ Some values
    → (first : List ValueTree) × (others : List ValueTree) × (one ≡ Some first) × (other ≡ Some others)
    × (first ++ others ≡ values)
both_taken (Some first) (Some others) values is =
    (first, others, refl, refl, same_Some (first ++ others) values is)
both_taken (Some first) None values is = absurd (none-some values is)
both_taken None other values is = absurd (none-some values is)

-- a constructor of which the parts have types has a scheme
scheme_found : (declarations : List DeclTree) (subject : PlainType) (constructor : Name) (parts : List PlainType)
    → constructor_parts declarations subject constructor ≡ Some parts
    → (scheme : Scheme) × (scheme_of_constructor declarations constructor ≡ Some scheme)
unfolding constructor_parts
scheme_found declarations subject constructor parts is =
    option_and_then_some (parts_by subject) (scheme_of_constructor declarations constructor) parts is
    (λ scheme named reported. (scheme, named))

-- the parts of a value of a subject's type have the types that the pattern of its constructor finds in the subject
abbrev FindsParts : List DeclTree → ProgramTree → World → List PlainType → Type 0
FindsParts declarations program world types =
    (subject : PlainType) (constructor : Name) (parts : List PlainType) (values : ValueTrees)
    → constructor_parts declarations subject constructor ≡ Some parts
    → ValueHas program world (BuiltValue (number_of_name program.names constructor) values) (replaced types subject)
    → PartsHave program world values (map (replaced types) parts)

-- so it is in an accepted program
parts_found : (program : ProgramTree) (world : World) → IsAcceptedProgram program → (types : List PlainType)
    → FindsParts program.source.declarations program world types
unfolding ValueHas
parts_found program world accepted types subject constructor parts values at has =
    let declarations = program.source.declarations in
    let own = scheme_found declarations subject constructor parts at in
    let same = same_by_number program has.0 constructor has.1 own.0 accepted has.4 own.1 has.3 in
    parts_up program world values (map (replaced has.2) has.1.takes) (map (replaced types) parts)
    (replaced_parts program.source has.0 has.1 has.2 types subject parts accepted.whole has.4 has.5 has.6
    (ap (constructor_parts declarations subject) same ∙ at))
    has.7

mutual
  unfolding matched all_matched PartsHave

  -- what the variables of a pattern take has their types, by the reason for which the pattern fits
  pattern_has : {declarations : List DeclTree} {subject : PlainType} {pattern : PatternTree}
      {variables : List PlainType} (program : ProgramTree) (world : World) (types : List PlainType)
      (value : ValueTree) (values : List ValueTree) → FindsParts declarations program world types → Matches declarations subject pattern variables
      → ValueHas program world value (replaced types subject) → matched program.names pattern value ≡ Some values
      → AllHave program world values (map (replaced types) variables)
  pattern_has program world types value values finds (any subject place) has is =
      subst (λ (taken : List ValueTree). AllHave program world taken []) (same_Some [] values is) tt
  pattern_has program world types value values finds (binds subject place variable) has is =
      subst (λ (taken : List ValueTree). AllHave program world taken (replaced types subject ∷ []))
      (same_Some (value ∷ []) values is) (has, tt)
  pattern_has program world types value values finds (same_number subject place number fit) has is =
      subst (λ (taken : List ValueTree). AllHave program world taken [])
      (number_takes program.names place number value values is) tt
  pattern_has program world types value values finds (same_string subject place string fit) has is =
      subst (λ (taken : List ValueTree). AllHave program world taken [])
      (string_takes program.names place string value values is) tt
  pattern_has program world types value values finds
      (built subject place constructor arguments parts variables at matches) has is =
      let taken = parts_taken program.names place constructor arguments value values is in
      patterns_have program world types taken.0 values finds matches
      (finds subject constructor parts taken.0 at
      (subst (λ (one : ValueTree). ValueHas program world one (replaced types subject)) taken.1 has))
      taken.2

  -- so of patterns and parts
  patterns_have : {declarations : List DeclTree} {parts : List PlainType} {patterns : PatternTrees}
      {variables : List PlainType} (program : ProgramTree) (world : World) (types : List PlainType)
      (values : ValueTrees) (found : List ValueTree) → FindsParts declarations program world types
      → MatchAll declarations parts patterns variables
      → PartsHave program world values (map (replaced types) parts)
      → all_matched program.names patterns values ≡ Some found
      → AllHave program world found (map (replaced types) variables)
  patterns_have program world types NoPart found finds none have is =
      subst (λ (taken : List ValueTree). AllHave program world taken []) (same_Some [] found is) tt
  patterns_have program world types (NextPart value values) found finds none have is = absurd have
  patterns_have program world types NoPart found finds (next part parts first others own more matches all) have is =
      absurd have
  patterns_have program world types (NextPart value values) found finds
      (next part parts first others own more matches all) have is =
      let both = both_taken (matched program.names first value) (all_matched program.names others values) found is in
      subst (λ (taken : List ValueTree). AllHave program world taken (map (replaced types) (own ++ more))) both.4
      (subst (AllHave program world (both.0 ++ both.1)) (sym (map-append (replaced types) own more))
      (all_have_both program world both.0 both.1 (map (replaced types) own) (map (replaced types) more)
      (pattern_has program world types value both.0 finds matches have.0 both.2)
      (patterns_have program world types values both.1 finds all have.1 both.3)))

-- what the variables of a pattern take has their types
pub matched_have : (program : ProgramTree) (world : World) → IsAcceptedProgram program → (types : List PlainType)
    (subject : PlainType) (pattern : PatternTree) (variables : List PlainType) (value : ValueTree)
    (values : List ValueTree) → Matches program.source.declarations subject pattern variables
    → ValueHas program world value (replaced types subject) → matched program.names pattern value ≡ Some values
    → AllHave program world values (map (replaced types) variables)
matched_have program world accepted types subject pattern variables value values matches has is =
    pattern_has program world types value values (parts_found program world accepted types) matches has is
