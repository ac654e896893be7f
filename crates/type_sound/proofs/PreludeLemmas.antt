-- The values of the types of the prelude that rules ask for: those of Bool are answers, and `Unit` is one of Unit.
--
--   `truth_has`, `truth_found`     an answer is a value of type Bool, and a value of type Bool is an answer
--   `unit_has`                     `Unit` is a value of type Unit
use Rattle.std.proofs.Common.{◌≡◌, ◌⊎◌, inl, inr, ℕ, Bool, true, false, List, [], ◌++◌, Option, Some, None, refl, sym, ap, ◌∙◌, subst, length, map, nat_eq, eq-eqb, true≢false, All}
use Rattle.std.specs.Prelude.{⊤, codes, if◌then◌else◌, slice_get}
use Rattle.std.specs.List.{AllByRecursion, list_any}
use Rattle.std.specs.Str.{bytes_eq}
use Rattle.std.proofs.lemmas.List.Elements.{All-from_recursion}
use Rattle.std.proofs.lemmas.Slice.Eq.{bytes_eq-Decides}
use Rattle.abs_profile.specs.Accepted.{IsAcceptedProgram}
use Rattle.abs_program.proofs.PreludeTypeLemmas.{prelude_is_alone, true_means, false_means, unit_means}
use Rattle.abs_program.specs.NameSpaces.{spaces_of}
use Rattle.abs_program.specs.PreludeTypes.{prelude_type_names, prelude_types, without_parts}
use Rattle.abs_program.specs.Tables.{meaning_of}
use Rattle.abs_program.specs.Whole.{IsWhole}
use Rattle.abs_tree.specs.Names.{number_of_name}
use Rattle.abs_tree.specs.Syntax.{Name, NoType, ConstructorTree, DeclTree, DataTree, SourceTree, ProgramTree}
use Rattle.abs_types.proofs.ConstructorLemmas.{built_is}
use Rattle.abs_types.proofs.SpineLemmas.{data_fitting}
use Rattle.abs_types.proofs.SubtypingLemmas.{fits_reflexive}
use Rattle.abs_types.specs.Applications.{replaced}
use Rattle.abs_types.specs.OperatorTypes.{bool_type, unit_type}
use Rattle.abs_types.specs.PlainTypes.{PlainType, PlainData, applied_to, plains}
use Rattle.abs_types.specs.Schemes.{Scheme, constructor_scheme, scheme_of_constructor}
use Rattle.abs_types.specs.Subtyping.{fits}
use Rattle.abs_values.specs.Operations.{truth_of, truth_value}
use Rattle.abs_values.specs.ValueTrees.{ValueTree, IntValue, StringValue, BuiltValue, ObjectValue, FutureValue, NullValue, ValueTrees, NoPart, NextPart}
use Rattle.list_facts.proofs.AllLemmas.{All-slice_get}
use Rattle.type_sound.proofs.ConstructorLemmas.{BuildsDeclared, constructor_builds}
use Rattle.type_sound.specs.Values.{World, ValueHas, PartsHave}

-- the scheme of a constructor without parts, which gives data without arguments
abbrev plain_scheme : Name → Scheme
plain_scheme owner = record { parameters = 0; takes = []; gives = PlainData owner }

-- a constructor has the scheme that its declaration in the prelude gives it
prelude_scheme : (source : SourceTree) (name : Name) (declaration index : ℕ) (scheme : Scheme) → IsWhole source
    → meaning_of (spaces_of source.declarations).constructors name ≡ Some (without_parts declaration index)
    → ((others : List DeclTree)
    → constructor_scheme (prelude_types ++ others) (Some (without_parts declaration index)) ≡ Some scheme)
    → scheme_of_constructor source.declarations name ≡ Some scheme
unfolding scheme_of_constructor
prelude_scheme source name declaration index scheme whole means is =
    ap (constructor_scheme source.declarations) means
    ∙ (ap (λ (all : List DeclTree). constructor_scheme all (Some (without_parts declaration index)))
    whole.prelude_first.are ∙ is whole.prelude_first.others)

-- what the constructors of its first two types take and give
true_scheme : (source : SourceTree) → IsWhole source
    → scheme_of_constructor source.declarations (codes "True") ≡ Some (plain_scheme (codes "Bool"))
unfolding prelude_types
true_scheme source whole =
    prelude_scheme source (codes "True") 1 0 (plain_scheme (codes "Bool")) whole (true_means source whole)
    (λ others. refl)

false_scheme : (source : SourceTree) → IsWhole source
    → scheme_of_constructor source.declarations (codes "False") ≡ Some (plain_scheme (codes "Bool"))
unfolding prelude_types
false_scheme source whole =
    prelude_scheme source (codes "False") 1 1 (plain_scheme (codes "Bool")) whole (false_means source whole)
    (λ others. refl)

unit_scheme : (source : SourceTree) → IsWhole source
    → scheme_of_constructor source.declarations (codes "Unit") ≡ Some (plain_scheme (codes "Unit"))
unfolding prelude_types
unit_scheme source whole =
    prelude_scheme source (codes "Unit") 0 0 (plain_scheme (codes "Unit")) whole (unit_means source whole)
    (λ others. refl)

-- a constructor without parts is a value of its data
plain_has : (program : ProgramTree) (world : World) (name owner : Name)
    → scheme_of_constructor program.source.declarations name ≡ Some (plain_scheme owner)
    → ValueHas program world (BuiltValue (number_of_name program.names name) NoPart) (PlainData owner)
unfolding ValueHas PartsHave replaced
plain_has program world name owner named =
    (name, plain_scheme owner, [], refl, named, refl, fits_reflexive program.source.declarations (PlainData owner), tt)

-- an answer is a value of type Bool
pub truth_has : (program : ProgramTree) (world : World) → IsAcceptedProgram program → (answer : Bool)
    → ValueHas program world (truth_value program.names answer) bool_type
truth_has program world accepted true =
    plain_has program world (codes "True") (codes "Bool") (true_scheme program.source accepted.whole)
truth_has program world accepted false =
    plain_has program world (codes "False") (codes "Bool") (false_scheme program.source accepted.whole)

-- `Unit` is a value of type Unit
pub unit_has : (program : ProgramTree) (world : World) → IsAcceptedProgram program
    → ValueHas program world (BuiltValue (number_of_name program.names (codes "Unit")) NoPart) unit_type
unit_has program world accepted =
    plain_has program world (codes "Unit") (codes "Unit") (unit_scheme program.source accepted.whole)

-- a constructor is True or False, and has no parts
abbrev IsAnswer : ConstructorTree → Type 0
IsAnswer constructor =
    ((constructor.name.name ≡ codes "True") ⊎ (constructor.name.name ≡ codes "False")) × (constructor.types ≡ NoType)

-- data with the name Bool has no other constructors
abbrev OnlyAnswers : DeclTree → Type 0
OnlyAnswers (DataTree place name type_params constructors) =
    name.name ≡ codes "Bool" → AllByRecursion IsAnswer constructors
OnlyAnswers _ = ⊤

-- names that the test tells apart are not the same
names_apart : (one other : Name) → bytes_eq one other ≡ false → one ≡ other → ⊥
names_apart one other apart same = true≢false (sym ((bytes_eq-Decides one other).1 same) ∙ apart)

-- it has none in the prelude
prelude_answers : All OnlyAnswers prelude_types
unfolding prelude_types
prelude_answers =
    All-from_recursion OnlyAnswers prelude_types (
      λ is. absurd (names_apart (codes "Unit") (codes "Bool") refl is),
      (
        λ is. ((inl refl, refl), ((inr refl, refl), tt)),
        (
          λ is. absurd (names_apart (codes "List") (codes "Bool") refl is),
          (
            λ is. absurd (names_apart (codes "Maybe") (codes "Bool") refl is),
            (λ is. absurd (names_apart (codes "Pair") (codes "Bool") refl is), tt),
          ),
        ),
      ),
    )

-- nor in a whole source, where only the prelude declares data with that name
source_answers : (source : SourceTree) (index : ℕ) (declaration : DeclTree) → IsWhole source
    → slice_get source.declarations index ≡ Some declaration → OnlyAnswers declaration
source_answers source index (DataTree place name type_params constructors) whole there =
    λ is. All-slice_get OnlyAnswers prelude_types index (DataTree place name type_params constructors) prelude_answers
    (prelude_is_alone source index (DataTree place name type_params constructors) whole there
    (ap (λ (n : Name). list_any (bytes_eq n) prelude_type_names) is)) is
source_answers source index declaration whole there = tt

-- no parts have no types
no_parts : (program : ProgramTree) (world : World) (parts : ValueTrees) → PartsHave program world parts []
    → parts ≡ NoPart
unfolding PartsHave
no_parts program world NoPart have = refl
no_parts program world (NextPart first others) have = absurd have

-- the value of an answer is one
truth_is_told : (names : List Name) (answer : Bool)
    → (found : Bool) × (truth_of names (truth_value names answer) ≡ Some found)
truth_is_told names true =
    let number = number_of_name names (codes "True") in
    (true, ap (told_by number) (eq-eqb number number refl))
  where
    told_by : ℕ → Bool → Option Bool
    told_by number test =
        if test then Some true
        else if nat_eq number (number_of_name names (codes "False")) then Some false
        else None
truth_is_told names false =
    by_test (nat_eq (number_of_name names (codes "False")) (number_of_name names (codes "True")))
  where
    by_test : (test : Bool) → (found : Bool)
        × ((if test then Some true
        else if nat_eq (number_of_name names (codes "False")) (number_of_name names (codes "False")) then Some false
        else None) ≡ Some found)
    by_test true = (true, refl)
    by_test false =
        let number = number_of_name names (codes "False") in
        (false, ap (λ same. if same then Some false else None) (eq-eqb number number refl))

-- the value of a constructor without parts that is True or False is an answer
answer_is_told : (names : List Name) (name : Name) → (name ≡ codes "True") ⊎ (name ≡ codes "False")
    → (found : Bool) × (truth_of names (BuiltValue (number_of_name names name) NoPart) ≡ Some found)
answer_is_told names name (inl is) =
    let told = truth_is_told names true in
    (told.0, ap (λ (n : Name). truth_of names (BuiltValue (number_of_name names n) NoPart)) is ∙ told.1)
answer_is_told names name (inr is) =
    let told = truth_is_told names false in
    (told.0, ap (λ (n : Name). truth_of names (BuiltValue (number_of_name names n) NoPart)) is ∙ told.1)

-- a constructor of which the data fits Bool is an answer
answer_found : (program : ProgramTree) → IsAcceptedProgram program → (name : Name) (scheme : Scheme)
    (arguments : List PlainType) (from : BuildsDeclared program.source.declarations name scheme)
    → length arguments ≡ scheme.parameters
    → fits program.source.declarations (replaced arguments scheme.gives) bool_type ≡ true
    → IsAnswer from.from.constructor
answer_found program accepted name scheme arguments from many reported =
    let declarations = program.source.declarations in
    let declared = from.from in
    let owner = declared.declared.name in
    let built : replaced arguments scheme.gives ≡ applied_to (PlainData owner) arguments =
    ap (λ (one : Scheme). replaced arguments one.gives) (sym from.is)
    ∙ built_is owner arguments (length declared.type_params)
    (many ∙ ap (λ (one : Scheme). one.parameters) (sym from.is)) in
    let fit = data_fitting declarations owner (codes "Bool") arguments []
    (ap (λ (one : PlainType). fits declarations one bool_type) (sym built) ∙ reported) in
    All-slice_get IsAnswer declared.constructors from.meaning.index declared.constructor
    (All-from_recursion IsAnswer declared.constructors
    (source_answers program.source from.meaning.taking.declaration
    (DataTree declared.place declared.declared declared.type_params declared.constructors) accepted.whole declared.there
    fit.0))
    declared.constructor_there

-- so is a value of type Bool that is a constructor with its parts
built_answer : (program : ProgramTree) (world : World) → IsAcceptedProgram program → (constructor : ℕ)
    (parts : ValueTrees) → ValueHas program world (BuiltValue constructor parts) bool_type
    → (answer : Bool) × (truth_of program.names (BuiltValue constructor parts) ≡ Some answer)
unfolding ValueHas
built_answer program world accepted constructor parts has =
    let from = constructor_builds program.source.declarations has.0 has.1 has.4 in
    let answer = answer_found program accepted has.0 has.1 has.2 from has.5 has.6 in
    let takes : has.1.takes ≡ [] = ap (λ (one : Scheme). one.takes) (sym from.is) ∙ ap plains answer.1 in
    let none = no_parts program world parts
    (subst (λ (types : List PlainType). PartsHave program world parts (map (replaced has.2) types)) takes has.7) in
    let told = answer_is_told program.names from.from.constructor.name.name answer.0 in (
      told.0,
      ap (truth_of program.names)
          (ap (BuiltValue constructor) none
          ∙ ap (λ (number : ℕ). BuiltValue number NoPart)
          (sym has.3 ∙ ap (number_of_name program.names) (sym from.from.name_is)))
          ∙ told.1,
    )

-- a value of type Bool is an answer
pub truth_found : (program : ProgramTree) (world : World) → IsAcceptedProgram program → (value : ValueTree)
    → ValueHas program world value bool_type → (answer : Bool) × (truth_of program.names value ≡ Some answer)
unfolding ValueHas fits
truth_found program world accepted (IntValue number) has = absurd (true≢false (sym has))
truth_found program world accepted (StringValue string) has = absurd (true≢false (sym has))
truth_found program world accepted NullValue has = absurd (true≢false (sym has))
truth_found program world accepted (ObjectValue object) has = absurd (true≢false (sym has.2))
truth_found program world accepted (FutureValue task) has = absurd (true≢false (sym has.2))
truth_found program world accepted (BuiltValue constructor parts) has =
    built_answer program world accepted constructor parts has
