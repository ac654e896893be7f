-- The application of a function or a constructor: what type parameters have met.
use Rattle.std.proofs.Common.{◌≡◌, ℕ, zero, suc, Bool, true, false, List, [], ◌∷◌, Option, Some, None, refl, sym, ap, ◌∙◌, subst, get_or, length, map, set, replicate, All}
use Rattle.std.specs.Prelude.{option_map, option_and_then, if◌then◌else◌}
use Rattle.std.proofs.lemmas.Bool.{and_from, and_parts}
use Rattle.std.proofs.lemmas.List.{get_or-set_same, length-set, length-replicate}
use Rattle.std.proofs.lemmas.List.Elements.{All-head, All-tail}
use Rattle.std.proofs.lemmas.Option.{none-some, same_Some, option_and_then_some, cond_some}
use Rattle.abs_tree.specs.Syntax.{DeclTree}
use Rattle.abs_types.proofs.JoinLemmas.{join_of_least}
use Rattle.abs_types.proofs.ReplacementLemmas.{entry_fits, replaced_without, AllFit-reflexive, AllFit-transitive, fits_replacement}
use Rattle.abs_types.proofs.SubtypingLemmas.{fits_reflexive}
use Rattle.abs_types.specs.Applications.{meet, meet_all, met_if_fits, met_by, replaced, AllFit}
use Rattle.abs_types.specs.Joins.{join_of}
use Rattle.abs_types.specs.PlainTypes.{PlainType, PlainInt, PlainString, PlainBottom, PlainNull, PlainFut, PlainData, PlainApplied, PlainInterface, PlainClass, PlainParameter}
use Rattle.abs_types.specs.Schemes.{Scheme, has_parameter, ParametersBelow, IsClosed}
use Rattle.abs_types.specs.Subtyping.{fits}

-- An argument was given for a type: what the type parameters have met before and after, a constructor for each reason.
data Meets (declarations : List DeclTree) : PlainType → PlainType → List PlainType → List PlainType → Type 0 where
  fitting : (takes given : PlainType) (met : List PlainType) → has_parameter takes ≡ false
      → fits declarations given takes ≡ true → Meets declarations takes given met met
  parameter : (index : ℕ) (given joined : PlainType) (met later : List PlainType)
      → join_of declarations (get_or met index PlainBottom) given ≡ Some joined → set met index joined ≡ later
      → Meets declarations (PlainParameter index) given met later
  no_value : (takes : PlainType) (met : List PlainType) → Meets declarations takes PlainBottom met met
  future : (value given : PlainType) (met later : List PlainType) → Meets declarations value given met later
      → Meets declarations (PlainFut value) (PlainFut given) met later
  applied : (head argument given_head given_argument : PlainType) (met between later : List PlainType)
      → Meets declarations head given_head met between → Meets declarations argument given_argument between later
      → Meets declarations (PlainApplied head argument) (PlainApplied given_head given_argument) met later

-- an argument that fits a type without type parameters
fitting_met : (declarations : List DeclTree) (takes given : PlainType) (met later : List PlainType)
    → has_parameter takes ≡ false → met_if_fits declarations takes given met ≡ Some later
    → Meets declarations takes given met later
fitting_met declarations takes given met later none is =
    let reported = cond_some (fits declarations given takes) met later is in
    subst (λ (after : List PlainType). Meets declarations takes given met after) reported.1
    (fitting takes given met none reported.0)

-- a type parameter took a join
parameter_met : (declarations : List DeclTree) (index : ℕ) (given : PlainType) (met later : List PlainType)
    (found : Option PlainType) → join_of declarations (get_or met index PlainBottom) given ≡ found
    → option_map (λ joined. set met index joined) found ≡ Some later
    → Meets declarations (PlainParameter index) given met later
parameter_met declarations index given met later None found is = absurd (none-some later is)
parameter_met declarations index given met later (Some joined) found is =
    parameter index given joined met later found (same_Some (set met index joined) later is)

-- by a test of a type parameter in the type
by_parameter : (declarations : List DeclTree) (takes given : PlainType) (met later : List PlainType) (test : Bool)
    (found : Option (List PlainType)) → has_parameter takes ≡ test
    → (if test then found else met_if_fits declarations takes given met) ≡ Some later
    → (found ≡ Some later → Meets declarations takes given met later)
    → Meets declarations takes given met later
by_parameter declarations takes given met later true found tested is parts = parts is
by_parameter declarations takes given met later false found tested is parts =
    fitting_met declarations takes given met later tested is

-- an argument of no value
no_value_met : (declarations : List DeclTree) (takes : PlainType) (met later : List PlainType)
    → Some met ≡ Some later → Meets declarations takes PlainBottom met later
no_value_met declarations takes met later is =
    subst (λ (after : List PlainType). Meets declarations takes PlainBottom met after) (same_Some met later is)
    (no_value takes met)

-- what was met has a reason
meets : (declarations : List DeclTree) (takes given : PlainType) (met later : List PlainType)
    → meet declarations takes given met ≡ Some later → Meets declarations takes given met later
unfolding meet
meets declarations (PlainParameter index) given met later is =
    parameter_met declarations index given met later (join_of declarations (get_or met index PlainBottom) given) refl is
meets declarations (PlainFut value) PlainBottom met later is =
    by_parameter declarations (PlainFut value) PlainBottom met later (has_parameter value) (Some met) refl is
    (no_value_met declarations (PlainFut value) met later)
meets declarations (PlainFut value) (PlainFut given) met later is =
    by_parameter declarations (PlainFut value) (PlainFut given) met later (has_parameter value)
    (meet declarations value given met) refl is
    (λ found. future value given met later (meets declarations value given met later found))
meets declarations (PlainFut value) given met later is =
    by_parameter declarations (PlainFut value) given met later (has_parameter value) None refl is
    (λ found. absurd (none-some later found))
meets declarations (PlainApplied head argument) PlainBottom met later is =
    by_parameter declarations (PlainApplied head argument) PlainBottom met later
    (has_parameter (PlainApplied head argument)) (Some met) refl is
    (no_value_met declarations (PlainApplied head argument) met later)
meets declarations (PlainApplied head argument) (PlainApplied given_head given_argument) met later is =
    by_parameter declarations (PlainApplied head argument) (PlainApplied given_head given_argument) met later
    (has_parameter (PlainApplied head argument))
    (option_and_then (meet declarations argument given_argument) (meet declarations head given_head met)) refl is
    (λ found. option_and_then_some (meet declarations argument given_argument)
    (meet declarations head given_head met) later found
    (λ between first second. applied head argument given_head given_argument met between later
    (meets declarations head given_head met between first)
    (meets declarations argument given_argument between later second)))
meets declarations (PlainApplied head argument) given met later is =
    by_parameter declarations (PlainApplied head argument) given met later (has_parameter (PlainApplied head argument))
    None refl is (λ found. absurd (none-some later found))
meets declarations PlainInt given met later is = fitting_met declarations PlainInt given met later refl is
meets declarations PlainString given met later is = fitting_met declarations PlainString given met later refl is
meets declarations PlainBottom given met later is = fitting_met declarations PlainBottom given met later refl is
meets declarations PlainNull given met later is = fitting_met declarations PlainNull given met later refl is
meets declarations (PlainData name) given met later is = fitting_met declarations (PlainData name) given met later refl is
meets declarations (PlainInterface name) given met later is =
    fitting_met declarations (PlainInterface name) given met later refl is
meets declarations (PlainClass name) given met later is = fitting_met declarations (PlainClass name) given met later refl is

-- there are as many types as before
meets_length : {declarations : List DeclTree} {takes given : PlainType} {met later : List PlainType}
    → Meets declarations takes given met later → length later ≡ length met
meets_length (fitting takes given met none reported) = refl
meets_length (parameter index given joined met later found is) =
    ap (λ (types : List PlainType). length types) (sym is) ∙ length-set met index joined
meets_length (no_value takes met) = refl
meets_length (future value given met later parts) = meets_length parts
meets_length (applied head argument given_head given_argument met between later first second) =
    meets_length second ∙ meets_length first

-- a list fits itself with an entry replaced by one that this entry fits
set_grows : (declarations : List DeclTree) (met : List PlainType) (index : ℕ) (joined : PlainType)
    → fits declarations (get_or met index PlainBottom) joined ≡ true → AllFit declarations met (set met index joined)
set_grows declarations [] index joined reported = tt
set_grows declarations (one ∷ others) zero joined reported = (reported, AllFit-reflexive declarations others)
set_grows declarations (one ∷ others) (suc index) joined reported =
    (fits_reflexive declarations one, set_grows declarations others index joined reported)

-- what type parameters have met only grows
meets_grows : {declarations : List DeclTree} {takes given : PlainType} {met later : List PlainType}
    → Meets declarations takes given met later → AllFit declarations met later
meets_grows {declarations} (fitting takes given met none reported) = AllFit-reflexive declarations met
meets_grows {declarations} (parameter index given joined met later found is) =
    subst (AllFit declarations met) is
    (set_grows declarations met index joined
    (join_of_least declarations (get_or met index PlainBottom) given joined found).first)
meets_grows {declarations} (no_value takes met) = AllFit-reflexive declarations met
meets_grows (future value given met later parts) = meets_grows parts
meets_grows {declarations} (applied head argument given_head given_argument met between later first second) =
    AllFit-transitive declarations met between later (meets_grows first) (meets_grows second)

-- an argument fits its type with the type parameters replaced by what they have met after it
meets_fits : {declarations : List DeclTree} {takes given : PlainType} {met later : List PlainType}
    → Meets declarations takes given met later → ParametersBelow (length met) takes
    → fits declarations given (replaced later takes) ≡ true
unfolding replaced fits
meets_fits {declarations} (fitting takes given met none reported) below =
    ap (fits declarations given) (replaced_without met takes none) ∙ reported
meets_fits {declarations} (parameter index given joined met later found is) below =
    ap (λ (types : List PlainType). fits declarations given (get_or types index (PlainParameter index))) (sym is)
    ∙ (ap (fits declarations given) (get_or-set_same met index joined (PlainParameter index) below)
    ∙ (join_of_least declarations (get_or met index PlainBottom) given joined found).second)
meets_fits (no_value takes met) below = refl
meets_fits (future value given met later parts) below = meets_fits parts below
meets_fits {declarations} (applied head argument given_head given_argument met between later first second) below =
    and_from (fits declarations given_head (replaced later head))
    (fits declarations given_argument (replaced later argument))
    (fits_replacement declarations between later given_head head (meets_grows second) (meets_fits first below.0))
    (meets_fits second
    (subst (λ (count : ℕ). ParametersBelow count argument) (sym (meets_length first)) below.1))

-- a list in which an entry is replaced by a type fits types that it fits, if that type fits the one of its index
set_fits : (declarations : List DeclTree) (met types : List PlainType) (index : ℕ) (joined other : PlainType)
    → AllFit declarations met types → fits declarations joined (get_or types index other) ≡ true
    → AllFit declarations (set met index joined) types
set_fits declarations [] types index joined other all reported = all
set_fits declarations (one ∷ others) [] index joined other all reported = absurd all
set_fits declarations (one ∷ others) (next ∷ types) zero joined other all reported = (reported, all.1)
set_fits declarations (one ∷ others) (next ∷ types) (suc index) joined other all reported =
    (all.0, set_fits declarations others types index joined other all.1 reported)

-- what type parameters have met fits each replacement for which the argument fits, if what they had met before does
meets_least : {declarations : List DeclTree} {takes given : PlainType} {met later : List PlainType}
    (types : List PlainType) → Meets declarations takes given met later → AllFit declarations met types
    → fits declarations given (replaced types takes) ≡ true → AllFit declarations later types
unfolding replaced fits
meets_least types (fitting takes given met none reported) all fit = all
meets_least {declarations} types (parameter index given joined met later found is) all fit =
    let least = join_of_least declarations (get_or met index PlainBottom) given joined found in
    let above = get_or types index (PlainParameter index) in
    subst (λ (after : List PlainType). AllFit declarations after types) is
    (set_fits declarations met types index joined (PlainParameter index) all
    (least.least_is above
    (entry_fits declarations met types index PlainBottom (PlainParameter index) all refl) fit))
meets_least types (no_value takes met) all fit = all
meets_least types (future value given met later parts) all fit = meets_least types parts all fit
meets_least {declarations} types (applied head argument given_head given_argument met between later first second) all fit =
    let both = and_parts (fits declarations given_head (replaced types head))
    (fits declarations given_argument (replaced types argument)) fit in
    meets_least types second (meets_least types first all both.0) both.1

-- all arguments were met: what type parameters have met only grew
meet_all_grows : (declarations : List DeclTree) (takes given met later : List PlainType)
    → meet_all declarations takes given met ≡ Some later → AllFit declarations met later
meet_all_grows declarations [] [] met later is =
    subst (AllFit declarations met) (same_Some met later is) (AllFit-reflexive declarations met)
meet_all_grows declarations [] (one ∷ given) met later is = absurd (none-some later is)
meet_all_grows declarations (first ∷ takes) [] met later is = absurd (none-some later is)
meet_all_grows declarations (first ∷ takes) (one ∷ given) met later is =
    option_and_then_some (meet_all declarations takes given) (meet declarations first one met) later is
    (λ between head others. AllFit-transitive declarations met between later
    (meets_grows (meets declarations first one met between head))
    (meet_all_grows declarations takes given between later others))

-- all arguments fit their types with the type parameters replaced by what they have met
meet_all_fits : (declarations : List DeclTree) (takes given met later : List PlainType)
    → All (ParametersBelow (length met)) takes → meet_all declarations takes given met ≡ Some later
    → AllFit declarations given (map (replaced later) takes)
meet_all_fits declarations [] [] met later own is = tt
meet_all_fits declarations [] (one ∷ given) met later own is = absurd (none-some later is)
meet_all_fits declarations (first ∷ takes) [] met later own is = absurd (none-some later is)
meet_all_fits declarations (first ∷ takes) (one ∷ given) met later own is =
    option_and_then_some (meet_all declarations takes given) (meet declarations first one met) later is
    (λ between head others.
    let step = meets declarations first one met between head in (
      fits_replacement declarations between later one first (meet_all_grows declarations takes given between later others)
          (meets_fits step (All-head (ParametersBelow (length met)) first takes own)),
      meet_all_fits declarations takes given between later
          (subst (λ (count : ℕ). All (ParametersBelow count) takes) (sym (meets_length step))
          (All-tail (ParametersBelow (length met)) first takes own)) others,
    ))

-- what type parameters have met fits each replacement for which all arguments fit, if what they had met before does
meet_all_least : (declarations : List DeclTree) (takes given met later types : List PlainType)
    → meet_all declarations takes given met ≡ Some later → AllFit declarations met types
    → AllFit declarations given (map (replaced types) takes) → AllFit declarations later types
meet_all_least declarations [] [] met later types is all fit =
    subst (λ (after : List PlainType). AllFit declarations after types) (same_Some met later is) all
meet_all_least declarations [] (one ∷ given) met later types is all fit = absurd fit
meet_all_least declarations (first ∷ takes) [] met later types is all fit = absurd fit
meet_all_least declarations (first ∷ takes) (one ∷ given) met later types is all fit =
    option_and_then_some (meet_all declarations takes given) (meet declarations first one met) later is
    (λ between head others. meet_all_least declarations takes given between later types others
    (meets_least types (meets declarations first one met between head) all fit.0) fit.1)

-- before all arguments what was met fits all types
none_met : (declarations : List DeclTree) (types : List PlainType)
    → AllFit declarations (replicate (length types) PlainBottom) types
unfolding fits
none_met declarations [] = tt
none_met declarations (one ∷ types) = (refl, none_met declarations types)

-- the arguments of an application fit their types with the type parameters replaced by what they have met
pub application_fits : (declarations : List DeclTree) (scheme : Scheme) (given met : List PlainType) → IsClosed scheme
    → met_by declarations scheme given ≡ Some met → AllFit declarations given (map (replaced met) scheme.takes)
application_fits declarations scheme given met closed is =
    meet_all_fits declarations scheme.takes given (replicate scheme.parameters PlainBottom) met
    (subst (λ (count : ℕ). All (ParametersBelow count) scheme.takes)
    (sym (length-replicate scheme.parameters PlainBottom)) closed.takes_own) is

-- what type parameters have met in an application fits each replacement for which all arguments fit
pub application_is_least : (declarations : List DeclTree) (scheme : Scheme) (given met types : List PlainType)
    → length types ≡ scheme.parameters → met_by declarations scheme given ≡ Some met
    → AllFit declarations given (map (replaced types) scheme.takes) → AllFit declarations met types
application_is_least declarations scheme given met types many is fit =
    meet_all_least declarations scheme.takes given (replicate scheme.parameters PlainBottom) met types is
    (subst (λ (count : ℕ). AllFit declarations (replicate count PlainBottom) types) many (none_met declarations types)) fit

-- all arguments were met: there are as many types as before
meet_all_length : (declarations : List DeclTree) (takes given met later : List PlainType)
    → meet_all declarations takes given met ≡ Some later → length later ≡ length met
meet_all_length declarations [] [] met later is =
    ap (λ (types : List PlainType). length types) (sym (same_Some met later is))
meet_all_length declarations [] (one ∷ given) met later is = absurd (none-some later is)
meet_all_length declarations (first ∷ takes) [] met later is = absurd (none-some later is)
meet_all_length declarations (first ∷ takes) (one ∷ given) met later is =
    option_and_then_some (meet_all declarations takes given) (meet declarations first one met) later is
    (λ between head others. meet_all_length declarations takes given between later others
    ∙ meets_length (meets declarations first one met between head))

-- in an application there is a type for each type parameter
pub application_length : (declarations : List DeclTree) (scheme : Scheme) (given met : List PlainType)
    → met_by declarations scheme given ≡ Some met → length met ≡ scheme.parameters
application_length declarations scheme given met is =
    meet_all_length declarations scheme.takes given (replicate scheme.parameters PlainBottom) met is
    ∙ length-replicate scheme.parameters PlainBottom
