-- The application of a function or a constructor to arguments.
--
--   `meet`, `meet_all`         what type parameters have met, after one more argument, and after all of them
--   `replaced`                 a type in which each type parameter is replaced
--   `applied_type`             the type of an application, if the arguments can be met
--   `AllFit`                   types fit others one by one
use Rattle.std.specs.Prelude.{◌≡◌, ⊤, true, List, [], ◌∷◌, set, get_or, replicate, Option, Some, None, option_map, option_and_then, if◌then◌else◌}
use Rattle.abs_tree.specs.Syntax.{DeclTree}
use Rattle.abs_types.specs.Joins.{join_of}
use Rattle.abs_types.specs.PlainTypes.{PlainType, PlainInt, PlainString, PlainBottom, PlainNull, PlainFut, PlainData, PlainApplied, PlainInterface, PlainClass, PlainParameter}
use Rattle.abs_types.specs.Schemes.{Scheme, has_parameter}
use Rattle.abs_types.specs.Subtyping.{fits}

-- a type without type parameters asks for an argument that fits
abbrev pub met_if_fits : List DeclTree → PlainType → PlainType → List PlainType → Option (List PlainType)
met_if_fits declarations takes given met = if fits declarations given takes then Some met else None

-- what `Fut` meets: the type of no value, or `Fut` of what is met
abbrev pub future_met : (PlainType → Option (List PlainType)) → List PlainType → PlainType → Option (List PlainType)
future_met value_met met PlainBottom = Some met
future_met value_met met (PlainFut given) = value_met given
future_met value_met met _ = None

-- what applied data meets: the type of no value, or the same data with its arguments
abbrev pub applied_met : (PlainType → PlainType → Option (List PlainType)) → List PlainType → PlainType
    → Option (List PlainType)
applied_met parts_met met PlainBottom = Some met
applied_met parts_met met (PlainApplied head argument) = parts_met head argument
applied_met parts_met met _ = None

-- What the type parameters have met, after an argument is given for a type: a parameter takes the join of what it met
-- before with the argument; `Fut` and data with a parameter in them meet the same, argument by argument.
unfoldable pub meet : List DeclTree → PlainType → PlainType → List PlainType → Option (List PlainType)
meet declarations (PlainParameter index) given met =
    option_map (λ joined. set met index joined) (join_of declarations (get_or met index PlainBottom) given)
meet declarations (PlainFut value) given met =
    if has_parameter value then future_met (λ (given_value : PlainType). meet declarations value given_value met) met given
    else met_if_fits declarations (PlainFut value) given met
meet declarations (PlainApplied head argument) given met =
    if has_parameter (PlainApplied head argument) then
    applied_met (λ (given_head given_argument : PlainType).
    option_and_then (meet declarations argument given_argument) (meet declarations head given_head met)) met given
    else met_if_fits declarations (PlainApplied head argument) given met
meet declarations takes given met = met_if_fits declarations takes given met

-- What the type parameters have met, after arguments are given for types, one by one: `meet` for each of them. There
-- must be as many arguments as types.
abbrev pub meet_all : List DeclTree → List PlainType → List PlainType → List PlainType → Option (List PlainType)
meet_all declarations [] [] met = Some met
meet_all declarations (takes ∷ others) (given ∷ more) met =
    option_and_then (meet_all declarations others more) (meet declarations takes given met)
meet_all declarations [] (given ∷ more) met = None
meet_all declarations (takes ∷ others) [] met = None

-- a type in which each type parameter is replaced by the type of its index; one past the list stays
unfoldable pub replaced : List PlainType → PlainType → PlainType
replaced types (PlainParameter index) = get_or types index (PlainParameter index)
replaced types (PlainFut value) = PlainFut (replaced types value)
replaced types (PlainApplied head argument) = PlainApplied (replaced types head) (replaced types argument)
replaced types PlainInt = PlainInt
replaced types PlainString = PlainString
replaced types PlainBottom = PlainBottom
replaced types PlainNull = PlainNull
replaced types (PlainData name) = PlainData name
replaced types (PlainInterface name) = PlainInterface name
replaced types (PlainClass name) = PlainClass name

-- what the type parameters of a scheme have met after all arguments: before them each has met no value
abbrev pub met_by : List DeclTree → Scheme → List PlainType → Option (List PlainType)
met_by declarations scheme given =
    meet_all declarations scheme.takes given (replicate scheme.parameters PlainBottom)

-- the type of an application: what is given, with the type parameters replaced by what they met
unfoldable pub applied_type : List DeclTree → Scheme → List PlainType → Option PlainType
applied_type declarations scheme given =
    option_map (λ met. replaced met scheme.gives) (met_by declarations scheme given)

-- types fit others one by one
abbrev pub AllFit : List DeclTree → List PlainType → List PlainType → Type 0
AllFit declarations [] [] = ⊤
AllFit declarations (one ∷ others) (other ∷ more) =
    (fits declarations one other ≡ true) × AllFit declarations others more
AllFit declarations [] (other ∷ more) = ⊥
AllFit declarations (one ∷ others) [] = ⊥
