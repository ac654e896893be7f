-- The typing rules, taken apart: where a rule gives a type, the parts have types, and what it asks of
-- them holds.
--
--   `let_found`, `if_rule_found`, ..        what a rule that gives a type asks, each by its function
--   `let_reported`, `if_rule_reported`     a rule gives the type, if its parts are so
--   `both_types_found`, ..                 several types
--   `bound_after`                          the types of bound variables, with those of more variables after them
use Rattle.std.proofs.Common.{◌≡◌, true, List, ◌∷◌, ◌++◌, map, Option, Some, refl, sym, ap, ◌∙◌}
use Rattle.std.proofs.lemmas.List.{map-append}
use Rattle.std.proofs.lemmas.Option.{none-some, same_Some}
use Rattle.abs_tree.specs.Syntax.{DeclTree}
use Rattle.abs_tree.specs.declared.syntax.expression.Operator.{Operator}
use Rattle.abs_types.specs.Applications.{applied_type}
use Rattle.abs_types.specs.Joins.{join_of}
use Rattle.abs_types.specs.OperatorTypes.{bool_type, operand_types}
use Rattle.abs_types.specs.PlainTypes.{PlainType}
use Rattle.abs_types.specs.Schemes.{Scheme}
use Rattle.abs_types.specs.Subtyping.{fits}
use Rattle.abs_types.specs.Typing.{let_type, if_type, application_type, join_branches, case_type, both_types, both_operands, operators_type}
use Rattle.list_facts.proofs.OptionLemmas.{if-found, if-reported}

-- `let`: the value has a type that fits, and the body has the type
pub let_found : (declarations : List DeclTree) (declared : PlainType) (value body : Option PlainType) (type : PlainType)
    → let_type declarations declared value body ≡ Some type
    → (given : PlainType) × (value ≡ Some given) × (fits declarations given declared ≡ true) × (body ≡ Some type)
let_found declarations declared (Some given) (Some inner) type reported =
    let both = if-found (fits declarations given declared) (Some inner) type reported in
    (given, refl, both.0, both.1)
let_found declarations declared value body type reported = absurd (none-some type reported)

-- the rule of `let` gives the type of the body, if the value fits
pub let_reported : (declarations : List DeclTree) (declared : PlainType) (value body : Option PlainType)
    (given type : PlainType) → value ≡ Some given → fits declarations given declared ≡ true → body ≡ Some type
    → let_type declarations declared value body ≡ Some type
let_reported declarations declared value body given type value_is fit body_is =
    rw (value_is, body_is) (if-reported (fits declarations given declared) (Some type) type fit refl)

-- `if`: the condition is a Bool, and the branches have types whose join is the type
pub if_rule_found : (declarations : List DeclTree) (condition first second : Option PlainType) (type : PlainType)
    → if_type declarations condition first second ≡ Some type
    → (given : PlainType) × (one : PlainType) × (other : PlainType) × (condition ≡ Some given)
    × (fits declarations given bool_type ≡ true) × (first ≡ Some one) × (second ≡ Some other)
    × (join_of declarations one other ≡ Some type)
if_rule_found declarations (Some given) (Some one) (Some other) type reported =
    let both = if-found (fits declarations given bool_type) (join_of declarations one other) type reported in
    (given, one, other, refl, both.0, refl, refl, both.1)
if_rule_found declarations condition first second type reported = absurd (none-some type reported)

-- the rule of `if` gives the join, if its parts have types, and the condition is a Bool
pub if_rule_reported : (declarations : List DeclTree) (condition first second : Option PlainType)
    (given one other type : PlainType) → condition ≡ Some given → fits declarations given bool_type ≡ true
    → first ≡ Some one → second ≡ Some other → join_of declarations one other ≡ Some type
    → if_type declarations condition first second ≡ Some type
if_rule_reported declarations condition first second given one other type condition_is fit first_is second_is joined =
    rw (condition_is, first_is, second_is)
    (if-reported (fits declarations given bool_type) (join_of declarations one other) type fit joined)

-- an application: there is a scheme, and the arguments have types
pub application_found : (declarations : List DeclTree) (scheme : Option Scheme) (arguments : Option (List PlainType))
    (type : PlainType) → application_type declarations scheme arguments ≡ Some type
    → (found : Scheme) × (given : List PlainType) × (scheme ≡ Some found) × (arguments ≡ Some given)
    × (applied_type declarations found given ≡ Some type)
application_found declarations (Some found) (Some given) type reported = (found, given, refl, refl, reported)
application_found declarations scheme arguments type reported = absurd (none-some type reported)

-- `case`: the subject and the branches have types
pub case_found : (declarations : List DeclTree) (subject : Option PlainType) (branches : Option (List PlainType))
    (type : PlainType) → case_type declarations subject branches ≡ Some type
    → (given : PlainType) × (types : List PlainType) × (subject ≡ Some given) × (branches ≡ Some types)
    × (join_branches declarations types ≡ Some type)
case_found declarations (Some given) (Some types) type reported = (given, types, refl, refl, reported)
case_found declarations subject branches type reported = absurd (none-some type reported)

-- operators of one precedence: the first operand and the others have types
pub operators_found : (declarations : List DeclTree) (first : Option PlainType)
    (operands : Option (List (Operator × PlainType))) (type : PlainType)
    → operators_type declarations first operands ≡ Some type
    → (left : PlainType) × (given : List (Operator × PlainType)) × (first ≡ Some left) × (operands ≡ Some given)
    × (operand_types declarations left given ≡ Some type)
operators_found declarations (Some left) (Some given) type reported = (left, given, refl, refl, reported)
operators_found declarations first operands type reported = absurd (none-some type reported)

-- one more type in front of several
pub both_types_found : (first : Option PlainType) (others : Option (List PlainType)) (types : List PlainType)
    → both_types first others ≡ Some types
    → (type : PlainType) × (more : List PlainType) × (first ≡ Some type) × (others ≡ Some more)
    × (type ∷ more ≡ types)
both_types_found (Some type) (Some more) types reported = (type, more, refl, refl, same_Some (type ∷ more) types reported)
both_types_found first others types reported = absurd (none-some types reported)

-- one more operand in front of several
pub both_operands_found : (operator : Operator) (right : Option PlainType)
    (others : Option (List (Operator × PlainType))) (given : List (Operator × PlainType))
    → both_operands operator right others ≡ Some given
    → (type : PlainType) × (more : List (Operator × PlainType)) × (right ≡ Some type) × (others ≡ Some more)
    × ((operator, type) ∷ more ≡ given)
both_operands_found operator (Some type) (Some more) given reported =
    (type, more, refl, refl, same_Some ((operator, type) ∷ more) given reported)
both_operands_found operator right others given reported = absurd (none-some given reported)

-- the types of more variables after those of bound ones
pub bound_after : (bound more : List PlainType) (added : List (Option PlainType)) → added ≡ map Some more
    → map Some bound ++ added ≡ map Some (bound ++ more)
bound_after bound more added reported = ap (λ types. map Some bound ++ types) reported ∙ sym (map-append Some bound more)
