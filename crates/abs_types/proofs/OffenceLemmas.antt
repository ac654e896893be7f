-- Small facts of lists of offences. An expression has no offence where its list of offences is empty: what it then
-- says, and when it is.
--
--   `offence_if_unoffending`, `unoffending_offence_if`  an offence is none exactly where there is no reason for it
--   `untyped_unoffending`, `unoffending_if_typed`  an expression whose parts have types has no offence exactly where it
--                                                  has one
--   `rule_typed`, `rule_unoffending`           the same after the offences of its parts
--   `pair_rule_typed`, `pair_rule_unoffending`  the same after two lists of these
--   `unfit_unoffending`, `unoffending_if_fit`  a type has no offence exactly where it fits the one that is asked for
use Rattle.std.proofs.Common.{◌≡◌, Bool, true, false, not, List, [], ◌++◌, Option, Some, None, refl, sym, true≢false}
use Rattle.std.proofs.lemmas.Bool.{not-false}
use Rattle.abs_tree.specs.Syntax.{DeclTree}
use Rattle.abs_tree.specs.declared.place.Place.{Place}
use Rattle.abs_tree.specs.declared.refusal.Code.{Code}
use Rattle.abs_tree.specs.declared.refusal.Code.TheVariants.{T1}
use Rattle.abs_tree.specs.declared.refusal.Offence.{Offence}
use Rattle.abs_tree.specs.Offences.{offence_if}
use Rattle.abs_types.specs.Mistyped.{untyped, unfit}
use Rattle.abs_types.specs.PlainTypes.{PlainType}
use Rattle.abs_types.specs.Subtyping.{fits}
use Rattle.list_facts.proofs.AppendLemmas.{both_empty, empty_both}

-- where there is no offence, there is no reason for it
pub offence_if_unoffending : (offends : Bool) (code : Code) (place : Place) → offence_if offends code place ≡ []
    → offends ≡ false
offence_if_unoffending false code place none = refl
offence_if_unoffending true code place none = cc

-- where there is no reason, there is no offence
pub unoffending_offence_if : (offends : Bool) (code : Code) (place : Place) → offends ≡ false
    → offence_if offends code place ≡ []
unoffending_offence_if offends code place reported = rw reported refl

-- an expression without an offence whose parts have types has one
pub untyped_unoffending : (parts_typed : Bool) (type_of : Option PlainType) (place : Place) → parts_typed ≡ true
    → untyped parts_typed type_of place ≡ [] → (type : PlainType) × (type_of ≡ Some type)
untyped_unoffending parts_typed (Some type) place reported none = (type, refl)
untyped_unoffending true None place reported none = cc
untyped_unoffending false None place reported none = absurd (true≢false (sym reported))

-- an expression with a type does not offend by having none
pub unoffending_if_typed : (parts_typed : Bool) (type_of : Option PlainType) (place : Place) (type : PlainType)
    → type_of ≡ Some type → untyped parts_typed type_of place ≡ []
unoffending_if_typed true type_of place type reported = rw reported refl
unoffending_if_typed false type_of place type reported = refl

-- a type that does not offend fits the type that is asked for
pub unfit_unoffending : (declarations : List DeclTree) (given asked : PlainType) (place : Place)
    → unfit declarations (Some given) asked place ≡ [] → fits declarations given asked ≡ true
unfit_unoffending declarations given asked place none =
    not-false (fits declarations given asked) (offence_if_unoffending (not (fits declarations given asked)) T1 place none)

-- a type that fits the type that is asked for does not offend
pub unoffending_if_fit : (declarations : List DeclTree) (given asked : PlainType) (place : Place)
    → fits declarations given asked ≡ true → unfit declarations (Some given) asked place ≡ []
unoffending_if_fit declarations given asked place reported = rw reported refl

-- a rule without an offence has a type, if its parts have types where they have no offence
pub rule_typed : (parts : List Offence) (parts_typed : Bool) (type_of : Option PlainType) (place : Place)
    → (parts ≡ [] → parts_typed ≡ true) → parts ++ untyped parts_typed type_of place ≡ []
    → (type : PlainType) × (type_of ≡ Some type)
rule_typed parts parts_typed type_of place by_parts none =
    let both = both_empty parts (untyped parts_typed type_of place) none in
    untyped_unoffending parts_typed type_of place (by_parts both.0) both.1

-- the same of a rule with two lists of offences of its parts
pub pair_rule_typed : (one other : List Offence) (parts_typed : Bool) (type_of : Option PlainType) (place : Place)
    → (one ≡ [] → other ≡ [] → parts_typed ≡ true) → one ++ other ++ untyped parts_typed type_of place ≡ []
    → (type : PlainType) × (type_of ≡ Some type)
pair_rule_typed one other parts_typed type_of place by_parts none =
    rule_typed (one ++ other) parts_typed type_of place
    (λ unoffending.
    let both = both_empty one other unoffending in
    by_parts both.0 both.1) none

-- a rule with a type has no offence, if its parts are
pub rule_unoffending : (parts : List Offence) (parts_typed : Bool) (type_of : Option PlainType) (place : Place)
    (type : PlainType) → parts ≡ [] → type_of ≡ Some type → parts ++ untyped parts_typed type_of place ≡ []
rule_unoffending parts parts_typed type_of place type none reported =
    empty_both parts (untyped parts_typed type_of place) none (unoffending_if_typed parts_typed type_of place type reported)

-- the same of a rule with two lists of offences of its parts
pub pair_rule_unoffending : (one other : List Offence) (parts_typed : Bool) (type_of : Option PlainType) (place : Place)
    (type : PlainType) → one ≡ [] → other ≡ [] → type_of ≡ Some type
    → one ++ other ++ untyped parts_typed type_of place ≡ []
pair_rule_unoffending one other parts_typed type_of place type one_none other_none reported =
    rule_unoffending (one ++ other) parts_typed type_of place type (empty_both one other one_none other_none) reported
