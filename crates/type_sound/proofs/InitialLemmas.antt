-- The initial values of an object keep types, and no type parameter is replaced by nothing.
--
--   `replaced_by_none`, `all_replaced_by_none`     types in which nothing is replaced
--   `initials_have`                                initial values after the values of earlier fields
use Rattle.std.proofs.Common.{◌≡◌, ℕ, List, [], ◌∷◌, ◌++◌, refl, sym, ap, ap₂, subst, map}
use Rattle.std.proofs.lemmas.List.{append-nil, append_assoc}
use Rattle.abs_profile.specs.Accepted.{IsAcceptedProgram}
use Rattle.abs_tree.specs.Limits.{level_limit}
use Rattle.abs_tree.specs.Syntax.{ExprTrees, NoExpr, NextExpr, ProgramTree}
use Rattle.abs_types.proofs.SubtypingLemmas.{fits_whole}
use Rattle.abs_types.specs.Applications.{replaced}
use Rattle.abs_types.specs.PlainTypes.{PlainType, PlainInt, PlainString, PlainBottom, PlainNull, PlainFut, PlainData, PlainApplied, PlainInterface, PlainClass, PlainParameter}
use Rattle.abs_types.specs.TypeOffences.{value_frame}
use Rattle.abs_values.specs.Evaluation.{evaluate, initial_outcomes}
use Rattle.abs_values.specs.Scopes.{library_of, own_scope}
use Rattle.abs_values.specs.ValueTrees.{ValueTree}
use Rattle.type_sound.proofs.BoundLemmas.{all_append, own_scope_has}
use Rattle.type_sound.proofs.EvaluationLemmas.{evaluation_has}
use Rattle.type_sound.proofs.Initials.{InitialsFit}
use Rattle.type_sound.proofs.OutcomeLemmas.{outcomes_after_have}
use Rattle.type_sound.proofs.ValueLemmas.{value_up}
use Rattle.type_sound.specs.Values.{World, AllHave, ResultHas, ResultsHave}

-- no type parameter is replaced by nothing
pub replaced_by_none : (type : PlainType) → replaced [] type ≡ type
unfolding replaced
replaced_by_none PlainInt = refl
replaced_by_none PlainString = refl
replaced_by_none PlainBottom = refl
replaced_by_none PlainNull = refl
replaced_by_none (PlainFut value) = ap PlainFut (replaced_by_none value)
replaced_by_none (PlainData name) = refl
replaced_by_none (PlainApplied head argument) =
    ap₂ PlainApplied (replaced_by_none head) (replaced_by_none argument)
replaced_by_none (PlainInterface name) = refl
replaced_by_none (PlainClass name) = refl
replaced_by_none (PlainParameter index) = refl

pub all_replaced_by_none : (types : List PlainType) → map (replaced []) types ≡ types
all_replaced_by_none [] = refl
all_replaced_by_none (type ∷ types) = ap₂ (◌∷◌) (replaced_by_none type) (all_replaced_by_none types)

-- initial values after the values of earlier fields
pub initials_have : (program : ProgramTree) (world : World) → IsAcceptedProgram program → (known types : List PlainType)
    (initials : ExprTrees) (values : List ValueTree) (made : ℕ)
    → InitialsFit program.source.declarations known initials types → AllHave program world values known
    → ResultsHave program world (initial_outcomes (library_of program) initials values made).results (known ++ types)
unfolding initial_outcomes
initials_have program world accepted known [] NoExpr values made fit have =
    subst (AllHave program world values) (sym (append-nil known)) have
initials_have program world accepted known (type ∷ types) NoExpr values made fit have = absurd fit
initials_have program world accepted known [] (NextExpr first others) values made fit have = absurd fit
initials_have program world accepted known (type ∷ types) (NextExpr first others) values made fit have =
    let scope = own_scope_has program world [] known values
    (subst (AllHave program world values) (sym (all_replaced_by_none known)) have) in
    let result = evaluation_has program world accepted level_limit [] (value_frame known) [] (own_scope values) first made
    fit.0.given refl scope fit.0.has_type in
    outcomes_after_have program world (evaluate (library_of program) (own_scope values) level_limit first made) _
    fit.0.given (known ++ type ∷ types)
    (subst (ResultHas program world (evaluate (library_of program) (own_scope values) level_limit first made).result)
    (replaced_by_none fit.0.given) result)
    (λ value now has. subst (ResultsHave program world
    (initial_outcomes (library_of program) others (values ++ value ∷ []) now).results)
    (append_assoc known (type ∷ []) types)
    (initials_have program world accepted (known ++ type ∷ []) types others (values ++ value ∷ []) now fit.1
    (all_append program world values (value ∷ []) known (type ∷ []) have
    (value_up program world value fit.0.given type (fits_whole fit.0.fits_it) has, tt))))
