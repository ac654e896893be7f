-- The types that the targets of statements take.
--
--   `nothing_takes`, `declared_takes`, `assigned_takes`    the target of a statement takes what fits its type
--   `null_fits_declared`                                   a local that is declared without a value can be null
use Rattle.std.proofs.Common.{◌≡◌, ℕ, true, List, Option, Some, None, refl, sym, ◌∙◌, subst, true≢false}
use Rattle.std.specs.Prelude.{slice_get}
use Rattle.std.proofs.lemmas.Option.{none-some, same_Some}
use Rattle.abs_program.specs.Instructions.{target_variable}
use Rattle.abs_tree.specs.Syntax.{VariableTree, Unresolved, AtSlot, AtBound, AtField, DeclTree, TargetTree, ToVariable, ToField, ProgramTree}
use Rattle.abs_types.specs.PlainTypes.{PlainType, PlainInt, PlainString, PlainBottom, PlainNull, PlainFut, PlainData, PlainApplied, PlainInterface, PlainClass, PlainParameter}
use Rattle.abs_types.specs.StatementOffences.{can_be_null, target_type}
use Rattle.abs_types.specs.Subtyping.{fits}
use Rattle.abs_types.specs.Typing.{Frame, known_at}
use Rattle.abs_values.specs.ValueTrees.{NullValue}
use Rattle.config_state.specs.Configurations.{FrameState, Configuration}
use Rattle.step_rules.specs.Targets.{target_of}
use Rattle.type_sound.proofs.ResultsFitLemmas.{AtStatement}
use Rattle.type_sound.specs.Fitting.{TargetTakes}
use Rattle.type_sound.specs.Routines.{Routine}
use Rattle.type_sound.specs.Values.{World, ValueHas}
use Rattle.type_sound.specs.WellTyped.{target_type_in}

-- a statement without a target takes all types
pub nothing_takes : (program : ProgramTree) (routine : Routine) (given : PlainType)
    → TargetTakes program routine None given
nothing_takes program routine given asked is = absurd (none-some asked is)

-- a type that fits the one that is asked for, where the target has that one
fitting_takes : (declarations : List DeclTree) (found : Option PlainType) (given type asked : PlainType)
    → found ≡ Some type → fits declarations given type ≡ true → found ≡ Some asked
    → fits declarations given asked ≡ true
fitting_takes declarations found given type asked type_is fit asked_is =
    subst (λ (one : PlainType). fits declarations given one ≡ true) (same_Some type asked (sym type_is ∙ asked_is)) fit

-- the slot of a declaration takes what fits its type
pub declared_takes : (program : ProgramTree) (routine : Routine) (variable : VariableTree) (slot : ℕ)
    (given type : PlainType) → variable ≡ AtSlot slot → known_at routine.slots slot ≡ Some type
    → fits program.source.declarations given type ≡ true → TargetTakes program routine (Some variable) given
declared_takes program routine variable slot given type variable_is type_is fit =
    subst (λ (one : VariableTree). TargetTakes program routine (Some one) given) (sym variable_is)
    (λ asked is.
    fitting_takes program.source.declarations (known_at routine.slots slot) given type asked type_is fit is)

-- the target of an assignment takes what fits its type
pub assigned_takes : (program : ProgramTree) (config : Configuration) (routine : Routine) (own : FrameState)
    (frame : Frame) (target : TargetTree) (given type : PlainType) → AtStatement program config routine own frame
    → target_type frame target ≡ Some type → fits program.source.declarations given type ≡ true
    → TargetTakes program routine (Some (target_variable target)) given
assigned_takes program config routine own frame (ToVariable place (AtSlot slot)) given type known type_is fit asked is =
    fitting_takes program.source.declarations (known_at routine.slots slot) given type asked
    (known.slots slot type type_is) fit is
assigned_takes program config routine own frame (ToVariable place (AtField field)) given type known type_is fit asked
    is =
    fitting_takes program.source.declarations (slice_get routine.start.fields field) given type asked
    (subst (λ (types : List PlainType). slice_get types field ≡ Some type) known.fields type_is) fit is
assigned_takes program config routine own frame (ToVariable place (AtBound depth)) given type known type_is fit asked
    is =
    absurd (none-some asked is)
assigned_takes program config routine own frame (ToVariable place (Unresolved name)) given type known type_is fit asked
    is =
    absurd (none-some asked is)
assigned_takes program config routine own frame (ToField place name_place name) given type known type_is fit asked is =
    absurd (none-some asked is)

-- null has a type that can be without a value
null_has : (program : ProgramTree) (world : World) (type : PlainType) → can_be_null type ≡ true
    → ValueHas program world NullValue type
unfolding ValueHas fits
null_has program world (PlainInterface name) can = refl
null_has program world (PlainFut value) can = refl
null_has program world PlainInt can = absurd (true≢false (sym can))
null_has program world PlainString can = absurd (true≢false (sym can))
null_has program world PlainBottom can = absurd (true≢false (sym can))
null_has program world PlainNull can = absurd (true≢false (sym can))
null_has program world (PlainData name) can = absurd (true≢false (sym can))
null_has program world (PlainApplied head argument) can = absurd (true≢false (sym can))
null_has program world (PlainClass name) can = absurd (true≢false (sym can))
null_has program world (PlainParameter index) can = absurd (true≢false (sym can))

-- a local that is declared without a value can be null
pub null_fits_declared : (program : ProgramTree) (world : World) (routine : Routine) (variable : VariableTree)
    (slot : ℕ) (type : PlainType) → variable ≡ AtSlot slot → known_at routine.slots slot ≡ Some type
    → can_be_null type ≡ true → (asked : PlainType)
    → target_type_in routine (target_of (Some variable)) ≡ Some asked → ValueHas program world NullValue asked
null_fits_declared program world routine variable slot type variable_is type_is can asked is =
    let asked_is : known_at routine.slots slot ≡ Some asked =
    subst (λ (one : VariableTree). target_type_in routine (target_of (Some one)) ≡ Some asked) variable_is is in
    subst (λ (one : PlainType). ValueHas program world NullValue one) (same_Some type asked (sym type_is ∙ asked_is))
    (null_has program world type can)
