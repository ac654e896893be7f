-- The slots that a `get` or a guard names hold futures.
--
--   `future_held`, `guard_held`        what such a slot holds
use Rattle.std.proofs.Common.{◌≡◌, ℕ, zero, suc, [], Option, Some, refl, ap, subst}
use Rattle.std.specs.Prelude.{slice_get, option_and_then}
use Rattle.std.proofs.lemmas.Option.{none-some, same_Some}
use Rattle.abs_program.specs.Instructions.{waits_of}
use Rattle.abs_tree.specs.Syntax.{Tests, ProgramTree}
use Rattle.abs_types.specs.Applications.{replaced}
use Rattle.abs_types.specs.IsTyped.{AreTests}
use Rattle.abs_types.specs.IsTyped.AreTests.{no_test, asked, held}
use Rattle.abs_types.specs.PlainTypes.{PlainType, PlainFut}
use Rattle.abs_types.specs.Typing.{Frame, known_at}
use Rattle.config_state.specs.Configurations.{FrameState, Configuration, Each}
use Rattle.type_sound.proofs.ResultsFitLemmas.{AtStatement}
use Rattle.type_sound.proofs.InitialLemmas.{replaced_by_none}
use Rattle.type_sound.specs.Fitting.{HoldsFuture}
use Rattle.type_sound.specs.Routines.{Routine}
use Rattle.type_sound.specs.Scopes.{HoldsTyped}
use Rattle.type_sound.specs.Values.{ValueHas}
use Rattle.type_sound.specs.WellTyped.{world_of}

-- a slot of the type of a future holds a value of that type
pub future_held : (program : ProgramTree) (config : Configuration) (routine : Routine) (own : FrameState)
    (frame : Frame) → AtStatement program config routine own frame → (slot : ℕ) (type : PlainType)
    → slice_get frame.slots slot ≡ Some (Some (PlainFut type))
    → HoldsFuture program (world_of program config) own.slots (Some slot) type
future_held program config routine own frame known slot type is =
    let visible : known_at frame.slots slot ≡ Some (PlainFut type) =
    ap (option_and_then (λ (found : Option PlainType). found)) is in
    let found : HoldsTyped program (world_of program config) own.slots slot (replaced [] (PlainFut type)) =
    known.scope_has.slots slot (PlainFut type) visible in
    record {
      slot = slot;
      name_is = refl;
      value = found.value;
      there = found.there;
      has = subst (λ (one : PlainType). ValueHas program (world_of program config) found.value one)
          (replaced_by_none (PlainFut type)) found.has;
    }

-- so does each slot that a guard names
pub guard_held : (program : ProgramTree) (config : Configuration) (routine : Routine) (own : FrameState)
    (frame : Frame) → AtStatement program config routine own frame → (guard : Tests)
    → AreTests program.source.declarations frame guard
    → Each (waits_of guard) (λ index name. (type : PlainType)
    × HoldsFuture program (world_of program config) own.slots name type)
guard_held program config routine own frame known guard no_test index name is = absurd (none-some name is)
guard_held program config routine own frame known guard (asked place variable_place slot type others is_future tests)
    zero name is = (
      type,
      subst (λ (one : Option ℕ). HoldsFuture program (world_of program config) own.slots one type)
          (same_Some (Some slot) name is) (future_held program config routine own frame known slot type is_future),
    )
guard_held program config routine own frame known guard (asked place variable_place slot type others is_future tests)
    (suc index) name is =
    guard_held program config routine own frame known others tests index name is
guard_held program config routine own frame known guard (held place condition given others has fit tests) index name
    is =
    guard_held program config routine own frame known others tests index name is
