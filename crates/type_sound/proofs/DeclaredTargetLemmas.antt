-- The target of a statement, by its effect: a statement that declares a local puts its value there.
--
--   `target_in_effect`             the target of an effect
--   `declares_target`              a statement that declares the local in a slot has the slot as its target
use Rattle.std.proofs.Common.{◌≡◌, ℕ, Bool, true, false, Option, Some, refl, sym, ap, ◌∙◌, arith, true≢false, if◌then◌else◌}
use Rattle.std.proofs.lemmas.Bool.Decides.{nat_tests}
use Rattle.abs_program.specs.Instructions.{EffectTree, Clears, Stores, Makes, Sends, CallsOwn, CallsOther, Gets, side_effect, effect_of}
use Rattle.abs_program.specs.Slots.{is_this}
use Rattle.abs_tree.specs.Syntax.{Name, VariableTree, Unresolved, AtSlot, AtBound, AtField, OwnCallOf, NoExpr, NextExpr, SideTree, NewOf, ValueOf, SendOf, GetOf, CallOf, NoSide, SomeSide, Statement, DeclareOf}
use Rattle.config_state.specs.declared.frame.Target.{Target}
use Rattle.config_state.specs.declared.frame.Target.TheVariants.{Nothing, Local}
use Rattle.step_rules.specs.Targets.{target_of}
use Rattle.type_sound.specs.Visible.{is_slot, declares}

-- the target of an effect, which is nothing where a statement puts no value anywhere
abbrev pub target_in_effect : EffectTree → Target
target_in_effect (Clears target) = target_of (Some target)
target_in_effect (Stores target) = target_of target
target_in_effect (Makes mode class target) = target_of target
target_in_effect (Sends method target) = target_of target
target_in_effect (CallsOwn method target) = target_of target
target_in_effect (CallsOther method slot target) = target_of target
target_in_effect (Gets slot target) = target_of target
target_in_effect effect = Nothing

-- a call by "." has its target, whatever its receiver is
call_target : (answer : Bool) (method : Name) (slot : Option ℕ) (target : Option VariableTree)
    → target_in_effect (if answer then CallsOwn method target else CallsOther method slot target) ≡ target_of target
call_target true method slot target = refl
call_target false method slot target = refl

-- so has each right side
side_target : (side : SideTree) (target : Option VariableTree)
    → target_in_effect (side_effect side target) ≡ target_of target
side_target (NewOf place mode class_place class arguments) target = refl
side_target (ValueOf place (OwnCallOf at method arguments)) target = refl
side_target (ValueOf place value) target = refl
side_target (SendOf place method operands) target = refl
side_target (GetOf place get_place future) target = refl
side_target (CallOf place method NoExpr slot) target = refl
side_target (CallOf place method (NextExpr receiver arguments) slot) target =
    call_target (is_this receiver) method slot target

-- a variable that is the slot is this target
slot_target : (variable : VariableTree) (slot : ℕ) → is_slot variable slot ≡ true
    → target_of (Some variable) ≡ Local slot
slot_target (AtSlot own) slot is = let same : own ≡ slot = grind (arith, nat_tests) in ap Local same
slot_target (AtBound depth) slot is = absurd (true≢false (sym is))
slot_target (AtField field) slot is = absurd (true≢false (sym is))
slot_target (Unresolved name) slot is = absurd (true≢false (sym is))

-- a statement that declares the local in a slot has the slot as its target
pub declares_target : (statement : Statement) (slot : ℕ) → declares statement slot ≡ true
    → target_in_effect (effect_of statement) ≡ Local slot
declares_target (DeclareOf index place type variable_place variable NoSide) slot is = slot_target variable slot is
declares_target (DeclareOf index place type variable_place variable (SomeSide side)) slot is =
    side_target side (Some variable) ∙ slot_target variable slot is
declares_target statement slot is = absurd (true≢false (sym is))
