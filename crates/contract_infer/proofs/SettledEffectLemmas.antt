-- The slots that an effect names and those that it assigns, by the parts of a statement that name them.
use Rattle.std.proofs.Common.{◌≡◌, ℕ, Bool, true, false, ◌||◌, List, [], ◌∷◌, ◌++◌, Option, Some, None, refl, sym, ap, ◌∙◌, append_assoc}
use Rattle.std.specs.List.{flat_map, list_any}
use Rattle.std.specs.Prelude.{nat_eq, option_to_list}
use Rattle.std.proofs.lemmas.List.{append-nil}
use Rattle.std.proofs.lemmas.List.Folds.{list_any-append}
use Rattle.abs_program.specs.Instructions.{EffectTree, Awaits, Clears, Stores, Makes, Sends, CallsOwn, CallsOther, Gets}
use Rattle.abs_tree.specs.Syntax.{Name, VariableTree, AtSlot, ExprTree, Tests, NoTest, NextTest}
use Rattle.abs_tree.specs.SyntaxViews.{expr_tree, tests}
use Rattle.abs_tree.specs.declared.place.Place.{Place}
use Rattle.abs_tree.specs.declared.syntax.statement.Test.{Test}
use Rattle.contract_terms.specs.Settled.{assigns, is_named, is_target, named_slots, settles}
use Rattle.contract_infer.specs.SettledWalk.{among, awaited_by, future_of, hidden_of, named_in, named_slots_in, slot_at, target_of}

-- the slots that an effect names are those of an `await` and that of a `get`
named_slots-parts : (effect : EffectTree)
    → named_slots effect ≡ flat_map option_to_list (awaited_by effect) ++ option_to_list (future_of effect)
named_slots-parts (Awaits names) = sym (append-nil (flat_map option_to_list names))
named_slots-parts _ = refl

-- so they are where each part gives its own
pub named_slots-given : (effect : EffectTree) (waits : List (Option ℕ)) (future : Option ℕ) → waits ≡ awaited_by effect
    → future ≡ future_of effect → flat_map option_to_list waits ++ option_to_list future ≡ named_slots effect
named_slots-given effect waits future waits_are future_is =
    ap (λ (names : List (Option ℕ)). flat_map option_to_list names ++ option_to_list future) waits_are
    ∙ (ap (λ (named : Option ℕ). flat_map option_to_list (awaited_by effect) ++ option_to_list named) future_is
    ∙ sym (named_slots-parts effect))

-- a test or false is the test
pub or-false : (test : Bool) → (test || false) ≡ test
or-false true = refl
or-false false = refl

-- the slot that a part names is the only one of its list
among-named : (named : Option ℕ) (slot : ℕ) → among (option_to_list named) slot ≡ is_named named slot
among-named None slot = refl
among-named (Some one) slot = or-false (nat_eq one slot)

-- the slots of two lists together
pub among-append : (one other : List ℕ) (slot : ℕ) → among (one ++ other) slot ≡ (among one slot || among other slot)
among-append one other slot = list_any-append (λ named. nat_eq named slot) one other

-- a slot is named by one of several parts if it is among those that they name
among-names : (names : List (Option ℕ)) (slot : ℕ)
    → list_any (λ named. is_named named slot) names ≡ among (flat_map option_to_list names) slot
among-names [] slot = refl
among-names (named ∷ others) slot =
    ap (λ (test : Bool). test || list_any (λ one. is_named one slot) others) (sym (among-named named slot))
    ∙ (ap (λ (test : Bool). among (option_to_list named) slot || test) (among-names others slot)
    ∙ sym (among-append (option_to_list named) (flat_map option_to_list others) slot))

-- an effect settles the slots that it names
pub settles-named : (effect : EffectTree) (slot : ℕ) → settles effect slot ≡ among (named_slots effect) slot
settles-named (Awaits names) slot = among-names names slot
settles-named (Gets named target) slot = sym (among-named named slot)
settles-named _ slot = refl

-- the slot of a target is the only one of its list
among-target : (target : Option VariableTree) (slot : ℕ)
    → is_target target slot ≡ among (option_to_list (slot_at target)) slot
among-target (Some (AtSlot one)) slot = sym (or-false (nat_eq one slot))
among-target (Some _) slot = refl
among-target None slot = refl

-- an effect assigns its hidden slot and its target
assigns-parts : (effect : EffectTree) (slot : ℕ)
    → assigns effect slot
    ≡ (among (option_to_list (hidden_of effect)) slot || among (option_to_list (target_of effect)) slot)
assigns-parts (Clears target) slot = among-target (Some target) slot
assigns-parts (Stores target) slot = among-target target slot
assigns-parts (Makes mode class target) slot = among-target target slot
assigns-parts (Sends method target) slot = among-target target slot
assigns-parts (CallsOwn method target) slot = among-target target slot
assigns-parts (CallsOther method hidden target) slot =
    ap (λ (test : Bool). test || is_target target slot) (sym (among-named hidden slot))
    ∙ ap (λ (test : Bool). among (option_to_list hidden) slot || test) (among-target target slot)
assigns-parts (Gets named target) slot = among-target target slot
assigns-parts _ slot = refl

-- so it does where each is given by its own
pub assigns-given : (effect : EffectTree) (hidden target : Option ℕ) → hidden ≡ hidden_of effect
    → target ≡ target_of effect → (slot : ℕ)
    → (among (option_to_list hidden) slot || among (option_to_list target) slot) ≡ assigns effect slot
assigns-given effect hidden target hidden_is target_is slot =
    ap (λ (one : Option ℕ). among (option_to_list one) slot || among (option_to_list target) slot) hidden_is
    ∙ (ap (λ (one : Option ℕ). among (option_to_list (hidden_of effect)) slot || among (option_to_list one) slot)
    target_is
    ∙ sym (assigns-parts effect slot))

-- a slot that a part of a guard names comes before those of the others
pub named_slots_in-next : (place : Place) (value : ExprTree) (asks : Bool) (others : Tests)
    → named_slots_in (NextTest place value asks others)
    ≡ option_to_list (named_in asks value) ++ named_slots_in others
named_slots_in-next place value true others = refl
named_slots_in-next place value false others = refl

-- the slot that one more part of a guard names comes after those of the parts before it
pub named_slots_in-push : (names : List Name) (parts : List Test) (test : Test) (named : Option ℕ)
    → named ≡ named_in test.asks (expr_tree names test.value.value)
    → named_slots_in (tests names parts) ++ option_to_list named ≡ named_slots_in (tests names (parts ++ test ∷ []))
named_slots_in-push names [] test named is =
    ap option_to_list is
    ∙ (sym (append-nil (option_to_list (named_in test.asks (expr_tree names test.value.value))))
    ∙ sym (named_slots_in-next test.place (expr_tree names test.value.value) test.asks NoTest))
named_slots_in-push names (first ∷ others) test named is =
    let value = expr_tree names first.value.value in
    let own = option_to_list (named_in first.asks value) in
    let rest = named_slots_in (tests names others) in
    ap (λ (slots : List ℕ). slots ++ option_to_list named)
    (named_slots_in-next first.place value first.asks (tests names others))
    ∙ (append_assoc own rest (option_to_list named)
    ∙ (ap (λ (slots : List ℕ). own ++ slots) (named_slots_in-push names others test named is)
    ∙ sym (named_slots_in-next first.place value first.asks (tests names (others ++ test ∷ [])))))
