-- What is settled follows control.
--
--   `stays`, `stays_after`, ..         what statements do not assign stays settled
--   `settled_is_flow`                  what is settled is a flow
--   `settled_at_successor`             what is settled at a successor of a statement is settled after it
--   `none_at_start`                    where no more is said than before a body, nothing is settled
use Rattle.std.proofs.Common.{◌≡◌, ◌⊎◌, inl, ⊎_elim, ℕ, true, false, not, ◌||◌, List, Some, arith, sym, ap, ◌∙◌, subst}
use Rattle.std.specs.Prelude.{Option, slice_get}
use Rattle.std.proofs.lemmas.Bool.{false≢true, and_parts, and_from, not-true, or_cases, or_parts, or_left, not_from_false, false_from_ne_true}
use Rattle.std.proofs.lemmas.Option.{same_Some}
use Rattle.abs_program.specs.Control.{Goes, Next, ByAnswer}
use Rattle.abs_program.specs.Flows.{Slots, IsWithin, IsFlow, fact_after, fact_after_one, fact_after_else, LandsAt, Lands, Follows}
use Rattle.abs_program.specs.Instructions.{EffectTree, effect_of}
use Rattle.abs_tree.specs.Syntax.{Statement, BlockOf, IfOf, WhileOf, MaybeStatements, NoElse, Else, Statements, NoStatement, NextStatement}
use Rattle.contract_terms.specs.Settled.{no_slot, settles, assigns, assigned_in, assigned_by, assigned_in_else, settled, IsSuccessor}
use Rattle.contract_terms.proofs.ChoiceLemmas.{ChoosesByAnswer}

mutual
  unfolding fact_after assigned_in

  -- what statements do not assign stays settled
  stays : (statements : Statements) (fact : Slots) (slot : ℕ) → assigned_in statements slot ≡ false
      → fact slot ≡ true → fact_after settled fact statements slot ≡ true
  stays NoStatement fact slot free is = is
  stays (NextStatement first others) fact slot free is =
      let parts = or_parts (assigned_by first slot) (assigned_in others slot) free in
      stays others (fact_after_one settled fact first) slot parts.1 (stays_after first fact slot parts.0 is)

  -- what a statement does not assign stays settled after it
  stays_after : (statement : Statement) (fact : Slots) (slot : ℕ) → assigned_by statement slot ≡ false
      → fact slot ≡ true → fact_after_one settled fact statement slot ≡ true
  stays_after (BlockOf place block) fact slot free is = stays block fact slot free is
  stays_after (IfOf index place condition first second) fact slot free is =
      let parts = or_parts (assigned_in first slot) (assigned_in_else second slot) free in
      and_from (fact_after settled fact first slot) (fact_after_else settled fact second slot)
      (stays first fact slot parts.0 is) (stays_after_else second fact slot parts.1 is)
  stays_after (WhileOf index place condition body) fact slot free is =
      and_from (fact slot) (not (assigned_in body slot)) is (not_from_false (assigned_in body slot) free)
  stays_after statement fact slot free is =
      let effect = effect_of statement in
      and_from (fact slot || settles effect slot) (not (assigns effect slot))
      (or_left (fact slot) (settles effect slot) is) (not_from_false (assigns effect slot) free)

  -- and so does what the other branch of an `if` does not assign
  stays_after_else : (branch : MaybeStatements) (fact : Slots) (slot : ℕ) → assigned_in_else branch slot ≡ false
      → fact slot ≡ true → fact_after_else settled fact branch slot ≡ true
  stays_after_else NoElse fact slot free is = is
  stays_after_else (Else branch) fact slot free is = stays branch fact slot free is

-- What is settled is a flow.
pub settled_is_flow : IsFlow settled
settled_is_flow = record {
  first_branch = λ fact first second slot both.
      (and_parts (fact_after settled fact first slot) (fact_after_else settled fact second slot) both).0;
  second_branch = λ fact first second slot both.
      (and_parts (fact_after settled fact first slot) (fact_after_else settled fact second slot) both).1;
  enters_loop = λ fact body slot both. (and_parts (fact slot) (not (assigned_in body slot)) both).0;
  goes_back = λ fact body slot both.
      stays body (settled.looped fact body) slot
      (not-true (assigned_in body slot) (and_parts (fact slot) (not (assigned_in body slot)) both).1) both;
  leaves_block = λ fact block slot inside. inside;
}

module _ (all : List Slots) where
  -- at a statement to which control goes no more is said than this
  within_there : (goes : Option ℕ) (next : ℕ) (fact said : Slots) → goes ≡ Some next → Lands 0 all goes fact
      → slice_get all next ≡ Some said → IsWithin said fact
  within_there goes next fact said is lands there =
      let at : LandsAt 0 all next fact = subst (λ one. Lands 0 all one fact) is lands in
      let same : slice_get all next ≡ Some at.said =
      ap (slice_get all) (omega (arith, at.is)) ∙ at.there in
      subst (λ one. IsWithin one fact) (same_Some at.said said (sym same ∙ there)) at.within

  module _ (statement : Statement) (before : Slots) (slot : ℕ) where
    -- what is settled after a statement was settled before it or is settled by it, and is not assigned by it
    after_statement : settled.after before statement slot ≡ true
        → ((before slot ≡ true) ⊎ (settles (effect_of statement) slot ≡ true))
        × (assigns (effect_of statement) slot ≡ false)
    after_statement is =
        let effect = effect_of statement in
        let parts = and_parts (before slot || settles effect slot) (not (assigns effect slot)) is in
        (or_cases (before slot) (settles effect slot) parts.0, not-true (assigns effect slot) parts.1)

    -- What is settled at a successor of a statement was settled at it or is settled by it, and is not assigned by it.
    pub settled_at_successor : (goes : Goes) (next : ℕ) (after : Slots) → Follows settled 0 all before statement goes
        → ChoosesByAnswer (effect_of statement) goes → IsSuccessor goes next → slice_get all next ≡ Some after
        → after slot ≡ true
        → ((before slot ≡ true) ⊎ (settles (effect_of statement) slot ≡ true))
        × (assigns (effect_of statement) slot ≡ false)
    settled_at_successor (Next index) next after follows chooses is there among =
        after_statement (within_there index next (settled.after before statement) after is follows there slot among)
    settled_at_successor (ByAnswer when_true when_false) next after follows chooses either there among = (
      inl (⊎_elim (λ is. within_there when_true next before after is follows.0 there slot among)
          (λ is. within_there when_false next before after is follows.1 there slot among) either),
      ap (λ (effect : EffectTree). assigns effect slot) chooses,
    )

  -- Where no more is said than before a body, nothing is settled.
  pub none_at_start : (goes : Option ℕ) (first : ℕ) (there : Slots) → Lands 0 all goes no_slot → goes ≡ Some first
      → slice_get all first ≡ Some there → (slot : ℕ) → there slot ≡ false
  none_at_start goes first there lands is there_is slot =
      false_from_ne_true (there slot)
      (λ among. false≢true (within_there goes first no_slot there is lands there_is slot among))
