-- What the walk over a body does to the settled slots that it shows, and to the rows that it makes. It serves proofs
-- only.
--
--   `minus`, `plus`, `among`                   sets of slots: without others, with others, and the slots of a list
--   `awaited_by`, `future_of`                  the slots that an effect names: by `await`, and by `get`
--   `named_in`, `named_slots_in`               the slot that a part of a guard names, and those that a guard names
--   `slot_at`, `hidden_of`, `target_of`        the slot that a target is, and the slots that an effect assigns
--   `rows_in`, `rows_at`, `rows_in_else`       the rows of statements
--   `Known`, `known_by`                        settled slots with the rows so far, and those of a walk
--   `cleared`, `added`, `with_row`, `kept`     slots made unsettled, slots made settled, a row more, and some kept
--   `done`                                     what is known after a statement that holds no others
--   `passed`, `passed_one`, `passed_else`, ..  what is known after statements
--   `Does`, `Takes`                            a walk does this, unless it fails; a walk takes slots into a row
use Rattle.std.specs.Prelude.{◌≡◌, ℕ, Bool, false, not, ◌&&◌, ◌||◌, List, [], ◌∷◌, ◌++◌, Option, Some, None, nat_eq, option_to_list, slice_index_or, if◌then◌else◌}
use Rattle.std.specs.List.{flat_map, list_any}
use Rattle.abs_program.specs.Flows.{Slots, fact_after, fact_after_one, fact_after_else}
use Rattle.abs_program.specs.Instructions.{EffectTree, Awaits, Clears, Stores, Makes, Sends, CallsOwn, CallsOther, Gets, effect_of, slot_of, waits_of}
use Rattle.abs_tree.specs.Syntax.{VariableTree, AtSlot, ExprTree, Tests, Statement, BlockOf, IfOf, WhileOf, MaybeStatements, NoElse, Else, Statements, NoStatement, NextStatement}
use Rattle.contract_terms.specs.Settled.{assigned_in, assigns, once_among, settled, settled_names, settles}
use Rattle.contract_infer.specs.SettledRows.{rows_of}
use Rattle.contract_infer.specs.declared.settled.Walk.{Walk}

-- a set of slots without those of another one, and with those of another one
abbrev pub minus : Slots → Slots → Slots
minus fact gone slot = fact slot && not (gone slot)

abbrev pub plus : Slots → Slots → Slots
plus fact more slot = fact slot || more slot

-- the slots of a list
abbrev pub among : List ℕ → Slots
among slots slot = list_any (λ one. nat_eq one slot) slots

-- the slots that an `await` names, and the one that a `get` names
abbrev pub awaited_by : EffectTree → List (Option ℕ)
awaited_by (Awaits names) = names
awaited_by _ = []

abbrev pub future_of : EffectTree → Option ℕ
future_of (Gets named target) = named
future_of _ = None

-- the slot that a part of a guard names, if a "?" follows it
abbrev pub named_in : Bool → ExprTree → Option ℕ
named_in asks value = if asks then slot_of value else None

-- the slots that a guard names
abbrev pub named_slots_in : Tests → List ℕ
named_slots_in guard = flat_map option_to_list (waits_of guard)

-- the slot that a target is, if it is one
abbrev pub slot_at : Option VariableTree → Option ℕ
slot_at (Some (AtSlot slot)) = Some slot
slot_at _ = None

-- the hidden slot that an effect assigns, and the slot of its target
abbrev pub hidden_of : EffectTree → Option ℕ
hidden_of (CallsOther method hidden target) = hidden
hidden_of _ = None

abbrev pub target_of : EffectTree → Option ℕ
target_of (Clears target) = slot_at (Some target)
target_of (Stores target) = slot_at target
target_of (Makes mode class target) = slot_at target
target_of (Sends method target) = slot_at target
target_of (CallsOwn method target) = slot_at target
target_of (CallsOther method hidden target) = slot_at target
target_of (Gets named target) = slot_at target
target_of _ = None

unfoldable mutual
  -- the rows of statements, where these slots are settled before them
  pub rows_in : Slots → Statements → List (List ℕ)
  rows_in fact NoStatement = []
  rows_in fact (NextStatement first others) = rows_at fact first ++ rows_in (fact_after_one settled fact first) others

  -- the rows of a statement and of those in it
  pub rows_at : Slots → Statement → List (List ℕ)
  rows_at fact (BlockOf place block) = rows_in fact block
  rows_at fact (IfOf index place condition first second) = [] ∷ rows_in fact first ++ rows_in_else fact second
  rows_at fact (WhileOf index place condition body) = [] ∷ rows_in (minus fact (assigned_in body)) body
  rows_at fact statement = settled_names (effect_of statement) fact ∷ []

  pub rows_in_else : Slots → MaybeStatements → List (List ℕ)
  rows_in_else fact NoElse = []
  rows_in_else fact (Else branch) = rows_in fact branch

-- the settled slots at a place of a body, and a row for each statement before it
pub record Known : Type 0 where
  pub slots : Slots
  pub rows : List (List ℕ)

-- what a walk knows; a slot that it has no bit for is not settled
abbrev pub known_by : Walk → Known
known_by walk = record {
  slots = λ slot. slice_index_or walk.settled.items slot false;
  rows = rows_of walk.rows.items;
}

-- what is known after slots are made unsettled, after slots are made settled, and after one row more
abbrev pub cleared : Slots → Known → Known
cleared gone known = record { slots = minus known.slots gone; rows = known.rows }

abbrev pub added : Slots → Known → Known
added more known = record { slots = plus known.slots more; rows = known.rows }

abbrev pub with_row : List ℕ → Known → Known
with_row row known = record { slots = known.slots; rows = known.rows ++ row ∷ [] }

-- what is known where no more is settled than these slots
abbrev pub kept : Slots → Known → Known
kept others known = record { slots = λ slot. others slot && known.slots slot; rows = known.rows }

-- what is known after a statement that holds no others, by its effect
abbrev pub done : EffectTree → Known → Known
done effect known = record {
  slots = minus (plus known.slots (settles effect)) (assigns effect);
  rows = known.rows ++ settled_names effect known.slots ∷ [];
}

-- what is known after statements, after a statement, and after the other branch of an `if`
abbrev pub passed : Statements → Known → Known
passed statements known = record {
  slots = fact_after settled known.slots statements;
  rows = known.rows ++ rows_in known.slots statements;
}

abbrev pub passed_one : Statement → Known → Known
passed_one statement known = record {
  slots = fact_after_one settled known.slots statement;
  rows = known.rows ++ rows_at known.slots statement;
}

abbrev pub passed_else : MaybeStatements → Known → Known
passed_else branch known = record {
  slots = fact_after_else settled known.slots branch;
  rows = known.rows ++ rows_in_else known.slots branch;
}

-- what is known after an `if` with these branches, and after a loop with this body
abbrev pub passed_if : Statements → MaybeStatements → Known → Known
passed_if first second known = record {
  slots = λ slot. fact_after settled known.slots first slot && fact_after_else settled known.slots second slot;
  rows = known.rows ++ ([] ∷ rows_in known.slots first ++ rows_in_else known.slots second);
}

abbrev pub passed_loop : Statements → Known → Known
passed_loop body known = record {
  slots = minus known.slots (assigned_in body);
  rows = known.rows ++ [] ∷ rows_in (minus known.slots (assigned_in body)) body;
}

-- Unless a walk failed, it did this to what it knew, and had not failed before.
pub record Does (change : Known → Known) (old new : Walk) : Type 0 where
  pub does : new.failed ≡ false → (old.failed ≡ false) × (known_by new ≡ change (known_by old))

-- Unless a walk failed, it added to a row those of these slots that were settled, each once, and made them unsettled.
pub record Takes (slots : List ℕ) (old new : Walk) (row after : List ℕ) : Type 0 where
  pub does : Does (cleared (among slots)) old new
  pub adds : new.failed ≡ false → after ≡ row ++ once_among (known_by old).slots slots
