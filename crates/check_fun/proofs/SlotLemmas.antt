-- The slots of a body, which become visible and invisible.
--
--   `knows_method`             a checker that has these slots and this task is in another body with the same `this`
--   `knows_added`              one more slot is visible
--   `knows_set`, `knows_past`  a slot has another type, or there is no such slot
--   `finds_same`               an index stands for the same type in the same table
use Rattle.std.proofs.Common.{◌≡◌, ◌≤◌, ℕ, List, [], ◌∷◌, ◌++◌, Option, Some, length, set, refl, option_map}
use Rattle.std.proofs.lemmas.List.{length-map, map-append, map-set, set_past}
use Rattle.abs_types.specs.PlainTypes.{PlainType}
use Rattle.abs_types.specs.TypeShapes.{type_at}
use Rattle.abs_types.specs.TypeTables.{types_in}
use Rattle.abs_types.specs.declared.table.shape.TypeIndex.{TypeIndex}
use Rattle.check_fun.specs.Contexts.{context_in, types_known, with_frame, with_slots, Context, Finds, Knows}
use Rattle.check_fun.specs.declared.checker.Checker.{Checker}

-- a checker that has these slots and this task is in another body with the same `this`
pub knows_method : {before now : Checker} {slots : List (Option TypeIndex)} {task : Option TypeIndex}
    → now.table ≡ before.table → now.slots.items ≡ slots → now.fields ≡ before.fields → now.this ≡ before.this
    → now.task ≡ task → now.bound.items ≡ [] → (context : Context) (types : List (Option PlainType))
    (gives : Option PlainType) → Knows before context → Finds before task gives
    → types_known (types_in before.table) slots ≡ types
    → Knows now (with_frame context (record context.frame { slots = types; task = gives }))
unfolding context_in
knows_method {before} {now} table slots fields this task bound context types gives knows finds are =
    record { is = rw (← knows.is, ← finds.is, ← are, table, slots, fields, this, task, bound) refl }

-- one more slot is visible
pub knows_added : {before now : Checker} (found : TypeIndex) → now.table ≡ before.table
    → now.slots.items ≡ before.slots.items ++ Some found ∷ [] → now.fields ≡ before.fields → now.this ≡ before.this
    → now.task ≡ before.task → now.bound ≡ before.bound → (context : Context) (type : PlainType)
    → Knows before context → Finds before (Some found) (Some type)
    → Knows now (with_slots context (context.frame.slots ++ Some type ∷ []))
unfolding context_in
knows_added {before} {now} found table slots fields this task bound context type knows finds =
    record { is = rw (← knows.is, ← finds.is, table, slots, fields, this, task, bound, map-append) refl }

-- a slot has another type
pub knows_set : {before now : Checker} (slot : ℕ) (found : Option TypeIndex) → now.table ≡ before.table
    → now.slots.items ≡ set before.slots.items slot found → now.fields ≡ before.fields → now.this ≡ before.this
    → now.task ≡ before.task → now.bound ≡ before.bound → (context : Context) (type : Option PlainType)
    → Knows before context → Finds before found type
    → Knows now (with_slots context (set context.frame.slots slot type))
unfolding context_in
knows_set {before} {now} slot found table slots fields this task bound context type knows finds =
    let known = map-set (option_map (type_at (types_in before.table))) before.slots.items slot found in
    record { is = rw (← knows.is, ← finds.is, table, slots, fields, this, task, bound, known) refl }

-- there is no such slot
pub knows_past : {checker : Checker} (slot : ℕ) (type : Option PlainType) → length checker.slots.items ≤ slot
    → (context : Context) → Knows checker context
    → Knows checker (with_slots context (set context.frame.slots slot type))
unfolding context_in
knows_past {checker} slot type past context knows =
    let known = types_known (types_in checker.table) checker.slots.items in
    let count = length-map checker.slots.items (option_map (type_at (types_in checker.table))) in
    let same : set known slot type ≡ known = set_past known slot type (rw count past) in
    record { is = rw (← knows.is, same) refl }

-- an index stands for the same type in the same table
pub finds_same : {before now : Checker} {found : Option TypeIndex} {type : Option PlainType}
    → now.table ≡ before.table → Finds before found type → Finds now found type
finds_same table was = record { found_is = record { among = rw table was.found_is.among }; is = rw table was.is }
