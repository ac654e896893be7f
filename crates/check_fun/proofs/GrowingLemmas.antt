-- A checker whose table grows, while all else of it stays.
--
--   `MaybeAmong`                               an index that may be there is among types
--   `known_kept`                               indices that may be there stand for the same types later
--   `stays_grown`                              what the checker knows stays
--   `noted_unfit`                              it notes what does not fit
--   `options_among`                            indices that may be there are among the types later
--   `options_kept`, `all_kept`, `option_kept`  what a checker has around is among the types later
--   `growth`                                   these lemmas, which each function needs that makes a type
use denote.Struct.Props as logic
use mathlib.Core.Logic.{∥∥₁_elim}
use Rattle.std.proofs.Common.{Some, not, ◌≡◌, List, [], ◌∷◌, All, Option, option_map, IfSome, refl, ap₂}
use Rattle.std.proofs.Math.Logic.{∥∥₁_map}
use Rattle.std.proofs.lemmas.Option.{same_Some}
use Rattle.std.proofs.lemmas.List.Elements.{All-head, All-tail}
use Rattle.abs_tree.specs.declared.place.Place.{Place}
use Rattle.abs_tree.specs.declared.refusal.Offence.{Offence}
use Rattle.abs_types.specs.Mistyped.{mistyped_if, unfit}
use Rattle.abs_types.specs.Subtyping.{fits}
use Rattle.abs_types.proofs.KeepLemmas.{all_among_kept, types_at_kept}
use Rattle.abs_types.proofs.TypeSetLemmas.{type_set}
use Rattle.abs_types.specs.PlainTypes.{PlainType}
use Rattle.abs_types.specs.TypeShapes.{type_at, types_at, IsAmong}
use Rattle.abs_types.specs.TypeTables.{declarations_of, types_in, Keeps}
use Rattle.abs_types.specs.declared.table.TypeTable.{TypeTable}
use Rattle.abs_types.specs.declared.table.shape.TypeIndex.{TypeIndex}
use Rattle.check_fun.proofs.ContextLemmas.{maybe_among, maybe_same}
use Rattle.check_fun.specs.Contexts.{context_in, types_known, Context, Finds, Knows, Noted, Stays}
use Rattle.check_fun.specs.declared.checker.Checker.{Checker}

-- an index that may be there is among types
abbrev pub MaybeAmong : List PlainType → Option TypeIndex → Type 0
MaybeAmong types found = IfSome found (IsAmong types)

-- indices that may be there stand for the same types later
pub known_kept : {before now : TypeTable} (found : List (Option TypeIndex)) → Keeps before now
    → All (MaybeAmong (types_in before)) found
    → types_known (types_in now) found ≡ types_known (types_in before) found
known_kept [] keeps among = refl
known_kept {before} (first ∷ others) keeps among =
    ap₂ (λ (one : Option PlainType) (more : List (Option PlainType)). one ∷ more)
    (maybe_same first keeps (All-head (MaybeAmong (types_in before)) first others among))
    (known_kept others keeps (All-tail (MaybeAmong (types_in before)) first others among))

-- a checker whose table grows stays, if all else of it stays
pub stays_grown : {before now : Checker} → Keeps before.table now.table → now.slots ≡ before.slots
    → now.fields ≡ before.fields → now.this ≡ before.this → now.task ≡ before.task → now.bound ≡ before.bound
    → Stays before now
unfolding context_in
stays_grown {before} {now} keeps slots fields this task bound =
    let slots_same : types_known (types_in now.table) before.slots.items
    ≡ types_known (types_in before.table) before.slots.items =
    ∥∥₁_elim before.slots_are (Prim.hlevel (logic.props, type_set)) (known_kept before.slots.items keeps) in
    let fields_same : types_at (types_in now.table) before.fields.items
    ≡ types_at (types_in before.table) before.fields.items =
    ∥∥₁_elim before.fields_are (Prim.hlevel (logic.props, type_set)) (types_at_kept before.fields.items keeps) in
    let task_same : option_map (type_at (types_in now.table)) before.task
    ≡ option_map (type_at (types_in before.table)) before.task =
    ∥∥₁_elim before.task_is (Prim.hlevel (logic.props, type_set)) (maybe_same before.task keeps) in
    let bound_same : types_known (types_in now.table) before.bound.items
    ≡ types_known (types_in before.table) before.bound.items =
    ∥∥₁_elim before.bound_are (Prim.hlevel (logic.props, type_set)) (known_kept before.bound.items keeps) in
    let program_same = keeps.program_is in
    record { context_is = cc; keeps = keeps }

-- what an index stands for is noted, if it does not fit
pub noted_unfit : {checker : Checker} {now : Option Offence} (found asked : TypeIndex) (place : Place)
    → Noted checker.first (mistyped_if (not (fits (declarations_of checker.table)
    (type_at (types_in checker.table) found) (type_at (types_in checker.table) asked))) place) now
    → (context : Context) (given : Option PlainType) (wanted : PlainType) → Knows checker context
    → Finds checker (Some found) given → Finds checker (Some asked) (Some wanted)
    → Noted checker.first (unfit context.declarations given wanted place) now
unfolding context_in
noted_unfit {checker} found asked place noted context given wanted knows finds wants =
    let wanted_is : type_at (types_in checker.table) asked ≡ wanted = same_Some _ _ wants.is in
    rw (← knows.is, ← finds.is, ← wanted_is) noted

-- indices that may be there are among the types of a table that grows
pub options_among : {before now : TypeTable} (found : List (Option TypeIndex)) → Keeps before now
    → All (MaybeAmong (types_in before)) found
    → All (MaybeAmong (types_in now)) found
options_among found keeps all index default below = maybe_among _ keeps (all index default below)

-- the same in a ghost fact, written out so that goals show it
pub options_kept : {before now : TypeTable} (found : List (Option TypeIndex)) → Keeps before now
    → ∥ All (λ (one : Option TypeIndex). IfSome one (IsAmong (types_in before))) found ∥₁
    → ∥ All (λ (one : Option TypeIndex). IfSome one (IsAmong (types_in now))) found ∥₁
options_kept found keeps were = ∥∥₁_map were (options_among found keeps)

-- so are indices
pub all_kept : {before now : TypeTable} (found : List TypeIndex) → Keeps before now
    → ∥ All (IsAmong (types_in before)) found ∥₁ → ∥ All (IsAmong (types_in now)) found ∥₁
all_kept found keeps were = ∥∥₁_map were (all_among_kept found keeps)

-- so is one that may be there
pub option_kept : {before now : TypeTable} (found : Option TypeIndex) → Keeps before now
    → ∥ IfSome found (IsAmong (types_in before)) ∥₁ → ∥ IfSome found (IsAmong (types_in now)) ∥₁
option_kept found keeps was = ∥∥₁_map was (maybe_among found keeps)

-- these lemmas, which each function needs that makes a type
pub ruleset growth = (stays_grown, options_kept, all_kept, option_kept)
