-- What is around an expression: a checker enters a body, binds variables and leaves them.
--
--   `options_pushed`, `options_taken`      indices that may be there are among the types after one more, and the first
--                                          ones
--   `knows_outside`                        a new checker is outside of all bodies
--   `knows_in_body`                        a checker that has these around is in such a body
--   `knows_bound`, `knows_left`            one more variable is bound, and variables are left
--   `AreSlots`                             the types of parameters were found
--   `slots_none`, `slots_pushed`           they were before the first one, and after one more
--   `knows_entered`                        a checker that has these slots and nothing else around is in the value of a
--                                          function
use Rattle.std.proofs.Common.{◌+◌, ◌<◌, ◌≤◌, Some, get_or, ◌≡◌, ℕ, Bool, true, false, List, [], ◌∷◌, ◌++◌, All, Option, None, option_map, if◌then◌else◌, length, map, take, refl, sym, ap, ◌∙◌}
use Rattle.std.proofs.Math.Logic.{∥∥₁_map}
use Rattle.std.proofs.Math.Seq.{take-append_seam}
use Rattle.std.proofs.lemmas.List.{map-append, take-map, take_more, take_all}
use Rattle.std.proofs.lemmas.List.Elements.{All-nil, All-push, All-take}
use Rattle.abs_tree.specs.SyntaxViews.{decl_tree, param_tree, type_tree}
use Rattle.abs_program.specs.declared.named.Named.{Named}
use Rattle.abs_tree.specs.declared.syntax.declaration.Param.{Param}
use Rattle.abs_types.specs.PlainTypes.{plain, PlainType}
use Rattle.abs_types.specs.Schemes.{param_types}
use Rattle.abs_types.specs.TypeOffences.{value_frame}
use Rattle.abs_types.specs.TypeShapes.{type_at}
use Rattle.abs_types.specs.TypeTables.{types_in}
use Rattle.abs_types.specs.declared.table.TypeTable.{TypeTable}
use Rattle.abs_types.specs.declared.table.shape.TypeIndex.{TypeIndex}
use Rattle.check_fun.proofs.ContextLemmas.{stays_reflexive, stays_transitive}
use Rattle.check_fun.proofs.GrowingLemmas.{known_kept, options_among, MaybeAmong}
use Rattle.abs_tree.specs.declared.symbol.Symbol.{Symbol}
use Rattle.abs_types.specs.Typing.{Frame}
use Rattle.check_fun.specs.Contexts.{context_in, types_known, with_bound, with_frame, Context, Finds, IsFrameOf, Knows, Stays}
use Rattle.check_fun.specs.declared.checker.Checker.{Checker}

-- one more index that may be there is pushed, if there is memory
pub options_pushed : (table : TypeTable) (done later : List (Option TypeIndex)) (one : Option TypeIndex) (ok : Bool)
    → later ≡ (if ok then done ++ one ∷ [] else done) → MaybeAmong (types_in table) one
    → ∥ All (MaybeAmong (types_in table)) done ∥₁
    → ∥ All (MaybeAmong (types_in table)) later ∥₁
options_pushed table done later one true is among were =
    rw is (∥∥₁_map were (λ all. All-push (MaybeAmong (types_in table)) done one
    all among))
options_pushed table done later one false is among were = rw is were

-- some of them are left
pub options_taken : (table : TypeTable) (done later : List (Option TypeIndex)) (count : ℕ) → later ≡ take count done
    → ∥ All (MaybeAmong (types_in table)) done ∥₁
    → ∥ All (MaybeAmong (types_in table)) later ∥₁
options_taken table done later count is were =
    rw is (∥∥₁_map were (All-take (MaybeAmong (types_in table)) count done))

-- a checker that has nothing around is outside of all bodies of its program
pub knows_outside : {checker : Checker} (program : Named) → checker.table.program.now ≡ program
    → checker.slots.items ≡ [] → checker.fields.items ≡ [] → checker.this ≡ None → checker.task ≡ None
    → checker.bound.items ≡ [] → Knows checker (record {
      names = program.symbols;
      declarations = map (decl_tree program.symbols) program.declarations.items;
      frame = value_frame [];
      bound = [];
    })
unfolding context_in
knows_outside program is slots fields this task bound = record { is = rw (slots, fields, this, task, bound, is) refl }

-- a checker that has these around is in a body with this frame
pub knows_in_body : {before now : Checker} {slots : List (Option TypeIndex)} {fields : List TypeIndex}
    {this : Option Symbol} {task : Option TypeIndex} → now.table ≡ before.table → now.slots.items ≡ slots
    → now.fields.items ≡ fields → now.this ≡ this → now.task ≡ task → now.bound.items ≡ [] → (context : Context)
    (frame : Frame) → Knows before context → IsFrameOf before slots fields this task frame
    → Knows now (with_frame context frame)
unfolding context_in
knows_in_body {before} {now} table slots fields this task bound context frame knows around = record {
  is = rw (
    ← knows.is,
    ← around.slots_are,
    ← around.fields_are,
    ← around.this_is,
    ← around.task_is,
    table,
    slots,
    fields,
    this,
    task,
    bound,
  ) refl;
}

-- one more variable is bound
pub knows_bound : {before now : Checker} (found : Option TypeIndex) → now.table ≡ before.table
    → now.slots ≡ before.slots → now.fields ≡ before.fields → now.this ≡ before.this → now.task ≡ before.task
    → now.bound.items ≡ before.bound.items ++ found ∷ [] → (context : Context) (type : Option PlainType)
    → Knows before context → Finds before found type → Knows now (with_bound context (type ∷ []))
unfolding context_in
knows_bound {before} {now} found table slots fields this task bound context type knows finds =
    record { is = rw (← knows.is, ← finds.is, table, slots, fields, this, task, bound, map-append) refl }

-- variables are left
pub knows_left : {before now : Checker} (count : ℕ) → now.table ≡ before.table
    → now.slots ≡ before.slots → now.fields ≡ before.fields → now.this ≡ before.this → now.task ≡ before.task
    → now.bound.items ≡ take count before.bound.items → (context : Context) (types : List (Option PlainType))
    → Knows before (with_bound context types) → count ≡ length context.bound → Knows now context
unfolding context_in
knows_left {before} {now} count table slots fields this task bound context types knows is =
    let known = types_known (types_in before.table) in
    let bound_is : known now.bound.items ≡ context.bound =
    ap known bound ∙ (sym (take-map (option_map (type_at (types_in before.table))) count before.bound.items)
    ∙ (ap (take count) (ap (λ (one : Context). one.bound) knows.is)
    ∙ (ap (λ (many : ℕ). take many (context.bound ++ types)) is ∙ take-append_seam context.bound types))) in
    let without = ap (λ (one : Context). record one { bound = context.bound }) knows.is in
    record { is = rw (table, slots, fields, this, task, bound_is) without }

-- The types of parameters were found, in their order.
pub record AreSlots (before now : Checker) (params : List Param) (slots : List (Option TypeIndex)) : Type 0 where
  pub stays : Stays before now
  pub first_is : now.first ≡ before.first
  pub among : All (MaybeAmong (types_in now.table)) slots
  pub are : types_known (types_in now.table) slots
      ≡ map Some (param_types (map (param_tree (context_in before).names) params))

-- they were before the first one
pub slots_none : {checker : Checker} → AreSlots checker checker [] []
slots_none {checker} = record {
  stays = stays_reflexive;
  first_is = refl;
  among = All-nil (MaybeAmong (types_in checker.table));
  are = refl;
}

-- they were after one more
pub slots_pushed : {before between now : Checker} (params : List Param) (slots : List (Option TypeIndex)) (count : ℕ)
    (param : Param) (found : TypeIndex) → AreSlots before between (take count params) slots → count < length params
    → param ≡ get_or params count param
    → ((context : Context) → Knows between context
    → Finds now (Some found) (Some (plain (type_tree context.names param.type_of))))
    → now.first ≡ between.first → Stays between now
    → AreSlots before now (take (count + 1) params) (slots ++ Some found ∷ [])
slots_pushed {before} {between} {now} params slots count param found so below at finds first stays =
    let one = finds (context_in before) (record { is = so.stays.context_is }) in
    let more : types_known (types_in now.table) slots
    ≡ map Some (param_types (map (param_tree (context_in before).names) (take count params))) =
    known_kept slots stays.keeps so.among ∙ so.are in
    let last : option_map (type_at (types_in now.table)) (Some found)
    ≡ Some (plain (type_tree (context_in before).names param.type_of)) = one.is in
    record {
      stays = stays_transitive so.stays stays;
      first_is = first ∙ so.first_is;
      among = All-push (MaybeAmong (types_in now.table)) slots (Some found)
          (options_among slots stays.keeps so.among) one.found_is.among;
      are = map-append (option_map (type_at (types_in now.table))) slots (Some found ∷ [])
          ∙ rw (more, last, take_more params count param below, ← at, map-append, map-append, map-append) refl;
    }

-- a checker that has these slots and nothing else around is in the value of a function
pub knows_entered : {before between now : Checker} (params : List Param) (slots : List (Option TypeIndex)) (count : ℕ)
    → AreSlots before between (take count params) slots → length params ≤ count → now.table ≡ between.table
    → now.slots.items ≡ slots → now.fields.items ≡ [] → now.this ≡ None → now.task ≡ None → now.bound.items ≡ []
    → (context : Context) → Knows before context
    → Knows now (with_frame context (value_frame (param_types (map (param_tree context.names) params))))
unfolding context_in
knows_entered {before} {between} {now} params slots count so ended table slots_are fields this task bound context
    knows =
    let entered = value_frame (param_types (map (param_tree (context_in before).names) params)) in
    let program_is = so.stays.keeps.program_is in
    let slots_is : types_known (types_in between.table) slots ≡ entered.slots =
    so.are ∙ ap (λ (all : List Param). map Some (param_types (map (param_tree (context_in before).names) all)))
    (take_all count params ended) in
    record { is = rw (← knows.is, table, slots_are, fields, this, task, bound, slots_is, program_is) refl }
