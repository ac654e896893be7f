-- Bodies of methods and the main block: their slots, and what is around their statements.
--
--   `slots_filled`                     a body has the slots of its parameters, and others that are not visible
--   `ends_otherwise`                   a body whose result type is not `Unit` ends well, if it ends with `return`
--   `params_fit`                       a body has at least as many slots as parameters
--   `gives_found`                      what a method gives is found among the methods of a class
--   `keeps_entered`                    what was found is kept where a body is entered
--   `in_method`, `knows_in_method`     what is around the statements of a method, once it was entered
--   `still_in_class`                   a checker in a method is among the methods of its class
--   `method_noted`                     what is noted in a method
--   `in_main`, `knows_in_main`         what is around the statements of the main block, once it was entered
use Rattle.std.proofs.Common.{codes, true≢false, Bool, true, false, not, ◌↔◌, ◌≡◌, ◌++◌, ◌-◌, ◌≤◌, ℕ, ◌+◌, suc, zero, List, [], ◌∷◌, Option, None, Some, length, map, option_map, replicate, take, refl, sym, ap, ap₂, ◌∙◌, arith}
use Rattle.std.proofs.lemmas.Bool.{false_from_ne_true}
use Rattle.std.specs.List.{range_with_len}
use Rattle.std.proofs.lemmas.List.FromFn.{length-range_with_len}
use Rattle.std.proofs.lemmas.Option.{same_Some}
use Rattle.std.proofs.lemmas.Slice.Eq.{bytes_eq-Decides}
use Rattle.std.proofs.lemmas.List.{length-append, length-map, map-append, take_all}
use Rattle.abs_program.specs.SlotViews.{BodyHasSlots}
use Rattle.abs_program.specs.Slots.{body_slots, param_slots, statements_slots}
use Rattle.abs_tree.specs.Syntax.{Name}
use Rattle.abs_tree.specs.SyntaxViews.{param_tree, signature_tree, statements, type_tree}
use Rattle.abs_tree.specs.declared.refusal.Code.TheVariants.{T5}
use Rattle.abs_tree.specs.declared.refusal.Offence.{Offence}
use Rattle.abs_tree.specs.declared.syntax.declaration.Body.{Body}
use Rattle.abs_tree.specs.declared.syntax.declaration.Signature.{Signature}
use Rattle.abs_tree.specs.declared.syntax.slot.Slot.TheVariants.{Parameter}
use Rattle.abs_tree.specs.declared.syntax.types.TypeTerm.{TypeTerm}
use Rattle.abs_tree.specs.declared.syntax.declaration.Param.{Param}
use Rattle.abs_tree.specs.declared.syntax.statement.Stmt.{Stmt}
use Rattle.abs_types.proofs.KeepLemmas.{keeps_transitive}
use Rattle.abs_types.specs.Endings.{ends_with_return}
use Rattle.abs_types.specs.InterfacesMet.{same_type}
use Rattle.abs_tree.specs.Offences.{offence_if}
use Rattle.abs_types.specs.OperatorTypes.{unit_type}
use Rattle.abs_types.specs.PlainTypes.{PlainType, PlainInt, PlainString, PlainBottom, PlainNull, PlainFut, PlainData, PlainApplied, PlainInterface, PlainClass, PlainParameter, plain}
use Rattle.abs_types.specs.Schemes.{param_types}
use Rattle.abs_types.specs.TypeOffences.{ends_well, main_frame, method_frame, method_offences}
use Rattle.abs_types.specs.TypeShapes.{type_at}
use Rattle.abs_types.specs.TypeTables.{types_in, Keeps}
use Rattle.abs_types.specs.Typing.{Frame}
use Rattle.abs_types.specs.declared.table.shape.TypeIndex.{TypeIndex}
use Rattle.check_fun.proofs.ContextLemmas.{finds_stays, knows_stays, noted_after}
use Rattle.check_fun.proofs.FoundLemmas.{keeps_same}
use Rattle.check_fun.proofs.FrameLemmas.{AreSlots}
use Rattle.check_fun.specs.Contexts.{context_in, types_known, with_frame, Context, Finds, IsFrameOf, Knows, Noted, Stays}
use Rattle.check_fun.specs.declared.checker.Checker.{Checker}
use Rattle.check_obj.specs.Bodies.{statements_offend}
use Rattle.check_obj.specs.Classes.{IsInClass}

-- there are as many types of parameters as there are parameters
types_count : (names : List Name) (params : List Param)
    → length (map {B = Option PlainType} Some (param_types (map (param_tree names) params))) ≡ length params
types_count names [] = refl
types_count names (first ∷ others) = ap suc (types_count names others)

-- slots that are not visible have no types
none_known : (types : List PlainType) (count : ℕ) → types_known types (replicate count None) ≡ replicate count None
none_known types zero = refl
none_known types (suc count) = ap (λ (more : List (Option PlainType)). None ∷ more) (none_known types count)

-- a body has the slots of its parameters, and others that are not visible
pub slots_filled : {before now : Checker} (params : List Param) (slots all : List (Option TypeIndex))
    (index count : ℕ) → AreSlots before now (take index params) slots → length params ≤ index
    → length params ≤ count → (len : ℕ) → len ≡ length slots
    → all ≡ take count slots ++ replicate (count - len) None → (context : Context) → Knows before context
    → types_known (types_in now.table) all
    ≡ map Some (param_types (map (param_tree context.names) params)) ++ replicate (count - length params) None
slots_filled {before} {now} params slots all index count so ended few len len_is is context knows =
    let at = option_map (type_at (types_in now.table)) in
    let types : List (Option PlainType) = map Some (param_types (map (param_tree context.names) params)) in
    let known : map at slots ≡ types =
    so.are ∙ ap₂ (λ (one : Context) (some : List Param). map Some (param_types (map (param_tree one.names) some)))
    knows.is (take_all index params ended) in
    let count_is : length slots ≡ length params =
    sym (length-map slots at) ∙ (ap length known ∙ types_count context.names params) in
    let whole : take count slots ≡ slots = take_all count slots (rw count_is few) in
    ap (map at) is ∙ (map-append at (take count slots) (replicate (count - len) None)
    ∙ (ap₂ (λ (one other : List (Option PlainType)). one ++ other) (ap (map at) whole ∙ known)
    (none_known (types_in now.table) (count - len)
    ∙ ap (λ (less : ℕ). replicate (count - less) None) (len_is ∙ count_is))))

-- a type that is not `Unit` is another one
other_type : (type : PlainType) → (type ≡ unit_type → ⊥) → same_type type unit_type ≡ false
other_type PlainInt other = refl
other_type PlainString other = refl
other_type PlainBottom other = refl
other_type PlainNull other = refl
other_type (PlainFut value) other = refl
other_type (PlainData name) other =
    false_from_ne_true _ (λ same. other (ap PlainData ((bytes_eq-Decides name (codes "Unit")).0 same)))
other_type (PlainApplied head argument) other = refl
other_type (PlainInterface name) other = refl
other_type (PlainClass name) other = refl
other_type (PlainParameter index) other = refl

-- a body whose result type is not `Unit` ends well, if it ends with `return`
pub ends_otherwise : {checker : Checker} {gives unit : TypeIndex} {type : PlainType} {same reported : Bool}
    (names : List Name) (stmts : List Stmt) → Finds checker (Some gives) (Some type)
    → Finds checker (Some unit) (Some unit_type)
    → (same ≡ true) ↔ (type_at (types_in checker.table) gives ≡ type_at (types_in checker.table) unit)
    → same ≡ false → reported ≡ ends_with_return (statements names stmts)
    → reported ≡ ends_well type (statements names stmts)
ends_otherwise {checker} {gives} {unit} {type} names stmts finds is_unit is_same apart reported =
    let type_is : type_at (types_in checker.table) gives ≡ type = same_Some _ _ finds.is in
    let unit_is : type_at (types_in checker.table) unit ≡ unit_type = same_Some _ _ is_unit.is in
    let other : same_type type unit_type ≡ false =
    other_type type (λ equal. true≢false (sym (is_same.1 (type_is ∙ (equal ∙ sym unit_is))) ∙ apart)) in
    rw other reported

-- a body has the slots of its parameters and those of its statements
body_count : (names : List Name) (params : ℕ) (body : Body) → BodyHasSlots names params body
    → length body.slots.items ≡ params + length (statements_slots (statements names body.statements.items))
body_count names params body has =
    ap length has.are
    ∙ (length-append (param_slots params) (statements_slots (statements names body.statements.items))
    ∙ ap (λ (count : ℕ). count + length (statements_slots (statements names body.statements.items)))
    (length-map (range_with_len 0 params) Parameter ∙ length-range_with_len 0 params))

-- so it has at least as many slots as parameters
pub params_fit : {count params : ℕ} {names : List Name} {body : Body} {len : ℕ}
    → BodyHasSlots names params body → count ≡ params → len ≡ length body.slots.items → count ≤ len
params_fit {names = names} {body = body} has count_is len_is =
    omega (arith, body_count names _ body has, count_is, len_is)

-- what was found is kept, if a checker stays, enters a body, and stays
pub keeps_entered : {before made entered now : Checker} → Stays before made → entered.table ≡ made.table
    → Stays entered now → Keeps before.table now.table
keeps_entered first same second = keeps_transitive first.keeps (keeps_transitive (keeps_same same) second.keeps)

-- what is around the statements of a method
abbrev pub in_method : Context → Name → List PlainType → Signature → Body → Context
in_method context class fields signature body =
    with_frame context (method_frame class fields (signature_tree context.names signature)
    (statements context.names body.statements.items))

-- what a method gives is found among the methods of a class
pub gives_found : {before now : Checker} {gives : TypeIndex} {context : Context} {class : Name}
    {fields : List PlainType} (result : TypeTerm)
    → ((context : Context) → Knows before context
    → Finds now (Some gives) (Some (plain (type_tree context.names result))))
    → IsInClass before context class fields → Finds now (Some gives) (Some (plain (type_tree context.names result)))
gives_found {before} {now} {gives} result found inside =
    rw (← inside.names_are) (found (context_in before) (record { is = refl }))

-- a method that was entered is known
pub knows_in_method : {before between made now : Checker} {gives : TypeIndex}
    {params : List Param} {count : ℕ} (slots : List (Option TypeIndex)) (signature : Signature) (body : Body)
    → BodyHasSlots before.table.program.now.symbols (length signature.params.items) body
    → count ≡ length body.slots.items → params ≡ signature.params.items
    → Stays before between → Stays between made
    → ((context : Context) → Knows before context
    → Finds between (Some gives) (Some (plain (type_tree context.names signature.result))))
    → ((context : Context) → Knows between context → types_known (types_in made.table) slots
    ≡ map Some (param_types (map (param_tree context.names) params)) ++ replicate (count - length params) None)
    → ((context : Context) (types : List (Option PlainType)) (result : Option PlainType) → Knows made context
    → Finds made (Some gives) result → types_known (types_in made.table) slots ≡ types
    → Knows now (with_frame context (record context.frame { slots = types; task = result })))
    → (context : Context) (class : Name) (fields : List PlainType) → IsInClass before context class fields
    → Knows now (in_method context class fields signature body)
unfolding context_in
knows_in_method {before} {between} {made} {now} {gives} {params} {count} slots signature body has count_is params_are
    first second found slots_found entered context class fields inside =
    let own = context_in before in
    let knows : Knows before own = record { is = refl } in
    let known : Knows between own = record { is = first.context_is } in
    let left : count - length params ≡ length (statements_slots (statements own.names body.statements.items)) =
    omega (arith, body_count own.names (length signature.params.items) body has, count_is, ap length params_are) in
    let is_in = entered own _ _ (record { is = second.context_is ∙ first.context_is })
    (finds_stays second (found own knows)) (slots_found own known) in
    record {
      is = is_in.is ∙ rw (
        left,
        params_are,
        ← inside.names_are,
        ← inside.declarations_are,
        ← inside.fields_are,
        ← inside.this_is,
      ) refl;
    }

-- a checker in a method is among the methods of its class
pub still_in_class : {checker : Checker} {context : Context} {class : Name} {fields : List PlainType}
    (signature : Signature) (body : Body) → Knows checker (in_method context class fields signature body)
    → IsInClass checker context class fields
still_in_class signature body knows = record {
  names_are = ap (λ (one : Context). one.names) knows.is;
  declarations_are = ap (λ (one : Context). one.declarations) knows.is;
  fields_are = ap (λ (one : Context). one.frame.fields) knows.is;
  this_is = ap (λ (one : Context). one.frame.this) knows.is;
}

-- what is noted in a method
pub method_noted : {before entered checked ended now : Option Offence} {reported : Bool} {stmts last : List Stmt}
    (context : Context) (class : Name) (fields : List PlainType) (signature : Signature) (body : Body)
    → entered ≡ before → stmts ≡ body.statements.items
    → Noted entered (statements_offend (in_method context class fields signature body) true stmts) checked
    → ended ≡ checked → last ≡ body.statements.items
    → reported ≡ ends_well (plain (type_tree context.names signature.result)) (statements context.names last)
    → Noted ended (offence_if (not reported) T5 body.end) now
    → Noted before (method_offences context.declarations class fields (signature_tree context.names signature) body.end
    (statements context.names body.statements.items)) now
method_noted context class fields signature body entered_is stmts_are checked ended_is last_are
    reported ended =
    noted_after _ _ (rw (entered_is, stmts_are) at checked) (rw (ended_is, reported, last_are) at ended)

-- what is around the statements of the main block
abbrev pub in_main : Context → Body → Context
in_main context body = with_frame context (main_frame (statements context.names body.statements.items))

-- a main block that was entered is known
pub knows_in_main : {before between made now : Checker} {unit : TypeIndex} {fields : List TypeIndex} {count : ℕ}
    (slots : List (Option TypeIndex)) (body : Body) → BodyHasSlots before.table.program.now.symbols 0 body
    → count ≡ length body.slots.items → fields ≡ [] → Stays before between → Stays between made
    → Finds between (Some unit) (Some unit_type)
    → ((context : Context) → Knows between context
    → types_known (types_in made.table) slots ≡ replicate (count - 0) None)
    → ((context : Context) (frame : Frame) → Knows made context → IsFrameOf made slots fields None (Some unit) frame
    → Knows now (with_frame context frame))
    → (context : Context) → Knows before context → Knows now (in_main context body)
unfolding context_in
knows_in_main {before} {between} {made} {count = count} slots body has count_is no_fields first second found
    slots_found entered context knows =
    let names_are : before.table.program.now.symbols ≡ context.names = ap (λ (one : Context). one.names) knows.is in
    let main_count : count - 0 ≡ length (body_slots 0 (statements context.names body.statements.items)) =
    omega (
      arith,
      count_is,
      ap length has.are ∙ ap (λ (names : List Name). length (body_slots 0
          (statements names body.statements.items))) names_are,
    ) in
    entered context (main_frame (statements context.names body.statements.items))
    (knows_stays second (knows_stays first knows)) (record {
      slots_are = rw main_count at (slots_found context (knows_stays first knows));
      fields_are = rw no_fields refl;
      this_is = refl;
      task_is = (finds_stays second found).is;
    })
