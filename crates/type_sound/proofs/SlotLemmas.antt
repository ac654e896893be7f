-- The declared types of the slots of a body: there is an entry for each slot, and the slots of the parameters have the
-- types of these.
--
--   `length-slot_types`    there are as many types as slots
--   `declared-param`       the slot of a parameter has the type of the parameter
use Rattle.std.proofs.Common.{◌≡◌, ℕ, zero, suc, List, [], ◌∷◌, ◌++◌, map, length, Option, Some, option_map, refl, sym, ◌∙◌, arith, slice_get}
use Rattle.std.specs.List.{range_with_len}
use Rattle.std.proofs.lemmas.List.{length-append, length-map}
use Rattle.std.proofs.lemmas.List.FromFn.{length-range_with_len}
use Rattle.abs_program.specs.Slots.{maybe_side_slots, side_slots, statement_slots, else_slots, statements_slots, param_slots, body_slots}
use Rattle.abs_tree.specs.Syntax.{ParamTree, Statement, BlockOf, SkipOf, SuspendOf, AwaitOf, ReturnOf, PrintOf, IfOf, WhileOf, DeclareOf, AssignOf, DoOf, MaybeStatements, NoElse, Else, Statements, NoStatement, NextStatement, TypeTree}
use Rattle.abs_tree.specs.declared.syntax.slot.Slot.{Slot}
use Rattle.abs_tree.specs.declared.syntax.slot.Slot.TheVariants.{Parameter, Local}
use Rattle.abs_types.specs.PlainTypes.{PlainType, plain}
use Rattle.abs_types.specs.Schemes.{param_types}
use Rattle.abs_types.specs.SlotTypes.{no_types, statement_slot_types, else_slot_types, statements_slot_types, slot_types}
use Rattle.abs_types.specs.Typing.{known_at}
use Rattle.type_sound.specs.Routines.{declared_types}

-- two parts of a list are as long as two others
length-both : {A B : Type 0} (one other : List A) (first second : List B) → length one ≡ length first
    → length other ≡ length second → length (one ++ other) ≡ length (first ++ second)
length-both one other first second same more =
    omega (arith, length-append one other, length-append first second, same, more)

-- slots without declared types are as many as the slots
pub length-no_types : (slots : List Slot) → length (no_types slots) ≡ length slots
length-no_types slots = length-map slots _

mutual
  unfolding statements_slot_types

  -- the slots of statements have a type each
  pub length-statements_slot_types : (statements : Statements)
      → length (statements_slot_types statements) ≡ length (statements_slots statements)
  length-statements_slot_types NoStatement = refl
  length-statements_slot_types (NextStatement first others) =
      length-both (statement_slot_types first) (statements_slot_types others) (statement_slots first)
      (statements_slots others) (length-statement_slot_types first) (length-statements_slot_types others)

  -- so do those of a statement
  pub length-statement_slot_types : (statement : Statement)
      → length (statement_slot_types statement) ≡ length (statement_slots statement)
  length-statement_slot_types (BlockOf place block) = length-statements_slot_types block
  length-statement_slot_types (IfOf index place condition first second) =
      length-both (statements_slot_types first) (else_slot_types second) (statements_slots first) (else_slots second)
      (length-statements_slot_types first) (length-else_slot_types second)
  length-statement_slot_types (WhileOf index place condition body) = length-statements_slot_types body
  length-statement_slot_types (DeclareOf index place type variable_place variable initial) =
      length-both (no_types (maybe_side_slots index initial)) (Some type ∷ []) (maybe_side_slots index initial)
      (Local index ∷ []) (length-no_types (maybe_side_slots index initial)) refl
  length-statement_slot_types (AssignOf index place target side) = length-no_types (side_slots index side)
  length-statement_slot_types (DoOf index place side) = length-no_types (side_slots index side)
  length-statement_slot_types (SkipOf index place) = refl
  length-statement_slot_types (SuspendOf index place) = refl
  length-statement_slot_types (AwaitOf index place guard) = refl
  length-statement_slot_types (ReturnOf index place value) = refl
  length-statement_slot_types (PrintOf index place value) = refl

  -- and those of the other branch of an `if`
  length-else_slot_types : (branch : MaybeStatements)
      → length (else_slot_types branch) ≡ length (else_slots branch)
  length-else_slot_types NoElse = refl
  length-else_slot_types (Else branch) = length-statements_slot_types branch

-- there are as many slots of parameters as parameters
pub length-param_slots : (count : ℕ) → length (param_slots count) ≡ count
length-param_slots count = length-map (range_with_len 0 count) Parameter ∙ length-range_with_len 0 count

-- there are as many declared types as slots of the body
pub length-slot_types : (params : List ParamTree) (statements : Statements)
    → length (declared_types params statements) ≡ length (body_slots (length params) statements)
unfolding slot_types
length-slot_types params statements =
    length-map (slot_types params statements) (option_map plain)
    ∙ length-both (map (λ (param : ParamTree). Some param.type_of) params) (statements_slot_types statements)
    (param_slots (length params)) (statements_slots statements)
    (length-map params _ ∙ sym (length-param_slots (length params))) (length-statements_slot_types statements)

-- the slot of a parameter has the type of the parameter
known_at-param : (params : List ParamTree) (rest : List (Option TypeTree)) (slot : ℕ) (type : PlainType)
    → slice_get (param_types params) slot ≡ Some type
    → known_at (map (option_map plain) (map (λ (param : ParamTree). Some param.type_of) params ++ rest)) slot
    ≡ Some type
known_at-param [] rest slot type is = absurd cc
known_at-param (param ∷ others) rest zero type is = is
known_at-param (param ∷ others) rest (suc slot) type is = known_at-param others rest slot type is

-- The slot of a parameter has its declared type.
pub declared-param : (params : List ParamTree) (statements : Statements) (slot : ℕ) (type : PlainType)
    → slice_get (param_types params) slot ≡ Some type → known_at (declared_types params statements) slot ≡ Some type
unfolding slot_types
declared-param params statements slot type is =
    known_at-param params (statements_slot_types statements) slot type is
