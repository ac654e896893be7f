-- Each declaration of a body has a slot of its own, which has its type. What declarations and calls were given are the
-- slots of the body, in their order. So the slots that are those of locals were given to the declarations, in the order
-- of these, whichever calls have a slot between them.
--
--   `declared_in`          the types and the variables of the declarations in statements
--   `OwnSlot`              a declaration has a slot of its own, which has its type
--   `declarations_own`     so it is of each declaration of a body
use Rattle.std.proofs.Common.{◌≡◌, ℕ, ◌+◌, Bool, true, false, if◌then◌else◌, append_assoc, List, [], ◌∷◌, ◌++◌, map, length, Option, Some, None, option_map, option_and_then, refl, sym, ap, ap₂, ◌∙◌, subst, arith, slice_get}
use Rattle.std.specs.List.{AllByRecursion, AllZip, range_with_len}
use Rattle.std.proofs.lemmas.List.{length-map, map-append}
use Rattle.std.proofs.lemmas.Option.{slice_get-map}
use Rattle.abs_program.specs.OwnSlots.{Given, numbered, given_params, given_side, given_maybe_side, given_statement, given_else, given_statements, HasOwnSlots}
use Rattle.abs_program.specs.Slots.{is_this, side_slots, maybe_side_slots, statement_slots, else_slots, statements_slots, param_slots, body_slots}
use Rattle.abs_tree.specs.Syntax.{TypeTree, VariableTree, AtSlot, ParamTree, SideTree, NewOf, ValueOf, SendOf, GetOf, CallOf, NoExpr, NextExpr, MaybeSide, NoSide, SomeSide, Statement, BlockOf, SkipOf, SuspendOf, AwaitOf, ReturnOf, PrintOf, IfOf, WhileOf, DeclareOf, AssignOf, DoOf, MaybeStatements, NoElse, Else, Statements, NoStatement, NextStatement}
use Rattle.abs_tree.specs.declared.syntax.slot.Slot.{Slot}
use Rattle.abs_tree.specs.declared.syntax.slot.Slot.TheVariants.{Parameter, Local, Hidden}
use Rattle.abs_types.specs.PlainTypes.{PlainType, plain}
use Rattle.abs_types.specs.SlotTypes.{no_types, statement_slot_types, else_slot_types, statements_slot_types, slot_types}
use Rattle.abs_types.specs.Typing.{known_at}
use Rattle.list_facts.proofs.AppendLemmas.{each_of_both}
use Rattle.list_facts.proofs.PartLemmas.{StandsAt, whole_stands, first_stands, second_stands, item_stands, AllZip-append}
use Rattle.type_sound.proofs.SlotLemmas.{length-no_types, length-param_slots, length-statement_slot_types, length-statements_slot_types}
use Rattle.type_sound.specs.Routines.{declared_types}

-- the types and the variables of the declarations in statements, in the order of the source
abbrev mutual
  pub declared_in : Statements → List (TypeTree × VariableTree)
  declared_in NoStatement = []
  declared_in (NextStatement first others) = declared_in_one first ++ declared_in others

  pub declared_in_one : Statement → List (TypeTree × VariableTree)
  declared_in_one (BlockOf place block) = declared_in block
  declared_in_one (IfOf index place condition first second) = declared_in first ++ declared_in_else second
  declared_in_one (WhileOf index place condition body) = declared_in body
  declared_in_one (DeclareOf index place type variable_place variable initial) = (type, variable) ∷ []
  declared_in_one _ = []

  pub declared_in_else : MaybeStatements → List (TypeTree × VariableTree)
  declared_in_else NoElse = []
  declared_in_else (Else branch) = declared_in branch

-- The variable of a declaration is a slot, which has the type of the declaration.
abbrev pub OwnSlot : List (Option PlainType) → TypeTree × VariableTree → Type 0
OwnSlot types declared =
    (slot : ℕ) × (declared.1 ≡ AtSlot slot) × (known_at types slot ≡ Some (plain declared.0))

-- the variable, if it was given to a local
abbrev if_local : Slot → VariableTree → List VariableTree
if_local (Local index) variable = variable ∷ []
if_local (Parameter index) variable = []
if_local (Hidden index) variable = []

-- the variables that were given to locals
abbrev locals_given : Given → List VariableTree
locals_given [] = []
locals_given (first ∷ others) = if_local first.0 first.1 ++ locals_given others

-- those of two parts
locals_given-append : (one other : Given) → locals_given (one ++ other) ≡ locals_given one ++ locals_given other
locals_given-append = each_of_both locals_given (λ given. if_local given.0 given.1) refl (λ item others. refl)

-- the number of a slot, if it is that of a local
abbrev place_if_local : Slot → ℕ → List ℕ
place_if_local (Local index) number = number ∷ []
place_if_local (Parameter index) number = []
place_if_local (Hidden index) number = []

-- the numbers of the locals among slots, of which the first one has this number
abbrev local_places : ℕ → List Slot → List ℕ
local_places next [] = []
local_places next (slot ∷ others) = place_if_local slot next ++ local_places (next + 1) others

-- those of two parts
local_places-append : (next after : ℕ) (one other : List Slot) → after ≡ next + length one
    → local_places next (one ++ other) ≡ local_places next one ++ local_places after other
local_places-append next after [] other same = ap (λ (number : ℕ). local_places number other) (omega (arith, same))
local_places-append next after (slot ∷ others) other same =
    ap (λ (rest : List ℕ). place_if_local slot next ++ rest)
    (local_places-append (next + 1) after others other (omega (arith, same)))
    ∙ sym (append_assoc (place_if_local slot next) (local_places (next + 1) others) (local_places after other))

-- slots with their numbers were given to locals as their numbers
local_numbered : (next : ℕ) (slots : List Slot)
    → locals_given (numbered next slots) ≡ map AtSlot (local_places next slots)
local_numbered next [] = refl
local_numbered next (Local index ∷ others) =
    ap (λ (rest : List VariableTree). AtSlot next ∷ rest) (local_numbered (next + 1) others)
local_numbered next (Parameter index ∷ others) = local_numbered (next + 1) others
local_numbered next (Hidden index ∷ others) = local_numbered (next + 1) others

-- a right side gives nothing to a local
side_gives : (index : ℕ) (side : SideTree) → locals_given (given_side index side) ≡ []
side_gives index (CallOf place method operands (Some slot)) = refl
side_gives index (CallOf place method operands None) = refl
side_gives index (NewOf place mode class_place class arguments) = refl
side_gives index (ValueOf place value) = refl
side_gives index (SendOf place method operands) = refl
side_gives index (GetOf place get_place future) = refl

-- neither does that of a declaration, which may be missing
maybe_side_gives : (index : ℕ) (initial : MaybeSide) → locals_given (given_maybe_side index initial) ≡ []
maybe_side_gives index NoSide = refl
maybe_side_gives index (SomeSide side) = side_gives index side

-- the slot of a call, if it has one, is not that of a local
if_hidden : (is : Bool) (index next : ℕ) → local_places next (if is then [] else Hidden index ∷ []) ≡ []
if_hidden true index next = refl
if_hidden false index next = refl

-- no slot of a right side is that of a local
side_has_no_local : (index next : ℕ) (side : SideTree) → local_places next (side_slots index side) ≡ []
side_has_no_local index next (CallOf place method (NextExpr receiver arguments) slot) =
    if_hidden (is_this receiver) index next
side_has_no_local index next (CallOf place method NoExpr slot) = refl
side_has_no_local index next (NewOf place mode class_place class arguments) = refl
side_has_no_local index next (ValueOf place value) = refl
side_has_no_local index next (SendOf place method operands) = refl
side_has_no_local index next (GetOf place get_place future) = refl

-- nor is one of the right side of a declaration
maybe_side_has_no_local : (index next : ℕ) (initial : MaybeSide)
    → local_places next (maybe_side_slots index initial) ≡ []
maybe_side_has_no_local index next NoSide = refl
maybe_side_has_no_local index next (SomeSide side) = side_has_no_local index next side

-- what two parts gave to locals is the variables of two lists of declarations, if it is so for each
both_given : (one other : Given) (first second : List (TypeTree × VariableTree))
    → locals_given one ≡ map (λ declared. declared.1) first → locals_given other ≡ map (λ declared. declared.1) second
    → locals_given (one ++ other) ≡ map (λ declared. declared.1) (first ++ second)
both_given one other first second is more =
    locals_given-append one other
    ∙ (ap₂ (λ (xs ys : List VariableTree). xs ++ ys) is more ∙ sym (map-append (λ declared. declared.1) first second))

mutual
  -- the variables of the declarations are those that were given to locals
  locals_declared : (statements : Statements)
      → locals_given (given_statements statements) ≡ map (λ declared. declared.1) (declared_in statements)
  locals_declared NoStatement = refl
  locals_declared (NextStatement first others) =
      both_given (given_statement first) (given_statements others) (declared_in_one first) (declared_in others)
      (locals_declared_one first) (locals_declared others)

  -- so are those in a statement
  locals_declared_one : (statement : Statement)
      → locals_given (given_statement statement) ≡ map (λ declared. declared.1) (declared_in_one statement)
  locals_declared_one (BlockOf place block) = locals_declared block
  locals_declared_one (IfOf index place condition first second) =
      both_given (given_statements first) (given_else second) (declared_in first) (declared_in_else second)
      (locals_declared first) (locals_declared_else second)
  locals_declared_one (WhileOf index place condition body) = locals_declared body
  locals_declared_one (DeclareOf index place type variable_place variable initial) =
      both_given (given_maybe_side index initial) ((Local index, variable) ∷ []) [] ((type, variable) ∷ [])
      (maybe_side_gives index initial) refl
  locals_declared_one (AssignOf index place target side) = side_gives index side
  locals_declared_one (DoOf index place side) = side_gives index side
  locals_declared_one (SkipOf index place) = refl
  locals_declared_one (SuspendOf index place) = refl
  locals_declared_one (AwaitOf index place guard) = refl
  locals_declared_one (ReturnOf index place value) = refl
  locals_declared_one (PrintOf index place value) = refl

  -- and those in the other branch of an `if`
  locals_declared_else : (branch : MaybeStatements)
      → locals_given (given_else branch) ≡ map (λ declared. declared.1) (declared_in_else branch)
  locals_declared_else NoElse = refl
  locals_declared_else (Else branch) = locals_declared branch

-- parameters give nothing to a local
params_give : (index : ℕ) (params : List ParamTree) → locals_given (given_params index params) ≡ []
params_give index [] = refl
params_give index (param ∷ others) = params_give (index + 1) others

-- and their slots are not those of locals
params_have_no_local : (next : ℕ) (numbers : List ℕ) → local_places next (map Parameter numbers) ≡ []
params_have_no_local next [] = refl
params_have_no_local next (number ∷ others) = params_have_no_local (next + 1) others

-- the slot with a number has the type of the declaration
abbrev IsTypedPlace : List (Option TypeTree) → ℕ → TypeTree × VariableTree → Type 0
IsTypedPlace all place declared = slice_get all place ≡ Some (Some declared.0)

module _ (all : List (Option TypeTree)) where
  -- the locals of two parts have the types of two lists of declarations, if it is so for each
  both_typed : (next after : ℕ) (one other : List Slot) (first second : List (TypeTree × VariableTree))
      → after ≡ next + length one → AllZip (IsTypedPlace all) (local_places next one) first
      → AllZip (IsTypedPlace all) (local_places after other) second
      → AllZip (IsTypedPlace all) (local_places next (one ++ other)) (first ++ second)
  both_typed next after one other first second same is more =
      subst (λ (places : List ℕ). AllZip (IsTypedPlace all) places (first ++ second))
      (sym (local_places-append next after one other same))
      (AllZip-append (IsTypedPlace all) (local_places next one) first (local_places after other) second is more)

  -- no local has the type of no declaration
  none_typed : (places : List ℕ) → places ≡ [] → AllZip (IsTypedPlace all) places []
  none_typed places none = subst (λ (some : List ℕ). AllZip (IsTypedPlace all) some []) (sym none) tt

  mutual
    unfolding statements_slot_types

    -- the locals of statements have the types of the declarations in them, where the types of their slots stand
    locals_typed : (next : ℕ) (statements : Statements) → StandsAt all next (statements_slot_types statements)
        → AllZip (IsTypedPlace all) (local_places next (statements_slots statements)) (declared_in statements)
    locals_typed next NoStatement stands = tt
    locals_typed next (NextStatement first others) stands =
        let own = statement_slot_types first in
        let after = next + length (statement_slots first) in
        both_typed next after (statement_slots first) (statements_slots others) (declared_in_one first)
        (declared_in others) refl
        (locals_typed_one next first (first_stands own (statements_slot_types others) stands))
        (locals_typed after others (second_stands own (statements_slot_types others)
        (omega (arith, length-statement_slot_types first)) stands))

    -- so do those of a statement
    locals_typed_one : (next : ℕ) (statement : Statement) → StandsAt all next (statement_slot_types statement)
        → AllZip (IsTypedPlace all) (local_places next (statement_slots statement)) (declared_in_one statement)
    locals_typed_one next (BlockOf place block) stands = locals_typed next block stands
    locals_typed_one next (IfOf index place condition first second) stands =
        let own = statements_slot_types first in
        let after = next + length (statements_slots first) in
        both_typed next after (statements_slots first) (else_slots second) (declared_in first)
        (declared_in_else second) refl
        (locals_typed next first (first_stands own (else_slot_types second) stands))
        (locals_typed_else after second (second_stands own (else_slot_types second)
        (omega (arith, length-statements_slot_types first)) stands))
    locals_typed_one next (WhileOf index place condition body) stands = locals_typed next body stands
    locals_typed_one next (DeclareOf index place type variable_place variable initial) stands =
        let before = maybe_side_slots index initial in
        let after = next + length before in
        both_typed next after before (Local index ∷ []) [] ((type, variable) ∷ []) refl
        (none_typed (local_places next before) (maybe_side_has_no_local index next initial)) (
          item_stands (second_stands (no_types before) (Some type ∷ []) (omega (arith, length-no_types before)) stands),
          tt,
        )
    locals_typed_one next (AssignOf index place target side) stands =
        none_typed (local_places next (side_slots index side)) (side_has_no_local index next side)
    locals_typed_one next (DoOf index place side) stands =
        none_typed (local_places next (side_slots index side)) (side_has_no_local index next side)
    locals_typed_one next (SkipOf index place) stands = tt
    locals_typed_one next (SuspendOf index place) stands = tt
    locals_typed_one next (AwaitOf index place guard) stands = tt
    locals_typed_one next (ReturnOf index place value) stands = tt
    locals_typed_one next (PrintOf index place value) stands = tt

    -- and those of the other branch of an `if`
    locals_typed_else : (next : ℕ) (branch : MaybeStatements) → StandsAt all next (else_slot_types branch)
        → AllZip (IsTypedPlace all) (local_places next (else_slots branch)) (declared_in_else branch)
    locals_typed_else next NoElse stands = tt
    locals_typed_else next (Else branch) stands = locals_typed next branch stands

  -- a slot has the declared type
  known_place : (place : ℕ) (type : TypeTree) → slice_get all place ≡ Some (Some type)
      → known_at (map (option_map plain) all) place ≡ Some (plain type)
  known_place place type is =
      ap (option_and_then (λ (found : Option PlainType). found))
      (slice_get-map (option_map plain) all place ∙ ap (option_map (option_map plain)) is)

  -- declarations whose variables are these slots, of their types, have slots of their own
  places_own : (places : List ℕ) (declared : List (TypeTree × VariableTree))
      → AllZip (IsTypedPlace all) places declared → map (λ one. one.1) declared ≡ map AtSlot places
      → AllByRecursion (OwnSlot (map (option_map plain) all)) declared
  places_own [] [] typed are = tt
  places_own [] (one ∷ others) typed are = absurd typed
  places_own (place ∷ places) [] typed are = absurd typed
  places_own (place ∷ places) (one ∷ others) typed are =
      let own : one.1 ≡ AtSlot place = cc in
      let rest : map (λ declared. declared.1) others ≡ map AtSlot places = cc in
      ((place, own, known_place place one.0 typed.0), places_own places others typed.1 rest)

-- the slots of the locals of a body come after those of its parameters
body_places : (count : ℕ) (statements : Statements)
    → local_places 0 (body_slots count statements) ≡ local_places count (statements_slots statements)
body_places count statements =
    local_places-append 0 count (param_slots count) (statements_slots statements)
    (omega (arith, length-param_slots count))
    ∙ ap (λ (before : List ℕ). before ++ local_places count (statements_slots statements))
    (params_have_no_local 0 (range_with_len 0 count))

-- the variables of the declarations of a body are the slots of its locals
variables_are_places : (params : List ParamTree) (statements : Statements) → HasOwnSlots params statements
    → map (λ declared. declared.1) (declared_in statements)
    ≡ map AtSlot (local_places (length params) (statements_slots statements))
variables_are_places params statements own =
    sym (locals_declared statements)
    ∙ (ap (λ (before : List VariableTree). before ++ locals_given (given_statements statements))
    (sym (params_give 0 params))
    ∙ (sym (locals_given-append (given_params 0 params) (given_statements statements))
    ∙ (ap locals_given own.in_order
    ∙ (local_numbered 0 (body_slots (length params) statements)
    ∙ ap (map AtSlot) (body_places (length params) statements)))))

-- Each declaration of a body has a slot of its own, which has its type.
pub declarations_own : (params : List ParamTree) (statements : Statements) → HasOwnSlots params statements
    → AllByRecursion (OwnSlot (declared_types params statements)) (declared_in statements)
unfolding slot_types
declarations_own params statements own =
    let before = map (λ (param : ParamTree). Some param.type_of) params in
    let types = statements_slot_types statements in
    let all = before ++ types in
    let stands : StandsAt all (length params) types =
    second_stands before types
    (omega (arith, length-map params (λ (param : ParamTree). Some param.type_of))) (whole_stands all) in
    places_own all (local_places (length params) (statements_slots statements)) (declared_in statements)
    (locals_typed all (length params) statements stands) (variables_are_places params statements own)
