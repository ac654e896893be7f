-- A statement of a routine is well typed in a frame that sees what is visible there, with its declared type. One
-- recursion on the tree follows the facts and the points of a body.
--
--   `DeclaresOwn`          a declaration has a slot of its own, which has its type
--   `IsTypedPoint`         a statement is well typed in a frame that sees what is visible at it
--   `point_is_typed`       so is each statement of a routine
use Rattle.std.proofs.Common.{◌≡◌, ◌<◌, ◌&&◌, ℕ, zero, suc, ◌+◌, ◌-◌, Bool, false, nat_lt, List, [], ◌∷◌, ◌++◌, Option, Some, None, refl, sym, ap, ◌∙◌, subst, arith, slice_get}
use Rattle.std.specs.List.{AllByRecursion, AllZip}
use Rattle.std.specs.Prelude.{⊤}
use Rattle.std.proofs.lemmas.Option.{none-some}
use Rattle.abs_profile.specs.Accepted.{IsAcceptedProgram}
use Rattle.abs_program.proofs.FlowLemmas.{length-facts}
use Rattle.abs_program.proofs.ProgramFactLemmas.{body_stands}
use Rattle.abs_program.proofs.ProgramPointLemmas.{points_of_body}
use Rattle.abs_program.specs.Control.{Goes, Next, ByAnswer, Point, entry, else_entry, points, points_of, else_points, program_points}
use Rattle.abs_program.specs.Flows.{Slots, fact_after_one, facts, facts_of, else_facts}
use Rattle.abs_program.specs.ProgramBodies.{BodyAt, IsBodyOf, IsStatementOf}
use Rattle.abs_tree.specs.Syntax.{Name, AtSlot, Statement, BlockOf, SkipOf, SuspendOf, AwaitOf, ReturnOf, PrintOf, IfOf, WhileOf, DeclareOf, AssignOf, DoOf, MaybeStatements, NoElse, Else, Statements, NoStatement, NextStatement, DeclTree, ProgramTree}
use Rattle.abs_tree.specs.SyntaxSizes.{count_of, statement_count}
use Rattle.abs_types.specs.Endings.{are_empty}
use Rattle.abs_types.specs.IsTyped.{IsTyped, IsElseTyped, AreTyped, block, if_else, while, else_branch, next_statement}
use Rattle.abs_types.specs.PlainTypes.{PlainType, plain}
use Rattle.abs_types.specs.StatementOffences.{frame_after}
use Rattle.abs_types.specs.Typing.{Frame, known_at}
use Rattle.config_state.specs.Configurations.{ObjectState}
use Rattle.list_facts.proofs.EntryLemmas.{slice_get-there}
use Rattle.list_facts.proofs.PartLemmas.{StandsAt, others_stand, item_stands, AllZip-append, AllZip-slice_get}
use Rattle.type_sound.proofs.OwnSlotLemmas.{OwnSlot, declared_in, declared_in_one, declared_in_else, declarations_own}
use Rattle.type_sound.proofs.RoutineLemmas.{IsRoutine, routine_is}
use Rattle.type_sound.proofs.SeenLemmas.{Sees, IsAround, sees_after, around_after, first_sees}
use Rattle.type_sound.specs.Routines.{Routine, routine_found}
use Rattle.type_sound.specs.Visible.{visible, visible_facts, IsVisible}

-- a declaration has a slot of its own, which has its type
abbrev pub DeclaresOwn : List (Option PlainType) → Statement → Type 0
DeclaresOwn types (DeclareOf index place type variable_place variable initial) =
    (slot : ℕ) × (variable ≡ AtSlot slot) × (known_at types slot ≡ Some (plain type))
DeclaresOwn types _ = ⊤

-- A statement of a routine is well typed in a frame that sees slots that are visible there alone, with their declared
-- types, and all else as it is around the first statement. If it is a declaration, it has a slot of its own.
pub record IsTypedPoint (program : ProgramTree) (routine : Routine) (statement : ℕ) (point : Point) : Type 0 where
  pub frame : Frame
  pub slots : (slot : ℕ) (type : PlainType) → known_at frame.slots slot ≡ Some type
      → IsVisible program statement slot × (known_at routine.slots slot ≡ Some type)
  pub fields : frame.fields ≡ routine.start.fields
  pub this : frame.this ≡ routine.start.this
  pub task : frame.task ≡ Some routine.result
  pub is_last : Bool
  pub typed : IsTyped program.source.declarations frame is_last point.statement
  pub declares_own : DeclaresOwn routine.slots point.statement

-- A statement is well typed in a frame that sees slots of this set alone.
record IsTypedAt (declarations : List DeclTree) (types : List (Option PlainType)) (start : Frame) (fact : Slots)
    (point : Point) : Type 0 where
  frame : Frame
  sees : Sees frame types fact
  around : IsAround start frame
  is_last : Bool
  typed : IsTyped declarations frame is_last point.statement
  own : DeclaresOwn types point.statement

-- what is so of the items of two lists together is so of those of each
both_all : {A : Type 0} (P : A → Type 0) (one other : List A) → AllByRecursion P (one ++ other)
    → AllByRecursion P one × AllByRecursion P other
both_all P [] other all = (tt, all)
both_all P (item ∷ one) other all = let rest = both_all P one other all.1 in ((all.0, rest.0), rest.1)

-- the declaration that a statement is, if it is one, has a slot of its own
one_own : (types : List (Option PlainType)) (statement : Statement)
    → AllByRecursion (OwnSlot types) (declared_in_one statement) → DeclaresOwn types statement
one_own types (DeclareOf index place type variable_place variable initial) own = own.0
one_own types statement own = tt

module _ (declarations : List DeclTree) (types : List (Option PlainType)) (start : Frame) where
  -- a statement without statements in it
  alone_typed : (frame : Frame) (fact : Slots) (is_last : Bool) (statement : Statement) (goes : Goes)
      → Sees frame types fact → IsAround start frame → DeclaresOwn types statement
      → IsTyped declarations frame is_last statement
      → IsTypedAt declarations types start fact (record { statement = statement; goes = goes })
  alone_typed frame fact is_last statement goes sees around own typed =
      record { frame = frame; sees = sees; around = around; is_last = is_last; typed = typed; own = own }

  mutual
    unfolding facts points

    -- each of well-typed statements is well typed in a frame that sees what is visible at it
    statements_typed : (index : ℕ) (frame : Frame) (fact : Slots) (is_last : Bool) (statements : Statements)
        (after : Option ℕ) → Sees frame types fact → IsAround start frame
        → AllByRecursion (OwnSlot types) (declared_in statements) → AreTyped declarations frame is_last statements
        → AllZip (IsTypedAt declarations types start) (facts visible fact statements) (points index statements after)
    statements_typed index frame fact is_last NoStatement after sees around own typed = tt
    statements_typed index frame fact is_last (NextStatement first others) after sees around own
        (next_statement f l s r one more) =
        let next = index + count_of first in
        let before = entry next others after in
        let parts = both_all (OwnSlot types) (declared_in_one first) (declared_in others) own in
        let later = fact_after_one visible fact first in
        AllZip-append (IsTypedAt declarations types start) (facts_of visible fact first)
        (points_of index first before) (facts visible later others) (points next others after)
        (statement_typed index frame fact (is_last && are_empty others) first before sees around parts.0 one)
        (statements_typed next (frame_after frame first) later is_last others after
        (sees_after frame types fact first parts.0 sees)
        (around_after start frame first around) parts.1 more)

    -- so is a statement with those in it
    statement_typed : (index : ℕ) (frame : Frame) (fact : Slots) (is_last : Bool) (statement : Statement)
        (after : Option ℕ) → Sees frame types fact → IsAround start frame
        → AllByRecursion (OwnSlot types) (declared_in_one statement) → IsTyped declarations frame is_last statement
        → AllZip (IsTypedAt declarations types start) (facts_of visible fact statement)
        (points_of index statement after)
    statement_typed index frame fact is_last (BlockOf place inside) after sees around own (block f l p i typed) =
        statements_typed index frame fact is_last inside after sees around own typed
    statement_typed index frame fact is_last (IfOf own_index place condition first second) after sees around own
        (if_else f l n p c a b given has fit one other) =
        let next = index + 1 + statement_count first in
        let parts = both_all (OwnSlot types) (declared_in first) (declared_in_else second) own in (
          alone_typed frame fact is_last (IfOf own_index place condition first second)
              (ByAnswer (entry (index + 1) first after) (else_entry next second after)) sees around tt
              (if_else frame is_last own_index place condition first second given has fit one other),
          AllZip-append (IsTypedAt declarations types start) (facts visible fact first) (points (index + 1) first after)
              (else_facts visible fact second) (else_points next second after)
              (statements_typed (index + 1) frame fact false first after sees around parts.0 one)
              (else_typed next frame fact second after sees around parts.1 other),
        )
    statement_typed index frame fact is_last (WhileOf own_index place condition body) after sees around own
        (while f l n p c b given has fit one) = (
          alone_typed frame fact is_last (WhileOf own_index place condition body)
              (ByAnswer (entry (index + 1) body (Some index)) after) sees around tt
              (while frame is_last own_index place condition body given has fit one),
          statements_typed (index + 1) frame fact false body (Some index) sees around own one,
        )
    statement_typed index frame fact is_last (DeclareOf own_index place type variable_place variable initial) after
        sees around own typed = (
          alone_typed frame fact is_last (DeclareOf own_index place type variable_place variable initial) (Next after)
              sees around own.0 typed,
          tt,
        )
    statement_typed index frame fact is_last (SkipOf own_index place) after sees around own typed =
        (alone_typed frame fact is_last (SkipOf own_index place) (Next after) sees around tt typed, tt)
    statement_typed index frame fact is_last (SuspendOf own_index place) after sees around own typed =
        (alone_typed frame fact is_last (SuspendOf own_index place) (Next after) sees around tt typed, tt)
    statement_typed index frame fact is_last (AwaitOf own_index place guard) after sees around own typed =
        (alone_typed frame fact is_last (AwaitOf own_index place guard) (Next after) sees around tt typed, tt)
    statement_typed index frame fact is_last (ReturnOf own_index place value) after sees around own typed =
        (alone_typed frame fact is_last (ReturnOf own_index place value) (Next after) sees around tt typed, tt)
    statement_typed index frame fact is_last (PrintOf own_index place value) after sees around own typed =
        (alone_typed frame fact is_last (PrintOf own_index place value) (Next after) sees around tt typed, tt)
    statement_typed index frame fact is_last (AssignOf own_index place target side) after sees around own typed =
        (alone_typed frame fact is_last (AssignOf own_index place target side) (Next after) sees around tt typed, tt)
    statement_typed index frame fact is_last (DoOf own_index place side) after sees around own typed =
        (alone_typed frame fact is_last (DoOf own_index place side) (Next after) sees around tt typed, tt)

    -- and those in the other branch of an `if`
    else_typed : (index : ℕ) (frame : Frame) (fact : Slots) (branch : MaybeStatements) (after : Option ℕ)
        → Sees frame types fact → IsAround start frame
        → AllByRecursion (OwnSlot types) (declared_in_else branch) → IsElseTyped declarations frame branch
        → AllZip (IsTypedAt declarations types start) (else_facts visible fact branch) (else_points index branch after)
    else_typed index frame fact NoElse after sees around own typed = tt
    else_typed index frame fact (Else branch) after sees around own (else_branch f b typed) =
        statements_typed index frame fact false branch after sees around own typed

-- what is at an index of a part is in the list where the part stands
part_there : {A : Type 0} (all part : List A) (index offset : ℕ) (item : A) → StandsAt all index part
    → slice_get part offset ≡ Some item → slice_get all (index + offset) ≡ Some item
part_there all [] index offset item stands is = absurd (none-some item is)
part_there all (first ∷ others) index zero item stands is =
    ap (slice_get all) (omega arith) ∙ (item_stands stands ∙ is)
part_there all (first ∷ others) index (suc offset) item stands is =
    ap (slice_get all) (omega arith) ∙ part_there all others (index + 1) offset item (others_stand stands) is

-- the slots that are visible at the statements of a body are those of the program
visible_in_body : (program : ProgramTree) (body : BodyAt) (offset : ℕ) (fact : Slots) → IsBodyOf program.source body
    → slice_get (facts visible (λ slot. nat_lt slot body.params) body.statements) offset ≡ Some fact
    → slice_get (visible_facts program) (body.index + offset) ≡ Some fact
unfolding visible_facts
visible_in_body program body offset fact is there =
    part_there _ (facts visible (λ slot. nat_lt slot body.params) body.statements) body.index offset fact
    (body_stands visible (λ params slot. nat_lt slot params) program.source body is) there

-- Each statement of a routine is well typed in a frame that sees what is visible at it.
pub point_is_typed : (program : ProgramTree) → IsAcceptedProgram program → (object : Option ObjectState)
    (method : Option Name) (routine : Routine) (statement : ℕ) (point : Point)
    → routine_found program object method ≡ Some routine → IsStatementOf routine.body statement
    → slice_get (program_points program.source) statement ≡ Some point
    → IsTypedPoint program routine statement point
point_is_typed program accepted object method routine statement point found of there = record {
  frame = own.frame;
  slots = λ slot type known.
      let seen = own.sees slot type known in
      (record { fact = fact.0; there = fact_there; sees = seen.0 }, seen.1);
  fields = own.around.fields;
  this = own.around.this;
  task = own.around.task ∙ is.task;
  is_last = own.is_last;
  typed = own.typed;
  declares_own = own.own;
}
  where
    body : BodyAt
    body = routine.body

    is : IsRoutine program routine
    is = routine_is program accepted object method routine found

    offset : ℕ
    offset = statement - body.index

    at : body.index + offset ≡ statement
    at = omega (arith, of.after_start)

    within : offset < statement_count body.statements
    within = omega (arith, of.after_start, of.before_end)

    before : Slots
    before = λ slot. nat_lt slot body.params

    fact : (one : Slots) × (slice_get (facts visible before body.statements) offset ≡ Some one)
    fact =
        slice_get-there (facts visible before body.statements) offset
        (omega (arith, within, length-facts visible before body.statements))

    fact_there : slice_get (visible_facts program) statement ≡ Some fact.0
    fact_there =
        ap (slice_get (visible_facts program)) (sym at) ∙ visible_in_body program body offset fact.0 is.body_is fact.1

    point_there : slice_get (points body.index body.statements None) offset ≡ Some point
    point_there =
        sym (points_of_body program.source body offset is.body_is within)
        ∙ (ap (slice_get (program_points program.source)) at ∙ there)

    declared : AllByRecursion (OwnSlot routine.slots) (declared_in body.statements)
    declared =
        subst (λ (types : List (Option PlainType)). AllByRecursion (OwnSlot types) (declared_in body.statements))
        (sym is.declared) (declarations_own is.params body.statements is.own_slots)

    own : IsTypedAt program.source.declarations routine.slots routine.start fact.0 point
    own =
        AllZip-slice_get (IsTypedAt program.source.declarations routine.slots routine.start)
        (facts visible before body.statements) (points body.index body.statements None)
        (statements_typed program.source.declarations routine.slots routine.start body.index routine.start before
        is.is_last body.statements None (first_sees program routine is)
        (record { fields = refl; this = refl; task = refl }) declared is.typed)
        offset fact.0 point fact.1 point_there
