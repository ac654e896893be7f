-- What the next statement of a frame can use, and what follows from that: the target of its value is in the frame, and
-- `new` gives as many values as the object has fields. A guard that waits names futures.
--
--   `CanUse`, `can_use`            what a statement can use: the fields of the object, and the slots
--   `effect_target`, `target_there`    a target is a slot or a field that is there
--   `made_as_many`                 the values of `new` are as many as the fields of its class
--   `guard_holds`                  each name of a guard without a fault is a slot that holds a future
use Rattle.std.proofs.Common.{◌≡◌, ◌≢◌, ℕ, ◌+◌, Bool, true, false, List, [], ◌∷◌, length, slice_get, Option, Some, None, refl, sym, ap, ◌∙◌, subst, arith, if◌then◌else◌, option_map}
use Rattle.std.specs.Prelude.{⊤}
use Rattle.std.proofs.lemmas.Option.{same_Some, option_and_then_some}
use Rattle.abs_values.proofs.ListOutcomeLemmas.{outcomes_of-count, initial_outcomes-count, results_of-gives}
use Rattle.abs_values.proofs.ResultLemmas.{IfAllGive-at}
use Rattle.abs_program.specs.Bodies.{ClassEntryTree}
use Rattle.abs_program.specs.Control.{Point, program_points}
use Rattle.abs_values.specs.Evaluation.{evaluate, initial_outcomes, outcomes_of, results_of}
use Rattle.abs_program.specs.Instructions.{EffectTree, Skips, Suspends, Awaits, Chooses, Returns, Prints, Clears, Stores, Makes, Sends, CallsOwn, CallsOther, Gets, target_variable, side_expr_trees, side_effect, expr_trees_of, effect_of}
use Rattle.abs_tree.specs.Limits.{level_limit}
use Rattle.abs_program.specs.NameSpaces.{NameSpaces, spaces_of}
use Rattle.abs_values.specs.Results.{AllGive}
use Rattle.abs_values.specs.Scopes.{Library, Scope, library_of}
use Rattle.abs_program.specs.Slots.{body_slots, is_this}
use Rattle.abs_tree.specs.Syntax.{Name, VariableTree, AtSlot, AtField, AtBound, Unresolved, OwnCallOf, ExprTrees, NoExpr, NextExpr, SideTree, NewOf, ValueOf, SendOf, GetOf, CallOf, TargetTree, ToVariable, ToField, NoSide, SomeSide, Statement, BlockOf, SkipOf, SuspendOf, AwaitOf, ReturnOf, PrintOf, IfOf, WhileOf, DeclareOf, AssignOf, DoOf, ProgramTree}
use Rattle.abs_tree.specs.SyntaxCounts.{count_exprs}
use Rattle.abs_program.specs.Tables.{meaning_of}
use Rattle.abs_values.specs.ValueTrees.{ValueTree, FutureValue, NullValue}
use Rattle.abs_program.specs.Whole.{Inside, VariableIsThere, SideIsThere, StatementIsThere, TargetIsThere, IsWhole}
use Rattle.abs_values.specs.declared.evaluated.Fault.{Fault}
use Rattle.abs_values.specs.declared.evaluated.Fault.TheVariants as fault
use Rattle.abs_program.specs.declared.name_spaces.Taking.{Taking}
use Rattle.abs_tree.specs.declared.syntax.statement.Mode.{Mode}
use Rattle.abs_program.specs.ProgramBodies.{BodyAt, IsStatementOf}
use Rattle.config_state.specs.Bodies.{body_found, class_taking, main_at}
use Rattle.config_state.specs.Configurations.{ObjectState, FrameState, Configuration, Each, object_at, fields_of}
use Rattle.config_state.specs.OfProgram.{IsConfigOf, IsFrameOf, TargetIsIn, next_point}
use Rattle.config_state.proofs.EachLemmas.{Each-none, Each-more}
use Rattle.config_state.proofs.StatementLemmas.{class_takes_arguments, main_statement_is_there, method_statement_is_there}
use Rattle.step_rules.proofs.FrameLemmas.{body_of_object}
use Rattle.step_rules.specs.Inputs.{initials_for, initials_of, scope_of}
use Rattle.step_rules.specs.Lookups.{named_value}
use Rattle.step_rules.specs.WaitRules.{Guard, Faulty, Unresolved as Waits, Resolved, guard_before, guard_by_value, guard_of}
use Rattle.step_rules.specs.Targets.{target_of}

-- A statement can use what the program declares, this many slots, and the fields of this object.
pub record CanUse (program : ProgramTree) (config : Configuration) (object : Option ℕ) (slots : ℕ)
    (statement : Statement) : Type 0 where
  pub inside : Inside
  pub there : StatementIsThere inside statement
  pub spaces_are : inside.spaces ≡ spaces_of program.source.declarations
  pub slots_are : inside.slots ≡ slots
  pub fields_are : inside.fields ≡ length (fields_of (object_at config object))

-- a statement of a body can use what is there in a frame of that body
use_in : (program : ProgramTree) (config : Configuration) (object : Option ℕ) (method : Option Name) (body : BodyAt)
    (slots index : ℕ) (point : Point) → IsWhole program.source → IsConfigOf program config
    → body_found program (object_at config object) object method ≡ Some body
    → slots ≡ length (body_slots body.params body.statements) → IsStatementOf body index
    → slice_get (program_points program.source) index ≡ Some point
    → CanUse program config object slots point.statement
use_in program config None None body slots index point whole known is slots_are inside there =
    let same = same_Some (main_at program) body is in record {
      inside = _;
      there = main_statement_is_there program index point whole
          (subst (λ (one : BodyAt). IsStatementOf one index) (sym same) inside) there;
      spaces_are = refl;
      slots_are = sym (slots_are
          ∙ ap (λ (one : BodyAt). length (body_slots one.params one.statements)) (sym same));
      fields_are = refl;
    }
use_in program config None (Some method) body slots index point whole known is slots_are inside there = absurd cc
use_in program config (Some object) method body slots index point whole known is slots_are inside there =
    let own = body_of_object program (slice_get config.objects object) object method body is in
    let formed = known.objects_are object own.0 own.2 in record {
      inside = _;
      there = method_statement_is_there program own.0.class own.1 body formed.class index point whole own.4
          formed.class_there inside there;
      spaces_are = refl;
      slots_are = sym slots_are;
      fields_are = sym formed.fields_are ∙ ap (λ (cell : Option ObjectState). length (fields_of cell)) (sym own.2);
    }

-- the next statement of a frame can use what is there in the frame
pub can_use : (program : ProgramTree) (config : Configuration) (frame : FrameState) (point : Point)
    → IsWhole program.source → IsConfigOf program config → IsFrameOf program config frame
    → next_point program frame ≡ Some point
    → CanUse program config frame.object (length frame.slots) point.statement
can_use program config frame point whole known is next =
    option_and_then_some (slice_get (program_points program.source)) frame.next point next (λ index at there.
    use_in program config frame.object frame.method is.body (length frame.slots) index point whole known is.body_there
    is.slots_are (is.next_is index at) there)

-- A variable, if there is one, is there.
abbrev pub MaybeThere : Inside → Option VariableTree → Type 0
MaybeThere inside None = ⊤
MaybeThere inside (Some variable) = VariableIsThere inside 0 variable

-- the target of an effect
abbrev pub target_in : EffectTree → Option VariableTree
target_in Skips = None
target_in Suspends = None
target_in (Awaits slots) = None
target_in Chooses = None
target_in Returns = None
target_in Prints = None
target_in (Clears target) = Some target
target_in (Stores target) = target
target_in (Makes mode class target) = target
target_in (Sends method target) = target
target_in (CallsOwn method target) = target
target_in (CallsOther method slot target) = target
target_in (Gets slot target) = target

-- the target of a right side is the one that is given
side_target : (inside : Inside) (side : SideTree) (target : Option VariableTree) → MaybeThere inside target
    → MaybeThere inside (target_in (side_effect side target))
side_target inside (NewOf place mode class_place class arguments) target is = is
side_target inside (ValueOf place (OwnCallOf at method arguments)) target is = is
side_target inside (ValueOf place value) target is = is
side_target inside (SendOf place method operands) target is = is
side_target inside (GetOf place get_place future) target is = is
side_target inside (CallOf place method NoExpr slot) target is = is
side_target inside (CallOf place method (NextExpr receiver arguments) slot) target is = by_this (is_this receiver)
  where
    by_this : (own : Bool)
        → MaybeThere inside (target_in (if own then CallsOwn method target else CallsOther method slot target))
    by_this true = is
    by_this false = is

-- the variable of a target is there
variable_there : (inside : Inside) (target : TargetTree) → TargetIsThere inside target
    → MaybeThere inside (Some (target_variable target))
variable_there inside (ToVariable place variable) is = is
variable_there inside (ToField place name_place name) is = absurd is

-- the target of a statement is there
pub effect_target : (inside : Inside) (statement : Statement) → StatementIsThere inside statement
    → MaybeThere inside (target_in (effect_of statement))
effect_target inside (DeclareOf index place type variable_place variable NoSide) is = is.1
effect_target inside (DeclareOf index place type variable_place variable (SomeSide side)) is =
    side_target inside side (Some variable) is.1
effect_target inside (AssignOf index place target side) is =
    side_target inside side (Some (target_variable target)) (variable_there inside target is.0)
effect_target inside (DoOf index place side) is = side_target inside side None tt
effect_target inside (BlockOf place block) is = tt
effect_target inside (SkipOf index place) is = tt
effect_target inside (SuspendOf index place) is = tt
effect_target inside (AwaitOf index place guard) is = tt
effect_target inside (ReturnOf index place value) is = tt
effect_target inside (PrintOf index place value) is = tt
effect_target inside (IfOf index place condition first second) is = tt
effect_target inside (WhileOf index place condition body) is = tt

-- a variable that is there is a target in the frame
pub target_there : (inside : Inside) (target : Option VariableTree) (config : Configuration) (frame : FrameState)
    → MaybeThere inside target → inside.slots ≡ length frame.slots
    → inside.fields ≡ length (fields_of (object_at config frame.object))
    → TargetIsIn config (Some frame) (target_of target)
target_there inside None config frame is slots fields = tt
target_there inside (Some (AtSlot slot)) config frame is slots fields = omega (arith, is, slots)
target_there inside (Some (AtField field)) config frame is slots fields = omega (arith, is, fields)
target_there inside (Some (AtBound depth)) config frame is slots fields = tt
target_there inside (Some (Unresolved name)) config frame is slots fields = tt

-- A statement that makes an object evaluates as many expressions as the class takes arguments.
abbrev TakesArguments : Inside → EffectTree → ExprTrees → Type 0
TakesArguments inside (Makes mode class target) expr_trees =
    option_map (λ (c : Taking). c.arity) (meaning_of inside.spaces.classes class) ≡ Some (count_exprs expr_trees)
TakesArguments inside _ expr_trees = ⊤

-- a right side does so
side_takes : (inside : Inside) (side : SideTree) (target : Option VariableTree) → SideIsThere inside side
    → TakesArguments inside (side_effect side target) (side_expr_trees side)
side_takes inside (NewOf place mode class_place class arguments) target is = is.0
side_takes inside (ValueOf place (OwnCallOf at method arguments)) target is = tt
side_takes inside (ValueOf place value) target is = tt
side_takes inside (SendOf place method operands) target is = tt
side_takes inside (GetOf place get_place future) target is = tt
side_takes inside (CallOf place method NoExpr slot) target is = tt
side_takes inside (CallOf place method (NextExpr receiver arguments) slot) target is = by_this (is_this receiver)
  where
    by_this : (own : Bool)
        → TakesArguments inside (if own then CallsOwn method target else CallsOther method slot target)
        (if own then arguments else NextExpr receiver arguments)
    by_this true = tt
    by_this false = tt

-- a statement does so
statement_takes : (inside : Inside) (statement : Statement) → StatementIsThere inside statement
    → TakesArguments inside (effect_of statement) (expr_trees_of statement)
statement_takes inside (DeclareOf index place type variable_place variable NoSide) is = tt
statement_takes inside (DeclareOf index place type variable_place variable (SomeSide side)) is =
    side_takes inside side (Some variable) is.2
statement_takes inside (AssignOf index place target side) is =
    side_takes inside side (Some (target_variable target)) is.1
statement_takes inside (DoOf index place side) is = side_takes inside side None is
statement_takes inside (BlockOf place block) is = tt
statement_takes inside (SkipOf index place) is = tt
statement_takes inside (SuspendOf index place) is = tt
statement_takes inside (AwaitOf index place guard) is = tt
statement_takes inside (ReturnOf index place value) is = tt
statement_takes inside (PrintOf index place value) is = tt
statement_takes inside (IfOf index place condition first second) is = tt
statement_takes inside (WhileOf index place condition body) is = tt

-- the values of expressions and of initial values are as many as these
results_count : (library : Library) (scope : Scope) (expr_trees initials : ExprTrees) (values : List ValueTree)
    → results_of library scope expr_trees initials ≡ AllGive values
    → length values ≡ count_exprs expr_trees + count_exprs initials
results_count library scope expr_trees initials values gives =
    let given = (results_of-gives library scope expr_trees initials values).0 gives in
    omega (
      arith,
      IfAllGive-at (outcomes_of (evaluate library scope level_limit) expr_trees 0).results
          (λ found. length found ≡ count_exprs expr_trees) given.own (ap (λ found. found.results) given.own_given)
          (outcomes_of-count (evaluate library scope level_limit) expr_trees 0),
      IfAllGive-at (initial_outcomes library initials given.own given.made).results
          (λ found. length found ≡ length given.own + count_exprs initials) values given.all_given
          (initial_outcomes-count library initials given.own given.made),
    )

-- the values of `new` are as many as the fields of its class
pub made_as_many : (program : ProgramTree) (config : Configuration) (frame : FrameState) (point : Point) (mode : Mode)
    (class : Name) (target : Option VariableTree) (entry : ClassEntryTree) (values : List ValueTree)
    → CanUse program config frame.object (length frame.slots) point.statement
    → effect_of point.statement ≡ Makes mode class target → class_taking program class ≡ Some entry
    → results_of (library_of program) (scope_of config frame) (expr_trees_of point.statement)
    (initials_for program (effect_of point.statement)) ≡ AllGive values
    → length values ≡ entry.params + count_exprs entry.initials
made_as_many program config frame point mode class target entry values can makes taking gives =
    let takes : option_map (λ (c : Taking). c.arity) (meaning_of can.inside.spaces.classes class)
    ≡ Some (count_exprs (expr_trees_of point.statement)) =
    subst (λ (effect : EffectTree). TakesArguments can.inside effect (expr_trees_of point.statement)) makes
    (statement_takes can.inside point.statement can.there) in
    let as_many = class_takes_arguments program class entry (count_exprs (expr_trees_of point.statement)) taking
    (subst (λ (spaces : NameSpaces). option_map (λ (c : Taking). c.arity) (meaning_of spaces.classes class)
    ≡ Some (count_exprs (expr_trees_of point.statement))) can.spaces_are takes) in
    let initials : initials_for program (effect_of point.statement) ≡ entry.initials =
    ap (initials_for program) makes ∙ ap initials_of taking in
    omega (
      arith,
      as_many,
      ap count_exprs initials,
      results_count (library_of program) (scope_of config frame)
          (expr_trees_of point.statement) (initials_for program (effect_of point.statement)) values gives,
    )

-- A name of a guard is a slot that holds a future.
abbrev pub HoldsFuture : List ValueTree → Option ℕ → Type 0
HoldsFuture slots name =
    (slot : ℕ) × (future : ℕ) × (name ≡ Some slot) × (slice_get slots slot ≡ Some (FutureValue future))

-- a part of a guard without a fault holds a future
part_holds : (config : Configuration) (slots : List ValueTree) (name : Option ℕ)
    → ((cause : Fault) → guard_by_value config (named_value slots name) ≢ Faulty cause) → HoldsFuture slots name
part_holds config slots name never = by_value (named_value slots name) refl never
  where
    by_name : (name : Option ℕ) (future : ℕ) → named_value slots name ≡ Some (FutureValue future)
        → HoldsFuture slots name
    by_name None future is = absurd cc
    by_name (Some slot) future is = (slot, future, refl, is)

    by_value : (value : Option ValueTree) → named_value slots name ≡ value
        → ((cause : Fault) → guard_by_value config value ≢ Faulty cause) → HoldsFuture slots name
    by_value (Some (FutureValue future)) is never = by_name name future is
    by_value (Some NullValue) is never = absurd (never fault.Null refl)
    by_value _ is never = absurd (never fault.Mistyped refl)

-- a fault of the rest of a guard is not lost
rest_faulty : (one rest : Guard) (cause : Fault) → rest ≡ Faulty cause
    → (other : Fault) × (guard_before one rest ≡ Faulty other)
rest_faulty (Faulty first) rest cause is = (first, refl)
rest_faulty Waits rest cause is = (cause, rw is refl)
rest_faulty Resolved rest cause is = (cause, is)

-- each name of a guard without a fault is a slot that holds a future
pub guard_holds : (config : Configuration) (slots : List ValueTree) (names : List (Option ℕ))
    → ((cause : Fault) → guard_of config slots names ≢ Faulty cause)
    → Each names (λ index name. HoldsFuture slots name)
guard_holds config slots [] never = Each-none _
guard_holds config slots (first ∷ others) never =
    Each-more _ first others (part_holds config slots first (λ cause is. never cause (rw is refl)))
    (guard_holds config slots others (λ cause is. let found = rest_faulty
    (guard_by_value config (named_value slots first)) (guard_of config slots others) cause is in never found.0 found.1))
