-- The values of a statement fit what the statement does with them.
--
--   `TargetTakes`              a target in a frame takes a type
--   `HoldsFuture`              a slot that is named holds a future of values of a type, or null
--   `ValuesFit`                the values of a statement fit, by its effect
--   `HasStaticType`            an expression has a type in the body around it
use Rattle.std.specs.Prelude.{◌≡◌, ⊤, ℕ, true, List, [], ◌∷◌, ◌++◌, slice_get, Option, Some}
use Rattle.abs_program.specs.Instructions.{EffectTree, Skips, Suspends, Awaits, Chooses, Returns, Prints, Clears, Stores, Makes, Sends, CallsOwn, CallsOther, Gets}
use Rattle.abs_tree.specs.Syntax.{Name, VariableTree, ExprTree, ProgramTree}
use Rattle.abs_types.specs.HasType.{HasType}
use Rattle.abs_types.specs.Methods.{call_type}
use Rattle.abs_types.specs.MoreSlots.{SeesMore}
use Rattle.abs_types.specs.OperatorTypes.{bool_type}
use Rattle.abs_types.specs.PlainTypes.{PlainType, PlainString, PlainFut, PlainClass}
use Rattle.abs_types.specs.SideTypes.{class_takes}
use Rattle.abs_types.specs.Subtyping.{fits}
use Rattle.abs_types.specs.Typing.{Frame}
use Rattle.abs_values.specs.ValueTrees.{ValueTree, NullValue}
use Rattle.config_state.specs.Configurations.{FrameState, Each}
use Rattle.step_rules.specs.Targets.{target_of}
use Rattle.type_sound.specs.Routines.{Routine, fields_of_class}
use Rattle.type_sound.specs.Values.{World, ValueHas, AllHave}
use Rattle.type_sound.specs.WellTyped.{target_type_in}

-- the type that the target of a statement takes, if it takes one, is one that this type fits
abbrev pub TargetTakes : ProgramTree → Routine → Option VariableTree → PlainType → Type 0
TargetTakes program routine target given = (asked : PlainType)
    → target_type_in routine (target_of target) ≡ Some asked → fits program.source.declarations given asked ≡ true

-- The slot that is named holds a value of the type `Fut` of this type.
pub record HoldsFuture (program : ProgramTree) (world : World) (slots : List ValueTree) (name : Option ℕ)
    (type : PlainType) : Type 0 where
  pub slot : ℕ
  pub name_is : name ≡ Some slot
  pub value : ValueTree
  pub there : slice_get slots slot ≡ Some value
  pub has : ValueHas program world value (PlainFut type)

-- One value of a type.
pub record IsOneValue (program : ProgramTree) (world : World) (values : List ValueTree) (type : PlainType) : Type 0
  where
    pub value : ValueTree
    pub values_are : values ≡ value ∷ []
    pub has : ValueHas program world value type

-- One value, whose type its target takes.
pub record IsStored (program : ProgramTree) (world : World) (routine : Routine) (values : List ValueTree)
    (target : Option VariableTree) : Type 0 where
  pub type : PlainType
  pub one : IsOneValue program world values type
  pub takes : TargetTakes program routine target type

-- The values of a new object: those of the arguments have the types that the class takes, and the initial values those
-- of the other fields. The target takes an object of the class.
pub record IsFilled (program : ProgramTree) (world : World) (routine : Routine) (values : List ValueTree) (class : Name)
    (target : Option VariableTree) : Type 0 where
  pub taken : List PlainType
  pub others : List PlainType
  pub class_takes_them : class_takes program.source.declarations class ≡ Some taken
  pub fields_are : fields_of_class program class ≡ taken ++ others
  pub have : AllHave program world values (taken ++ others)
  pub takes : TargetTakes program routine target (PlainClass class)

-- A call: the values of the arguments have types for which the method, looked for in the type of the receiver, gives
-- this type.
pub record IsCall (program : ProgramTree) (world : World) (arguments : List ValueTree) (receiver : PlainType)
    (method : Name) (type : PlainType) : Type 0 where
  pub given : List PlainType
  pub have : AllHave program world arguments given
  pub gives : call_type program.source.declarations receiver method given ≡ Some type

-- A call by "!": the receiver comes before the arguments, and has its type. The target takes a future of what the method
-- gives.
pub record IsSent (program : ProgramTree) (world : World) (routine : Routine) (values : List ValueTree) (method : Name)
    (target : Option VariableTree) : Type 0 where
  pub receiver : PlainType
  pub object : ValueTree
  pub arguments : List ValueTree
  pub values_are : values ≡ object ∷ arguments
  pub has : ValueHas program world object receiver
  pub type : PlainType
  pub call : IsCall program world arguments receiver method type
  pub takes : TargetTakes program routine target (PlainFut type)

-- A call on `this`: the target takes what the method gives.
pub record IsOwnCall (program : ProgramTree) (world : World) (routine : Routine) (values : List ValueTree)
    (method : Name) (target : Option VariableTree) : Type 0 where
  pub class : Name
  pub this_is : routine.start.this ≡ Some class
  pub type : PlainType
  pub call : IsCall program world values (PlainClass class) method type
  pub takes : TargetTakes program routine target type

-- A `get`: the target takes the value of the future.
pub record IsGot (program : ProgramTree) (world : World) (routine : Routine) (slots : List ValueTree) (name : Option ℕ)
    (target : Option VariableTree) : Type 0 where
  pub type : PlainType
  pub future : HoldsFuture program world slots name type
  pub takes : TargetTakes program routine target type

-- The values of a statement fit, by its effect: a condition is a Bool, a printed value a string, and what is returned
-- has the result type. What is stored, made, got or given by a call has a type that its target takes. A local without a
-- value can be null. Each part of a guard is a future or null. A call by "." on another receiver than `this` is in no
-- accepted program.
abbrev pub ValuesFit : ProgramTree → World → Routine → FrameState → EffectTree → List ValueTree → Type 0
ValuesFit program world routine frame Skips values = ⊤
ValuesFit program world routine frame Suspends values = ⊤
ValuesFit program world routine frame (Awaits names) values =
    Each names (λ index name. (type : PlainType) × HoldsFuture program world frame.slots name type)
ValuesFit program world routine frame Chooses values = IsOneValue program world values bool_type
ValuesFit program world routine frame Returns values = IsOneValue program world values routine.result
ValuesFit program world routine frame Prints values = IsOneValue program world values PlainString
ValuesFit program world routine frame (Clears target) values =
    (type : PlainType) → target_type_in routine (target_of (Some target)) ≡ Some type
    → ValueHas program world NullValue type
ValuesFit program world routine frame (Stores target) values = IsStored program world routine values target
ValuesFit program world routine frame (Makes mode class target) values =
    IsFilled program world routine values class target
ValuesFit program world routine frame (Sends method target) values = IsSent program world routine values method target
ValuesFit program world routine frame (CallsOwn method target) values =
    IsOwnCall program world routine values method target
ValuesFit program world routine frame (CallsOther method slot target) values = ⊥
ValuesFit program world routine frame (Gets slot target) values =
    IsGot program world routine frame.slots slot target

-- The expression has this type in a frame that sees no more slots than those of the body. Where it sees all of them, the
-- expression has the same type.
pub record HasStaticType (program : ProgramTree) (routine : Routine) (expr_tree : ExprTree) (type : PlainType) : Type 0
  where
    pub frame : Frame
    pub narrower : SeesMore frame (record routine.start { slots = routine.slots })
    pub has_type : HasType program.source.declarations frame [] expr_tree type
