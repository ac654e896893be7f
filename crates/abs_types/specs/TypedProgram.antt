-- Programs that are well typed.
--
--   `IsTypedFunction`, `IsTypedInterface`, `IsTypedClass`      declarations
--   `IsTypedProgram`                                           a program
use Rattle.std.specs.Prelude.{◌≡◌, ⊤, ℕ, ◌+◌, true, false, List, [], ◌∷◌, ◌++◌}
use Rattle.abs_tree.specs.Syntax.{Name, MaybeExpr, NoValue, Value, ExprTree, SignatureTree, MemberTree, FieldTree, MethodTree, DeclTree, FunctionTree, InterfaceTree, ClassTree, SourceTree, Statements}
use Rattle.abs_types.specs.HasType.{HasType}
use Rattle.abs_types.specs.InterfacesMet.{agrees, meets_interfaces}
use Rattle.abs_types.specs.IsTyped.{AreTyped}
use Rattle.abs_types.specs.PlainTypes.{PlainType, plain}
use Rattle.abs_types.specs.Schemes.{param_types}
use Rattle.abs_types.specs.StatementOffences.{can_be_null}
use Rattle.abs_types.specs.Subtyping.{Fits}
use Rattle.abs_types.specs.TypeOffences.{ends_well, field_types, main_frame, method_frame, value_frame}
use Rattle.abs_types.specs.Typing.{Frame}

-- An expression has a type that fits the type that is asked for.
pub record FitsType (declarations : List DeclTree) (frame : Frame) (value : ExprTree) (asked : PlainType) : Type 0 where
  pub given : PlainType
  pub has_type : HasType declarations frame [] value given
  pub fits_it : Fits declarations given asked

-- the value of a function fits its result type
abbrev pub IsTypedFunction : List DeclTree → DeclTree → Type 0
IsTypedFunction declarations (FunctionTree place result name type_params params value) =
    FitsType declarations (value_frame (param_types params)) value (plain result)
IsTypedFunction declarations _ = ⊤

-- methods of one name in an interface have the same types
abbrev pub IsTypedInterface : List DeclTree → ℕ → DeclTree → Type 0
IsTypedInterface declarations index (InterfaceTree place name extended signatures) =
    agrees declarations index signatures ≡ true
IsTypedInterface declarations index _ = ⊤

-- the value of a field fits its type; without one the type has `null`
abbrev pub IsTypedField : List DeclTree → List PlainType → PlainType → MaybeExpr → Type 0
IsTypedField declarations types type NoValue = can_be_null type ≡ true
IsTypedField declarations types type (Value value) = FitsType declarations (value_frame types) value type

-- The statements of a method are well typed, and it ends as it is to.
pub record IsTypedMethod (declarations : List DeclTree) (class : Name) (fields : List PlainType)
    (signature : SignatureTree) (body : Statements) : Type 0 where
  pub body_is : AreTyped declarations (method_frame class fields signature body) true body
  pub ends : ends_well (plain signature.result) body ≡ true

-- the members of a class are well typed, after its parameters and fields of the types `known`
abbrev pub AreTypedMembers : List DeclTree → Name → List PlainType → List PlainType → List MemberTree → Type 0
AreTypedMembers declarations class fields known [] = ⊤
AreTypedMembers declarations class fields known (FieldTree type name initial ∷ others) =
    IsTypedField declarations known (plain type) initial
    × AreTypedMembers declarations class fields (known ++ plain type ∷ []) others
AreTypedMembers declarations class fields known (MethodTree signature end body ∷ others) =
    IsTypedMethod declarations class fields signature body
    × AreTypedMembers declarations class fields known others

-- a class has the methods of the interfaces above it, and its members are well typed
abbrev pub IsTypedClass : List DeclTree → ℕ → DeclTree → Type 0
IsTypedClass declarations index (ClassTree place name params implemented members) =
    (meets_interfaces declarations index members ≡ true)
    × AreTypedMembers declarations name.name (param_types params ++ field_types members) (param_types params) members
IsTypedClass declarations index _ = ⊤

-- declarations, the first of which has this index
abbrev pub AreTypedFunctions : List DeclTree → List DeclTree → Type 0
AreTypedFunctions declarations [] = ⊤
AreTypedFunctions declarations (first ∷ others) =
    IsTypedFunction declarations first × AreTypedFunctions declarations others

abbrev pub AreTypedInterfaces : List DeclTree → ℕ → List DeclTree → Type 0
AreTypedInterfaces declarations index [] = ⊤
AreTypedInterfaces declarations index (first ∷ others) =
    IsTypedInterface declarations index first × AreTypedInterfaces declarations (1 + index) others

abbrev pub AreTypedClasses : List DeclTree → ℕ → List DeclTree → Type 0
AreTypedClasses declarations index [] = ⊤
AreTypedClasses declarations index (first ∷ others) =
    IsTypedClass declarations index first × AreTypedClasses declarations (1 + index) others

-- A program is well typed.
pub record IsTypedProgram (source : SourceTree) : Type 0 where
  pub functions : AreTypedFunctions source.declarations source.declarations
  pub interfaces : AreTypedInterfaces source.declarations 0 source.declarations
  pub classes : AreTypedClasses source.declarations 0 source.declarations
  pub main_is : AreTyped source.declarations (main_frame source.main) false source.main
