-- The bodies of a program, and what is known of its classes.
--
--   `BodyEntry`                            where a body begins, how many slots it has, and how many parameters
--   `body_entry`, `main_entry`             that of a body whose statements have indices from some one on, and of main
--   `method_entry`                         that of the method at an index of the class at an index
--   `ClassEntryTree`, `class_entry`        what a new object of a class takes
--   `initials_among`, `run_among`          the initial values of fields, and the method that runs at once
use Rattle.std.specs.Prelude.{ℕ, zero, suc, ◌+◌, nat_eq, Bool, false, ◌&&◌, List, [], ◌∷◌, codes, length, slice_get, Option, Some, None, option_and_then, if◌then◌else◌}
use Rattle.std.specs.Str.{bytes_eq}
use Rattle.abs_program.specs.Control.{entry}
use Rattle.abs_program.specs.Members.{method_among}
use Rattle.abs_program.specs.Slots.{body_slots}
use Rattle.abs_tree.specs.Syntax.{TypeTree, DataType, NoType, ExprTree, NullOf, ExprTrees, NoExpr, NextExpr, Statements, MaybeExpr, NoValue, Value, DeclaredTree, MemberTree, FieldTree, MethodTree, DeclTree, ClassTree, SourceTree}
use Rattle.abs_tree.specs.SyntaxSizes.{member_statements, decl_statements}
use Rattle.abs_program.specs.declared.tables.control.BodyEntry.{BodyEntry}

-- the entry of a body with so many parameters, whose statements have indices from this one on
abbrev pub body_entry : ℕ → ℕ → Statements → BodyEntry
body_entry index params body =
    record { first = entry index body None; slots = length (body_slots params body); params = params }

-- the entry of the main block
abbrev pub main_entry : SourceTree → BodyEntry
main_entry program = body_entry (decl_statements program.declarations) 0 program.main

-- the entry of the method at an index among members, whose statements have indices from this one on
abbrev pub member_entry : ℕ → List MemberTree → ℕ → Option BodyEntry
member_entry index [] member = None
member_entry index (MethodTree signature end body ∷ others) zero = Some (body_entry index (length signature.params) body)
member_entry index (FieldTree type name initial ∷ others) zero = None
member_entry index (first ∷ others) (suc member) =
    member_entry (index + member_statements (first ∷ [])) others member

-- the entry of the method at an index of the class at an index of declarations
abbrev pub entry_in_class : ℕ → List DeclTree → ℕ → ℕ → Option BodyEntry
entry_in_class index [] class member = None
entry_in_class index (ClassTree place name params implemented members ∷ others) zero member =
    member_entry index members member
entry_in_class index (_ ∷ others) zero member = None
entry_in_class index (first ∷ others) (suc class) member =
    entry_in_class (index + decl_statements (first ∷ [])) others class member

unfoldable pub method_entry : List DeclTree → ℕ → ℕ → Option BodyEntry
method_entry declarations class member = entry_in_class 0 declarations class member

-- an initial value; that of a field without one is `null`
abbrev pub initial_of : DeclaredTree → MaybeExpr → ExprTree
initial_of name NoValue = NullOf name.place
initial_of name (Value value) = value

-- the initial values of the fields among members, in their order
abbrev pub initials_among : List MemberTree → ExprTrees
initials_among [] = NoExpr
initials_among (FieldTree type name initial ∷ others) = NextExpr (initial_of name initial) (initials_among others)
initials_among (MethodTree signature end body ∷ others) = initials_among others

-- whether a type is Unit
abbrev pub is_unit : TypeTree → Bool
is_unit (DataType place name NoType) = bytes_eq name (codes "Unit")
is_unit _ = false

-- whether a member is a method without parameters whose result is Unit
abbrev pub starts_alone : MemberTree → Bool
starts_alone (MethodTree signature end body) = nat_eq (length signature.params) 0 && is_unit signature.result
starts_alone (FieldTree type name initial) = false

-- the index, if the member at it starts alone
abbrev pub if_alone : ℕ → Option MemberTree → Option ℕ
if_alone index (Some member) = if starts_alone member then Some index else None
if_alone index None = None

-- the index among members of the method `run`, if that starts alone: then the class is active
abbrev pub run_among : List MemberTree → Option ℕ
run_among members =
    option_and_then (λ index. if_alone index (slice_get members index)) (method_among 0 members (codes "run"))

-- what a new object of a class takes: how many parameters there are, the initial values of its other fields, and the
-- method that runs at once
pub record ClassEntryTree : Type 0 where
  pub params : ℕ
  pub initials : ExprTrees
  pub run : Option ℕ

-- what a new object of a declaration takes, if the declaration is a class
abbrev pub entry_of_class : DeclTree → Option ClassEntryTree
entry_of_class (ClassTree place name params implemented members) =
    Some (record { params = length params; initials = initials_among members; run = run_among members })
entry_of_class _ = None

-- what a new object of the declaration at an index takes, if that is a class
unfoldable pub class_entry : List DeclTree → ℕ → Option ClassEntryTree
class_entry declarations class = option_and_then entry_of_class (slice_get declarations class)
