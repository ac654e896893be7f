-- The bodies of a program: its main block, and the methods of its classes.
--
--   `BodyAt`, `entry_of_body`          a body with the index of its first statement, and where it begins
--   `main_body`                        the main block
--   `member_body`, `class_body`        the method at an index among members, and of the class at an index
--   `IsBodyOf`                         a body is one of a program
--   `IsStatementOf`                    the index is that of a statement of a body
use Rattle.std.specs.Prelude.{◌≡◌, ◌<◌, ◌≤◌, ℕ, zero, suc, ◌+◌, List, [], ◌∷◌, length, Option, Some, None}
use Rattle.abs_program.specs.Bodies.{body_entry}
use Rattle.abs_tree.specs.Syntax.{Statements, MemberTree, FieldTree, MethodTree, DeclTree, ClassTree, SourceTree}
use Rattle.abs_tree.specs.SyntaxSizes.{statement_count, member_statements, decl_statements}
use Rattle.abs_program.specs.declared.tables.control.BodyEntry.{BodyEntry}

-- a body: the index of its first statement, how many parameters it has, and its statements
pub record BodyAt : Type 0 where
  pub index : ℕ
  pub params : ℕ
  pub statements : Statements

-- where it begins, and how many slots it has
abbrev pub entry_of_body : BodyAt → BodyEntry
entry_of_body body = body_entry body.index body.params body.statements

-- the body of the main block, whose statements come after those of the declarations
abbrev pub main_body : SourceTree → BodyAt
main_body program = record {
  index = decl_statements program.declarations;
  params = 0;
  statements = program.main;
}

-- the body of the method at an index among members, whose statements have indices from this one on
abbrev pub member_body : ℕ → List MemberTree → ℕ → Option BodyAt
member_body index [] member = None
member_body index (MethodTree signature end body ∷ others) zero =
    Some (record { index = index; params = length signature.params; statements = body })
member_body index (FieldTree type name initial ∷ others) zero = None
member_body index (first ∷ others) (suc member) = member_body (index + member_statements (first ∷ [])) others member

-- the body of the method at an index of the class at an index of declarations
abbrev pub class_body : ℕ → List DeclTree → ℕ → ℕ → Option BodyAt
class_body index [] class member = None
class_body index (ClassTree place name params implemented members ∷ others) zero member =
    member_body index members member
class_body index (_ ∷ others) zero member = None
class_body index (first ∷ others) (suc class) member =
    class_body (index + decl_statements (first ∷ [])) others class member

-- A body of a program: that of the main block, or that of a method of a class.
pub data IsBodyOf (program : SourceTree) (body : BodyAt) : Type 0 where
  OfMain : body ≡ main_body program → IsBodyOf program body
  OfMethod : (class member : ℕ) → class_body 0 program.declarations class member ≡ Some body → IsBodyOf program body

-- The index is that of a statement of the body.
pub record IsStatementOf (body : BodyAt) (index : ℕ) : Type 0 where
  pub after_start : body.index ≤ index
  pub before_end : index < body.index + statement_count body.statements
