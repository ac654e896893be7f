-- Contracts of classes, as the code gathers them. These words serve contracts of this crate alone.
--
--   `class_start`, `method_start`          the index of the first statement of a class, and of a member
--   `method_body`, `method_of_class`       the body of a method, and what is known in it
--   `IsClassThere`, `IsInClass`            a class is at an index, and a checker has entered it
--   `contract_at`, `calls_at`              the contract of a member, and what it calls on `this`
--   `AreMethodsSoFar`                      these are the contracts of the first members of a class
--   `IsDeclarationContract`                these are the contracts of a declaration, if it is a class
--   `IsGathered`                           the same, with the index of the first statement after it
--   `AreClassesSoFar`                      these are those of the first declarations
use Rattle.std.specs.Prelude.{◌≡◌, ◌↔◌, ◌<◌, ◌||◌, ℕ, ◌+◌, true, List, [], Contains, get_or, length, map, nat_eq, slice_get, take, Option, Some}
use Rattle.abs_program.specs.ProgramBodies.{BodyAt}
use Rattle.abs_tree.specs.Syntax.{Name, TypeTree, Statements, ParamTree, DeclaredTree, SignatureTree, MemberTree, ClassTree, SourceTree}
use Rattle.abs_tree.specs.SyntaxSizes.{member_statements, decl_statements}
use Rattle.abs_tree.specs.declared.place.Place.{Place}
use Rattle.abs_types.specs.PlainTypes.{plain}
use Rattle.abs_types.specs.SlotTypes.{slot_types}
use Rattle.check_fun.specs.Contexts.{context_in}
use Rattle.check_fun.specs.declared.checker.Checker.{Checker}
use Rattle.contract_infer.specs.SettledRows.{rows_of}
use Rattle.contract_infer.specs.declared.classes.Declaration.{Declaration}
use Rattle.contract_infer.specs.declared.classes.Methods.{Methods}
use Rattle.contract_terms.specs.BodyContexts.{BodyContext, method_context}
use Rattle.contract_terms.specs.OwnCalls.{CallsOnThis, IsReached}
use Rattle.contract_terms.specs.ProgramTerms.{IsClassAt, IsMethodAt}
use Rattle.contract_terms.specs.Views.{MethodTree, class_if, method_if, methods_if, leads_in}
use Rattle.contract_terms.specs.declared.term.ClassTerms.{ClassTerms}

-- the index of the first statement of the class at an index, and of the member at an index of it
abbrev pub class_start : SourceTree → ℕ → ℕ
class_start source class = decl_statements (take class source.declarations)

abbrev pub method_start : SourceTree → ℕ → List MemberTree → ℕ → ℕ
method_start source class members member = class_start source class + member_statements (take member members)

-- a method with its first statement
abbrev pub method_body : ℕ → SignatureTree → Statements → BodyAt
method_body first signature statements =
    record { index = first; params = length signature.params; statements = statements }

-- what is known in the body of a method of a class with a name and fields of these types
abbrev pub method_of_class : ℕ → Name → List TypeTree → ℕ → SignatureTree → Statements → BodyContext
method_of_class class name fields first signature statements = record {
  body = method_body first signature statements;
  slots = slot_types signature.params statements;
  fields = fields;
  class = Some class;
  this = Some name;
  result = Some signature.result;
}

-- The declaration at an index is a class with this name, these parameters and these members.
pub record IsClassThere (source : SourceTree) (class : ℕ) (name : Name) (params : List ParamTree)
    (members : List MemberTree) : Type 0 where
  pub place : Place
  pub declared : DeclaredTree
  pub implemented : List DeclaredTree
  pub named : declared.name ≡ name
  pub there : slice_get source.declarations class ≡ Some (ClassTree place declared params implemented members)

-- A checker has entered a class with a name and fields of these types.
pub record IsInClass (checker : Checker) (name : Name) (fields : List TypeTree) : Type 0 where
  pub fields_are : (context_in checker).frame.fields ≡ map plain fields
  pub this_is : (context_in checker).frame.this ≡ Some name

-- the contract of a member, if it has one, and what it calls on `this`
abbrev pub contract_at : List Name → Methods → ℕ → Option MethodTree
contract_at names methods member = method_if names (slice_get methods.contracts.items member)

abbrev pub calls_at : Methods → ℕ → List ℕ
calls_at methods member = get_or (rows_of methods.calls.items) member []

-- These are the contracts of the first members of a class, of which there are this many, and what they call on `this`.
pub record AreMethodsSoFar (source : SourceTree) (names : List Name) (class : ℕ) (members : List MemberTree)
    (passed : ℕ) (methods : Methods) : Type 0 where
  pub count : length methods.contracts.items ≡ passed
  pub calls_count : length methods.calls.items ≡ passed
  pub next : methods.next ≡ method_start source class members passed
  pub contracts : (member : ℕ) → member < passed
      → IsMethodAt source (method_context source.declarations class member) (contract_at names methods member)
  pub calls : (member : ℕ) → member < passed → (other : ℕ)
      → Contains (calls_at methods member) other ↔ CallsOnThis source class member other

-- What is found of the declaration at an index is its contracts, if it is a class, and else nothing.
pub record IsDeclarationContract (source : SourceTree) (names : List Name) (class : ℕ)
    (found : Option (Option ClassTerms)) : Type 0 where
  pub contract : IsClassAt source (slice_get source.declarations class) (class_if names found)
  pub methods : (member : ℕ)
      → IsMethodAt source (method_context source.declarations class member) (methods_if names found member)
  pub reached : (one other : ℕ) → ((nat_eq one other || leads_in one other found) ≡ true)
      ↔ IsReached source class one other

-- These are the contracts of the declaration at an index, and the index of the first statement after it.
pub record IsGathered (source : SourceTree) (names : List Name) (class : ℕ) (gathered : Declaration) : Type 0 where
  pub contract : IsDeclarationContract source names class (Some gathered.found)
  pub next : class_start source (class + 1) ≡ gathered.next

-- These are the contracts of the first declarations, of which there are this many.
pub record AreClassesSoFar (source : SourceTree) (names : List Name) (passed : ℕ) (classes : List (Option ClassTerms))
    : Type 0 where
  pub count : length classes ≡ passed
  pub each : (class : ℕ) → class < passed → IsDeclarationContract source names class (slice_get classes class)
