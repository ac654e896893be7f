-- The bodies that tasks and frames of a kind execute, and their statements.
--
--   `Class`                        what a class of a program declares, by the name of the class
--   `MethodBody`, `KindBody`       a body of a method of an object with a sign, and a body of a kind
--   `KindStatement`                a statement of a kind
--   `new_sign`, `called`           the sign of a new object, and the kind of a method that is called by its name
use Rattle.std.specs.Prelude.{◌≡◌, ℕ, List, Contains, Some, slice_get}
use Rattle.abs_program.specs.Control.{Point, program_points}
use Rattle.abs_program.specs.Members.{method_of}
use Rattle.abs_program.specs.NameSpaces.{spaces_of}
use Rattle.abs_program.specs.ProgramBodies.{IsStatementOf}
use Rattle.abs_program.specs.Tables.{meaning_of}
use Rattle.abs_program.specs.declared.name_spaces.Taking.{Taking}
use Rattle.abs_tree.specs.Names.{name_of, number_of_name}
use Rattle.abs_tree.specs.Syntax.{Name, ParamTree, MemberTree, DeclTree, ClassTree, ProgramTree}
use Rattle.abs_tree.specs.Syntax as syntax
use Rattle.abs_tree.specs.declared.place.Place.{Place}
use Rattle.abs_tree.specs.declared.symbol.Symbol.{Symbol}
use Rattle.abs_tree.specs.declared.syntax.statement.Mode.{Mode}
use Rattle.abs_tree.specs.declared.syntax.statement.Mode.TheVariants as mode
use Rattle.contract_terms.specs.BodyContexts.{BodyContext, main_context, method_context}
use Rattle.contract_terms.specs.Made.{classes_made}
use Rattle.name_bounding.specs.Names.{bound_name, cog_of}
use Rattle.name_bounding.specs.declared.kind.Kind.{Kind}
use Rattle.name_bounding.specs.declared.kind.Kind.TheVariants.{Main, Method}
use Rattle.name_bounding.specs.declared.kind.Sign.{Sign}

-- The class with this name has these parameters and these members.
pub record Class (declarations : List DeclTree) (name : Name) (params : List ParamTree) (members : List MemberTree)
    : Type 0 where
  pub taking : Taking
  pub named : meaning_of (spaces_of declarations).classes name ≡ Some taking
  pub place : Place
  pub own : syntax.DeclaredTree
  pub implemented : List syntax.DeclaredTree
  pub there : slice_get declarations taking.declaration ≡ Some (ClassTree place own params implemented members)

-- The method with this name of a class of which objects are made at this place has this body.
pub record MethodBody (program : ProgramTree) (place : ℕ) (method : Name) (context : BodyContext) : Type 0 where
  pub class : Name
  pub made : Contains (classes_made program.source place) class
  pub taking : Taking
  pub named : meaning_of (spaces_of program.source.declarations).classes class ≡ Some taking
  pub member : ℕ
  pub found : method_of program.source.declarations taking.declaration method ≡ Some member
  pub body_is : method_context program.source.declarations taking.declaration member ≡ Some context

-- A body of a kind: that of main is the main block, and that of a sign and a method is that of this method.
pub data KindBody (program : ProgramTree) : Kind → BodyContext → Type 0 where
  of_main : KindBody program Main (main_context program.source)
  of_method : (sign : Sign) (method : Symbol) (context : BodyContext)
      → MethodBody program sign.place (name_of program.names method) context
      → KindBody program (Method sign method) context

-- The statement with this index is one of a body of the kind.
pub record KindStatement (program : ProgramTree) (kind : Kind) (index : ℕ) : Type 0 where
  pub context : BodyContext
  pub body_is : KindBody program kind context
  pub inside : IsStatementOf context.body index
  pub point : Point
  pub there : slice_get (program_points program.source) index ≡ Some point

-- The sign of an object that a statement at a place makes in a task of a kind. For `new cog` its cog is a new one, and
-- else that of the task.
abbrev pub new_sign : ℕ → ℕ → Mode → Kind → Sign
new_sign depth place mode.Cog kind = record { place = place; cog = bound_name depth place (cog_of kind) }
new_sign depth place _ kind = record { place = place; cog = cog_of kind }

-- the kind of a method that is called by its name on an object with this sign
abbrev pub called : List Name → Sign → Name → Kind
called names sign method = Method sign (record { 0 = number_of_name names method })
