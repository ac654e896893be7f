-- The contracts of a whole program.
--
--   `IsMethodContract`, `IsMethodAt`       the contract of a method, and what is at the index of a member
--   `IsClassContract`, `IsClassAt`         the contracts of a class, and what is at the index of a declaration
--   `AreTermsOf`                           the contracts of a program
use Rattle.std.specs.Prelude.{◌≡◌, ◌↔◌, ⊤, ℕ, true, List, map, slice_get, take, Option, Some, None}
use Rattle.abs_program.specs.Bodies.{initials_among}
use Rattle.abs_tree.specs.Syntax.{DeclTree, SourceTree, ProgramTree}
use Rattle.abs_tree.specs.Syntax as syntax
use Rattle.contract_terms.specs.Accepts.{accepts_in, accepts_of}
use Rattle.contract_terms.specs.BodyContexts.{BodyContext, class_types, main_context, method_context}
use Rattle.contract_terms.specs.Made.{classes_made}
use Rattle.contract_terms.specs.OwnCalls.{IsReached}
use Rattle.contract_terms.specs.Reading.{AreReads}
use Rattle.contract_terms.specs.Terms.{AreTerms}
use Rattle.contract_terms.specs.Views.{MethodTree, ClassTree, main_in, class_in, method_in, reached_in, made_in}
use Rattle.contract_terms.specs.declared.terms.Terms.{Terms}

-- The contract of a method. Its parameters are the first slots of its body.
pub record IsMethodContract (source : SourceTree) (context : BodyContext) (method : MethodTree) : Type 0 where
  pub params : method.params
      ≡ map (accepts_of source.declarations) (take context.body.params context.slots)
  pub result : method.result ≡ accepts_of source.declarations context.result
  pub terms : AreTerms source context method.terms

-- at the index of a member there is the contract of a method, or neither
abbrev pub IsMethodAt : SourceTree → Option BodyContext → Option MethodTree → Type 0
IsMethodAt source (Some context) (Some method) = IsMethodContract source context method
IsMethodAt source None None = ⊤
IsMethodAt source _ _ = ⊥

-- what the fields of a class let in, and what their initial values read
pub record IsClassContract (source : SourceTree) (params : List syntax.ParamTree) (members : List syntax.MemberTree)
    (class : ClassTree) : Type 0 where
  pub fields : class.fields ≡ map (accepts_in source.declarations) (class_types params members)
  pub initials : AreReads (initials_among members) class.initials

-- at the index of a declaration there are the contracts of a class, or neither
abbrev pub IsClassAt : SourceTree → Option DeclTree → Option ClassTree → Type 0
IsClassAt source (Some (syntax.ClassTree place name params implemented members)) (Some class) =
    IsClassContract source params members class
IsClassAt source (Some (syntax.ClassTree place name params implemented members)) None = ⊥
IsClassAt source _ None = ⊤
IsClassAt source _ (Some class) = ⊥

-- These are the contracts of a program: of main, of each class and of each method, by their indices; which methods are
-- reached by calls on `this`; and the classes made at each place.
pub record AreTermsOf (program : ProgramTree) (terms : Terms) : Type 0 where
  pub main : AreTerms program.source (main_context program.source) (main_in program.names terms)
  pub classes : (class : ℕ)
      → IsClassAt program.source (slice_get program.source.declarations class) (class_in program.names terms class)
  pub methods : (class member : ℕ)
      → IsMethodAt program.source (method_context program.source.declarations class member)
      (method_in program.names terms class member)
  pub reached : (class one other : ℕ) → (reached_in terms class one other ≡ true)
      ↔ IsReached program.source class one other
  pub made : (place : ℕ) → made_in program.names terms place ≡ classes_made program.source place
