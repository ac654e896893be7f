-- The methods of classes: the body that is found by the names of a class and of a method is that of a member of the
-- class with this name. In a well-typed program classes and their methods are well typed.
--
--   `IsMember`, `IsOfClass`                the method that a body is of, and the class that this is a member of
--   `body_is_of_class`                     they are found for each body of a class
--   `IsOfMethod`, `body_is_of_method`      the indices of the class and of the member that names mean
--   `class_name_is`                        the class that a name means has this name
--   `class_is_typed`, `method_is_typed`    a class of a well-typed program, and a method of it, are well typed
use Rattle.std.proofs.Common.{◌≡◌, ℕ, zero, suc, ◌+◌, List, [], ◌∷◌, ◌++◌, length, Option, Some, None, option_map, refl, sym, ap, ◌∙◌, subst, slice_get}
use Rattle.std.specs.Prelude.{⊤}
use Rattle.std.proofs.lemmas.Option.{none-some, same_Some, option_and_then_some}
use Rattle.abs_program.proofs.DeclaredLemmas.{class_is_declared}
use Rattle.abs_program.specs.Members.{method_of}
use Rattle.abs_program.specs.NameSpaces.{spaces_of}
use Rattle.abs_program.specs.ProgramBodies.{BodyAt, member_body, class_body}
use Rattle.abs_program.specs.Tables.{meaning_of}
use Rattle.abs_program.specs.declared.name_spaces.Taking.{Taking}
use Rattle.abs_tree.specs.Syntax.{Name, ParamTree, DeclaredTree, SignatureTree, MemberTree, FieldTree, MethodTree, DeclTree, DataTree, FunctionTree, InterfaceTree, ClassTree, Statements, ProgramTree}
use Rattle.abs_tree.specs.SyntaxSizes.{member_statements, decl_statements}
use Rattle.abs_tree.specs.declared.place.Place.{Place}
use Rattle.abs_types.specs.PlainTypes.{PlainType, plain}
use Rattle.abs_types.specs.TypedProgram.{IsTypedMethod, AreTypedMembers, IsTypedClass, AreTypedClasses}
use Rattle.config_state.specs.Bodies.{class_index, method_in_class, method_at}

-- The member that was found is the method with this body.
pub record IsMember (found : Option MemberTree) (body : BodyAt) : Type 0 where
  pub signature : SignatureTree
  pub end : Place
  pub is : found ≡ Some (MethodTree signature end body.statements)
  pub param_count : body.params ≡ length signature.params

-- The declaration that was found is a class, and the body is that of the method at this index of it.
pub record IsOfClass (found : Option DeclTree) (member : ℕ) (body : BodyAt) : Type 0 where
  pub place : Place
  pub name : DeclaredTree
  pub params : List ParamTree
  pub implemented : List DeclaredTree
  pub members : List MemberTree
  pub is : found ≡ Some (ClassTree place name params implemented members)
  pub method : IsMember (slice_get members member) body

-- a body at an index among members is that of the method there
body_is_of_member : (index : ℕ) (members : List MemberTree) (member : ℕ) (body : BodyAt)
    → member_body index members member ≡ Some body → IsMember (slice_get members member) body
body_is_of_member index [] member body is = absurd (none-some body is)
body_is_of_member index (MethodTree signature end statements ∷ others) zero body is =
    let same = same_Some _ body is in
    record {
      signature = signature;
      end = end;
      is = ap (λ (one : BodyAt). Some (MethodTree signature end one.statements)) same;
      param_count = sym (ap (λ (one : BodyAt). one.params) same);
    }
body_is_of_member index (FieldTree type name initial ∷ others) zero body is = absurd (none-some body is)
body_is_of_member index (MethodTree signature end statements ∷ others) (suc member) body is =
    body_is_of_member (index + member_statements (MethodTree signature end statements ∷ [])) others member body is
body_is_of_member index (FieldTree type name initial ∷ others) (suc member) body is =
    body_is_of_member (index + member_statements (FieldTree type name initial ∷ [])) others member body is

-- A body of a class is that of a method of it.
pub body_is_of_class : (index : ℕ) (declarations : List DeclTree) (class member : ℕ) (body : BodyAt)
    → class_body index declarations class member ≡ Some body → IsOfClass (slice_get declarations class) member body
body_is_of_class index [] class member body is = absurd (none-some body is)
body_is_of_class index (ClassTree place name params implemented members ∷ others) zero member body is = record {
  place = place;
  name = name;
  params = params;
  implemented = implemented;
  members = members;
  is = refl;
  method = body_is_of_member index members member body is;
}
body_is_of_class index (declaration ∷ others) zero member body is = absurd (none-some body is)
body_is_of_class index (first ∷ others) (suc class) member body is =
    body_is_of_class (index + decl_statements (first ∷ [])) others class member body is

-- A body is that of the method with a name of the class with a name: these are the indices that the names mean.
pub record IsOfMethod (program : ProgramTree) (class method : Name) (body : BodyAt) : Type 0 where
  pub index : ℕ
  pub index_is : class_index program class ≡ Some index
  pub member : ℕ
  pub member_is : method_of program.source.declarations index method ≡ Some member
  pub found : class_body 0 program.source.declarations index member ≡ Some body

-- The body that is found by names is at the indices that these mean.
pub body_is_of_method : (program : ProgramTree) (class method : Name) (body : BodyAt)
    → method_at program class method ≡ Some body → IsOfMethod program class method body
unfolding method_in_class
body_is_of_method program class method body is =
    let declarations = program.source.declarations in
    option_and_then_some (λ (index : ℕ). method_in_class declarations index method) (class_index program class) body is
    (λ index index_is found.
    option_and_then_some (class_body 0 declarations index) (method_of declarations index method) body found
    (λ member member_is there. record {
      index = index;
      index_is = index_is;
      member = member;
      member_is = member_is;
      found = there;
    }))

-- The class that is declared at an index of well-typed declarations is well typed.
pub class_is_typed : (declarations some : List DeclTree) (index class : ℕ) (declaration : DeclTree)
    → AreTypedClasses declarations index some → slice_get some class ≡ Some declaration
    → (place : ℕ) × IsTypedClass declarations place declaration
class_is_typed declarations [] index class declaration typed is = absurd (none-some declaration is)
class_is_typed declarations (first ∷ others) index zero declaration typed is =
    (index, subst (IsTypedClass declarations index) (same_Some first declaration is) typed.0)
class_is_typed declarations (first ∷ others) index (suc class) declaration typed is =
    class_is_typed declarations others (1 + index) class declaration typed.1 is

-- a member is well typed, if it is a method
abbrev IfMethod : List DeclTree → Name → List PlainType → MemberTree → Type 0
IfMethod declarations class fields (FieldTree type name initial) = ⊤
IfMethod declarations class fields (MethodTree signature end body) =
    IsTypedMethod declarations class fields signature body

-- A method among well-typed members is well typed.
pub method_is_typed : (declarations : List DeclTree) (class : Name) (fields known : List PlainType)
    (members : List MemberTree) (member : ℕ) (signature : SignatureTree) (end : Place) (body : Statements)
    → AreTypedMembers declarations class fields known members
    → slice_get members member ≡ Some (MethodTree signature end body)
    → IsTypedMethod declarations class fields signature body
method_is_typed declarations class fields known [] member signature end body typed is = absurd (none-some _ is)
method_is_typed declarations class fields known (FieldTree type name initial ∷ others) zero signature end body typed
    is = absurd cc
method_is_typed declarations class fields known (MethodTree own_signature own_end own_body ∷ others) zero signature end
    body typed is =
    subst (λ (one : MemberTree). IfMethod declarations class fields one) (same_Some _ _ is) typed.0
method_is_typed declarations class fields known (FieldTree type name initial ∷ others) (suc member) signature end body
    typed is =
    method_is_typed declarations class fields (known ++ plain type ∷ []) others member signature end body typed.1 is
method_is_typed declarations class fields known (MethodTree own_signature own_end own_body ∷ others) (suc member)
    signature end body typed is =
    method_is_typed declarations class fields known others member signature end body typed.1 is

-- the name of a class, which another declaration does not have
abbrev name_of_class : DeclTree → Option Name
name_of_class (ClassTree place name params implemented members) = Some name.name
name_of_class (DataTree place name type_params constructors) = None
name_of_class (FunctionTree place result name type_params params value) = None
name_of_class (InterfaceTree place name extended signatures) = None

-- the class at the index that a name means has this name, by what the name means
named_class_name : (program : ProgramTree) (class : Name) (index : ℕ) (declaration : DeclTree)
    (meaning : Option Taking) → meaning_of (spaces_of program.source.declarations).classes class ≡ meaning
    → option_map (λ (taking : Taking). taking.declaration) meaning ≡ Some index
    → slice_get program.source.declarations index ≡ Some declaration → name_of_class declaration ≡ Some class
named_class_name program class index declaration None means is there = absurd (none-some index is)
named_class_name program class index declaration (Some taking) means is there =
    let own = class_is_declared program.source.declarations class taking means in
    let at = same_Some taking.declaration index is in
    let same = same_Some _ declaration (sym own.there ∙ (ap (slice_get program.source.declarations) at ∙ there)) in
    ap name_of_class (sym same) ∙ ap Some own.name_is

-- The class at the index that a name means has this name.
pub class_name_is : (program : ProgramTree) (class : Name) (index : ℕ) (place : Place) (name : DeclaredTree)
    (params : List ParamTree) (implemented : List DeclaredTree) (members : List MemberTree)
    → class_index program class ≡ Some index
    → slice_get program.source.declarations index ≡ Some (ClassTree place name params implemented members)
    → name.name ≡ class
class_name_is program class index place name params implemented members is there =
    same_Some name.name class (named_class_name program class index
    (ClassTree place name params implemented members)
    (meaning_of (spaces_of program.source.declarations).classes class) refl is there)
