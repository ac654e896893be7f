-- Where the bodies of classes are, and what is known in them.
--
--   `class_start_more`, `method_start_more`            the index after a class, and after a member
--   `body_of_method`, `context_of_method`              the body of a method, and what is known in it
--   `context_of_field`, `context_past_members`, ..     what is no method has neither
--   `calls_of_method`, `calls_none`                    what a method calls on `this`, and what no method calls
use Rattle.std.proofs.Common.{◌≡◌, ℕ, zero, suc, ◌+◌, List, [], ◌∷◌, Some, None, take, arith, refl, sym, ap, ◌∙◌, subst}
use Rattle.std.specs.Prelude.{◌↔◌, ⊤, Option, slice_get, length}
use Rattle.std.proofs.lemmas.List.{take_all}
use Rattle.std.proofs.lemmas.Option.{none-some, same_Some}
use Rattle.abs_program.specs.ProgramBodies.{BodyAt, member_body, class_body, IsStatementOf}
use Rattle.abs_tree.specs.Syntax.{Name, TypeTree, Statements, ParamTree, DeclaredTree, MaybeExpr, SignatureTree, MemberTree, FieldTree, MethodTree, DeclTree, DataTree, FunctionTree, InterfaceTree, ClassTree, SourceTree}
use Rattle.abs_tree.specs.declared.place.Place.{Place}
use Rattle.abs_tree.specs.SyntaxSizes.{statement_count, member_statements, decl_statements}
use Rattle.contract_infer.specs.CallsWithin.{CallsWithin}
use Rattle.contract_infer.specs.ClassViews.{class_start, method_start, method_body, method_of_class, IsClassThere}
use Rattle.contract_terms.specs.BodyContexts.{class_types, method_context}
use Rattle.contract_terms.specs.OwnCalls.{CallsOnThis}

-- one more member has its statements
member_statements-more : (members : List MemberTree) (member : ℕ) (one : MemberTree) → slice_get members member ≡ Some one
    → member_statements (take (member + 1) members)
    ≡ member_statements (take member members) + member_statements (one ∷ [])
member_statements-more [] member one is = absurd (none-some one is)
member_statements-more (MethodTree signature end statements ∷ others) zero one is =
    omega (arith, ap (λ (it : MemberTree). member_statements (it ∷ [])) (same_Some _ one is))
member_statements-more (FieldTree type name initial ∷ others) zero one is =
    omega (arith, ap (λ (it : MemberTree). member_statements (it ∷ [])) (same_Some _ one is))
member_statements-more (MethodTree signature end statements ∷ others) (suc member) one is =
    let next : suc member + 1 ≡ suc (member + 1) = omega arith in
    ap (λ (n : ℕ). member_statements (take n (MethodTree signature end statements ∷ others))) next
    ∙ omega (arith, member_statements-more others member one is)
member_statements-more (FieldTree type name initial ∷ others) (suc member) one is =
    let next : suc member + 1 ≡ suc (member + 1) = omega arith in
    ap (λ (n : ℕ). member_statements (take n (FieldTree type name initial ∷ others))) next
    ∙ member_statements-more others member one is

-- so has one more declaration
decl_statements-more : (declarations : List DeclTree) (class : ℕ) (one : DeclTree)
    → slice_get declarations class ≡ Some one
    → decl_statements (take (class + 1) declarations)
    ≡ decl_statements (take class declarations) + decl_statements (one ∷ [])
decl_statements-more [] class one is = absurd (none-some one is)
decl_statements-more (first ∷ others) zero one is =
    omega (arith, ap (λ (it : DeclTree). decl_statements (it ∷ [])) (same_Some first one is))
decl_statements-more (ClassTree place name params implemented members ∷ others) (suc class) one is =
    let next : suc class + 1 ≡ suc (class + 1) = omega arith in
    ap (λ (n : ℕ). decl_statements (take n (ClassTree place name params implemented members ∷ others))) next
    ∙ omega (arith, decl_statements-more others class one is)
decl_statements-more (DataTree place name type_params constructors ∷ others) (suc class) one is =
    let next : suc class + 1 ≡ suc (class + 1) = omega arith in
    ap (λ (n : ℕ). decl_statements (take n (DataTree place name type_params constructors ∷ others))) next
    ∙ decl_statements-more others class one is
decl_statements-more (FunctionTree place result name type_params params value ∷ others) (suc class) one is =
    let next : suc class + 1 ≡ suc (class + 1) = omega arith in
    ap (λ (n : ℕ). decl_statements (take n (FunctionTree place result name type_params params value ∷ others))) next
    ∙ decl_statements-more others class one is
decl_statements-more (InterfaceTree place name extended signatures ∷ others) (suc class) one is =
    let next : suc class + 1 ≡ suc (class + 1) = omega arith in
    ap (λ (n : ℕ). decl_statements (take n (InterfaceTree place name extended signatures ∷ others))) next
    ∙ decl_statements-more others class one is

-- all members have the statements of the members before the end
take-member_statements : (members : List MemberTree) (count : ℕ) → count ≡ length members
    → member_statements (take count members) ≡ member_statements members
take-member_statements members count whole = ap member_statements (take_all count members (omega (arith, whole)))

-- The first statement after a declaration comes after its own.
pub class_start_more : (source : SourceTree) (class : ℕ) (one : DeclTree)
    → slice_get source.declarations class ≡ Some one
    → class_start source (class + 1) ≡ class_start source class + decl_statements (one ∷ [])
class_start_more source class one is = decl_statements-more source.declarations class one is

-- The first statement after a member comes after its own.
pub method_start_more : (source : SourceTree) (class : ℕ) (members : List MemberTree) (member : ℕ) (one : MemberTree)
    → slice_get members member ≡ Some one
    → method_start source class members (member + 1)
    ≡ method_start source class members member + member_statements (one ∷ [])
method_start_more source class members member one is =
    omega (arith, member_statements-more members member one is)

-- The first statement after all members of a class is that after the class.
pub class_end : (source : SourceTree) (class : ℕ) (name : Name) (params : List ParamTree) (members : List MemberTree)
    (count : ℕ) → IsClassThere source class name params members → count ≡ length members
    → class_start source (class + 1) ≡ method_start source class members count
class_end source class name params members count there whole =
    omega (
      arith,
      class_start_more source class (ClassTree there.place there.declared params there.implemented members) there.there,
      take-member_statements members count whole,
    )

-- the body at the index of a method
member_body_at : (index : ℕ) (members : List MemberTree) (member : ℕ) (one : MemberTree) (body : ℕ → Option BodyAt)
    → slice_get members member ≡ Some one → ((first : ℕ) → member_body first (one ∷ []) 0 ≡ body first)
    → member_body index members member ≡ body (index + member_statements (take member members))
member_body_at index [] member one body is own = absurd (none-some one is)
member_body_at index (MethodTree signature end statements ∷ others) zero one body is own =
    subst (λ (it : MemberTree). member_body index (it ∷ []) 0 ≡ body (index + 0))
    (sym (same_Some (MethodTree signature end statements) one is))
    (own index ∙ ap body (omega arith))
member_body_at index (FieldTree type name initial ∷ others) zero one body is own =
    subst (λ (it : MemberTree). member_body index (it ∷ []) 0 ≡ body (index + 0))
    (sym (same_Some (FieldTree type name initial) one is))
    (own index ∙ ap body (omega arith))
member_body_at index (MethodTree signature end statements ∷ others) (suc member) one body is own =
    member_body_at (index + member_statements (MethodTree signature end statements ∷ [])) others member one body is own
    ∙ ap body (omega arith)
member_body_at index (FieldTree type name initial ∷ others) (suc member) one body is own =
    member_body_at (index + member_statements (FieldTree type name initial ∷ [])) others member one body is own
    ∙ ap body (omega arith)

-- past the members there is none
member_body_past : (index : ℕ) (members : List MemberTree) (member : ℕ) → slice_get members member ≡ None
    → member_body index members member ≡ None
member_body_past index [] member is = refl
member_body_past index (MethodTree signature end statements ∷ others) zero is = absurd (none-some _ (sym is))
member_body_past index (FieldTree type name initial ∷ others) zero is = refl
member_body_past index (MethodTree signature end statements ∷ others) (suc member) is =
    member_body_past (index + member_statements (MethodTree signature end statements ∷ [])) others member is
member_body_past index (FieldTree type name initial ∷ others) (suc member) is =
    member_body_past (index + member_statements (FieldTree type name initial ∷ [])) others member is

-- the body of a member of a class
class_body_at : (index : ℕ) (declarations : List DeclTree) (class member : ℕ) (one : DeclTree)
    (body : ℕ → Option BodyAt) → slice_get declarations class ≡ Some one
    → ((first : ℕ) → class_body first (one ∷ []) 0 member ≡ body first)
    → class_body index declarations class member ≡ body (index + decl_statements (take class declarations))
class_body_at index [] class member one body is own = absurd (none-some one is)
class_body_at index (ClassTree place name params implemented members ∷ others) zero member one body is own =
    subst (λ (it : DeclTree). class_body index (it ∷ []) 0 member ≡ body (index + 0))
    (sym (same_Some (ClassTree place name params implemented members) one is)) (own index ∙ ap body (omega arith))
class_body_at index (DataTree place name type_params constructors ∷ others) zero member one body is own =
    subst (λ (it : DeclTree). class_body index (it ∷ []) 0 member ≡ body (index + 0))
    (sym (same_Some (DataTree place name type_params constructors) one is)) (own index ∙ ap body (omega arith))
class_body_at index (FunctionTree place result name type_params params value ∷ others) zero member one body is own =
    subst (λ (it : DeclTree). class_body index (it ∷ []) 0 member ≡ body (index + 0))
    (sym (same_Some (FunctionTree place result name type_params params value) one is))
    (own index ∙ ap body (omega arith))
class_body_at index (InterfaceTree place name extended signatures ∷ others) zero member one body is own =
    subst (λ (it : DeclTree). class_body index (it ∷ []) 0 member ≡ body (index + 0))
    (sym (same_Some (InterfaceTree place name extended signatures) one is)) (own index ∙ ap body (omega arith))
class_body_at index (ClassTree place name params implemented members ∷ others) (suc class) member one body is own =
    class_body_at (index + decl_statements (ClassTree place name params implemented members ∷ [])) others class member one
    body is own
    ∙ ap body (omega arith)
class_body_at index (DataTree place name type_params constructors ∷ others) (suc class) member one body is own =
    class_body_at (index + decl_statements (DataTree place name type_params constructors ∷ [])) others class member one
    body is own
    ∙ ap body (omega arith)
class_body_at index (FunctionTree place result name type_params params value ∷ others) (suc class) member one body is
    own =
    class_body_at (index + decl_statements (FunctionTree place result name type_params params value ∷ [])) others class
    member one body is own
    ∙ ap body (omega arith)
class_body_at index (InterfaceTree place name extended signatures ∷ others) (suc class) member one body is own =
    class_body_at (index + decl_statements (InterfaceTree place name extended signatures ∷ [])) others class member one
    body is own
    ∙ ap body (omega arith)

module _ (source : SourceTree) (class : ℕ) (name : Name) (params : List ParamTree) (members : List MemberTree)
    (there : IsClassThere source class name params members) where
  -- the body of a member of this class
  own_body : (member : ℕ)
      → class_body 0 source.declarations class member ≡ member_body (class_start source class) members member
  own_body member =
      let start : 0 + decl_statements (take class source.declarations) ≡ class_start source class = omega arith in
      class_body_at 0 source.declarations class member
      (ClassTree there.place there.declared params there.implemented members)
      (λ first. member_body first members member) there.there (λ first. refl)
      ∙ ap (λ (first : ℕ). member_body first members member) start

  -- The body of a method of this class.
  pub body_of_method : (member : ℕ) (one : MemberTree) (signature : SignatureTree) (statements : Statements)
      → slice_get members member ≡ Some one
      → ((first : ℕ) → member_body first (one ∷ []) 0 ≡ Some (method_body first signature statements))
      → class_body 0 source.declarations class member
      ≡ Some (method_body (method_start source class members member) signature statements)
  body_of_method member one signature statements is own =
      own_body member
      ∙ member_body_at (class_start source class) members member one
      (λ first. Some (method_body first signature statements)) is own

  -- What is known in a method of this class.
  pub context_of_method : (member : ℕ) (signature : SignatureTree) (end : Place) (statements : Statements)
      → slice_get members member ≡ Some (MethodTree signature end statements)
      → method_context source.declarations class member
      ≡ Some (method_of_class class name (class_types params members) (method_start source class members member)
      signature statements)
  unfolding method_context
  context_of_method member signature end statements is =
      let body = body_of_method member (MethodTree signature end statements) signature statements is (λ first. refl) in
      rw (there.there, body, is, there.named) refl

  -- Nothing is known of a member that is no method.
  pub context_of_field : (member : ℕ) (type : TypeTree) (declared : DeclaredTree) (initial : MaybeExpr)
      → slice_get members member ≡ Some (FieldTree type declared initial)
      → method_context source.declarations class member ≡ None
  unfolding method_context
  context_of_field member type declared initial is = rw (there.there, is) refl

  -- A field calls nothing on `this`.
  pub body_of_field : (member : ℕ) (type : TypeTree) (declared : DeclaredTree) (initial : MaybeExpr)
      → slice_get members member ≡ Some (FieldTree type declared initial)
      → class_body 0 source.declarations class member ≡ None
  body_of_field member type declared initial is =
      own_body member
      ∙ member_body_at (class_start source class) members member (FieldTree type declared initial) (λ first. None) is
      (λ first. refl)

  -- Nothing is known past the members.
  pub context_past_members : (member : ℕ) → slice_get members member ≡ None
      → method_context source.declarations class member ≡ None
  unfolding method_context
  context_past_members member is = rw (there.there, is) refl

  pub body_past_members : (member : ℕ) → slice_get members member ≡ None
      → class_body 0 source.declarations class member ≡ None
  body_past_members member is = own_body member ∙ member_body_past (class_start source class) members member is

  -- A method calls on `this` what its statements call.
  pub calls_of_method : (member : ℕ) (signature : SignatureTree) (end : Place) (statements : Statements) (other : ℕ)
      → slice_get members member ≡ Some (MethodTree signature end statements)
      → CallsWithin source class (method_start source class members member) (statement_count statements) other
      ↔ CallsOnThis source class member other
  calls_of_method member signature end statements other is =
      let start = method_start source class members member in
      let body = body_of_method member (MethodTree signature end statements) signature statements is (λ first. refl) in (
        λ within. record {
          body = method_body start signature statements;
          body_is = body;
          index = within.index;
          inside = record { after_start = within.from; before_end = within.below };
          point = within.point;
          there = within.there;
          method = within.method;
          target = within.target;
          calls = within.calls;
          method_is = within.method_is;
        },
        λ calls.
            let inside = subst (λ (it : BodyAt). IsStatementOf it calls.index)
            (same_Some calls.body (method_body start signature statements) (sym calls.body_is ∙ body)) calls.inside in
            record {
              index = calls.index;
              from = inside.after_start;
              below = inside.before_end;
              point = calls.point;
              there = calls.there;
              method = calls.method;
              target = calls.target;
              calls = calls.calls;
              method_is = calls.method_is;
            },
      )

-- What has no body calls nothing on `this`.
pub calls_none : (source : SourceTree) (class member other : ℕ) → class_body 0 source.declarations class member ≡ None
    → CallsOnThis source class member other → ⊥
calls_none source class member other none calls = none-some calls.body (sym none ∙ calls.body_is)

-- the declaration is a class
abbrev pub IsClass : DeclTree → Type 0
IsClass (ClassTree place name params implemented members) = ⊤
IsClass _ = ⊥

-- Nothing is known in a declaration that is no class.
pub context_of_other : (source : SourceTree) (class member : ℕ) (one : DeclTree)
    → slice_get source.declarations class ≡ Some one → (IsClass one → ⊥)
    → (method_context source.declarations class member ≡ None)
    × (class_body 0 source.declarations class member ≡ None)
unfolding method_context
context_of_other source class member (ClassTree place name params implemented members) is other = absurd (other tt)
context_of_other source class member (DataTree place name type_params constructors) is other = (
  rw is refl,
  class_body_at 0 source.declarations class member (DataTree place name type_params constructors) (λ first. None) is
      (λ first. refl),
)
context_of_other source class member (FunctionTree place result name type_params params value) is other = (
  rw is refl,
  class_body_at 0 source.declarations class member (FunctionTree place result name type_params params value)
      (λ first. None) is (λ first. refl),
)
context_of_other source class member (InterfaceTree place name extended signatures) is other = (
  rw is refl,
  class_body_at 0 source.declarations class member (InterfaceTree place name extended signatures) (λ first. None) is
      (λ first. refl),
)

-- past the declarations there is no body
class_body_past : (index : ℕ) (declarations : List DeclTree) (class member : ℕ)
    → slice_get declarations class ≡ None → class_body index declarations class member ≡ None
class_body_past index [] class member is = refl
class_body_past index (first ∷ others) zero member is = absurd (none-some first (sym is))
class_body_past index (ClassTree place name params implemented members ∷ others) (suc class) member is =
    class_body_past (index + decl_statements (ClassTree place name params implemented members ∷ [])) others class member
    is
class_body_past index (DataTree place name type_params constructors ∷ others) (suc class) member is =
    class_body_past (index + decl_statements (DataTree place name type_params constructors ∷ [])) others class member is
class_body_past index (FunctionTree place result name type_params params value ∷ others) (suc class) member is =
    class_body_past (index + decl_statements (FunctionTree place result name type_params params value ∷ [])) others class
    member is
class_body_past index (InterfaceTree place name extended signatures ∷ others) (suc class) member is =
    class_body_past (index + decl_statements (InterfaceTree place name extended signatures ∷ [])) others class member is

-- Nothing is known past the declarations.
pub context_past : (source : SourceTree) (class member : ℕ) → slice_get source.declarations class ≡ None
    → (method_context source.declarations class member ≡ None)
    × (class_body 0 source.declarations class member ≡ None)
unfolding method_context
context_past source class member is = (rw is refl, class_body_past 0 source.declarations class member is)
