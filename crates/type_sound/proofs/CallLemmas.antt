-- Calls: the class of the receiver has the method, which takes the arguments and gives what the call gives.
--
--   `TakesTypes`               a routine takes arguments of these types
--   `call_is_found`            the method of a call is there, takes the arguments, and gives the type of the call
--   `arguments_have`           the values of the arguments are values of the parameters
use Rattle.std.proofs.Common.{◌≡◌, ℕ, zero, suc, ◌+◌, Bool, true, false, true≢false, List, [], ◌∷◌, ◌++◌, Option, Some, None, refl, sym, ap, ◌∙◌, subst, arith, length, map, nat_eq}
use Rattle.std.specs.Prelude.{option_and_then, slice_get, if◌then◌else◌}
use Rattle.std.specs.Option.{option_map}
use Rattle.std.proofs.lemmas.Bool.{and_parts}
use Rattle.std.proofs.lemmas.Bool.Decides.{Decides-eqb}
use Rattle.std.proofs.lemmas.List.{length-map}
use Rattle.std.proofs.lemmas.Option.{none-some, same_Some}
use Rattle.std.proofs.lemmas.Slice.Eq.{bytes_eq-Decides}
use Rattle.abs_profile.specs.Accepted.{IsAcceptedProgram}
use Rattle.abs_program.specs.Members.{method_among, method_of}
use Rattle.abs_program.specs.ProgramBodies.{BodyAt, member_body, class_body}
use Rattle.abs_tree.specs.Syntax.{Name, TypeTree, ParamTree, DeclaredTree, SignatureTree, MemberTree, MethodTree, DeclTree, ClassTree, Statements, ProgramTree}
use Rattle.abs_tree.specs.SyntaxSizes.{member_statements, decl_statements}
use Rattle.abs_tree.specs.declared.place.Place.{Place}
use Rattle.abs_types.specs.Arguments.{all_fit}
use Rattle.abs_types.specs.Methods.{MethodType, method_type, first_of_each, member_signatures, inherited_signatures, signatures_of_type, is_named, is_called, named_methods, first_taking, call_type}
use Rattle.abs_types.specs.PlainTypes.{PlainType, PlainClass, plain}
use Rattle.abs_types.specs.Schemes.{param_types}
use Rattle.abs_types.specs.SlotTypes.{slot_types, statements_slot_types}
use Rattle.abs_types.specs.Subtyping.{fits}
use Rattle.abs_types.specs.TypeOffences.{method_frame}
use Rattle.abs_types.specs.Typing.{known_at}
use Rattle.abs_values.specs.ValueTrees.{ValueTree}
use Rattle.config_state.specs.Bodies.{class_index, method_in_class, method_at}
use Rattle.step_rules.specs.Lookups.{taking, callable}
use Rattle.type_sound.proofs.ClassLemmas.{IsClassAt, class_is_at, class_has_types, method_of_class}
use Rattle.type_sound.proofs.SignatureLemmas.{HasMethod, HasMethods, own_methods, met_methods, receiver_methods}
use Rattle.type_sound.specs.Routines.{Routine, declared_types, fields_of_class, member_in_class, method_tree_in, method_tree, member_routine, method_routine}
use Rattle.type_sound.proofs.BoundLemmas.{value_has_type}
use Rattle.type_sound.proofs.ValueLemmas.{value_up}
use Rattle.type_sound.specs.Values.{World, ValueHas, AllHave}

-- The routine takes arguments of these types: there are as many as it has parameters, and each fits the declared type
-- of its slot.
pub record TakesTypes (program : ProgramTree) (routine : Routine) (given : List PlainType) : Type 0 where
  pub count : length given ≡ routine.body.params
  pub fit : (slot : ℕ) (type asked : PlainType) → slice_get given slot ≡ Some type
      → known_at routine.slots slot ≡ Some asked → fits program.source.declarations type asked ≡ true

-- What a call finds among methods: one that takes the arguments, and gives what the call gives.
record Called (declarations : List DeclTree) (members : List MemberTree) (name : Name) (given : List PlainType)
    (type : PlainType) : Type 0 where
  wanted : SignatureTree
  method : HasMethod 0 members wanted
  named : wanted.name.name ≡ name
  taken : all_fit declarations given (method_type wanted).takes ≡ true
  given_is : (method_type wanted).gives ≡ type

-- a call that has a type finds one among methods that there are
called_among : (declarations : List DeclTree) (members : List MemberTree) (name : Name) (count : ℕ)
    (given : List PlainType) (type : PlainType) (signatures : List SignatureTree) → HasMethods 0 members signatures
    → first_taking declarations given (named_methods name count signatures) ≡ Some type
    → Called declarations members name given type
called_among declarations members name count given type [] has is = absurd (none-some type is)
called_among declarations members name count given type (first ∷ others) has is =
    by_name (is_called name count first) refl is
    (called_among declarations members name count given type others has.1)
  where
    others_called : List MethodType
    others_called = named_methods name count others

    by_fit : (reported : Bool) → all_fit declarations given (method_type first).takes ≡ reported
        → is_called name count first ≡ true
        → (if reported then Some (method_type first).gives else first_taking declarations given others_called)
        ≡ Some type
        → (first_taking declarations given others_called ≡ Some type → Called declarations members name given type)
        → Called declarations members name given type
    by_fit true fit named found rest =
        let both = and_parts (is_named name first) (nat_eq (length first.params) count) named in
        record {
          wanted = first;
          method = has.0;
          named = (bytes_eq-Decides first.name.name name).0 both.0;
          taken = fit;
          given_is = same_Some (method_type first).gives type found;
        }
    by_fit false fit named found rest = rest found

    by_name : (named : Bool) → is_called name count first ≡ named
        → first_taking declarations given (if named then method_type first ∷ others_called else others_called)
        ≡ Some type
        → (first_taking declarations given others_called ≡ Some type → Called declarations members name given type)
        → Called declarations members name given type
    by_name true named found rest =
        by_fit (all_fit declarations given (method_type first).takes) refl named found rest
    by_name false named found rest = rest found

-- as many arguments fit as there are types
fitting_length : (declarations : List DeclTree) (given takes : List PlainType)
    → all_fit declarations given takes ≡ true → length given ≡ length takes
fitting_length declarations [] [] fit = refl
fitting_length declarations (one ∷ ones) (other ∷ others) fit =
    let both = and_parts (fits declarations one other) (all_fit declarations ones others) fit in
    ap suc (fitting_length declarations ones others both.1)
fitting_length declarations _ _ fit = absurd (true≢false (sym fit))

-- arguments that fit the parameters fit the declared types of their slots
arguments_fit : (declarations : List DeclTree) (given : List PlainType) (params : List ParamTree)
    (more : List (Option TypeTree)) (slot : ℕ) (type asked : PlainType)
    → all_fit declarations given (param_types params) ≡ true → slice_get given slot ≡ Some type
    → known_at (map (option_map plain) (map (λ (param : ParamTree). Some param.type_of) params ++ more)) slot
    ≡ Some asked
    → fits declarations type asked ≡ true
arguments_fit declarations [] params more slot type asked fit is known = absurd (none-some type is)
arguments_fit declarations (one ∷ ones) [] more slot type asked fit is known = absurd (true≢false (sym fit))
arguments_fit declarations (one ∷ ones) (param ∷ params) more zero type asked fit is known =
    let both = and_parts (fits declarations one (plain param.type_of)) (all_fit declarations ones (param_types params))
    fit in
    subst (λ (given : PlainType). fits declarations given asked ≡ true) (same_Some one type is)
    (subst (λ (takes : PlainType). fits declarations one takes ≡ true) (same_Some (plain param.type_of) asked known)
    both.0)
arguments_fit declarations (one ∷ ones) (param ∷ params) more (suc slot) type asked fit is known =
    let both = and_parts (fits declarations one (plain param.type_of)) (all_fit declarations ones (param_types params))
    fit in
    arguments_fit declarations ones params more slot type asked both.1 is known

-- the method at an index among members has a body
body_of_member : (index : ℕ) (members : List MemberTree) (member : ℕ) (signature : SignatureTree) (end : Place)
    (statements : Statements) → slice_get members member ≡ Some (MethodTree signature end statements)
    → (body : BodyAt) × (member_body index members member ≡ Some body) × (body.params ≡ length signature.params)
body_of_member index [] member signature end statements there = absurd (none-some _ there)
body_of_member index (first ∷ others) zero signature end statements there =
    let body : BodyAt = record { index = index; params = length signature.params; statements = statements } in
    let found : member_body index (first ∷ others) 0 ≡ Some body =
    ap (λ (one : MemberTree). member_body index (one ∷ others) 0) (same_Some first _ there) in
    (body, found, refl)
body_of_member index (first ∷ others) (suc member) signature end statements there =
    body_of_member (index + member_statements (first ∷ [])) others member signature end statements there

-- the bodies of a class are those of its members
bodies_of_class : (start : ℕ) (declarations : List DeclTree) (index member : ℕ) (place : Place) (name : DeclaredTree)
    (params : List ParamTree) (implemented : List DeclaredTree) (members : List MemberTree)
    → slice_get declarations index ≡ Some (ClassTree place name params implemented members)
    → (first : ℕ) × (class_body start declarations index member ≡ member_body first members member)
bodies_of_class start [] index member place name params implemented members there = absurd (none-some _ there)
bodies_of_class start (first ∷ others) zero member place name params implemented members there =
    (start, ap (λ (one : DeclTree). class_body start (one ∷ others) 0 member) (same_Some first _ there))
bodies_of_class start (first ∷ others) (suc index) member place name params implemented members there =
    bodies_of_class (start + decl_statements (first ∷ [])) others index member place name params implemented members
    there

-- the class with a name has the body of a method that is among its members
method_is_found : (program : ProgramTree) (class method : Name) (index member : ℕ)
    → class_index program class ≡ Some index → (own : IsClassAt program.source.declarations class index)
    → method_among 0 own.members method ≡ Some member → (signature : SignatureTree) (end : Place)
    (statements : Statements) → slice_get own.members member ≡ Some (MethodTree signature end statements)
    → (body : BodyAt) × (method_at program class method ≡ Some body) × (body.params ≡ length signature.params)
unfolding method_in_class
method_is_found program class method index member is own among signature end statements there =
    let declarations = program.source.declarations in
    let bodies = bodies_of_class 0 declarations index member own.place own.declared own.params own.implemented
    own.members own.there in
    let body = body_of_member bodies.0 own.members member signature end statements there in
    let of : method_of declarations index method ≡ Some member =
    method_of_class declarations class method index own ∙ among in (
      body.0,
      ap (option_and_then (λ (at : ℕ). method_in_class declarations at method)) is
          ∙ (ap (option_and_then (class_body 0 declarations index)) of ∙ (bodies.1 ∙ body.1)),
      body.2,
    )

-- and so it has its routine
routine_is_found : (program : ProgramTree) (class method : Name) (index member : ℕ)
    → class_index program class ≡ Some index → (own : IsClassAt program.source.declarations class index)
    → method_among 0 own.members method ≡ Some member → (signature : SignatureTree) (end : Place)
    (statements : Statements) → slice_get own.members member ≡ Some (MethodTree signature end statements)
    → (body : BodyAt) → method_at program class method ≡ Some body
    → method_routine program class method
    ≡ member_routine class (fields_of_class program class) body (MethodTree signature end statements)
routine_is_found program class method index member is own among signature end statements there body found =
    let declarations = program.source.declarations in
    let made = member_routine class (fields_of_class program class) in
    let of : method_of declarations index method ≡ Some member =
    method_of_class declarations class method index own ∙ among in
    let tree : method_tree program class method ≡ Some (MethodTree signature end statements) =
    ap (option_and_then (λ (at : ℕ). method_tree_in declarations at method)) is
    ∙ (ap (option_and_then (λ (declaration : DeclTree).
    option_and_then (member_in_class declaration) (method_of declarations index method))) own.there
    ∙ (ap (option_and_then (slice_get own.members)) of ∙ there)) in
    ap (option_and_then (λ (at : BodyAt). option_and_then (made at) (method_tree program class method))) found
    ∙ ap (option_and_then (made body)) tree

-- a body that has this number of parameters can be called with as many arguments
taking_found : (count : ℕ) (body : BodyAt) → body.params ≡ count → taking count body ≡ Some body
taking_found count body same =
    ap (λ (reported : Bool). if reported then Some body else None) ((Decides-eqb body.params count).1 same)

-- the routine of a method of a class whose fields have these types, by its body
abbrev routine_with : Name → List PlainType → BodyAt → SignatureTree → Statements → Routine
routine_with class fields body signature statements = record {
  body = body;
  start = method_frame class fields signature statements;
  slots = declared_types signature.params statements;
  result = plain signature.result;
}

-- it takes arguments that fit the parameters of the method
routine_takes : (program : ProgramTree) (class : Name) (fields : List PlainType) (body : BodyAt)
    (signature : SignatureTree) (statements : Statements) (given : List PlainType)
    → body.params ≡ length signature.params
    → all_fit program.source.declarations given (param_types signature.params) ≡ true
    → TakesTypes program (routine_with class fields body signature statements) given
unfolding slot_types
routine_takes program class fields body signature statements given as_many all = record {
  count = fitting_length program.source.declarations given (param_types signature.params) all
      ∙ (length-map signature.params (λ (param : ParamTree). plain param.type_of) ∙ sym as_many);
  fit = λ slot type asked there known.
      arguments_fit program.source.declarations given signature.params (statements_slot_types statements) slot type
      asked all there known;
}

-- The class of the receiver has a method that takes the arguments of a call and gives what the call gives.
call_among : (program : ProgramTree) → IsAcceptedProgram program → (class : Name) (index : ℕ) (receiver : PlainType)
    (method : Name) (given : List PlainType) (type : PlainType) → class_index program class ≡ Some index
    → fits program.source.declarations (PlainClass class) receiver ≡ true
    → call_type program.source.declarations receiver method given ≡ Some type
    → (own : IsClassAt program.source.declarations class index)
    → Called program.source.declarations own.members method given type
unfolding call_type
call_among program accepted class index receiver method given type is fit call own =
    let declarations = program.source.declarations in
    let meets = (class_has_types program accepted class index own).0 in
    let inherited = met_methods 0 own.members (first_of_each (member_signatures own.members))
    (inherited_signatures declarations index) meets (own_methods 0 own.members) in
    called_among declarations own.members method (length given) given type (signatures_of_type declarations receiver)
    (receiver_methods declarations class index own receiver fit inherited) call

-- such a method is found by the name that is called
called_is_found : (program : ProgramTree) (class : Name) (index : ℕ) (method : Name) (given : List PlainType)
    (type : PlainType) → class_index program class ≡ Some index
    → (own : IsClassAt program.source.declarations class index)
    → Called program.source.declarations own.members method given type
    → (routine : Routine) × (method_routine program class method ≡ Some routine)
    × (callable program class method (length given) ≡ Some routine.body) × TakesTypes program routine given
    × (routine.result ≡ type)
called_is_found program class index method given type is own called =
    let fields = fields_of_class program class in
    let found = called.method in
    let signature = found.signature in
    let at : 0 + found.member ≡ found.member = omega arith in
    let among : method_among 0 own.members method ≡ Some found.member =
    ap (method_among 0 own.members) (sym called.named) ∙ (found.found ∙ ap Some at) in
    let body = method_is_found program class method index found.member is own among signature found.end found.statements
    found.there in
    let all : all_fit program.source.declarations given (param_types signature.params) ≡ true =
    subst (λ (one : MethodType). all_fit program.source.declarations given one.takes ≡ true) (sym found.same)
    called.taken in
    let takes = routine_takes program class fields body.0 signature found.statements given body.2 all in (
      routine_with class fields body.0 signature found.statements,
      routine_is_found program class method index found.member is own among signature found.end found.statements
          found.there body.0 body.1,
      ap (option_and_then (taking (length given))) body.1 ∙ taking_found (length given) body.0 (sym takes.count),
      takes,
      ap (λ (one : MethodType). one.gives) found.same ∙ called.given_is,
    )

-- Where an object has the static type of a receiver, its class has the method of a call, which takes the arguments and
-- gives what the call gives.
pub call_is_found : (program : ProgramTree) → IsAcceptedProgram program → (class : Name) (index : ℕ)
    (receiver : PlainType) (method : Name) (given : List PlainType) (type : PlainType)
    → class_index program class ≡ Some index
    → fits program.source.declarations (PlainClass class) receiver ≡ true
    → call_type program.source.declarations receiver method given ≡ Some type
    → (routine : Routine) × (method_routine program class method ≡ Some routine)
    × (callable program class method (length given) ≡ Some routine.body) × TakesTypes program routine given
    × (routine.result ≡ type)
call_is_found program accepted class index receiver method given type is fit call =
    let own = class_is_at program class index is in
    called_is_found program class index method given type is own
    (call_among program accepted class index receiver method given type is fit call own)

-- The values of arguments that have the types given are values of the parameters.
pub arguments_have : (program : ProgramTree) (world : World) (routine : Routine) (given : List PlainType)
    (values : List ValueTree) (slot : ℕ) (value : ValueTree) (type : PlainType) → TakesTypes program routine given
    → AllHave program world values given → slice_get values slot ≡ Some value → known_at routine.slots slot ≡ Some type
    → ValueHas program world value type
arguments_have program world routine given values slot value type takes have is known =
    let own = value_has_type program world values given slot value have is in
    value_up program world value own.0 type (takes.fit slot own.0 type own.1 known) own.2
