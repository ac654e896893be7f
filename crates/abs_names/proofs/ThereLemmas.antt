-- In a program without a name offence all that its declarations and its main block name is there once it is resolved.
use Rattle.std.proofs.Common.{◌≡◌, ℕ, ◌+◌, true, false, List, [], ◌∷◌, ◌++◌, refl, sym, ap, ◌∙◌, subst, length, arith}
use Rattle.std.specs.Prelude.{All}
use Rattle.std.proofs.lemmas.List.Elements.{All-nil, All-cons}
use Rattle.abs_program.specs.NameSpaces.{NameSpaces, means_interface}
use Rattle.abs_program.specs.Slots.{body_slots}
use Rattle.abs_tree.specs.Syntax.{VariableTree, AtSlot, AtField, TypeTree, ExprTree, Statements, ParamTree, DeclaredTree, ConstructorTree, SignatureTree, MaybeExpr, NoValue, Value, MemberTree, FieldTree, MethodTree, DeclTree, DataTree, FunctionTree, InterfaceTree, ClassTree}
use Rattle.abs_tree.specs.SyntaxSizes.{fields_among}
use Rattle.abs_program.specs.Tables.{meaning_of}
use Rattle.abs_program.specs.Whole.{Inside, inside_types, TypesAreThere, StatementsAreThere, ParamsAreThere, SignatureIsThere, NameInterfaces, InitialIsThere, MemberIsThere, MembersAreThere, ConstructorsAreThere, DeclarationIsThere}
use Rattle.abs_tree.specs.declared.place.Place.{Place}
use Rattle.abs_names.specs.NameOffences.{expr_offences, statements_offences, maybe_expr_offences, params_offences, signature_offences, signatures_offences, interfaces_offences, constructor_types_offences, member_offences, members_offences, class_offences, declaration_offences, declarations_offences}
use Rattle.abs_names.specs.Resolution.{resolved_statements, resolved_params, resolved_signature, resolved_signatures, resolved_constructors, resolved_maybe_expr, resolved_member, resolved_members, resolved_declaration, resolved_declarations}
use Rattle.abs_names.specs.Scopes.{Meanings, body_scope, class_fields}
use Rattle.abs_names.specs.Single.{unknown}
use Rattle.abs_names.specs.TypeNames.{Around, around_of, type_offences, types_offences}
use Rattle.abs_names.specs.declared.scope.Routine.TheVariants.{Main, Method, Function, Initial}
use Rattle.abs_names.proofs.ParamLemmas.{params_length}
use Rattle.abs_names.proofs.SourceSizeLemmas.{members_fields}
use Rattle.abs_names.proofs.ThereBodyLemmas.{EachIs, surrounds_of, IsField, class_fields_are, main_fields, function_fields, method_fields, initial_fields, body_agrees, body_there}
use Rattle.abs_names.proofs.ThereExpressionLemmas.{expr_there}
use Rattle.abs_names.proofs.ThereTypeLemmas.{is_known, Surrounds, type_there, types_there}
use Rattle.list_facts.proofs.AppendLemmas.{both_empty}

-- parameters without a name offence
params_there : (inside : Inside) (around : Around) (make : ℕ → VariableTree) (index : ℕ) (params : List ParamTree)
    → Surrounds inside around → params_offences around params ≡ []
    → ParamsAreThere inside make index (resolved_params around make index params)
params_there inside around make index [] surrounds none = tt
params_there inside around make index (param ∷ others) surrounds none =
    let parts = both_empty (type_offences around param.type_of) (params_offences around others) none in (
      type_there inside around param.type_of surrounds parts.0,
      refl,
      params_there inside around make (index + 1) others surrounds parts.1,
    )

-- types alone
no_params : (spaces : NameSpaces) → Surrounds (inside_types spaces 0) (around_of spaces [])
no_params spaces = surrounds_of (inside_types spaces 0) [] refl

-- heads of methods without one
signature_there : (spaces : NameSpaces) (signature : SignatureTree)
    → signature_offences (around_of spaces []) signature ≡ []
    → SignatureIsThere spaces (resolved_signature (around_of spaces []) signature)
signature_there spaces signature none =
    let around = around_of spaces [] in
    let parts = both_empty (type_offences around signature.result) (params_offences around signature.params) none in (
      type_there (inside_types spaces 0) around signature.result (no_params spaces) parts.0,
      params_there (inside_types spaces 0) around AtSlot 0 signature.params (no_params spaces) parts.1,
    )

signatures_there : (spaces : NameSpaces) (signatures : List SignatureTree)
    → signatures_offences (around_of spaces []) signatures ≡ []
    → All (SignatureIsThere spaces) (resolved_signatures (around_of spaces []) signatures)
signatures_there spaces [] none = All-nil (SignatureIsThere spaces)
signatures_there spaces (signature ∷ others) none =
    let around = around_of spaces [] in
    let parts = both_empty (signature_offences around signature) (signatures_offences around others) none in
    All-cons (SignatureIsThere spaces) (resolved_signature around signature) (resolved_signatures around others)
    (signature_there spaces signature parts.0) (signatures_there spaces others parts.1)

-- names that are those of interfaces
interfaces_there : (spaces : NameSpaces) (names : List DeclaredTree)
    → interfaces_offences (around_of spaces []) names ≡ [] → NameInterfaces spaces names
interfaces_there spaces [] none =
    All-nil (λ (name : DeclaredTree). means_interface (meaning_of spaces.types name.name) ≡ true)
interfaces_there spaces (name ∷ others) none =
    let known = means_interface (meaning_of spaces.types name.name) in
    let parts = both_empty (unknown known name.place) (interfaces_offences (around_of spaces []) others) none in
    All-cons (λ (one : DeclaredTree). means_interface (meaning_of spaces.types one.name) ≡ true) name others
    (is_known known name.place parts.0) (interfaces_there spaces others parts.1)

-- the types of constructors without one
constructors_there : (inside : Inside) (around : Around) (constructors : List ConstructorTree)
    → Surrounds inside around → constructor_types_offences around constructors ≡ []
    → ConstructorsAreThere inside (resolved_constructors around constructors)
constructors_there inside around [] surrounds none =
    All-nil (λ (constructor : ConstructorTree). TypesAreThere inside constructor.types)
constructors_there inside around (constructor ∷ others) surrounds none =
    let parts = both_empty (types_offences around constructor.types) (constructor_types_offences around others) none in
    All-cons (λ (one : ConstructorTree). TypesAreThere inside one.types) _ (resolved_constructors around others)
    (types_there inside around constructor.types surrounds parts.0)
    (constructors_there inside around others surrounds parts.1)

-- an initial value without one
initial_there : (spaces : NameSpaces) (fields : Meanings) (earlier : ℕ) (initial : MaybeExpr)
    → maybe_expr_offences (body_scope (around_of spaces []) (Initial earlier) fields []) initial ≡ []
    → InitialIsThere (record (inside_types spaces 0) { slots = earlier })
    (resolved_maybe_expr (body_scope (around_of spaces []) (Initial earlier) fields []) initial)
initial_there spaces fields earlier NoValue none = tt
initial_there spaces fields earlier (Value value) none =
    let inside = record (inside_types spaces 0) { slots = earlier } in
    let around = around_of spaces [] in
    expr_there inside 0 (body_scope around (Initial earlier) fields []) value
    (body_agrees inside around (Initial earlier) fields [] (record {
      around_is = surrounds_of inside [] refl;
      this = refl;
      task = refl;
      fields_are = initial_fields inside fields;
    }) (omega arith))
    none

-- a method without one
method_there : (spaces : NameSpaces) (fields : Meanings) (count earlier : ℕ) (signature : SignatureTree) (end : Place)
    (body : Statements) → EachIs (IsField count) fields
    → member_offences (around_of spaces []) fields earlier (MethodTree signature end body) ≡ []
    → MemberIsThere spaces count earlier
    (resolved_member (around_of spaces []) fields earlier (MethodTree signature end body))
method_there spaces fields count earlier signature end body are none =
    let around = around_of spaces [] in
    let scope = body_scope around Method fields signature.params in
    let parts = both_empty (signature_offences around signature)
    (statements_offences scope (length signature.params) body) none in
    let inside : Inside = record {
      spaces = spaces;
      type_params = 0;
      has_this = true;
      has_task = true;
      fields = count;
      slots = length (body_slots (length (resolved_params around AtSlot 0 signature.params))
          (resolved_statements scope (length signature.params) body));
    } in (
      signature_there spaces signature parts.0,
      body_there inside around Method fields signature.params body (record {
        around_is = surrounds_of inside [] refl;
        this = refl;
        task = refl;
        fields_are = method_fields inside fields are;
      }) parts.1 refl,
    )

-- members without one, in a class with these fields
members_there : (spaces : NameSpaces) (fields : Meanings) (count earlier : ℕ) (members : List MemberTree)
    → EachIs (IsField count) fields → members_offences (around_of spaces []) fields earlier members ≡ []
    → MembersAreThere spaces count earlier (resolved_members (around_of spaces []) fields earlier members)
members_there spaces fields count earlier [] are none = tt
members_there spaces fields count earlier (FieldTree type name initial ∷ others) are none =
    let around = around_of spaces [] in
    let initial_offences = maybe_expr_offences (body_scope around (Initial earlier) fields []) initial in
    let parts = both_empty (type_offences around type ++ initial_offences)
    (members_offences around fields (earlier + 1) others) none in
    let first = both_empty (type_offences around type) initial_offences parts.0 in (
      (
        type_there (inside_types spaces 0) around type (no_params spaces) first.0,
        initial_there spaces fields earlier initial first.1,
      ),
      members_there spaces fields count (earlier + 1) others are parts.1,
    )
members_there spaces fields count earlier (MethodTree signature end body ∷ others) are none =
    let around = around_of spaces [] in
    let parts = both_empty (member_offences around fields earlier (MethodTree signature end body))
    (members_offences around fields earlier others) none in (
      method_there spaces fields count earlier signature end body are parts.0,
      subst (λ (n : ℕ). MembersAreThere spaces count n (resolved_members around fields earlier others)) (omega arith)
          (members_there spaces fields count earlier others are parts.1),
    )

-- the parameters and the members of a class without one
class_there : (spaces : NameSpaces) (params : List ParamTree) (members : List MemberTree)
    → class_offences (around_of spaces []) params members ≡ []
    → (now : List ParamTree) → now ≡ resolved_params (around_of spaces []) AtField 0 params
    → (later : List MemberTree)
    → later ≡ resolved_members (around_of spaces []) (class_fields params members) (length params) members
    → ParamsAreThere (inside_types spaces 0) AtField 0 now
    × MembersAreThere spaces (length now + fields_among later) (length now) later
class_there spaces params members none now now_is later later_is =
    let around = around_of spaces [] in
    let fields = class_fields params members in
    let parts = both_empty (params_offences around params) (members_offences around fields (length params) members)
    none in
    let same = ap (λ (params : List ParamTree). length params) now_is ∙ params_length around AtField 0 params in
    let kept = ap fields_among later_is ∙ members_fields around fields (length params) members in
    let count = length now + fields_among later in (
      subst (ParamsAreThere (inside_types spaces 0) AtField 0) (sym now_is)
          (params_there (inside_types spaces 0) around AtField 0 params (no_params spaces) parts.0),
      subst (λ (n : ℕ). MembersAreThere spaces count n later) (sym same)
          (subst (MembersAreThere spaces count (length params)) (sym later_is)
          (members_there spaces fields count (length params) members
          (class_fields_are count params members (omega (arith, same, kept))) parts.1)),
    )

-- a function without one
function_there : (spaces : NameSpaces) (place : Place) (result : TypeTree) (name : DeclaredTree)
    (type_params : List DeclaredTree) (params : List ParamTree) (value : ExprTree)
    → declaration_offences spaces (FunctionTree place result name type_params params value) ≡ []
    → DeclarationIsThere spaces
    (resolved_declaration spaces (FunctionTree place result name type_params params value))
function_there spaces place result name type_params params value none =
    let around = around_of spaces type_params in
    let types = inside_types spaces (length type_params) in
    let scope = body_scope around Function [] params in
    let inside = record types { slots = length (resolved_params around AtSlot 0 params) } in
    let parts = both_empty (type_offences around result)
    (params_offences around params ++ expr_offences scope value) none in
    let later = both_empty (params_offences around params) (expr_offences scope value) parts.1 in
    let same = params_length around AtSlot 0 params in (
      type_there types around result (surrounds_of types type_params refl) parts.0,
      params_there types around AtSlot 0 params (surrounds_of types type_params refl) later.0,
      expr_there inside 0 scope value
          (body_agrees inside around Function [] params (record {
            around_is = surrounds_of inside type_params refl;
            this = refl;
            task = refl;
            fields_are = function_fields inside;
          }) (omega (arith, same)))
          later.1,
    )

-- a declaration without one
declaration_there : (spaces : NameSpaces) (declaration : DeclTree) → declaration_offences spaces declaration ≡ []
    → DeclarationIsThere spaces (resolved_declaration spaces declaration)
declaration_there spaces (DataTree place name type_params constructors) none =
    let types = inside_types spaces (length type_params) in
    constructors_there types (around_of spaces type_params) constructors (surrounds_of types type_params refl) none
declaration_there spaces (FunctionTree place result name type_params params value) none =
    function_there spaces place result name type_params params value none
declaration_there spaces (InterfaceTree place name extended signatures) none =
    let parts = both_empty (interfaces_offences (around_of spaces []) extended)
    (signatures_offences (around_of spaces []) signatures) none in
    (interfaces_there spaces extended parts.0, signatures_there spaces signatures parts.1)
declaration_there spaces (ClassTree place name params implemented members) none =
    let parts = both_empty (interfaces_offences (around_of spaces []) implemented)
    (class_offences (around_of spaces []) params members) none in
    let both = class_there spaces params members parts.1 _ refl _ refl in
    (interfaces_there spaces implemented parts.0, both.0, both.1)

-- declarations without one
pub declarations_there : (spaces : NameSpaces) (declarations : List DeclTree)
    → declarations_offences spaces declarations ≡ []
    → All (DeclarationIsThere spaces) (resolved_declarations spaces declarations)
declarations_there spaces [] none = All-nil (DeclarationIsThere spaces)
declarations_there spaces (declaration ∷ others) none =
    let parts = both_empty (declaration_offences spaces declaration) (declarations_offences spaces others) none in
    All-cons (DeclarationIsThere spaces) (resolved_declaration spaces declaration) (resolved_declarations spaces others)
    (declaration_there spaces declaration parts.0) (declarations_there spaces others parts.1)

-- a main block without one
pub main_there : (spaces : NameSpaces) (main : Statements)
    → statements_offences (body_scope (around_of spaces []) Main [] []) 0 main ≡ []
    → StatementsAreThere (record {
      spaces = spaces;
      type_params = 0;
      has_this = false;
      has_task = true;
      fields = 0;
      slots = length (body_slots 0 (resolved_statements (body_scope (around_of spaces []) Main [] []) 0 main));
    }) (resolved_statements (body_scope (around_of spaces []) Main [] []) 0 main)
main_there spaces main none =
    let around = around_of spaces [] in
    let inside : Inside = record {
      spaces = spaces;
      type_params = 0;
      has_this = false;
      has_task = true;
      fields = 0;
      slots = length (body_slots 0 (resolved_statements (body_scope around Main [] []) 0 main));
    } in
    body_there inside around Main [] [] main (record {
      around_is = surrounds_of inside [] refl;
      this = refl;
      task = refl;
      fields_are = main_fields inside;
    }) none refl
