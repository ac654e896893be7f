-- A program is well typed exactly where its types have no offence.
--
--   `program_found`            a program without an offence is well typed
--   `program_whole`            a well-typed program has no offence
use Rattle.std.proofs.Common.{◌≡◌, ℕ, ◌+◌, Bool, true, false, List, [], ◌∷◌, ◌++◌, refl}
use Rattle.std.specs.Prelude.{not}
use Rattle.std.proofs.lemmas.Bool.{not-false, not_from_true}
use Rattle.abs_tree.specs.Syntax.{Name, MaybeExpr, NoValue, Value, SignatureTree, MemberTree, FieldTree, MethodTree, DeclTree, FunctionTree, InterfaceTree, ClassTree, SourceTree, Statements}
use Rattle.abs_tree.specs.SyntaxPlaces.{expr_place}
use Rattle.abs_tree.specs.declared.place.Place.{Place}
use Rattle.abs_tree.specs.declared.refusal.Code.{Code}
use Rattle.abs_tree.specs.declared.refusal.Code.TheVariants.{T3, T4, T5}
use Rattle.abs_types.proofs.AskedLemmas.{asked_found, asked_whole}
use Rattle.abs_types.proofs.OffenceLemmas.{offence_if_unoffending, unoffending_offence_if}
use Rattle.abs_types.proofs.StatementLemmas.{statements_found, statements_whole}
use Rattle.abs_types.specs.InterfacesMet.{agrees, meets_interfaces}
use Rattle.abs_tree.specs.Offences.{offence_if}
use Rattle.abs_types.specs.PlainTypes.{PlainType, plain}
use Rattle.abs_types.specs.Schemes.{param_types}
use Rattle.abs_types.specs.StatementOffences.{can_be_null, statements_offences}
use Rattle.abs_types.specs.TypedProgram.{IsTypedFunction, IsTypedInterface, IsTypedField, IsTypedMethod, AreTypedMembers, IsTypedClass, AreTypedFunctions, AreTypedInterfaces, AreTypedClasses, IsTypedProgram}
use Rattle.abs_types.specs.TypeOffences.{value_frame, method_frame, main_frame, function_offences_in, functions_offences, interface_offences_in, interfaces_offences, field_offences, ends_well, method_offences, field_types, members_offences, class_offences_in, classes_offences, function_offences, interface_offences, class_offences, main_offences, type_offences}
use Rattle.list_facts.proofs.AppendLemmas.{both_empty, empty_both}

-- what is asked for is so, where there is no offence
asked_so : (is_so : Bool) (code : Code) (place : Place) → offence_if (not is_so) code place ≡ [] → is_so ≡ true
asked_so is_so code place none = not-false is_so (offence_if_unoffending (not is_so) code place none)

-- where it is so, there is no offence
unoffending_so : (is_so : Bool) (code : Code) (place : Place) → is_so ≡ true → offence_if (not is_so) code place ≡ []
unoffending_so is_so code place reported = unoffending_offence_if (not is_so) code place (not_from_true is_so reported)

-- a function without an offence is well typed
function_found : (declarations : List DeclTree) (declaration : DeclTree)
    → function_offences_in declarations declaration ≡ [] → IsTypedFunction declarations declaration
function_found declarations (FunctionTree place result name type_params params value) none =
    asked_found declarations (value_frame (param_types params)) value (plain result) (expr_place value) none
function_found declarations other none = tt

-- a well-typed function has no offence
function_whole : (declarations : List DeclTree) (declaration : DeclTree) → IsTypedFunction declarations declaration
    → function_offences_in declarations declaration ≡ []
function_whole declarations (FunctionTree place result name type_params params value) typed =
    asked_whole (expr_place value) typed.has_type typed.fits_it
function_whole declarations other typed = refl

-- the same of all functions
functions_found : (declarations some : List DeclTree) → functions_offences declarations some ≡ []
    → AreTypedFunctions declarations some
functions_found declarations [] none = tt
functions_found declarations (first ∷ others) none =
    let parts = both_empty (function_offences_in declarations first) _ none in
    (function_found declarations first parts.0, functions_found declarations others parts.1)

functions_whole : (declarations some : List DeclTree) → AreTypedFunctions declarations some
    → functions_offences declarations some ≡ []
functions_whole declarations [] typed = refl
functions_whole declarations (first ∷ others) typed =
    empty_both (function_offences_in declarations first) _ (function_whole declarations first typed.0)
    (functions_whole declarations others typed.1)

-- methods of one name in an interface without an offence have the same types
interface_found : (declarations : List DeclTree) (index : ℕ) (declaration : DeclTree)
    → interface_offences_in declarations index declaration ≡ [] → IsTypedInterface declarations index declaration
interface_found declarations index (InterfaceTree place name extended signatures) none =
    asked_so (agrees declarations index signatures) T4 name.place none
interface_found declarations index other none = tt

-- where they have the same types, the interface has no offence
interface_whole : (declarations : List DeclTree) (index : ℕ) (declaration : DeclTree)
    → IsTypedInterface declarations index declaration → interface_offences_in declarations index declaration ≡ []
interface_whole declarations index (InterfaceTree place name extended signatures) typed =
    unoffending_so (agrees declarations index signatures) T4 name.place typed
interface_whole declarations index other typed = refl

-- the same of all interfaces
interfaces_found : (declarations : List DeclTree) (index : ℕ) (some : List DeclTree)
    → interfaces_offences declarations index some ≡ [] → AreTypedInterfaces declarations index some
interfaces_found declarations index [] none = tt
interfaces_found declarations index (first ∷ others) none =
    let parts = both_empty (interface_offences_in declarations index first) _ none in
    (interface_found declarations index first parts.0, interfaces_found declarations (1 + index) others parts.1)

interfaces_whole : (declarations : List DeclTree) (index : ℕ) (some : List DeclTree)
    → AreTypedInterfaces declarations index some → interfaces_offences declarations index some ≡ []
interfaces_whole declarations index [] typed = refl
interfaces_whole declarations index (first ∷ others) typed =
    empty_both (interface_offences_in declarations index first) _
    (interface_whole declarations index first typed.0) (interfaces_whole declarations (1 + index) others typed.1)

-- the value of a field without an offence fits its type
field_found : (declarations : List DeclTree) (types : List PlainType) (type : PlainType) (place : Place)
    (initial : MaybeExpr) → field_offences declarations types type place initial ≡ []
    → IsTypedField declarations types type initial
field_found declarations types type place NoValue none = asked_so (can_be_null type) T3 place none
field_found declarations types type place (Value value) none =
    asked_found declarations (value_frame types) value type (expr_place value) none

-- a field whose value fits has no offence
field_whole : (declarations : List DeclTree) (types : List PlainType) (type : PlainType) (place : Place)
    (initial : MaybeExpr) → IsTypedField declarations types type initial
    → field_offences declarations types type place initial ≡ []
field_whole declarations types type place NoValue typed = unoffending_so (can_be_null type) T3 place typed
field_whole declarations types type place (Value value) typed =
    asked_whole (expr_place value) typed.has_type typed.fits_it

-- a method without an offence is well typed
method_found : (declarations : List DeclTree) (class : Name) (fields : List PlainType) (signature : SignatureTree)
    (end : Place) (body : Statements) → method_offences declarations class fields signature end body ≡ []
    → IsTypedMethod declarations class fields signature body
method_found declarations class fields signature end body none =
    let frame = method_frame class fields signature body in
    let parts = both_empty (statements_offences declarations frame true body) _ none in
    record {
      body_is = statements_found declarations frame true body parts.0;
      ends = asked_so (ends_well (plain signature.result) body) T5 end parts.1;
    }

-- a well-typed method has no offence
method_whole : (declarations : List DeclTree) (class : Name) (fields : List PlainType) (signature : SignatureTree)
    (end : Place) (body : Statements) → IsTypedMethod declarations class fields signature body
    → method_offences declarations class fields signature end body ≡ []
method_whole declarations class fields signature end body typed =
    empty_both (statements_offences declarations (method_frame class fields signature body) true body) _
    (statements_whole typed.body_is) (unoffending_so (ends_well (plain signature.result) body) T5 end typed.ends)

-- members without an offence are well typed
members_found : (declarations : List DeclTree) (class : Name) (fields known : List PlainType)
    (members : List MemberTree) → members_offences declarations class fields known members ≡ []
    → AreTypedMembers declarations class fields known members
members_found declarations class fields known [] none = tt
members_found declarations class fields known (FieldTree type name initial ∷ others) none =
    let parts = both_empty (field_offences declarations known (plain type) name.place initial) _ none in (
      field_found declarations known (plain type) name.place initial parts.0,
      members_found declarations class fields (known ++ plain type ∷ []) others parts.1,
    )
members_found declarations class fields known (MethodTree signature end body ∷ others) none =
    let parts = both_empty (method_offences declarations class fields signature end body) _ none in (
      method_found declarations class fields signature end body parts.0,
      members_found declarations class fields known others parts.1,
    )

-- well-typed members have no offence
members_whole : (declarations : List DeclTree) (class : Name) (fields known : List PlainType)
    (members : List MemberTree) → AreTypedMembers declarations class fields known members
    → members_offences declarations class fields known members ≡ []
members_whole declarations class fields known [] typed = refl
members_whole declarations class fields known (FieldTree type name initial ∷ others) typed =
    empty_both (field_offences declarations known (plain type) name.place initial) _
    (field_whole declarations known (plain type) name.place initial typed.0)
    (members_whole declarations class fields (known ++ plain type ∷ []) others typed.1)
members_whole declarations class fields known (MethodTree signature end body ∷ others) typed =
    empty_both (method_offences declarations class fields signature end body) _
    (method_whole declarations class fields signature end body typed.0)
    (members_whole declarations class fields known others typed.1)

-- a class without an offence is well typed
class_found : (declarations : List DeclTree) (index : ℕ) (declaration : DeclTree)
    → class_offences_in declarations index declaration ≡ [] → IsTypedClass declarations index declaration
class_found declarations index (ClassTree place name params implemented members) none =
    let meets = meets_interfaces declarations index members in
    let parts = both_empty (offence_if (not meets) T4 name.place) _ none in (
      asked_so meets T4 name.place parts.0,
      members_found declarations name.name (param_types params ++ field_types members) (param_types params) members
          parts.1,
    )
class_found declarations index other none = tt

-- a well-typed class has no offence
class_whole : (declarations : List DeclTree) (index : ℕ) (declaration : DeclTree)
    → IsTypedClass declarations index declaration → class_offences_in declarations index declaration ≡ []
class_whole declarations index (ClassTree place name params implemented members) typed =
    let meets = meets_interfaces declarations index members in
    empty_both (offence_if (not meets) T4 name.place) _ (unoffending_so meets T4 name.place typed.0)
    (members_whole declarations name.name (param_types params ++ field_types members) (param_types params) members
    typed.1)
class_whole declarations index other typed = refl

-- the same of all classes
classes_found : (declarations : List DeclTree) (index : ℕ) (some : List DeclTree)
    → classes_offences declarations index some ≡ [] → AreTypedClasses declarations index some
classes_found declarations index [] none = tt
classes_found declarations index (first ∷ others) none =
    let parts = both_empty (class_offences_in declarations index first) _ none in
    (class_found declarations index first parts.0, classes_found declarations (1 + index) others parts.1)

classes_whole : (declarations : List DeclTree) (index : ℕ) (some : List DeclTree)
    → AreTypedClasses declarations index some → classes_offences declarations index some ≡ []
classes_whole declarations index [] typed = refl
classes_whole declarations index (first ∷ others) typed =
    empty_both (class_offences_in declarations index first) _ (class_whole declarations index first typed.0)
    (classes_whole declarations (1 + index) others typed.1)

-- a program without an offence is well typed
pub program_found : (source : SourceTree) → type_offences source ≡ [] → IsTypedProgram source
unfolding function_offences interface_offences class_offences main_offences type_offences
program_found source none =
    let functions = function_offences source.declarations in
    let interfaces = interface_offences source.declarations in
    let most = both_empty (functions ++ interfaces ++ class_offences source.declarations) _ none in
    let more = both_empty (functions ++ interfaces) _ most.0 in
    let parts = both_empty functions _ more.0 in
    record {
      functions = functions_found source.declarations source.declarations parts.0;
      interfaces = interfaces_found source.declarations 0 source.declarations parts.1;
      classes = classes_found source.declarations 0 source.declarations more.1;
      main_is = statements_found source.declarations (main_frame source.main) false source.main most.1;
    }

-- a well-typed program has no offence
pub program_whole : (source : SourceTree) → IsTypedProgram source → type_offences source ≡ []
unfolding function_offences interface_offences class_offences main_offences type_offences
program_whole source typed =
    let functions = function_offences source.declarations in
    let interfaces = interface_offences source.declarations in
    empty_both (functions ++ interfaces ++ class_offences source.declarations) _
    (empty_both (functions ++ interfaces) _
    (empty_both functions _ (functions_whole source.declarations source.declarations typed.functions)
    (interfaces_whole source.declarations 0 source.declarations typed.interfaces))
    (classes_whole source.declarations 0 source.declarations typed.classes))
    (statements_whole typed.main_is)
