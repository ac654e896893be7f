-- Calls, by the methods that the receiver has.
--
--   `AreMethods`                   methods from memory are those of a type with a name and this many parameters
--   `methods_known`                those that are found are
--   `has_reported`                 whether there is one
--   `call_found`, `call_noted`     what a call gives, and what is noted of it
--   `call_unoffending`             what is noted where an argument has no type
--   `taking_known`                 what the first method gives that takes the arguments
use denote.Ref.{Bor}
use Rattle.std.proofs.Common.{◌≡◌, ℕ, Bool, true, false, not, List, [], ◌∷◌, Option, Some, None, if◌then◌else◌, filter, length, map, nat_eq, refl, sym, ap, ◌∙◌, subst, append-nil}
use Rattle.std.proofs.lemmas.List.{length-map}
use Rattle.std.proofs.lemmas.Option.{same_Some}
use Rattle.abs_tree.specs.Names.{name_of}
use Rattle.abs_tree.specs.Syntax.{Name, DeclTree, SignatureTree}
use Rattle.abs_tree.specs.declared.place.Place.{Place}
use Rattle.abs_tree.specs.declared.refusal.Code.TheVariants.{T2}
use Rattle.abs_tree.specs.declared.refusal.Offence.{Offence}
use Rattle.abs_tree.specs.declared.symbol.Symbol.{Symbol}
use Rattle.abs_tree.specs.declared.syntax.declaration.Signature.{Signature}
use Rattle.abs_types.specs.Methods.{call_type, first_taking, has_method, is_called, method_type, methods_named, named_methods, signatures_of_type}
use Rattle.abs_tree.specs.Offences.{offence_if}
use Rattle.abs_types.specs.Mistyped.{untyped}
use Rattle.abs_types.specs.PlainTypes.{PlainType, PlainInt, PlainString, PlainBottom, PlainNull, PlainFut, PlainData, PlainApplied, PlainInterface, PlainClass, PlainParameter}
use Rattle.abs_types.specs.SideTypes.{call_offences, called_type}
use Rattle.abs_types.specs.TypeShapes.{type_at, types_at}
use Rattle.abs_types.specs.TypeTables.{declarations_of, types_in}
use Rattle.abs_types.specs.declared.table.shape.TypeIndex.{TypeIndex}
use Rattle.check_fun.proofs.ContextLemmas.{noted_after}
use Rattle.check_fun.specs.Contexts.{context_in, Context, FindsAll, Finds, Knows, Noted}
use Rattle.check_fun.specs.ObjectHeads.{head_named, head_of}
use Rattle.check_fun.specs.declared.checker.Checker.{Checker}
use Rattle.check_fun.specs.declared.heads.Head.{Head}
use Rattle.check_obj.specs.Calls.{called, signatures_of_head, trees_of}
use Rattle.std.proofs.Math.Bool.{not-not}

-- the types of methods with a name are those of the methods that are called so: the case of one more
named_step : (first : SignatureTree) (named : List SignatureTree) (rest : List SignatureTree) (reported : Bool)
    → (if reported then method_type first ∷ map method_type rest else map method_type rest)
    ≡ map method_type (if reported then first ∷ rest else rest)
named_step first named rest true = refl
named_step first named rest false = refl

named_are_called : (name : Name) (count : ℕ) (signatures : List SignatureTree)
    → named_methods name count signatures ≡ map method_type (filter (is_called name count) signatures)
named_are_called name count [] = refl
named_are_called name count (first ∷ others) =
    rw (named_are_called name count others)
    (named_step first others (filter (is_called name count) others) (is_called name count first))

-- the methods of a type are those of what it is at its head
signatures_by_head : (declarations : List DeclTree) (type : PlainType)
    → signatures_of_type declarations type ≡ signatures_of_head declarations (head_of type)
unfolding signatures_of_type
signatures_by_head declarations PlainInt = refl
signatures_by_head declarations PlainString = refl
signatures_by_head declarations PlainBottom = refl
signatures_by_head declarations PlainNull = refl
signatures_by_head declarations (PlainFut value) = refl
signatures_by_head declarations (PlainData name) = refl
signatures_by_head declarations (PlainApplied head argument) = refl
signatures_by_head declarations (PlainInterface name) = refl
signatures_by_head declarations (PlainClass name) = refl
signatures_by_head declarations (PlainParameter index) = refl

-- Methods from memory are those of a type with a name and this many parameters.
pub record AreMethods (context : Context) (type : PlainType) (name : Name) (count : ℕ) (methods : List (Bor Signature))
    : Type 0 where
  pub are : map method_type (trees_of context.names methods) ≡ methods_named context.declarations type name count

-- those that are found are
pub methods_known : {checker : Checker} {context : Context} {type : PlainType} {methods : List (Bor Signature)}
    (head : Head) (method : Symbol) (count : ℕ)
    → Knows checker context → head_named context.names head ≡ head_of type
    → trees_of checker.table.program.now.symbols methods
    ≡ called (declarations_of checker.table) (head_named checker.table.program.now.symbols head)
    (name_of checker.table.program.now.symbols method) count
    → AreMethods context type (name_of context.names method) count methods
unfolding context_in
methods_known {checker} {context} {type} {methods} head method count knows headed found =
    subst (λ (one : Context). head_named one.names head ≡ head_of type
    → AreMethods one type (name_of one.names method) count methods) knows.is
    (λ same.
    let declarations = declarations_of checker.table in
    let name = name_of checker.table.program.now.symbols method in
    record {
      are = ap (map method_type) (found ∙ ap (λ one. called declarations one name count) same)
          ∙ (ap (λ (signatures : List SignatureTree). map method_type (filter (is_called name count) signatures))
          (sym (signatures_by_head declarations type))
          ∙ sym (named_are_called name count (signatures_of_type declarations type)));
    })
    headed

-- whether there is one
pub has_reported : {context : Context} {type : PlainType} {name : Name} {count : ℕ} {methods : List (Bor Signature)}
    (empty : Bool) (size : ℕ) → AreMethods context type name count methods → size ≡ length methods
    → empty ≡ nat_eq size 0 → has_method context.declarations type name count ≡ not empty
unfolding has_method
has_reported {context} {methods = methods} empty size are sized is =
    rw (← are.are, length-map (trees_of context.names methods) method_type, length-map methods _, is, sized) refl

-- what the first method gives that takes arguments of these types
pub taking_known : {context : Context} {type : PlainType} {name : Name} {count : ℕ} {methods : List (Bor Signature)}
    (known : List PlainType) → AreMethods context type name count methods → count ≡ length known
    → first_taking context.declarations known (map method_type (trees_of context.names methods))
    ≡ call_type context.declarations type name known
unfolding call_type
taking_known {context} {type} {name} known are counted =
    ap (first_taking context.declarations known)
    (are.are ∙ ap (methods_named context.declarations type name) counted)

-- as many types are known as arguments are given
pub given_count : {checker : Checker} {given : List TypeIndex} {known : List PlainType}
    → FindsAll checker (Some given) (Some known) → length given ≡ length known
given_count {checker} {given} {known} finds =
    sym (length-map given (type_at (types_in checker.table)))
    ∙ ap length (same_Some (types_at (types_in checker.table) given) known finds.are)

-- what a call gives, if its receiver and its arguments have types
pub call_found : {checker now : Checker} {object : Option PlainType} {types : Option (List PlainType)}
    {found : Option TypeIndex} (declarations : List DeclTree) (name : Name) (receiver : TypeIndex)
    (given : List TypeIndex) → Finds checker (Some receiver) object → FindsAll checker (Some given) types
    → ((type : PlainType) (known : List PlainType) → Finds checker (Some receiver) (Some type)
    → FindsAll checker (Some given) (Some known) → Finds now found (call_type declarations type name known))
    → Finds now found (called_type declarations object name types)
call_found {checker} {now} {found = found} declarations name receiver given object types step =
    rw (← object.is, ← types.are)
    (step (type_at (types_in checker.table) receiver) (types_at (types_in checker.table) given)
    (record { found_is = object.found_is; is = refl }) (record { found_are = types.found_are; are = refl }))

-- what is noted of it
pub call_noted : {checker : Checker} {before between now : Option Offence} {object : Option PlainType}
    {types : Option (List PlainType)} (declarations : List DeclTree) (name : Name) (count : ℕ) (place : Place)
    (receiver : TypeIndex) (given : List TypeIndex) (empty : Bool) → Finds checker (Some receiver) object
    → FindsAll checker (Some given) types
    → ((type : PlainType) → Finds checker (Some receiver) (Some type)
    → has_method declarations type name count ≡ not empty)
    → Noted before (offence_if empty T2 place) between
    → ((type : PlainType) (known : List PlainType) → Finds checker (Some receiver) (Some type)
    → FindsAll checker (Some given) (Some known)
    → Noted between (untyped (not empty) (call_type declarations type name known) place) now)
    → Noted before (call_offences declarations object name count types place) now
call_noted {checker} declarations name count place receiver given empty object types has missing step =
    let type = type_at (types_in checker.table) receiver in
    let known = types_at (types_in checker.table) given in
    let of_object : Finds checker (Some receiver) (Some type) = record { found_is = object.found_is; is = refl } in
    let of_types : FindsAll checker (Some given) (Some known) = record { found_are = types.found_are; are = refl } in
    rw (← object.is, ← types.are, has type of_object, not-not empty)
    (noted_after _ _ missing (step type known of_object of_types))

-- where an argument has no type, only a missing method is
pub call_unoffending : {checker : Checker} {before now : Option Offence} {object : Option PlainType}
    {types : Option (List PlainType)} (declarations : List DeclTree) (name : Name) (count : ℕ) (place : Place)
    (receiver : TypeIndex) (empty : Bool) → Finds checker (Some receiver) object → FindsAll checker None types
    → ((type : PlainType) → Finds checker (Some receiver) (Some type)
    → has_method declarations type name count ≡ not empty)
    → Noted before (offence_if empty T2 place) now
    → Noted before (call_offences declarations object name count types place) now
call_unoffending {checker} declarations name count place receiver empty object types has missing =
    let type = type_at (types_in checker.table) receiver in
    let of_object : Finds checker (Some receiver) (Some type) = record { found_is = object.found_is; is = refl } in
    rw (← object.is, ← types.are, has type of_object, not-not empty, append-nil) missing
