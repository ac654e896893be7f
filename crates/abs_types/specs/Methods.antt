-- The methods that a type has, and calls of them.
--
--   `MethodType`                   what a method takes and gives
--   `first_of_each`                the first method of each name
--   `own_signatures`               the methods that a declaration declares
--   `inherited_signatures`         those of the interfaces above it
--   `signatures_of_type`           those of a type: a class has its own, an interface also inherited ones
--   `methods_named`                the methods of a type that have a name, and this many parameters
--   `has_method`                   whether there is one
--   `call_type`                    the type of what a call gives
use Rattle.std.specs.Prelude.{ℕ, ◌+◌, Bool, not, ◌&&◌, List, [], ◌∷◌, ◌++◌, filter, length, nat_eq, slice_get, Option, Some, None, if◌then◌else◌}
use Rattle.std.specs.Str.{bytes_eq}
use Rattle.abs_program.specs.NameSpaces.{spaces_of}
use Rattle.abs_program.specs.Supertypes.{is_below}
use Rattle.abs_tree.specs.Syntax.{Name, SignatureTree, MemberTree, FieldTree, MethodTree, DeclTree, DataTree, FunctionTree, InterfaceTree, ClassTree}
use Rattle.abs_program.specs.Tables.{meaning_of}
use Rattle.abs_program.specs.declared.name_spaces.Taking.{Taking}
use Rattle.abs_program.specs.declared.name_spaces.TypeMeaning.{TypeMeaning}
use Rattle.abs_program.specs.declared.name_spaces.TypeMeaning.TheVariants as type
use Rattle.abs_types.specs.Arguments.{all_fit}
use Rattle.abs_types.specs.PlainTypes.{PlainType, PlainInterface, PlainClass, plain}
use Rattle.abs_types.specs.Schemes.{param_types}

-- the types that a method takes in order, and that which it gives
pub record MethodType : Type 0 where
  pub takes : List PlainType
  pub gives : PlainType

abbrev pub method_type : SignatureTree → MethodType
method_type signature = record { takes = param_types signature.params; gives = plain signature.result }

-- the first method of each name
abbrev pub is_named : Name → SignatureTree → Bool
is_named name signature = bytes_eq signature.name.name name

abbrev pub first_of_each : List SignatureTree → List SignatureTree
first_of_each [] = []
first_of_each (first ∷ others) =
    first ∷ filter (λ other. not (is_named first.name.name other)) (first_of_each others)

-- the methods among the members of a class
abbrev pub member_signatures : List MemberTree → List SignatureTree
member_signatures [] = []
member_signatures (FieldTree type name initial ∷ others) = member_signatures others
member_signatures (MethodTree signature end body ∷ others) = signature ∷ member_signatures others

-- the methods that a declaration declares; of several with one name the first counts
abbrev pub signatures_in : DeclTree → List SignatureTree
signatures_in (InterfaceTree place name extended signatures) = first_of_each signatures
signatures_in (ClassTree place name params implemented members) = first_of_each (member_signatures members)
signatures_in (DataTree place name type_params constructors) = []
signatures_in (FunctionTree place result name type_params params value) = []

abbrev pub signatures_if_there : Option DeclTree → List SignatureTree
signatures_if_there (Some declaration) = signatures_in declaration
signatures_if_there None = []

-- the methods that the declaration with an index declares
abbrev pub own_signatures : List DeclTree → ℕ → List SignatureTree
own_signatures declarations index = signatures_if_there (slice_get declarations index)

-- the methods of the interfaces above the declaration with an index, in the order of the declarations, the first of
-- which has the index `next`
abbrev pub signatures_above : List DeclTree → ℕ → ℕ → List DeclTree → List SignatureTree
signatures_above declarations index next [] = []
signatures_above declarations index next (first ∷ others) =
    (if is_below declarations index next then signatures_in first else [])
    ++ signatures_above declarations index (1 + next) others

unfoldable pub inherited_signatures : List DeclTree → ℕ → List SignatureTree
inherited_signatures declarations index = signatures_above declarations index 0 declarations

-- the methods of what the name of a class or an interface stands for
abbrev pub class_signatures : List DeclTree → Option Taking → List SignatureTree
class_signatures declarations (Some class) = own_signatures declarations class.declaration
class_signatures declarations None = []

abbrev pub interface_signatures : List DeclTree → Option TypeMeaning → List SignatureTree
interface_signatures declarations (Some (type.Interface index)) =
    own_signatures declarations index ++ inherited_signatures declarations index
interface_signatures declarations _ = []

-- the methods of a type; those of no value, of `null`, data and futures have none
unfoldable pub signatures_of_type : List DeclTree → PlainType → List SignatureTree
signatures_of_type declarations (PlainClass name) =
    class_signatures declarations (meaning_of (spaces_of declarations).classes name)
signatures_of_type declarations (PlainInterface name) =
    interface_signatures declarations (meaning_of (spaces_of declarations).types name)
signatures_of_type declarations _ = []

-- whether a method has a name and this many parameters
abbrev pub is_called : Name → ℕ → SignatureTree → Bool
is_called name count signature = is_named name signature && nat_eq (length signature.params) count

abbrev pub named_methods : Name → ℕ → List SignatureTree → List MethodType
named_methods name count [] = []
named_methods name count (first ∷ others) =
    if is_called name count first then method_type first ∷ named_methods name count others
    else named_methods name count others

abbrev pub methods_named : List DeclTree → PlainType → Name → ℕ → List MethodType
methods_named declarations receiver name count = named_methods name count (signatures_of_type declarations receiver)

-- whether a type has a method with a name and this many parameters
unfoldable pub has_method : List DeclTree → PlainType → Name → ℕ → Bool
has_method declarations receiver name count =
    not (nat_eq (length (methods_named declarations receiver name count)) 0)

-- what the first method gives that takes arguments of these types
abbrev pub first_taking : List DeclTree → List PlainType → List MethodType → Option PlainType
first_taking declarations given [] = None
first_taking declarations given (first ∷ others) =
    if all_fit declarations given first.takes then Some first.gives else first_taking declarations given others

-- The type of what a call gives. Of several methods with the name and the number of parameters it is the first that
-- takes the arguments: an interface's own methods come first, and inherited ones follow in the order of the source.
unfoldable pub call_type : List DeclTree → PlainType → Name → List PlainType → Option PlainType
call_type declarations receiver name given =
    first_taking declarations given (methods_named declarations receiver name (length given))
