-- The methods of an object, from memory. These words serve contracts of this crate alone.
--
--   `signatures_of_head`           the methods of an interface or a class, which a type is at its head
--   `called`                       those with a name and this many parameters
--   `trees_of`                     the trees of methods that are found
--   `method_tree_at`               the method that is the member with an index of a declaration
--   `signature_tree_at`            the method that an interface declares at a place
--   `if_called`, `if_there`        a method, if it has this many parameters, and if it is there
--   `picked`                       those at places of interfaces that are picked
use denote.Ref.{Bor}
use Rattle.std.specs.Prelude.{ℕ, Bool, List, [], ◌∷◌, ◌++◌, filter, length, map, nat_eq, slice_get, Option, Some, None, option_and_then, if◌then◌else◌}
use Rattle.abs_tree.specs.Syntax.{Name, SignatureTree, MemberTree, FieldTree, MethodTree, DeclTree, DataTree, FunctionTree, InterfaceTree, ClassTree}
use Rattle.abs_tree.specs.SyntaxViews.{signature_tree}
use Rattle.abs_tree.specs.declared.syntax.declaration.Signature.{Signature}
use Rattle.abs_program.specs.declared.tables.members.SignatureAt.{SignatureAt}
use Rattle.abs_types.specs.Methods.{is_called, signatures_of_type}
use Rattle.abs_types.specs.PlainTypes.{PlainClass, PlainInterface}
use Rattle.check_fun.specs.ObjectHeads.{PlainHead, OfClass, OfInterface, OfOther}

-- the methods of what a type is at its head
abbrev pub signatures_of_head : List DeclTree → PlainHead → List SignatureTree
signatures_of_head declarations (OfInterface name) = signatures_of_type declarations (PlainInterface name)
signatures_of_head declarations (OfClass name) = signatures_of_type declarations (PlainClass name)
signatures_of_head declarations OfOther = []

-- the methods of a head with a name and this many parameters
abbrev pub called : List DeclTree → PlainHead → Name → ℕ → List SignatureTree
called declarations head name count = filter (is_called name count) (signatures_of_head declarations head)

-- the trees of methods that are found
abbrev pub trees_of : List Name → List (Bor Signature) → List SignatureTree
trees_of names found = map (λ (one : Bor Signature). signature_tree names one.now) found

-- the method that a member is
abbrev pub method_in : MemberTree → Option SignatureTree
method_in (MethodTree signature end body) = Some signature
method_in (FieldTree type name initial) = None

-- the method that is the member with an index of a declaration, if that is a class
abbrev pub method_among : ℕ → DeclTree → Option SignatureTree
method_among index (ClassTree place name params implemented members) =
    option_and_then method_in (slice_get members index)
method_among index (DataTree place name type_params constructors) = None
method_among index (FunctionTree place result name type_params params value) = None
method_among index (InterfaceTree place name extended signatures) = None

-- the method that is the member with an index of the declaration with an index, if that is a class
unfoldable pub method_tree_at : List DeclTree → ℕ → ℕ → Option SignatureTree
method_tree_at declarations class index = option_and_then (method_among index) (slice_get declarations class)

-- the method with an index that a declaration declares, if that is an interface
abbrev pub signature_among : ℕ → DeclTree → Option SignatureTree
signature_among index (InterfaceTree place name extended signatures) = slice_get signatures index
signature_among index (DataTree place name type_params constructors) = None
signature_among index (FunctionTree place result name type_params params value) = None
signature_among index (ClassTree place name params implemented members) = None

-- the method that an interface declares at a place
unfoldable pub signature_tree_at : List DeclTree → SignatureAt → Option SignatureTree
signature_tree_at declarations at = option_and_then (signature_among at.index) (slice_get declarations at.interface)

-- a method, if it has this many parameters
abbrev pub if_called : ℕ → SignatureTree → List SignatureTree
if_called count signature = if nat_eq (length signature.params) count then signature ∷ [] else []

-- a method, if it is there and has this many parameters
abbrev pub if_there : ℕ → Option SignatureTree → List SignatureTree
if_there count (Some signature) = if_called count signature
if_there count None = []

-- the methods at places of interfaces that are picked
abbrev pub picked : (ℕ → Bool) → List DeclTree → ℕ → List SignatureAt → List SignatureTree
picked pick declarations count [] = []
picked pick declarations count (at ∷ others) =
    (if pick at.interface then if_there count (signature_tree_at declarations at) else [])
    ++ picked pick declarations count others
