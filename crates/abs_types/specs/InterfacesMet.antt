-- Whether classes have the methods of the interfaces that they implement, and whether methods of one name in an
-- interface have the same types. Types are the same here, and not such that fit.
--
--   `same_type`, `same_types`      whether types are the same
--   `same_method`                  whether methods take and give the same types
--   `has_signature`                whether a class has a method as an interface declares it
--   `meets_interfaces`             whether the class with an index has all methods of the interfaces above it
--   `agrees`                       whether methods of one name have the same types in an interface and those above it
use Rattle.std.specs.Prelude.{ℕ, Bool, true, false, not, ◌&&◌, ◌||◌, List, [], ◌∷◌, ◌++◌, nat_eq}
use Rattle.std.specs.Str.{bytes_eq}
use Rattle.abs_tree.specs.Syntax.{SignatureTree, MemberTree, DeclTree}
use Rattle.abs_types.specs.Methods.{MethodType, first_of_each, inherited_signatures, member_signatures, method_type}
use Rattle.abs_types.specs.PlainTypes.{PlainType, PlainInt, PlainString, PlainBottom, PlainNull, PlainFut, PlainData, PlainApplied, PlainInterface, PlainClass, PlainParameter}

-- whether two types are the same
abbrev pub same_type : PlainType → PlainType → Bool
same_type PlainInt PlainInt = true
same_type PlainString PlainString = true
same_type PlainBottom PlainBottom = true
same_type PlainNull PlainNull = true
same_type (PlainFut one) (PlainFut other) = same_type one other
same_type (PlainData one) (PlainData other) = bytes_eq one other
same_type (PlainApplied head argument) (PlainApplied other_head other_argument) =
    same_type head other_head && same_type argument other_argument
same_type (PlainInterface one) (PlainInterface other) = bytes_eq one other
same_type (PlainClass one) (PlainClass other) = bytes_eq one other
same_type (PlainParameter one) (PlainParameter other) = nat_eq one other
same_type _ _ = false

-- whether two lists of types are as long, and have the same types in the same order
abbrev pub same_types : List PlainType → List PlainType → Bool
same_types [] [] = true
same_types (one ∷ ones) (other ∷ others) = same_type one other && same_types ones others
same_types _ _ = false

-- whether methods take and give the same types
abbrev pub same_method : MethodType → MethodType → Bool
same_method one other = same_types one.takes other.takes && same_type one.gives other.gives

-- whether methods have one name and the same types
abbrev pub is_same_signature : SignatureTree → SignatureTree → Bool
is_same_signature one other =
    bytes_eq one.name.name other.name.name && same_method (method_type one) (method_type other)

-- whether one of several methods is declared like this one
abbrev pub has_signature : List SignatureTree → SignatureTree → Bool
has_signature [] wanted = false
has_signature (first ∷ others) wanted = is_same_signature first wanted || has_signature others wanted

abbrev pub has_signatures : List SignatureTree → List SignatureTree → Bool
has_signatures own [] = true
has_signatures own (first ∷ others) = has_signature own first && has_signatures own others

-- whether the class with an index and these members has all methods of the interfaces above it
abbrev pub meets_interfaces : List DeclTree → ℕ → List MemberTree → Bool
meets_interfaces declarations index members =
    has_signatures (first_of_each (member_signatures members)) (inherited_signatures declarations index)

-- whether methods have the same types, if they have one name
abbrev pub can_be_both : SignatureTree → SignatureTree → Bool
can_be_both one other =
    not (bytes_eq one.name.name other.name.name) || same_method (method_type one) (method_type other)

abbrev pub can_be_with_all : SignatureTree → List SignatureTree → Bool
can_be_with_all one [] = true
can_be_with_all one (first ∷ others) = can_be_both one first && can_be_with_all one others

-- whether each two methods have the same types, if they have one name
abbrev pub agree : List SignatureTree → Bool
agree [] = true
agree (first ∷ others) = can_be_with_all first others && agree others

-- whether each two methods have the same types, if they have one name, among those that the interface with an index
-- declares and those of the interfaces above it
abbrev pub agrees : List DeclTree → ℕ → List SignatureTree → Bool
agrees declarations index signatures = agree (first_of_each signatures ++ inherited_signatures declarations index)
