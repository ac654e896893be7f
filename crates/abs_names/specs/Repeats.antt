-- Names that are declared twice in one list of declarations: type parameters, parameters, fields, methods.
--
--   `declarations_repeats`                     the offences of the lists in declarations
--   `repeated`                                 those of one list, whose names earlier ones have
--   `param_names`, `field_names`, ..           the names that parameters, members and heads of methods declare
--   `class_names`                              the names of the fields of a class
use Rattle.std.specs.Prelude.{List, [], ◌∷◌, ◌++◌, map}
use Rattle.std.specs.List.{list_any}
use Rattle.std.specs.Str.{bytes_eq}
use Rattle.abs_tree.specs.Names.{with_name}
use Rattle.abs_tree.specs.Syntax.{Name, VariableTree, Unresolved, DeclaredTree, ParamTree, SignatureTree, MemberTree, FieldTree, MethodTree, DeclTree, DataTree, FunctionTree, InterfaceTree, ClassTree}
use Rattle.abs_tree.specs.declared.place.Place.{Place}
use Rattle.abs_tree.specs.declared.refusal.Offence.{Offence}
use Rattle.abs_names.specs.Single.{twice}

-- declarations after others with these names: each offends whose name an earlier one has
abbrev pub repeated : List Name → List DeclaredTree → List Offence
repeated earlier [] = []
repeated earlier (declared ∷ others) =
    twice (list_any (bytes_eq declared.name) earlier) declared.place
    ++ repeated (with_name earlier declared.name) others

-- the name that a variable at this place declares; one that is resolved already has none
abbrev pub declared_name : Place → VariableTree → List DeclaredTree
declared_name place (Unresolved name) = record { place = place; name = name } ∷ []
declared_name place _ = []

-- the names of parameters
abbrev pub param_names : List ParamTree → List DeclaredTree
param_names [] = []
param_names (param ∷ others) = declared_name param.place param.variable ++ param_names others

-- the names of the fields, and of the methods, among the members of a class
abbrev pub field_names : List MemberTree → List DeclaredTree
field_names [] = []
field_names (FieldTree type name initial ∷ others) = name ∷ field_names others
field_names (MethodTree signature end body ∷ others) = field_names others

abbrev pub method_names : List MemberTree → List DeclaredTree
method_names [] = []
method_names (FieldTree type name initial ∷ others) = method_names others
method_names (MethodTree signature end body ∷ others) = signature.name ∷ method_names others

-- the names of heads of methods
abbrev pub signature_names : List SignatureTree → List DeclaredTree
signature_names signatures = map (λ (signature : SignatureTree). signature.name) signatures

-- the names of the fields of a class, of which its parameters are the first
abbrev pub class_names : List ParamTree → List MemberTree → List DeclaredTree
class_names params members = param_names params ++ field_names members

-- the lists of parameters of heads of methods, and of the methods among members
abbrev pub signatures_repeats : List SignatureTree → List Offence
signatures_repeats [] = []
signatures_repeats (signature ∷ others) = repeated [] (param_names signature.params) ++ signatures_repeats others

abbrev pub member_repeats : MemberTree → List Offence
member_repeats (FieldTree type name initial) = []
member_repeats (MethodTree signature end body) = repeated [] (param_names signature.params)

abbrev pub members_repeats : List MemberTree → List Offence
members_repeats [] = []
members_repeats (member ∷ others) = member_repeats member ++ members_repeats others

-- the lists of a declaration
abbrev pub declaration_repeats : DeclTree → List Offence
declaration_repeats (DataTree place name type_params constructors) = repeated [] type_params
declaration_repeats (FunctionTree place result name type_params params value) =
    repeated [] type_params ++ repeated [] (param_names params)
declaration_repeats (InterfaceTree place name extended signatures) =
    repeated [] (signature_names signatures) ++ signatures_repeats signatures
declaration_repeats (ClassTree place name params implemented members) =
    repeated [] (class_names params members) ++ (repeated [] (method_names members) ++ members_repeats members)

abbrev pub declarations_repeats : List DeclTree → List Offence
declarations_repeats [] = []
declarations_repeats (declaration ∷ others) = declaration_repeats declaration ++ declarations_repeats others
