-- The members of declarations, by their names or by their numbers. Of several methods of a name in one class, and of
-- several in one interface, the first counts.
--
--   `method_of`                the method of a class with a name, by its index among the members
--   `signatures_of`            the methods of interfaces with a name
--   `field_of`                 the field of a class with a number: parameters come first, then fields among the members
use Rattle.std.specs.Prelude.{ℕ, ◌+◌, ◌-◌, List, [], ◌∷◌, ◌++◌, length, slice_get, Option, Some, None, option_map, option_and_then, nat_lt, if◌then◌else◌}
use Rattle.std.specs.Str.{bytes_eq}
use Rattle.abs_tree.specs.Syntax.{Name, SignatureTree, MemberTree, FieldTree, MethodTree, DeclTree, DataTree, FunctionTree, InterfaceTree, ClassTree}
use Rattle.abs_program.specs.declared.tables.members.FieldAt.{FieldAt}
use Rattle.abs_program.specs.declared.tables.members.FieldAt.TheVariants.{Param, Member}
use Rattle.abs_program.specs.declared.tables.members.SignatureAt.{SignatureAt}

-- the first method with a name among members, the first of which has this index
abbrev pub method_among : ℕ → List MemberTree → Name → Option ℕ
method_among index [] name = None
method_among index (FieldTree type own initial ∷ others) name = method_among (index + 1) others name
method_among index (MethodTree signature end body ∷ others) name =
    if bytes_eq signature.name.name name then Some index else method_among (index + 1) others name

-- the method of a declaration with a name: only a class has methods with bodies
abbrev pub method_in : DeclTree → Name → Option ℕ
method_in (ClassTree place own params implemented members) name = method_among 0 members name
method_in (DataTree place own type_params constructors) name = None
method_in (FunctionTree place result own type_params params value) name = None
method_in (InterfaceTree place own extended signatures) name = None

-- the method with a name of the class with this index
unfoldable pub method_of : List DeclTree → ℕ → Name → Option ℕ
method_of declarations class name =
    option_and_then (λ declaration. method_in declaration name) (slice_get declarations class)

-- the first signature with a name among those of an interface, the first of which has this index
abbrev pub signature_among : ℕ → ℕ → List SignatureTree → Name → List SignatureAt
signature_among interface index [] name = []
signature_among interface index (signature ∷ others) name =
    if bytes_eq signature.name.name name then record { interface = interface; index = index } ∷ []
    else signature_among interface (index + 1) others name

-- the signature with a name of the declaration with this index: only an interface has one
abbrev pub signature_in : ℕ → DeclTree → Name → List SignatureAt
signature_in interface (InterfaceTree place own extended signatures) name = signature_among interface 0 signatures name
signature_in interface (DataTree place own type_params constructors) name = []
signature_in interface (FunctionTree place result own type_params params value) name = []
signature_in interface (ClassTree place own params implemented members) name = []

-- the signatures with a name of declarations, the first of which has this index, in their order
abbrev pub signatures_from : ℕ → List DeclTree → Name → List SignatureAt
signatures_from index [] name = []
signatures_from index (declaration ∷ others) name =
    signature_in index declaration name ++ signatures_from (index + 1) others name

-- the interfaces that declare a method with a name, each with the index of its signature
unfoldable pub signatures_of : List DeclTree → Name → List SignatureAt
signatures_of declarations name = signatures_from 0 declarations name

-- the indices of the fields among members, the first of which has this index
abbrev pub field_indices : ℕ → List MemberTree → List ℕ
field_indices index [] = []
field_indices index (FieldTree type name initial ∷ others) = index ∷ field_indices (index + 1) others
field_indices index (MethodTree signature end body ∷ others) = field_indices (index + 1) others

-- the indices of the fields among the members of a declaration
abbrev pub fields_in : DeclTree → List ℕ
fields_in (ClassTree place name params implemented members) = field_indices 0 members
fields_in (DataTree place name type_params constructors) = []
fields_in (FunctionTree place result name type_params params value) = []
fields_in (InterfaceTree place name extended signatures) = []

-- how many parameters a class has
abbrev pub params_in : DeclTree → ℕ
params_in (ClassTree place name params implemented members) = length params
params_in (DataTree place name type_params constructors) = 0
params_in (FunctionTree place result name type_params params value) = 0
params_in (InterfaceTree place name extended signatures) = 0

-- the field with a number, given how many parameters a class has, and the indices of its fields among the members
abbrev pub field_among : ℕ → List ℕ → ℕ → Option FieldAt
field_among params indices number =
    if nat_lt number params then Some (Param number) else option_map Member (slice_get indices (number - params))

-- the field with a number of the class with this index
unfoldable pub field_of : List DeclTree → ℕ → ℕ → Option FieldAt
field_of declarations class number =
    option_and_then (λ declaration. field_among (params_in declaration) (fields_in declaration) number)
    (slice_get declarations class)
