-- The names that a source declares for its constructors, its classes and the methods of its interfaces and classes, in
-- the order of the source.
--
--   `constructor_names`                                those of constructors
--   `signature_names`, `member_names`                  those of methods of an interface, and of those among members
--   `decl_names`, `decls_names`                        those that a declaration declares, and that several declare
--   `declared_names`                                   those that a source declares
use Rattle.std.specs.Prelude.{List, [], ◌∷◌, ◌++◌}
use Rattle.abs_tree.specs.Syntax.{Name, ConstructorTree, SignatureTree, MemberTree, FieldTree, MethodTree, DeclTree, DataTree, InterfaceTree, ClassTree, SourceTree}

-- the names of constructors
abbrev pub constructor_names : List ConstructorTree → List Name
constructor_names [] = []
constructor_names (constructor ∷ others) = constructor.name.name ∷ constructor_names others

-- the names of the methods of an interface
abbrev pub signature_names : List SignatureTree → List Name
signature_names [] = []
signature_names (signature ∷ others) = signature.name.name ∷ signature_names others

-- the names of the methods among the members of a class
abbrev pub member_names : List MemberTree → List Name
member_names [] = []
member_names (MethodTree signature _ _ ∷ others) = signature.name.name ∷ member_names others
member_names (FieldTree _ _ _ ∷ others) = member_names others

-- of data the names of its constructors; of an interface those of its methods; of a class its name, followed by those
-- of its methods; of a function none
abbrev pub decl_names : DeclTree → List Name
decl_names (DataTree _ _ _ constructors) = constructor_names constructors
decl_names (InterfaceTree _ _ _ signatures) = signature_names signatures
decl_names (ClassTree _ name _ _ members) = name.name ∷ member_names members
decl_names _ = []

-- the names that several declarations declare
abbrev pub decls_names : List DeclTree → List Name
decls_names [] = []
decls_names (decl ∷ others) = decl_names decl ++ decls_names others

-- the names that a source declares
abbrev pub declared_names : SourceTree → List Name
declared_names source = decls_names source.declarations
