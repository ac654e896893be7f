-- Resolution keeps the names that a source declares, and puts those of the prelude before them.
use Rattle.std.proofs.Common.{◌≡◌, ℕ, List, [], ◌∷◌, ◌++◌, refl, ap, ap₂, ◌∙◌, append_assoc, sym}
use Rattle.abs_names.specs.Resolution.{resolved_constructors, resolved_signatures, resolved_members, resolved_declaration, resolved_declarations, resolved}
use Rattle.abs_names.specs.Scopes.{Meanings, fields_after}
use Rattle.abs_names.specs.TypeNames.{Around, around_of}
use Rattle.abs_prelude.specs.Prelude.{prelude}
use Rattle.abs_program.specs.NameSpaces.{NameSpaces, spaces_of}
use Rattle.abs_tree.specs.DeclaredNames.{constructor_names, signature_names, member_names, decl_names, decls_names, declared_names}
use Rattle.abs_tree.specs.Syntax.{Name, ConstructorTree, SignatureTree, MemberTree, FieldTree, MethodTree, DeclTree, DataTree, FunctionTree, InterfaceTree, ClassTree, SourceTree}

-- the names of constructors
constructors_kept : (around : Around) (constructors : List ConstructorTree)
    → constructor_names (resolved_constructors around constructors) ≡ constructor_names constructors
constructors_kept around [] = refl
constructors_kept around (constructor ∷ others) =
    ap (λ (names : List Name). constructor.name.name ∷ names) (constructors_kept around others)

-- the names of the methods of an interface
signatures_kept : (around : Around) (signatures : List SignatureTree)
    → signature_names (resolved_signatures around signatures) ≡ signature_names signatures
signatures_kept around [] = refl
signatures_kept around (signature ∷ others) =
    ap (λ (names : List Name). signature.name.name ∷ names) (signatures_kept around others)

-- the names of the methods of a class
members_kept : (around : Around) (fields : Meanings) (earlier : ℕ) (members : List MemberTree)
    → member_names (resolved_members around fields earlier members) ≡ member_names members
members_kept around fields earlier [] = refl
members_kept around fields earlier (FieldTree type name initial ∷ others) =
    members_kept around fields (fields_after earlier (FieldTree type name initial)) others
members_kept around fields earlier (MethodTree signature end body ∷ others) =
    ap (λ (names : List Name). signature.name.name ∷ names)
    (members_kept around fields (fields_after earlier (MethodTree signature end body)) others)

-- the names that a declaration declares
declaration_kept : (spaces : NameSpaces) (declaration : DeclTree)
    → decl_names (resolved_declaration spaces declaration) ≡ decl_names declaration
declaration_kept spaces (DataTree place name type_params constructors) =
    constructors_kept (around_of spaces type_params) constructors
declaration_kept spaces (FunctionTree place result name type_params params value) = refl
declaration_kept spaces (InterfaceTree place name extended signatures) =
    signatures_kept (around_of spaces []) signatures
declaration_kept spaces (ClassTree place name params implemented members) =
    ap (λ (names : List Name). name.name ∷ names) (members_kept (around_of spaces []) _ _ members)

declarations_kept : (spaces : NameSpaces) (declarations : List DeclTree)
    → decls_names (resolved_declarations spaces declarations) ≡ decls_names declarations
declarations_kept spaces [] = refl
declarations_kept spaces (declaration ∷ others) =
    ap₂ ◌++◌ (declaration_kept spaces declaration) (declarations_kept spaces others)

-- the names that two lists of declarations declare
both_declare : (one other : List DeclTree) → decls_names (one ++ other) ≡ decls_names one ++ decls_names other
both_declare [] other = refl
both_declare (declaration ∷ others) other =
    ap (λ (names : List Name). decl_names declaration ++ names) (both_declare others other)
    ∙ sym (append_assoc (decl_names declaration) (decls_names others) (decls_names other))

-- A resolved source declares the names of the prelude, and then its own.
pub declared_names_kept : (source : SourceTree)
    → declared_names (resolved source) ≡ decls_names prelude ++ declared_names source
declared_names_kept source =
    declarations_kept (spaces_of (prelude ++ source.declarations)) (prelude ++ source.declarations)
    ∙ both_declare prelude source.declarations
