-- How many variables a source declares in all: parameters, locals, and the variables of patterns and of `let`.
--
--   `member_variables`                                 those of the members of a class
--   `decl_variables`                                   those of declarations
--   `all_variables`                                    those of a source
use Rattle.std.specs.Prelude.{ℕ, ◌+◌, List, [], ◌∷◌, length}
use Rattle.abs_tree.specs.Syntax.{SignatureTree, NoValue, Value, MemberTree, FieldTree, MethodTree, DeclTree, DataTree, FunctionTree, InterfaceTree, ClassTree, SourceTree}
use Rattle.abs_tree.specs.SyntaxSizes.{expr_variables, statements_variables}

-- the parameters of the methods of an interface
abbrev pub signature_params : List SignatureTree → ℕ
signature_params [] = 0
signature_params (signature ∷ others) = length signature.params + signature_params others

-- the variables of the initial values and of the methods of a class
abbrev pub member_variables : List MemberTree → ℕ
member_variables [] = 0
member_variables (FieldTree _ _ NoValue ∷ others) = member_variables others
member_variables (FieldTree _ _ (Value value) ∷ others) = expr_variables value + member_variables others
member_variables (MethodTree signature _ body ∷ others) =
    length signature.params + statements_variables body + member_variables others

-- the variables of declarations
abbrev pub decl_variables : List DeclTree → ℕ
decl_variables [] = 0
decl_variables (DataTree _ _ _ _ ∷ others) = decl_variables others
decl_variables (FunctionTree _ _ _ _ params value ∷ others) =
    length params + expr_variables value + decl_variables others
decl_variables (InterfaceTree _ _ _ signatures ∷ others) = signature_params signatures + decl_variables others
decl_variables (ClassTree _ _ params _ members ∷ others) =
    length params + member_variables members + decl_variables others

-- the variables of a source
abbrev pub all_variables : SourceTree → ℕ
all_variables source = decl_variables source.declarations + statements_variables source.main
