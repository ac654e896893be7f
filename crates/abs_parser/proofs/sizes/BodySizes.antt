-- The variables of each body of a source: no more than those of the source, so a bound on these holds for each body.
use Rattle.std.proofs.Common.{◌≤◌, ℕ, ◌+◌, List, [], ◌∷◌, ◌++◌, length, arith}
use Rattle.std.proofs.lemmas.List.Elements.{All-nil, All-append}
use Rattle.std.specs.List.{All}
use Rattle.abs_tree.specs.Syntax.{NoValue, Value, MemberTree, FieldTree, MethodTree, DeclTree, DataTree, FunctionTree, InterfaceTree, ClassTree, SourceTree}
use Rattle.abs_tree.specs.SyntaxSizes.{expr_variables, statements_variables, field_variables, method_sizes, decl_sizes, body_sizes}
use Rattle.abs_tree.specs.SourceSizes.{member_variables, decl_variables, all_variables}
use Rattle.list_facts.proofs.AllLemmas.{All-within_cons}

-- the initial values of a class have no more variables than all its members together
values_within : (members : List MemberTree) → field_variables members ≤ member_variables members
values_within [] = omega arith
values_within (FieldTree type name NoValue ∷ others) = values_within others
values_within (FieldTree type name (Value value) ∷ others) = omega (arith, values_within others)
values_within (MethodTree signature end body ∷ others) = omega (arith, values_within others)

-- a bound on the variables of all members of a class holds for each of its methods
methods_within : (bound : ℕ) (members : List MemberTree) → member_variables members ≤ bound
    → All (λ n. n ≤ bound) (method_sizes members)
methods_within bound [] few = All-nil _
methods_within bound (FieldTree type name NoValue ∷ others) few = methods_within bound others few
methods_within bound (FieldTree type name (Value value) ∷ others) few = methods_within bound others (omega (arith, few))
methods_within bound (MethodTree signature end body ∷ others) few =
    All-within_cons bound (length signature.params + statements_variables body) (method_sizes others)
    (omega (arith, few))
    (methods_within bound others (omega (arith, few)))

-- a bound on the variables of all declarations holds for each of their bodies
decls_within : (bound : ℕ) (decls : List DeclTree) → decl_variables decls ≤ bound
    → All (λ n. n ≤ bound) (decl_sizes decls)
decls_within bound [] few = All-nil _
decls_within bound (DataTree place name parameters constructors ∷ others) few = decls_within bound others few
decls_within bound (FunctionTree place type name parameters params value ∷ others) few =
    All-within_cons bound (length params + expr_variables value) (decl_sizes others) (omega (arith, few))
    (decls_within bound others (omega (arith, few)))
decls_within bound (InterfaceTree place name extended signatures ∷ others) few =
    decls_within bound others (omega (arith, few))
decls_within bound (ClassTree place name params implemented members ∷ others) few =
    let methods = methods_within bound members (omega (arith, few)) in
    let after = decls_within bound others (omega (arith, few)) in
    All-within_cons bound (field_variables members) (method_sizes members ++ decl_sizes others)
    (omega (arith, few, values_within members))
    (All-append (λ n. n ≤ bound) (method_sizes members) (decl_sizes others) methods after)

-- a bound on the variables of a source holds for each of its bodies
pub bodies_within : (bound : ℕ) (text : SourceTree) → all_variables text ≤ bound
    → All (λ n. n ≤ bound) (body_sizes text)
bodies_within bound text few =
    All-within_cons bound (statements_variables text.main) (decl_sizes text.declarations) (omega (arith, few))
    (decls_within bound text.declarations (omega (arith, few)))
