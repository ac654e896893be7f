-- Resolving keeps the sizes of a source: how many statements it has, how many variables each of its bodies has, and how
-- many fields each of its classes has. The prelude adds small bodies alone.
use Rattle.std.proofs.Common.{◌≡◌, ◌≤◌, ℕ, ◌+◌, true, List, [], ◌∷◌, ◌++◌, refl, sym, ap, ◌∙◌, subst, length, nat_le, arith}
use Rattle.std.specs.Prelude.{All}
use Rattle.std.specs.List.{list_all}
use Rattle.std.proofs.lemmas.Bool.{and_parts}
use Rattle.std.proofs.lemmas.Bool.Decides.{nat_tests}
use Rattle.std.proofs.lemmas.List.Elements.{All-nil, All-cons, All-head, All-tail, All-append}
use Rattle.abs_tree.specs.Limits.{table_limit}
use Rattle.abs_program.specs.NameSpaces.{NameSpaces, spaces_of}
use Rattle.abs_tree.specs.Syntax.{AtSlot, AtField, ParamTree, NoValue, Value, MemberTree, FieldTree, MethodTree, DeclTree, DataTree, FunctionTree, InterfaceTree, ClassTree, SourceTree}
use Rattle.abs_tree.specs.SyntaxSizes.{statement_count, member_statements, decl_statements, all_statements, expr_variables, statements_variables, field_variables, method_sizes, decl_sizes, body_sizes, fields_among, decl_fields, class_sizes}
use Rattle.abs_prelude.specs.Prelude.{prelude}
use Rattle.abs_names.specs.Resolution.{resolved_params, resolved_members, resolved_declarations, resolved}
use Rattle.abs_names.specs.Scopes.{Meanings, body_scope, class_fields}
use Rattle.abs_names.specs.TypeNames.{Around, around_of}
use Rattle.abs_names.specs.declared.scope.Routine.TheVariants.{Main, Method, Function, Initial}
use Rattle.abs_names.proofs.ParamLemmas.{params_length}
use Rattle.abs_names.proofs.SizeLemmas.{counts_kept, expr_vars, statements_vars}

-- members have as many statements as before
members_count : (around : Around) (fields : Meanings) (earlier : ℕ) (members : List MemberTree)
    → member_statements (resolved_members around fields earlier members) ≡ member_statements members
members_count around fields earlier [] = refl
members_count around fields earlier (FieldTree type name initial ∷ others) =
    members_count around fields (earlier + 1) others
members_count around fields earlier (MethodTree signature end body ∷ others) =
    let scope = body_scope around Method fields signature.params in
    ap (λ (n : ℕ). n + member_statements (resolved_members around fields earlier others))
    (counts_kept scope (length signature.params) body)
    ∙ ap (λ (n : ℕ). statement_count body + n) (members_count around fields earlier others)

-- so have declarations
decls_count : (spaces : NameSpaces) (declarations : List DeclTree)
    → decl_statements (resolved_declarations spaces declarations) ≡ decl_statements declarations
decls_count spaces [] = refl
decls_count spaces (DataTree place name type_params constructors ∷ others) = decls_count spaces others
decls_count spaces (FunctionTree place result name type_params params value ∷ others) = decls_count spaces others
decls_count spaces (InterfaceTree place name extended signatures ∷ others) = decls_count spaces others
decls_count spaces (ClassTree place name params implemented members ∷ others) =
    ap (λ (n : ℕ). n + decl_statements (resolved_declarations spaces others))
    (members_count (around_of spaces []) (class_fields params members) (length params) members)
    ∙ ap (λ (n : ℕ). member_statements members + n) (decls_count spaces others)

-- a source has as many statements as before, since the prelude has none
pub all_statements_kept : (source : SourceTree) → all_statements (resolved source) ≡ all_statements source
unfolding prelude
all_statements_kept source =
    let spaces = spaces_of (prelude ++ source.declarations) in
    ap (λ (n : ℕ). n + statement_count (resolved source).main) (decls_count spaces (prelude ++ source.declarations))
    ∙ ap (λ (n : ℕ). decl_statements source.declarations + n)
    (counts_kept (body_scope (around_of spaces []) Main [] []) 0 source.main)

-- the initial values of a class have as many variables as before
fields_vars : (around : Around) (fields : Meanings) (earlier : ℕ) (members : List MemberTree)
    → field_variables (resolved_members around fields earlier members) ≡ field_variables members
fields_vars around fields earlier [] = refl
fields_vars around fields earlier (FieldTree type name NoValue ∷ others) =
    fields_vars around fields (earlier + 1) others
fields_vars around fields earlier (FieldTree type name (Value value) ∷ others) =
    ap (λ (n : ℕ). n + field_variables (resolved_members around fields (earlier + 1) others))
    (expr_vars (body_scope around (Initial earlier) fields []) value)
    ∙ ap (λ (n : ℕ). expr_variables value + n) (fields_vars around fields (earlier + 1) others)
fields_vars around fields earlier (MethodTree signature end body ∷ others) = fields_vars around fields earlier others

-- a body with parameters has the same size
body_size_kept : (around : Around) (params : List ParamTree) {before after : ℕ} → after ≡ before
    → length (resolved_params around AtSlot 0 params) + after ≡ length params + before
body_size_kept around params {before} {after} same =
    ap (λ (n : ℕ). n + after) (params_length around AtSlot 0 params) ∙ ap (λ (n : ℕ). length params + n) same

-- so have the methods of a class
methods_kept : (around : Around) (fields : Meanings) (earlier : ℕ) (members : List MemberTree)
    → method_sizes (resolved_members around fields earlier members) ≡ method_sizes members
methods_kept around fields earlier [] = refl
methods_kept around fields earlier (FieldTree type name initial ∷ others) =
    methods_kept around fields (earlier + 1) others
methods_kept around fields earlier (MethodTree signature end body ∷ others) =
    let scope = body_scope around Method fields signature.params in
    let count = length signature.params in
    ap (λ (n : ℕ). n ∷ method_sizes (resolved_members around fields earlier others))
    (body_size_kept around signature.params (statements_vars scope count body))
    ∙ ap (λ (ns : List ℕ). (count + statements_variables body) ∷ ns) (methods_kept around fields earlier others)

-- and the bodies of declarations
decls_kept : (spaces : NameSpaces) (declarations : List DeclTree)
    → decl_sizes (resolved_declarations spaces declarations) ≡ decl_sizes declarations
decls_kept spaces [] = refl
decls_kept spaces (DataTree place name type_params constructors ∷ others) = decls_kept spaces others
decls_kept spaces (FunctionTree place result name type_params params value ∷ others) =
    let around = around_of spaces type_params in
    ap (λ (n : ℕ). n ∷ decl_sizes (resolved_declarations spaces others))
    (body_size_kept around params (expr_vars (body_scope around Function [] params) value))
    ∙ ap (λ (ns : List ℕ). (length params + expr_variables value) ∷ ns) (decls_kept spaces others)
decls_kept spaces (InterfaceTree place name extended signatures ∷ others) = decls_kept spaces others
decls_kept spaces (ClassTree place name params implemented members ∷ others) =
    let around = around_of spaces [] in
    let fields = class_fields params members in
    let later = decl_sizes (resolved_declarations spaces others) in
    let sizes = method_sizes (resolved_members around fields (length params) members) in
    ap (λ (n : ℕ). n ∷ sizes ++ later) (fields_vars around fields (length params) members)
    ∙ (ap (λ (ns : List ℕ). field_variables members ∷ ns ++ later) (methods_kept around fields (length params) members)
    ∙ ap (λ (ns : List ℕ). field_variables members ∷ method_sizes members ++ ns) (decls_kept spaces others))

-- few variables
abbrev pub IsFew : ℕ → Type 0
IsFew variables = variables ≤ table_limit

abbrev pub AreFew : List ℕ → Type 0
AreFew sizes = All IsFew sizes

few_all : (sizes : List ℕ) → list_all (λ (n : ℕ). nat_le n table_limit) sizes ≡ true → AreFew sizes
few_all [] all = All-nil IsFew
few_all (size ∷ sizes) all =
    let parts = and_parts (nat_le size table_limit) (list_all (λ (n : ℕ). nat_le n table_limit) sizes) all in
    All-cons IsFew size sizes (grind (arith, nat_tests, parts.0)) (few_all sizes parts.1)

-- the bodies of the prelude have few variables
prelude_bodies : AreFew (decl_sizes prelude)
unfolding prelude
prelude_bodies = few_all (decl_sizes prelude) refl

-- so have those of a source with the prelude, where those of the source have
pub bodies_are_few : (source : SourceTree) → AreFew (body_sizes source) → AreFew (body_sizes (resolved source))
unfolding prelude
bodies_are_few source few =
    let spaces = spaces_of (prelude ++ source.declarations) in
    let main = statements_vars (body_scope (around_of spaces []) Main [] []) 0 source.main in
    subst AreFew
    (sym (ap (λ (n : ℕ). n ∷ decl_sizes (resolved source).declarations) main
    ∙ ap (λ (ns : List ℕ). statements_variables source.main ∷ ns)
    (decls_kept spaces (prelude ++ source.declarations))))
    (All-cons IsFew (statements_variables source.main) (decl_sizes prelude ++ decl_sizes source.declarations)
    (All-head IsFew (statements_variables source.main) (decl_sizes source.declarations) few)
    (All-append IsFew (decl_sizes prelude) (decl_sizes source.declarations) prelude_bodies
    (All-tail IsFew (statements_variables source.main) (decl_sizes source.declarations) few)))

-- there are as many fields among members as before
pub members_fields : (around : Around) (fields : Meanings) (earlier : ℕ) (members : List MemberTree)
    → fields_among (resolved_members around fields earlier members) ≡ fields_among members
members_fields around fields earlier [] = refl
members_fields around fields earlier (FieldTree type name initial ∷ others) =
    ap (λ (n : ℕ). 1 + n) (members_fields around fields (earlier + 1) others)
members_fields around fields earlier (MethodTree signature end body ∷ others) =
    members_fields around fields earlier others

-- so there are in the classes among declarations
decls_fields : (spaces : NameSpaces) (declarations : List DeclTree)
    → decl_fields (resolved_declarations spaces declarations) ≡ decl_fields declarations
decls_fields spaces [] = refl
decls_fields spaces (DataTree place name type_params constructors ∷ others) = decls_fields spaces others
decls_fields spaces (FunctionTree place result name type_params params value ∷ others) = decls_fields spaces others
decls_fields spaces (InterfaceTree place name extended signatures ∷ others) = decls_fields spaces others
decls_fields spaces (ClassTree place name params implemented members ∷ others) =
    let around = around_of spaces [] in
    let fields = class_fields params members in
    ap (λ (n : ℕ). (n + fields_among (resolved_members around fields (length params) members))
    ∷ decl_fields (resolved_declarations spaces others)) (params_length around AtField 0 params)
    ∙ (ap (λ (n : ℕ). (length params + n) ∷ decl_fields (resolved_declarations spaces others))
    (members_fields around fields (length params) members)
    ∙ ap (λ (ns : List ℕ). (length params + fields_among members) ∷ ns) (decls_fields spaces others))

-- each class of a source has as many fields as before, and the prelude has no class
pub class_sizes_kept : (source : SourceTree) → class_sizes (resolved source) ≡ class_sizes source
unfolding prelude
class_sizes_kept source =
    decls_fields (spaces_of (prelude ++ source.declarations)) (prelude ++ source.declarations)
