-- Declarations and a whole source have no more variables than their forest has leaves, and each class no more fields.
-- This holds for any forest, since the name of each parameter and of each field is a leaf.
use Rattle.std.proofs.Common.{◌≤◌, ℕ, ◌+◌, List, [], ◌∷◌, length, arith}
use Rattle.std.proofs.lemmas.List.Elements.{All-nil}
use Rattle.std.specs.List.{All}
use Rattle.abs_tree.specs.declared.place.Place.{Place}
use Rattle.abs_tree.specs.Syntax.{ParamTree, TypeTree, DeclaredTree, SignatureTree, MemberTree, DeclTree}
use Rattle.abs_tree.specs.SyntaxSizes.{member_statements, decl_statements, fields_among, decl_fields, body_sizes, class_sizes}
use Rattle.abs_tree.specs.SourceSizes.{signature_params, member_variables, decl_variables, all_variables}
use Rattle.abs_lexer.specs.declared.lexeme.Keyword.TheVariants as keyword
use Rattle.abs_parser.specs.TokenKinds.{TokenKind, KeywordKind, place_of_mark, token_kind}
use Rattle.abs_parser.specs.Readings.{Forest, Leaf, Node}
use Rattle.abs_parser.specs.TreesOf.{type_in, declared, param_in, more_params, params_in, params_maybe, class_params_maybe, signature_in, signatures_in, member_by, member_in, members_in, decl_by, decl_in, decls_in, text_in, tree_of}
use Rattle.abs_parser.proofs.sizes.LeafLemmas.{leaves}
use Rattle.abs_parser.proofs.sizes.ExprSizes.{expr_few}
use Rattle.abs_parser.proofs.sizes.StatementSizes.{block_few}
use Rattle.abs_parser.proofs.sizes.BodySizes.{bodies_within}
use Rattle.list_facts.proofs.AllLemmas.{All-within_cons}

-- a parameter before others adds no more parameters than its forest has leaves
param_few : (forest : Forest) (others : List ParamTree)
    → length (param_in forest others) ≤ leaves forest + length others
param_few (Node _ type (Leaf name _ _)) others = omega arith
param_few _ others = omega arith

-- there are no more parameters after the first than their forest has leaves
more_params_few : (forest : Forest) → length (more_params forest) ≤ leaves forest
more_params_few (Node _ (Leaf comma _ (Node _ param _)) (Node _ others _)) =
    omega (arith, param_few param (more_params others), more_params_few others)
more_params_few _ = omega arith

-- the same for all parameters
params_few : (forest : Forest) → length (params_in forest) ≤ leaves forest
params_few (Node _ first (Node _ others _)) =
    omega (arith, param_few first (more_params others), more_params_few others)
params_few _ = omega arith

-- the same for parameters that may be left out
params_maybe_few : (forest : Forest) → length (params_maybe forest) ≤ leaves forest
params_maybe_few (Node _ params _) = omega (arith, params_few params)
params_maybe_few _ = omega arith

-- the same for the parameters of a class
class_params_few : (forest : Forest) → length (class_params_maybe forest) ≤ leaves forest
class_params_few (Node _ (Leaf opening _ (Node _ params _)) _) = omega (arith, params_maybe_few params)
class_params_few _ = omega arith

-- a method of an interface, before others, adds no more parameters than its forest has leaves
signature_few : (forest : Forest) (others : List SignatureTree)
    → signature_params (signature_in forest others) ≤ leaves forest + signature_params others
signature_few (Node _ type (Leaf name _ (Leaf opening _ (Node _ params _)))) others =
    omega (arith, params_maybe_few params)
signature_few _ others = omega arith

-- the methods of an interface have no more parameters than their forest has leaves
signatures_few : (forest : Forest) → signature_params (signatures_in forest) ≤ leaves forest
signatures_few (Node _ signature (Node _ others _)) =
    omega (arith, signature_few signature (signatures_in others), signatures_few others)
signatures_few _ = omega arith

-- a member, before others, adds no more variables than the forest after its name has leaves
member_by_few : (index : ℕ) (type : TypeTree) (name : DeclaredTree) (forest : Forest) (others : List MemberTree)
    → member_variables (member_by index type name forest ∷ others) ≤ leaves forest + member_variables others
member_by_few index type name (Leaf opening _ (Node _ params (Leaf closing _ (Node _ block _)))) others =
    omega (arith, params_maybe_few params, block_few index block)
member_by_few index type name (Leaf equals _ (Node _ expr (Leaf semicolon _ _))) others = omega (arith, expr_few expr)
member_by_few index type name _ others = omega arith

-- the same for the forest of the whole member
member_few : (index : ℕ) (forest : Forest) (others : List MemberTree)
    → member_variables (member_in index forest others) ≤ leaves forest + member_variables others
member_few index (Node _ type (Leaf name _ (Node _ tail _))) others =
    omega (arith, member_by_few index (type_in type) (declared name) tail others)
member_few index _ others = omega arith

-- the members of a class have no more variables than their forest has leaves
members_few : (index : ℕ) (forest : Forest) → member_variables (members_in index forest) ≤ leaves forest
members_few index (Node _ member (Node _ others _)) = let after =
    index + member_statements (member_in index member []) in
    omega (arith, member_few index member (members_in after others), members_few after others)
members_few index _ = omega arith

-- a member, before others, adds at most one field
field_by_few : (index : ℕ) (type : TypeTree) (name : DeclaredTree) (forest : Forest) (others : List MemberTree)
    → fields_among (member_by index type name forest ∷ others) ≤ 1 + fields_among others
field_by_few index type name (Leaf opening _ (Node _ params (Leaf closing _ (Node _ block _)))) others = omega arith
field_by_few index type name (Leaf equals _ (Node _ expr (Leaf semicolon _ _))) others = omega arith
field_by_few index type name _ others = omega arith

-- a member, before others, adds no more fields than its forest has leaves
field_few : (index : ℕ) (forest : Forest) (others : List MemberTree)
    → fields_among (member_in index forest others) ≤ leaves forest + fields_among others
field_few index (Node _ type (Leaf name _ (Node _ tail _))) others =
    omega (arith, field_by_few index (type_in type) (declared name) tail others)
field_few index _ others = omega arith

-- the members of a class have no more fields than their forest has leaves
fields_few : (index : ℕ) (forest : Forest) → fields_among (members_in index forest) ≤ leaves forest
fields_few index (Node _ member (Node _ others _)) = let after =
    index + member_statements (member_in index member []) in
    omega (arith, field_few index member (members_in after others), fields_few after others)
fields_few index _ = omega arith

-- a declaration, before others, adds no more variables than the forest after its first token has leaves
decl_by_few : (index : ℕ) (kind : TokenKind) (place : Place) (forest : Forest) (others : List DeclTree)
    → decl_variables (decl_by index kind place forest others) ≤ leaves forest + decl_variables others
decl_by_few index (KeywordKind keyword.Data) place
    (Leaf name _ (Node _ parameters (Leaf equals _ (Node _ first (Node _ more _))))) others = omega arith
decl_by_few index (KeywordKind keyword.Def) place
    (Node _ type (Leaf name _ (Node _ parameters
    (Leaf opening _ (Node _ params (Leaf closing _ (Leaf equals _ (Node _ expr _)))))))) others =
    omega (arith, params_maybe_few params, expr_few expr)
decl_by_few index (KeywordKind keyword.Interface) place
    (Leaf name _ (Node _ extended (Leaf opening _ (Node _ signatures _)))) others =
    omega (arith, signatures_few signatures)
decl_by_few index (KeywordKind keyword.Class) place
    (Leaf name _ (Node _ params (Node _ implemented (Leaf opening _ (Node _ members _))))) others =
    omega (arith, class_params_few params, members_few index members)
decl_by_few index _ place forest others = omega arith

-- the same for the forest of the whole declaration
decl_few : (index : ℕ) (forest : Forest) (others : List DeclTree)
    → decl_variables (decl_in index forest others) ≤ leaves forest + decl_variables others
decl_few index (Leaf mark _ inside) others =
    omega (arith, decl_by_few index (token_kind mark) (place_of_mark mark) inside others)
decl_few index _ others = omega arith

-- declarations have no more variables than their forest has leaves
decls_few : (index : ℕ) (forest : Forest) → decl_variables (decls_in index forest) ≤ leaves forest
decls_few index (Node _ decl (Node _ more _)) = let after = index + decl_statements (decl_in index decl []) in
    omega (arith, decl_few index decl (decls_in after more), decls_few after more)
decls_few index _ = omega arith

-- the same for a program
text_few : (forest : Forest) → all_variables (text_in forest) ≤ leaves forest
text_few (Node _ heading (Node _ imported (Node _ decls (Node _ block _)))) =
    omega (arith, decls_few 0 decls, block_few (decl_statements (decls_in 0 decls)) block)
text_few _ = omega arith

-- a source has no more variables than its forest has leaves, each of which is a token
pub variables_of_text : (forest : Forest) → all_variables (tree_of forest) ≤ leaves forest
variables_of_text (Node _ program _) = omega (arith, text_few program)
variables_of_text _ = omega arith

-- each body of a source has no more variables than the forest of the source has leaves
pub bodies_of_text : (forest : Forest) → All (λ n. n ≤ leaves forest) (body_sizes (tree_of forest))
bodies_of_text forest = bodies_within (leaves forest) (tree_of forest) (variables_of_text forest)

-- a bound on the fields of each class holds with one more declaration if it bounds the leaves after its first token
class_by_few : (index bound : ℕ) (kind : TokenKind) (place : Place) (forest : Forest) (others : List DeclTree)
    → leaves forest ≤ bound → All (λ n. n ≤ bound) (decl_fields others)
    → All (λ n. n ≤ bound) (decl_fields (decl_by index kind place forest others))
class_by_few index bound (KeywordKind keyword.Data) place
    (Leaf name _ (Node _ parameters (Leaf equals _ (Node _ first (Node _ more _))))) others few after = after
class_by_few index bound (KeywordKind keyword.Def) place
    (Node _ type (Leaf name _ (Node _ parameters
    (Leaf opening _ (Node _ params (Leaf closing _ (Leaf equals _ (Node _ expr _)))))))) others few after =
    after
class_by_few index bound (KeywordKind keyword.Interface) place
    (Leaf name _ (Node _ extended (Leaf opening _ (Node _ signatures _)))) others few after = after
class_by_few index bound (KeywordKind keyword.Class) place
    (Leaf name _ (Node _ params (Node _ implemented (Leaf opening _ (Node _ members _))))) others few after =
    All-within_cons bound (length (class_params_maybe params) + fields_among (members_in index members))
    (decl_fields others)
    (omega (arith, few, class_params_few params, fields_few index members))
    after
class_by_few index bound _ place forest others few after = after

-- the same for the leaves of the whole declaration
class_few : (index bound : ℕ) (forest : Forest) (others : List DeclTree) → leaves forest ≤ bound
    → All (λ n. n ≤ bound) (decl_fields others)
    → All (λ n. n ≤ bound) (decl_fields (decl_in index forest others))
class_few index bound (Leaf mark _ inside) others few after =
    class_by_few index bound (token_kind mark) (place_of_mark mark) inside others (omega (arith, few)) after
class_few index bound _ others few after = after

-- a bound on the leaves of declarations holds for the fields of each of their classes
classes_few : (index bound : ℕ) (forest : Forest) → leaves forest ≤ bound
    → All (λ n. n ≤ bound) (decl_fields (decls_in index forest))
classes_few index bound (Node _ decl (Node _ more _)) few =
    let after = index + decl_statements (decl_in index decl []) in
    class_few index bound decl (decls_in after more) (omega (arith, few))
    (classes_few after bound more (omega (arith, few)))
classes_few index bound _ few = All-nil _

-- the same for a program
text_fields_few : (bound : ℕ) (forest : Forest) → leaves forest ≤ bound
    → All (λ n. n ≤ bound) (class_sizes (text_in forest))
text_fields_few bound (Node _ heading (Node _ imported (Node _ decls (Node _ block _)))) few =
    classes_few 0 bound decls (omega (arith, few))
text_fields_few bound _ few = All-nil _

-- each class of a source has no more fields than the forest of the source has leaves
pub fields_of_text : (forest : Forest) → All (λ n. n ≤ leaves forest) (class_sizes (tree_of forest))
fields_of_text (Node goal program others) = text_fields_few (leaves (Node goal program others)) program (omega arith)
fields_of_text _ = All-nil _
