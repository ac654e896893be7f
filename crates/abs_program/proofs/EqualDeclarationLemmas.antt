-- The derived comparison of declarations is true exactly where their trees are the same whatever names the symbols have.
--
--   `items_equal-Decides`          lists, by what the comparison of their items decides
--   `declared_equal-Decides`, `param_equal-Decides`            names where they are declared, parameters
--   `constructor_equal-Decides`, `signature_equal-Decides`     constructors, heads of methods
--   `body_equal-Decides`, `member_equal-Decides`               bodies, members of classes
--   `decl_equal-Decides`           declarations
--   `program_equal-Decides`        declarations and a main block
--   `functions_equal-Decides`      the functions among declarations
use Rattle.std.proofs.Common.{◌≡◌, ℕ, Bool, ◌&&◌, List, [], ◌∷◌, map, Option, Some, None, Decides, refl, sym, ap, ◌∙◌}
use Rattle.std.proofs.lemmas.Bool.Decides.{Decides-and}
use Rattle.std.specs.Cmp.Lexicographic.{pointwise}
use Rattle.std.specs.Option.{option_eq}
use Rattle.std.specs.declared.alloc.Global.{Global}
use Rattle.std.specs.declared.sync.Arc.{Arc}
use Rattle.abs_tree.specs.Syntax.{Name, DeclaredTree, ParamTree, ConstructorTree, SignatureTree, MaybeExpr, NoValue, Value, MemberTree, FieldTree, MethodTree, DeclTree, DataTree, FunctionTree, InterfaceTree, ClassTree, SourceTree}
use Rattle.abs_tree.specs.SyntaxViews.{declared, param_tree, constructor_tree, signature_tree, maybe_expr, member_tree, decl_tree, statements, tree_of_parts}
use Rattle.abs_tree.specs.contracts.syntax.declaration.BodyPartialEq.TheImpl as body_impl
use Rattle.abs_tree.specs.contracts.syntax.declaration.ConstructorPartialEq.TheImpl as constructor_impl
use Rattle.abs_tree.specs.contracts.syntax.declaration.DeclPartialEq.TheImpl as decl_impl
use Rattle.abs_tree.specs.contracts.syntax.declaration.DeclaredPartialEq.TheImpl as declared_impl
use Rattle.abs_tree.specs.contracts.syntax.declaration.MemberPartialEq.TheImpl as member_impl
use Rattle.abs_tree.specs.contracts.syntax.declaration.ParamPartialEq.TheImpl as param_impl
use Rattle.abs_tree.specs.contracts.syntax.declaration.SignaturePartialEq.TheImpl as signature_impl
use Rattle.abs_tree.specs.contracts.syntax.expression.ExprPartialEq.TheImpl as expr_impl
use Rattle.abs_tree.specs.declared.syntax.declaration.Body.{Body}
use Rattle.abs_tree.specs.declared.syntax.declaration.Constructor.{Constructor}
use Rattle.abs_tree.specs.declared.syntax.declaration.Decl.{Decl}
use Rattle.abs_tree.specs.declared.syntax.declaration.Decl.TheVariants as decl
use Rattle.abs_tree.specs.declared.syntax.declaration.Declared.{Declared}
use Rattle.abs_tree.specs.declared.syntax.declaration.Member.{Member}
use Rattle.abs_tree.specs.declared.syntax.declaration.Member.TheVariants as member
use Rattle.abs_tree.specs.declared.syntax.declaration.Param.{Param}
use Rattle.abs_tree.specs.declared.syntax.declaration.Signature.{Signature}
use Rattle.abs_tree.specs.declared.syntax.expression.Expr.{Expr}
use Rattle.abs_program.specs.Comparisons.{function_declarations, functions_among}
use Rattle.abs_program.proofs.EqualExprLemmas.{expr_equal-Decides}
use Rattle.abs_program.proofs.EqualNameLemmas.{apart_by, decided, place_equal-Decides, symbol_equal-Decides, variable_equal-Decides}
use Rattle.abs_program.proofs.EqualStatementLemmas.{statements_equal-Decides}
use Rattle.abs_program.proofs.EqualTypeLemmas.{type_equal-Decides, types_equal-Decides}

-- a number for each constructor of a list
abbrev list_number : {T : Type 0} → List T → ℕ
list_number [] = 0
list_number (first ∷ others) = 1

-- lists, by what the comparison of their items decides
pub items_equal-Decides : {A T : Type 0} (equal : A → A → Bool) (tree : List Name → A → T)
    → ((one other : A) → Decides (equal one other) ((names : List Name) → tree names one ≡ tree names other))
    → (ones others : List A)
    → Decides (pointwise equal ones others)
    ((names : List Name) → map (tree names) ones ≡ map (tree names) others)
items_equal-Decides equal tree decides [] [] = (λ reported names. refl, λ same. refl)
items_equal-Decides equal tree decides (one ∷ ones) (other ∷ others) =
    decided refl (Decides-and _ _ (decides one other) (items_equal-Decides equal tree decides ones others))
    (λ same names i. same.0 names i ∷ same.1 names i)
    (λ same. (λ names. cc (same names), λ names. cc (same names)))
items_equal-Decides equal tree decides ones others =
    apart_by list_number (λ names. map (tree names) ones) (λ names. map (tree names) others) _ refl refl

-- names where they are declared
pub declared_equal-Decides : (one other : Declared) → Decides (declared_impl.ghosts.eq one other)
    ((names : List Name) → declared names one ≡ declared names other)
declared_equal-Decides one other =
    decided refl
    (Decides-and _ _ (place_equal-Decides one.place other.place) (symbol_equal-Decides one.name other.name))
    (λ same names i. record { place = same.0 i; name = same.1 names i })
    (λ same. (
      ap (λ (tree : DeclaredTree). tree.place) (same []),
      λ names. ap (λ (tree : DeclaredTree). tree.name) (same names),
    ))

-- lists of names where they are declared
declareds_equal-Decides : (ones others : List Declared) → Decides (pointwise declared_impl.ghosts.eq ones others)
    ((names : List Name) → map (declared names) ones ≡ map (declared names) others)
declareds_equal-Decides = items_equal-Decides declared_impl.ghosts.eq declared declared_equal-Decides

-- parameters
pub param_equal-Decides : (one other : Param) → Decides (param_impl.ghosts.eq one other)
    ((names : List Name) → param_tree names one ≡ param_tree names other)
param_equal-Decides one other =
    decided refl
    (Decides-and _ _ (type_equal-Decides one.type_of other.type_of)
    (Decides-and _ _ (place_equal-Decides one.place other.place)
    (variable_equal-Decides one.variable other.variable)))
    (λ same names i. record { type_of = same.0 names i; place = same.1.0 i; variable = same.1.1 names i })
    (λ same. (
      λ names. ap (λ (tree : ParamTree). tree.type_of) (same names),
      (
        ap (λ (tree : ParamTree). tree.place) (same []),
        λ names. ap (λ (tree : ParamTree). tree.variable) (same names),
      ),
    ))

-- lists of parameters
params_equal-Decides : (ones others : List Param) → Decides (pointwise param_impl.ghosts.eq ones others)
    ((names : List Name) → map (param_tree names) ones ≡ map (param_tree names) others)
params_equal-Decides = items_equal-Decides param_impl.ghosts.eq param_tree param_equal-Decides

-- constructors
pub constructor_equal-Decides : (one other : Constructor) → Decides (constructor_impl.ghosts.eq one other)
    ((names : List Name) → constructor_tree names one ≡ constructor_tree names other)
constructor_equal-Decides one other =
    decided refl
    (Decides-and _ _ (declared_equal-Decides one.name other.name)
    (types_equal-Decides one.types.items other.types.items))
    (λ same names i. record { name = same.0 names i; types = same.1 names i })
    (λ same. (
      λ names. ap (λ (tree : ConstructorTree). tree.name) (same names),
      λ names. ap (λ (tree : ConstructorTree). tree.types) (same names),
    ))

-- lists of constructors
constructors_equal-Decides : (ones others : List Constructor) → Decides (pointwise constructor_impl.ghosts.eq ones others)
    ((names : List Name) → map (constructor_tree names) ones ≡ map (constructor_tree names) others)
constructors_equal-Decides = items_equal-Decides constructor_impl.ghosts.eq constructor_tree constructor_equal-Decides

-- heads of methods
pub signature_equal-Decides : (one other : Signature) → Decides (signature_impl.ghosts.eq one other)
    ((names : List Name) → signature_tree names one ≡ signature_tree names other)
signature_equal-Decides one other =
    decided refl
    (Decides-and _ _ (type_equal-Decides one.result other.result)
    (Decides-and _ _ (declared_equal-Decides one.name other.name)
    (params_equal-Decides one.params.items other.params.items)))
    (λ same names i. record { result = same.0 names i; name = same.1.0 names i; params = same.1.1 names i })
    (λ same. (
      λ names. ap (λ (tree : SignatureTree). tree.result) (same names),
      (
        λ names. ap (λ (tree : SignatureTree). tree.name) (same names),
        λ names. ap (λ (tree : SignatureTree). tree.params) (same names),
      ),
    ))

-- lists of heads of methods
signatures_equal-Decides : (ones others : List Signature) → Decides (pointwise signature_impl.ghosts.eq ones others)
    ((names : List Name) → map (signature_tree names) ones ≡ map (signature_tree names) others)
signatures_equal-Decides = items_equal-Decides signature_impl.ghosts.eq signature_tree signature_equal-Decides

-- bodies, whose slots are not compared
pub body_equal-Decides : (one other : Body) → Decides (body_impl.ghosts.eq one other)
    (((names : List Name) → statements names one.statements.items ≡ statements names other.statements.items)
    × (one.end ≡ other.end))
body_equal-Decides one other =
    Decides-and _ _ (statements_equal-Decides one.statements.items other.statements.items)
    (place_equal-Decides one.end other.end)

-- a number for each constructor of an initial value, a member and a declaration
abbrev initial_number : MaybeExpr → ℕ
initial_number NoValue = 0
initial_number (Value value) = 1

abbrev member_number : MemberTree → ℕ
member_number (FieldTree type name initial) = 0
member_number (MethodTree signature end body) = 1

abbrev decl_number : DeclTree → ℕ
decl_number (DataTree place name type_params constructors) = 0
decl_number (FunctionTree place result name type_params params value) = 1
decl_number (InterfaceTree place name extended signatures) = 2
decl_number (ClassTree place name params implemented members) = 3

-- initial values, which may be missing
initial_equal-Decides : (one other : Option (Arc Expr Global))
    → Decides (option_eq (λ (x y : Arc Expr Global). expr_impl.ghosts.eq x.value y.value) one other)
    ((names : List Name) → maybe_expr names one ≡ maybe_expr names other)
initial_equal-Decides None None = (λ reported names. refl, λ same. refl)
initial_equal-Decides (Some one) (Some other) =
    decided refl (expr_equal-Decides one.value other.value)
    (λ same names i. Value (same names i))
    (λ same names. cc (same names))
initial_equal-Decides one other =
    apart_by initial_number (λ names. maybe_expr names one) (λ names. maybe_expr names other) _ refl refl

-- members of classes
pub member_equal-Decides : (one other : Member) → Decides (member_impl.ghosts.eq one other)
    ((names : List Name) → member_tree names one ≡ member_tree names other)
member_equal-Decides (member.Field type name initial) (member.Field other_type other_name other_initial) =
    decided refl
    (Decides-and _ _ (type_equal-Decides type other_type)
    (Decides-and _ _ (declared_equal-Decides name other_name) (initial_equal-Decides initial other_initial)))
    (λ same names i. FieldTree (same.0 names i) (same.1.0 names i) (same.1.1 names i))
    (λ same. (λ names. cc (same names), (λ names. cc (same names), λ names. cc (same names))))
member_equal-Decides (member.Method signature body) (member.Method other_signature other_body) =
    decided refl
    (Decides-and _ _ (signature_equal-Decides signature other_signature) (body_equal-Decides body other_body))
    (λ same names i. MethodTree (same.0 names i) (same.1.1 i) (same.1.0 names i))
    (λ same. (λ names. cc (same names), (λ names. cc (same names), cc (same []))))
member_equal-Decides one other =
    apart_by member_number (λ names. member_tree names one) (λ names. member_tree names other) _ refl refl

-- lists of members
members_equal-Decides : (ones others : List Member) → Decides (pointwise member_impl.ghosts.eq ones others)
    ((names : List Name) → map (member_tree names) ones ≡ map (member_tree names) others)
members_equal-Decides = items_equal-Decides member_impl.ghosts.eq member_tree member_equal-Decides

-- declarations
pub decl_equal-Decides : (one other : Decl) → Decides (decl_impl.ghosts.eq one other)
    ((names : List Name) → decl_tree names one ≡ decl_tree names other)
decl_equal-Decides (decl.Data place name parameters constructors)
    (decl.Data other_place other_name other_parameters other_constructors) =
    decided refl
    (Decides-and _ _ (place_equal-Decides place other_place)
    (Decides-and _ _ (declared_equal-Decides name other_name)
    (Decides-and _ _ (declareds_equal-Decides parameters.items other_parameters.items)
    (constructors_equal-Decides constructors.items other_constructors.items))))
    (λ same names i. DataTree (same.0 i) (same.1.0 names i) (same.1.1.0 names i) (same.1.1.1 names i))
    (λ same. (cc (same []), (λ names. cc (same names), (λ names. cc (same names), λ names. cc (same names)))))
decl_equal-Decides (decl.Function place result name parameters params value)
    (decl.Function other_place other_result other_name other_parameters other_params other_value) =
    decided refl
    (Decides-and _ _ (place_equal-Decides place other_place)
    (Decides-and _ _ (type_equal-Decides result other_result)
    (Decides-and _ _ (declared_equal-Decides name other_name)
    (Decides-and _ _ (declareds_equal-Decides parameters.items other_parameters.items)
    (Decides-and _ _ (params_equal-Decides params.items other_params.items)
    (expr_equal-Decides value.value other_value.value))))))
    (λ same names i. FunctionTree (same.0 i) (same.1.0 names i) (same.1.1.0 names i) (same.1.1.1.0 names i)
    (same.1.1.1.1.0 names i) (same.1.1.1.1.1 names i))
    (λ same. (
      cc (same []),
      (
        λ names. cc (same names),
        (λ names. cc (same names), (λ names. cc (same names), (λ names. cc (same names), λ names. cc (same names)))),
      ),
    ))
decl_equal-Decides (decl.Interface place name extended signatures)
    (decl.Interface other_place other_name other_extended other_signatures) =
    decided refl
    (Decides-and _ _ (place_equal-Decides place other_place)
    (Decides-and _ _ (declared_equal-Decides name other_name)
    (Decides-and _ _ (declareds_equal-Decides extended.items other_extended.items)
    (signatures_equal-Decides signatures.items other_signatures.items))))
    (λ same names i. InterfaceTree (same.0 i) (same.1.0 names i) (same.1.1.0 names i) (same.1.1.1 names i))
    (λ same. (cc (same []), (λ names. cc (same names), (λ names. cc (same names), λ names. cc (same names)))))
decl_equal-Decides (decl.Class place name params implemented members)
    (decl.Class other_place other_name other_params other_implemented other_members) =
    decided refl
    (Decides-and _ _ (place_equal-Decides place other_place)
    (Decides-and _ _ (declared_equal-Decides name other_name)
    (Decides-and _ _ (params_equal-Decides params.items other_params.items)
    (Decides-and _ _ (declareds_equal-Decides implemented.items other_implemented.items)
    (members_equal-Decides members.items other_members.items)))))
    (λ same names i. ClassTree (same.0 i) (same.1.0 names i) (same.1.1.0 names i) (same.1.1.1.0 names i)
    (same.1.1.1.1 names i))
    (λ same. (
      cc (same []),
      (λ names. cc (same names), (λ names. cc (same names), (λ names. cc (same names), λ names. cc (same names)))),
    ))
decl_equal-Decides one other =
    apart_by decl_number (λ names. decl_tree names one) (λ names. decl_tree names other) _ refl refl

-- lists of declarations
decls_equal-Decides : (ones others : List Decl) → Decides (pointwise decl_impl.ghosts.eq ones others)
    ((names : List Name) → map (decl_tree names) ones ≡ map (decl_tree names) others)
decls_equal-Decides = items_equal-Decides decl_impl.ghosts.eq decl_tree decl_equal-Decides

-- declarations and a main block
pub program_equal-Decides : (ones others : List Decl) (one other : Body)
    → Decides (pointwise decl_impl.ghosts.eq ones others && body_impl.ghosts.eq one other)
    ((names : List Name) → tree_of_parts names ones one ≡ tree_of_parts names others other)
program_equal-Decides ones others one other =
    decided refl (Decides-and _ _ (decls_equal-Decides ones others) (body_equal-Decides one other))
    (λ same names i. record { declarations = same.0 names i; main = same.1.0 names i; end = same.1.1 i })
    (λ same. (
      λ names. ap (λ (tree : SourceTree). tree.declarations) (same names),
      (
        λ names. ap (λ (tree : SourceTree). tree.main) (same names),
        ap (λ (tree : SourceTree). tree.end) (same []),
      ),
    ))

-- the functions among the trees of declarations are the trees of the functions
functions_are : (names : List Name) (items : List Decl)
    → function_declarations (map (decl_tree names) items) ≡ map (decl_tree names) (functions_among items)
functions_are names [] = refl
functions_are names (decl.Data place name parameters constructors ∷ others) = functions_are names others
functions_are names (decl.Function place result name parameters params value ∷ others) =
    ap (◌∷◌ (decl_tree names (decl.Function place result name parameters params value))) (functions_are names others)
functions_are names (decl.Interface place name extended signatures ∷ others) = functions_are names others
functions_are names (decl.Class place name params implemented members ∷ others) = functions_are names others

-- the functions among declarations
pub functions_equal-Decides : (ones others : List Decl)
    → Decides (pointwise decl_impl.ghosts.eq (functions_among ones) (functions_among others))
    ((names : List Name)
    → function_declarations (map (decl_tree names) ones) ≡ function_declarations (map (decl_tree names) others))
functions_equal-Decides ones others =
    decided refl (decls_equal-Decides (functions_among ones) (functions_among others))
    (λ same names. functions_are names ones ∙ (same names ∙ sym (functions_are names others)))
    (λ same names. sym (functions_are names ones) ∙ (same names ∙ functions_are names others))
