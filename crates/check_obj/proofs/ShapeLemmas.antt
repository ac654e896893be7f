-- Types by their shapes: which have `null`, and what futures hold.
--
--   `null_of_interface`, `null_of_future`, `null_of_other`     whether a variable of a type can be without a value
--   `value_found`, `no_value`                                  the type of the value of a future
--   `value_known`, `value_unknown`                             the same of a type that may be missing
use Rattle.std.proofs.Common.{◌≡◌, ◌<◌, ℕ, true, false, List, Some, None, Option, length, refl, sym, ◌∙◌, lt_trans, subst}
use Rattle.std.proofs.lemmas.Option.{same_Some}
use Rattle.abs_tree.specs.Syntax.{Name}
use Rattle.abs_types.specs.PlainTypes.{PlainType}
use Rattle.abs_types.specs.SideTypes.{value_type}
use Rattle.abs_types.specs.StatementOffences.{can_be_null}
use Rattle.abs_types.specs.TypeShapes.{shape_type, type_at, HasPartsBelow}
use Rattle.abs_types.specs.TypeTables.{types_in}
use Rattle.abs_types.specs.declared.table.shape.Shape.{Shape}
use Rattle.abs_types.specs.declared.table.shape.Shape.TheVariants as shape
use Rattle.abs_types.specs.declared.table.shape.TypeIndex.{TypeIndex}
use Rattle.check_fun.proofs.FoundLemmas.{finds_none}
use Rattle.check_fun.specs.Contexts.{Finds}
use Rattle.check_fun.specs.declared.checker.Checker.{Checker}

-- the type of a shape, which is what its index stands for
abbrev shape_at : Checker → Shape → PlainType
shape_at checker form = shape_type checker.table.program.now.symbols (types_in checker.table) form

type_is : {checker : Checker} {index : TypeIndex} {type : PlainType} (form : Shape)
    → type_at (types_in checker.table) index ≡ shape_at checker form → Finds checker (Some index) (Some type)
    → type ≡ shape_at checker form
type_is {checker} {index} {type} form is finds =
    sym (same_Some (type_at (types_in checker.table) index) type finds.is) ∙ is

-- an interface has `null`
pub null_of_interface : {checker : Checker} {index : TypeIndex} (form : Shape) (name : ℕ)
    → form ≡ shape.Interface name → type_at (types_in checker.table) index ≡ shape_at checker form
    → (type : PlainType) → Finds checker (Some index) (Some type) → true ≡ can_be_null type
unfolding shape_type
null_of_interface form name same is type finds = rw (type_is form is finds, same) refl

-- so has a future
pub null_of_future : {checker : Checker} {index : TypeIndex} (form : Shape) (value : TypeIndex)
    → form ≡ shape.Fut value → type_at (types_in checker.table) index ≡ shape_at checker form
    → (type : PlainType) → Finds checker (Some index) (Some type) → true ≡ can_be_null type
unfolding shape_type
null_of_future form value same is type finds = rw (type_is form is finds, same) refl

-- no other shape has it
null_of_shape : (names : List Name) (types : List PlainType) (form : Shape)
    → ((name : ℕ) → form ≡ shape.Interface name → ⊥) → ((value : TypeIndex) → form ≡ shape.Fut value → ⊥)
    → false ≡ can_be_null (shape_type names types form)
unfolding shape_type
null_of_shape names types shape.Int no_interface no_future = refl
null_of_shape names types shape.String no_interface no_future = refl
null_of_shape names types shape.Bottom no_interface no_future = refl
null_of_shape names types shape.Null no_interface no_future = refl
null_of_shape names types shape.Bool no_interface no_future = refl
null_of_shape names types shape.Unit no_interface no_future = refl
null_of_shape names types (shape.Fut value) no_interface no_future = absurd (no_future value refl)
null_of_shape names types (shape.Data name) no_interface no_future = refl
null_of_shape names types (shape.Applied head argument) no_interface no_future = refl
null_of_shape names types (shape.Interface name) no_interface no_future = absurd (no_interface name refl)
null_of_shape names types (shape.Class name) no_interface no_future = refl
null_of_shape names types (shape.Parameter index) no_interface no_future = refl

-- no other type has it
pub null_of_other : {checker : Checker} {index : TypeIndex} (form : Shape)
    → ((name : ℕ) → form ≡ shape.Interface name → ⊥) → ((value : TypeIndex) → form ≡ shape.Fut value → ⊥)
    → type_at (types_in checker.table) index ≡ shape_at checker form
    → (type : PlainType) → Finds checker (Some index) (Some type) → false ≡ can_be_null type
null_of_other {checker} form no_interface no_future is type finds =
    rw (type_is form is finds)
    (null_of_shape checker.table.program.now.symbols (types_in checker.table) form no_interface no_future)

-- the type of the value of a future
pub value_found : {checker : Checker} {index : TypeIndex} (form : Shape) (value : TypeIndex)
    → form ≡ shape.Fut value → type_at (types_in checker.table) index ≡ shape_at checker form
    → HasPartsBelow index.0 form → index.0 < length (types_in checker.table) → (type : PlainType)
    → Finds checker (Some index) (Some type) → Finds checker (Some value) (value_type (Some type))
unfolding shape_type
value_found {checker} {index} form value same is parts among type finds =
    let below : value.0 < index.0 = rw same at parts in
    rw (type_is form is finds, same) (record {
      found_is = record { among = lt_trans below among };
      is = refl;
    })

-- no other shape has one
value_of_shape : (names : List Name) (types : List PlainType) (form : Shape)
    → ((value : TypeIndex) → form ≡ shape.Fut value → ⊥) → value_type (Some (shape_type names types form)) ≡ None
unfolding shape_type
value_of_shape names types shape.Int no_future = refl
value_of_shape names types shape.String no_future = refl
value_of_shape names types shape.Bottom no_future = refl
value_of_shape names types shape.Null no_future = refl
value_of_shape names types shape.Bool no_future = refl
value_of_shape names types shape.Unit no_future = refl
value_of_shape names types (shape.Fut value) no_future = absurd (no_future value refl)
value_of_shape names types (shape.Data name) no_future = refl
value_of_shape names types (shape.Applied head argument) no_future = refl
value_of_shape names types (shape.Interface name) no_future = refl
value_of_shape names types (shape.Class name) no_future = refl
value_of_shape names types (shape.Parameter index) no_future = refl

-- no other type has one
pub no_value : {checker : Checker} {index : TypeIndex} (form : Shape)
    → ((value : TypeIndex) → form ≡ shape.Fut value → ⊥)
    → type_at (types_in checker.table) index ≡ shape_at checker form
    → (type : PlainType) → Finds checker (Some index) (Some type) → Finds checker None (value_type (Some type))
no_value {checker} form no_future is type finds =
    rw (type_is form is finds, value_of_shape checker.table.program.now.symbols (types_in checker.table) form no_future)
    finds_none

-- the same of a type that may be missing
pub value_known : {checker : Checker} {index : TypeIndex} {found : Option TypeIndex} {known : Option PlainType}
    → ((type : PlainType) → Finds checker (Some index) (Some type) → Finds checker found (value_type (Some type)))
    → Finds checker (Some index) known → Finds checker found (value_type known)
value_known {checker} {index} {found} value finds =
    subst (λ (one : Option PlainType). Finds checker found (value_type one)) finds.is
    (value (type_at (types_in checker.table) index) (record { found_is = finds.found_is; is = refl }))

-- of none that is missing there is one
pub value_unknown : {checker : Checker} {known : Option PlainType} → Finds checker None known
    → Finds checker None (value_type known)
value_unknown {checker} finds =
    subst (λ (one : Option PlainType). Finds checker None (value_type one)) finds.is finds_none
