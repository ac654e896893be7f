-- What a type is at its head, by its shape.
--
--   `interface_at`, `class_at`, `other_at`     an interface, an object of a class, and another type
use Rattle.std.proofs.Common.{◌≡◌, ℕ, List, Some, refl, sym, ◌∙◌}
use Rattle.std.proofs.lemmas.Option.{same_Some}
use Rattle.abs_tree.specs.Names.{name_of}
use Rattle.abs_tree.specs.Syntax.{Name}
use Rattle.abs_types.specs.PlainTypes.{PlainType}
use Rattle.abs_types.specs.TypeShapes.{shape_type, type_at}
use Rattle.abs_types.specs.TypeTables.{types_in}
use Rattle.abs_types.specs.declared.table.shape.Shape.{Shape}
use Rattle.abs_types.specs.declared.table.shape.Shape.TheVariants as shape
use Rattle.abs_types.specs.declared.table.shape.TypeIndex.{TypeIndex}
use Rattle.check_fun.specs.Contexts.{context_in, Context, Finds, Knows}
use Rattle.check_fun.specs.ObjectHeads.{head_of, OfClass, OfInterface, OfOther}
use Rattle.check_fun.specs.declared.checker.Checker.{Checker}

-- the type of a shape, as the checker knows the context
by_shape : {checker : Checker} {context : Context} {index : TypeIndex} {type : PlainType} (form : Shape)
    → Knows checker context → Finds checker (Some index) (Some type)
    → type_at (types_in checker.table) index
    ≡ shape_type checker.table.program.now.symbols (types_in checker.table) form
    → type ≡ shape_type context.names (types_in checker.table) form
unfolding context_in
by_shape {checker} {index = index} {type = type} form knows finds is =
    sym (same_Some (type_at (types_in checker.table) index) type finds.is) ∙ rw (← knows.is) is

-- an interface
pub interface_at : {checker : Checker} {context : Context} {index : TypeIndex} {type : PlainType} (name : ℕ)
    → Knows checker context → Finds checker (Some index) (Some type)
    → type_at (types_in checker.table) index
    ≡ shape_type checker.table.program.now.symbols (types_in checker.table) (shape.Interface name)
    → OfInterface (name_of context.names (record { 0 = name })) ≡ head_of type
unfolding shape_type
interface_at name knows finds is = rw (by_shape (shape.Interface name) knows finds is) refl

-- an object of a class
pub class_at : {checker : Checker} {context : Context} {index : TypeIndex} {type : PlainType} (name : ℕ)
    → Knows checker context → Finds checker (Some index) (Some type)
    → type_at (types_in checker.table) index
    ≡ shape_type checker.table.program.now.symbols (types_in checker.table) (shape.Class name)
    → OfClass (name_of context.names (record { 0 = name })) ≡ head_of type
unfolding shape_type
class_at name knows finds is = rw (by_shape (shape.Class name) knows finds is) refl

-- another shape
other_shape : (names : List Name) (types : List PlainType) (form : Shape)
    → ((name : ℕ) → form ≡ shape.Interface name → ⊥) → ((name : ℕ) → form ≡ shape.Class name → ⊥)
    → OfOther ≡ head_of (shape_type names types form)
unfolding shape_type
other_shape names types shape.Int no_interface no_class = refl
other_shape names types shape.String no_interface no_class = refl
other_shape names types shape.Bottom no_interface no_class = refl
other_shape names types shape.Null no_interface no_class = refl
other_shape names types shape.Bool no_interface no_class = refl
other_shape names types shape.Unit no_interface no_class = refl
other_shape names types (shape.Fut value) no_interface no_class = refl
other_shape names types (shape.Data name) no_interface no_class = refl
other_shape names types (shape.Applied head argument) no_interface no_class = refl
other_shape names types (shape.Interface name) no_interface no_class = absurd (no_interface name refl)
other_shape names types (shape.Class name) no_interface no_class = absurd (no_class name refl)
other_shape names types (shape.Parameter index) no_interface no_class = refl

-- another type
pub other_at : {checker : Checker} {context : Context} {index : TypeIndex} {type : PlainType} (form : Shape)
    → ((name : ℕ) → form ≡ shape.Interface name → ⊥) → ((name : ℕ) → form ≡ shape.Class name → ⊥)
    → Knows checker context → Finds checker (Some index) (Some type)
    → type_at (types_in checker.table) index
    ≡ shape_type checker.table.program.now.symbols (types_in checker.table) form
    → OfOther ≡ head_of type
other_at {checker} {context} form no_interface no_class knows finds is =
    rw (by_shape form knows finds is)
    (other_shape context.names (types_in checker.table) form no_interface no_class)
