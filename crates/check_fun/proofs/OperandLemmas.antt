-- Operators with the types of their right operands.
--
--   `operands_are`         the types of the right operands are those of the operators
--   `rights_count`         there are as many of them as operators
--   `rights_untyped`       the offence of operators by the types of their right operands
use Rattle.std.proofs.Common.{◌≡◌, Bool, List, [], ◌∷◌, Some, None, Option, length, refl, sym, ap, ◌∙◌, option_map, is_some, ◌&&◌, arith}
use Rattle.std.specs.Prelude.{IfSome}
use Rattle.std.specs.declared.alloc.Global.{Global}
use Rattle.std.specs.declared.vec.Vec.{Vec}
use Rattle.std.proofs.lemmas.List.{length-map}
use Rattle.std.proofs.lemmas.Option.{none-some, same_Some}
use Rattle.abs_tree.specs.declared.place.Place.{Place}
use Rattle.abs_tree.specs.declared.syntax.expression.Expr.{Expr}
use Rattle.abs_tree.specs.declared.syntax.expression.Operand.{Operand}
use Rattle.abs_tree.specs.declared.syntax.expression.Operator.{Operator}
use Rattle.abs_types.specs.Mistyped.{untyped}
use Rattle.abs_types.specs.PlainTypes.{PlainType}
use Rattle.abs_types.specs.TypeShapes.{type_at, types_at}
use Rattle.abs_types.specs.TypeTables.{types_in}
use Rattle.abs_types.specs.Typing.{both_operands, both_types, operators_type}
use Rattle.abs_types.specs.declared.table.shape.TypeIndex.{TypeIndex}
use Rattle.check_fun.specs.Contexts.{all_typed, items_of, operands_typed, operators_of, typed, Context, FindsAll}
use Rattle.check_fun.specs.Parts.{rights_of}
use Rattle.check_fun.specs.declared.checker.Checker.{Checker}
use Rattle.list_facts.proofs.OptionLemmas.{is_some-option_map}

-- one more operator in front of others
one_operand : (one : Operand) (others : List Operand) (type : Option PlainType) (types : Option (List PlainType))
    → option_map (operators_of (one ∷ others)) (both_types type types)
    ≡ both_operands one.operator type (option_map (operators_of others) types)
one_operand one others None types = refl
one_operand one others (Some type) None = refl
one_operand one others (Some type) (Some types) = refl

-- the types of the right operands are those of the operators
pub operands_are : (context : Context) (operands : List Operand)
    → option_map (operators_of operands) (all_typed context (rights_of operands)) ≡ operands_typed context operands
operands_are context [] = refl
operands_are context (one ∷ others) =
    one_operand one others (typed context one.right) (all_typed context (rights_of others))
    ∙ ap (both_operands one.operator (typed context one.right)) (operands_are context others)

-- one more type in front of as many as there are items
one_more : {A : Type 0} (item : A) (type : Option PlainType) (types : Option (List PlainType)) (others : List A)
    (found : List PlainType)
    → ((known : List PlainType) → types ≡ Some known → length known ≡ length others)
    → both_types type types ≡ Some found → length found ≡ length (item ∷ others)
one_more item None types others found counted is = absurd (none-some found is)
one_more item (Some type) None others found counted is = absurd (none-some found is)
one_more item (Some type) (Some types) others found counted is =
    ap length (sym (same_Some (type ∷ types) found is)) ∙ omega (arith, counted types refl)

-- expressions that all have types have as many
pub typed_count : (context : Context) (exprs : List Expr) (types : List PlainType)
    → all_typed context exprs ≡ Some types
    → length types ≡ length exprs
typed_count context [] types is = ap length (sym (same_Some [] types is))
typed_count context (first ∷ others) types is =
    one_more first (typed context first) (all_typed context others) others types (typed_count context others) is

-- there are as many right operands with types as operators
pub rights_count : {checker : Checker} (context : Context) (operands : List Operand)
    (found : Option (Vec TypeIndex Global))
    → FindsAll checker (items_of found) (all_typed context (rights_of operands))
    → IfSome found (λ (one : Vec TypeIndex Global). length operands ≡ length one.items)
rights_count context operands None finds = tt
rights_count {checker} context operands (Some one) finds =
    sym (length-map operands (λ (operand : Operand). operand.right))
    ∙ (sym (typed_count context (rights_of operands) (types_at (types_in checker.table) one.items) (sym finds.are))
    ∙ length-map one.items (type_at (types_in checker.table)))

-- the offence of operators by the types of their right operands
pub rights_untyped : (context : Context) (operands : List Operand) (left : Option PlainType) (place : Place)
    → untyped (is_some left && is_some (all_typed context (rights_of operands)))
    (operators_type context.declarations left
    (option_map (operators_of operands) (all_typed context (rights_of operands)))) place
    ≡ untyped (is_some left && is_some (operands_typed context operands))
    (operators_type context.declarations left (operands_typed context operands)) place
rights_untyped context operands left place =
    let rights = all_typed context (rights_of operands) in
    ap (λ (typed : Bool). untyped (is_some left && typed)
    (operators_type context.declarations left (option_map (operators_of operands) rights)) place)
    (is_some-option_map (operators_of operands) rights)
    ∙ ap (λ (types : Option (List (Operator × PlainType))). untyped (is_some left && is_some types)
    (operators_type context.declarations left types) place) (operands_are context operands)
