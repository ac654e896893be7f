-- Right sides: calls and what is missing.
--
--   `noted_missing`            what is not found is noted
--   `found_count`              as many types are found as there are arguments
--   `own_noted`                what is noted of a call on `this`
--   `other_type`, `no_call_known`      an expression that is no such call
--   `future_of`                a future of a type that is found
use Rattle.std.proofs.Common.{◌≡◌, ℕ, Bool, true, false, not, ◌||◌, List, [], ◌++◌, Option, Some, None, is_some, is_none, length, refl, sym, ap, ◌∙◌, subst, true≢false, option_map, append_assoc}
use Rattle.std.proofs.lemmas.List.{length-map}
use Rattle.abs_tree.specs.Syntax.{Name, DeclTree, ExprTree, LetIn, IfElse, OperatorsOf, Prefixed, NumberOf, StringOf, NullOf, DestinyOf, ThisOf, FieldOf, OwnCallOf, VariableOf, ApplyOf, BuildOf, CaseOf}
use Rattle.abs_tree.specs.SyntaxViews.{expr_tree}
use Rattle.abs_tree.specs.declared.place.Place.{Place}
use Rattle.abs_tree.specs.declared.refusal.Code.{Code}
use Rattle.abs_tree.specs.declared.refusal.Code.TheVariants.{T2}
use Rattle.abs_tree.specs.declared.refusal.Offence.{Offence}
use Rattle.abs_tree.specs.declared.syntax.expression.Expr.{Expr}
use Rattle.abs_types.specs.ExpressionOffences.{lacks_method, expr_offences}
use Rattle.abs_tree.specs.Offences.{offence_if}
use Rattle.abs_types.specs.Mistyped.{untyped}
use Rattle.abs_types.specs.PlainTypes.{PlainType, PlainClass, PlainFut}
use Rattle.abs_types.specs.SideTypes.{call_offences, called_type, can_be_called, whole_offences, whole_type}
use Rattle.abs_types.specs.TypeShapes.{type_at, types_at}
use Rattle.abs_types.specs.TypeTables.{types_in}
use Rattle.abs_types.specs.Typing.{type_in, Frame}
use Rattle.abs_types.specs.declared.table.shape.TypeIndex.{TypeIndex}
use Rattle.check_fun.proofs.ContextLemmas.{noted_after}
use Rattle.check_fun.specs.Contexts.{all_typed, context_in, Context, FindsAll, Finds, Found, Knows, Noted}
use Rattle.check_fun.specs.declared.checker.Checker.{Checker}
use Rattle.check_obj.specs.Bodies.{IsNoCall}
use Rattle.check_fun.proofs.OperandLemmas.{typed_count}

-- a type is missing exactly where no index is found
none_known : {checker : Checker} {type : Option PlainType} (found : Option TypeIndex) (reported : Bool)
    → is_some found ≡ not reported → Finds checker found type → reported ≡ is_none type
none_known None true is finds = ap is_none finds.is
none_known None false is finds = absurd (true≢false (sym is))
none_known (Some index) true is finds = absurd (true≢false is)
none_known (Some index) false is finds = ap is_none finds.is

-- what is not found is noted
pub noted_missing : {checker : Checker} {type : Option PlainType} {before now : Option Offence}
    (found : Option TypeIndex) (reported : Bool) (code : Code) (place : Place) → is_some found ≡ not reported
    → Finds checker found type → Noted before (offence_if reported code place) now
    → Noted before (offence_if (is_none type) code place) now
noted_missing {before = before} {now} found reported code place is finds noted =
    subst (λ (missing : Bool). Noted before (offence_if missing code place) now) (none_known found reported is finds) noted

-- so many indices are found for them
pub found_count : {checker : Checker} {found : Option (List TypeIndex)} (context : Context) (exprs : List Expr)
    → FindsAll checker found (all_typed context exprs) → (indices : List TypeIndex) → found ≡ Some indices
    → length exprs ≡ length indices
found_count {checker} context exprs finds indices is =
    let types = types_at (types_in checker.table) indices in
    sym (typed_count context exprs types (sym finds.are ∙ ap (option_map (types_at (types_in checker.table))) is))
    ∙ length-map indices (type_at (types_in checker.table))

-- a call on `this` outside of a class offends alone
own_offences : (declarations : List DeclTree) (this : Option Name) (name : Name) (count : ℕ)
    (types : Option (List PlainType)) (place : Place)
    → offence_if (is_none (option_map PlainClass this)) T2 place
    ++ call_offences declarations (option_map PlainClass this) name count types place
    ≡ offence_if (not (is_some this) || lacks_method declarations (option_map PlainClass this) name count) T2 place
    ++ untyped (can_be_called declarations (option_map PlainClass this) name count types)
    (called_type declarations (option_map PlainClass this) name types) place
own_offences declarations None name count types place = refl
own_offences declarations (Some class) name count types place = refl

-- what is noted of a call on `this`, after the offences of its arguments
pub own_noted : {before argued missing now : Option Offence} (declarations : List DeclTree) (this : Option Name)
    (name : Name) (count : ℕ) (types : Option (List PlainType)) (place : Place) (offences : List Offence)
    → Noted before offences argued
    → Noted argued (offence_if (is_none (option_map PlainClass this)) T2 place) missing
    → Noted missing (call_offences declarations (option_map PlainClass this) name count types place) now
    → Noted before (offences
    ++ offence_if (not (is_some this) || lacks_method declarations (option_map PlainClass this) name count) T2 place
    ++ untyped (can_be_called declarations (option_map PlainClass this) name count types)
    (called_type declarations (option_map PlainClass this) name types) place) now
own_noted {before} {now = now} declarations this name count types place offences first second third =
    let missing =
    offence_if (not (is_some this) || lacks_method declarations (option_map PlainClass this) name count) T2 place in
    let wrong = untyped (can_be_called declarations (option_map PlainClass this) name count types)
    (called_type declarations (option_map PlainClass this) name types) place in
    rw (append_assoc offences missing wrong, ← own_offences declarations this name count types place)
    (noted_after offences _ first (noted_after _ _ second third))

-- an expression that is no call on `this` has the type and the offences that it has as a part
pub other_type : (declarations : List DeclTree) (frame : Frame) (tree : ExprTree)
    → IsNoCall tree
    → (whole_type declarations frame tree ≡ type_in declarations frame [] tree)
    × (whole_offences declarations frame tree ≡ expr_offences declarations frame [] tree)
other_type declarations frame (LetIn place type variable_place variable value body) other = (refl, refl)
other_type declarations frame (IfElse place condition first second) other = (refl, refl)
other_type declarations frame (OperatorsOf place first rights) other = (refl, refl)
other_type declarations frame (Prefixed place prefix operand) other = (refl, refl)
other_type declarations frame (NumberOf place number) other = (refl, refl)
other_type declarations frame (StringOf place string) other = (refl, refl)
other_type declarations frame (NullOf place) other = (refl, refl)
other_type declarations frame (DestinyOf place) other = (refl, refl)
other_type declarations frame (ThisOf place) other = (refl, refl)
other_type declarations frame (FieldOf place name_place name) other = (refl, refl)
other_type declarations frame (OwnCallOf place method arguments) other = absurd other
other_type declarations frame (VariableOf place variable) other = (refl, refl)
other_type declarations frame (ApplyOf place function arguments) other = (refl, refl)
other_type declarations frame (BuildOf place constructor arguments) other = (refl, refl)
other_type declarations frame (CaseOf place subject branches) other = (refl, refl)

-- that it is none is known in a context of the checker
pub no_call_known : {checker : Checker} {context : Context} (value : Expr) → Knows checker context
    → IsNoCall (expr_tree checker.table.program.now.symbols value) → IsNoCall (expr_tree context.names value)
unfolding context_in
no_call_known value knows other = subst (λ (one : Context). IsNoCall (expr_tree one.names value)) knows.is other

-- what is found stands for a type of the table
pub found_there : {checker : Checker} {type : Option PlainType} (found : Option TypeIndex)
    → Finds checker found type → Found checker found
found_there found finds = finds.found_is

-- a future of a type that is found
pub future_of : {checker now : Checker} {index found : TypeIndex} {type : Option PlainType}
    → Finds checker (Some index) type
    → ((one : PlainType) → Finds checker (Some index) (Some one) → Finds now (Some found) (Some (PlainFut one)))
    → Finds now (Some found) (option_map PlainFut type)
future_of {checker} {now} {index} {found} finds step =
    subst (λ (one : Option PlainType). Finds now (Some found) (option_map PlainFut one)) finds.is
    (step (type_at (types_in checker.table) index) (record { found_is = finds.found_is; is = refl }))
