-- New objects, by what their classes take.
--
--   `class_known`                      what a class takes, by what its name stands for
--   `object_found`, `no_object`        an object, if the arguments fit what its class takes
--   `given_found`, `none_given`        what gives a type by those of arguments, if all of them have types
--   `given_noted`, `given_unoffending`  what is noted then
use Rattle.std.proofs.Common.{◌≡◌, Bool, true, List, ◌++◌, Option, Some, None, is_some, if◌then◌else◌, refl, ap, subst, append-nil}
use Rattle.std.specs.Prelude.{option_and_then, slice_get}
use Rattle.abs_program.specs.NameSpaces.{spaces_of}
use Rattle.abs_tree.specs.Names.{name_of}
use Rattle.abs_tree.specs.Syntax.{DeclTree}
use Rattle.abs_program.specs.Tables.{meaning_of}
use Rattle.abs_program.specs.declared.name_spaces.Taking.{Taking}
use Rattle.abs_tree.specs.declared.place.Place.{Place}
use Rattle.abs_tree.specs.declared.refusal.Offence.{Offence}
use Rattle.abs_tree.specs.declared.symbol.Symbol.{Symbol}
use Rattle.abs_types.specs.Mistyped.{untyped}
use Rattle.abs_types.specs.PlainTypes.{PlainType}
use Rattle.abs_types.specs.SideTypes.{class_takes, taken_by}
use Rattle.abs_types.specs.TypeShapes.{types_at}
use Rattle.abs_types.specs.TypeTables.{declarations_of, types_in}
use Rattle.abs_types.specs.declared.table.shape.TypeIndex.{TypeIndex}
use Rattle.check_fun.proofs.ContextLemmas.{noted_after}
use Rattle.check_fun.proofs.FoundLemmas.{finds_none}
use Rattle.check_fun.specs.Contexts.{context_in, Context, FindsAll, Finds, Knows, Noted}
use Rattle.check_fun.specs.declared.checker.Checker.{Checker}

-- what the class with a meaning takes
abbrev pub taken_by_meaning : List DeclTree → Option Taking → Option (List PlainType)
taken_by_meaning declarations found =
    option_and_then taken_by (option_and_then (λ (one : Taking). slice_get declarations one.declaration) found)

-- what a class takes, by what its name stands for
pub class_known : {checker : Checker} {context : Context} {found : Option Taking} (name : Symbol)
    → Knows checker context
    → found ≡ meaning_of (spaces_of (declarations_of checker.table)).classes
    (name_of checker.table.program.now.symbols name)
    → taken_by_meaning context.declarations found ≡ class_takes context.declarations (name_of context.names name)
unfolding context_in class_takes
class_known {checker} {found = found} name knows is =
    subst (λ (context : Context). taken_by_meaning context.declarations found
    ≡ class_takes context.declarations (name_of context.names name))
    knows.is (ap (taken_by_meaning (declarations_of checker.table)) is)

-- what arguments of these types give, if all of them have types
pub given_found : {checker now : Checker} {types : Option (List PlainType)} {found : Option TypeIndex}
    (gives : List PlainType → Option PlainType) (given : List TypeIndex) → FindsAll checker (Some given) types
    → ((known : List PlainType) → FindsAll checker (Some given) (Some known) → Finds now found (gives known))
    → Finds now found (option_and_then gives types)
given_found {checker} {now} {found = found} gives given finds step =
    subst (λ (types : Option (List PlainType)). Finds now found (option_and_then gives types)) finds.are
    (step (types_at (types_in checker.table) given) (record { found_are = finds.found_are; are = refl }))

-- where one has none, there is no type
pub none_given : {checker now : Checker} {types : Option (List PlainType)} (gives : List PlainType → Option PlainType)
    → FindsAll checker None types → Finds now None (option_and_then gives types)
none_given {now = now} gives finds =
    subst (λ (types : Option (List PlainType)). Finds now None (option_and_then gives types)) finds.are finds_none

-- what is noted after the offences of the arguments
pub given_noted : {checker : Checker} {before between now : Option Offence} {types : Option (List PlainType)}
    (offences : List Offence) (gives : List PlainType → Option PlainType) (given : List TypeIndex) (place : Place)
    → FindsAll checker (Some given) types → Noted before offences between
    → ((known : List PlainType) → FindsAll checker (Some given) (Some known)
    → Noted between (untyped true (gives known) place) now)
    → Noted before (offences ++ untyped (is_some types) (option_and_then gives types) place) now
given_noted {checker} {before} {now = now} offences gives given place finds noted step =
    subst (λ (types : Option (List PlainType)).
    Noted before (offences ++ untyped (is_some types) (option_and_then gives types) place) now) finds.are
    (noted_after _ _ noted
    (step (types_at (types_in checker.table) given) (record { found_are = finds.found_are; are = refl })))

-- where one has no type, nothing is
pub given_unoffending : {checker : Checker} {before now : Option Offence} {types : Option (List PlainType)}
    (offences : List Offence) (gives : List PlainType → Option PlainType) (place : Place)
    → FindsAll checker None types → Noted before offences now
    → Noted before (offences ++ untyped (is_some types) (option_and_then gives types) place) now
given_unoffending {before = before} {now} offences gives place finds noted =
    subst (λ (types : Option (List PlainType)).
    Noted before (offences ++ untyped (is_some types) (option_and_then gives types) place) now) finds.are
    (rw append-nil noted)

-- an object, if the arguments fit what its class takes
pub object_found : {checker now : Checker} {takes : Option (List PlainType)} {found : Option TypeIndex}
    (fit : List PlainType → Bool) (object : PlainType) (taken : List TypeIndex) (reported : Bool)
    → FindsAll checker (Some taken) takes
    → ((known : List PlainType) → FindsAll checker (Some taken) (Some known) → reported ≡ fit known)
    → Finds now found (if reported then Some object else None)
    → Finds now found (option_and_then (λ types. if fit types then Some object else None) takes)
object_found {checker} {now} {found = found} fit object taken reported finds is made =
    let known = types_at (types_in checker.table) taken in
    let same = is known (record { found_are = finds.found_are; are = refl }) in
    subst (λ (types : Option (List PlainType)).
    Finds now found (option_and_then (λ some. if fit some then Some object else None) types)) finds.are
    (subst (λ (one : Bool). Finds now found (if one then Some object else None)) same made)
