-- The members of a class, as contracts of their checker see them. These words serve contracts of this crate alone.
--
--   `IsInClass`                        a checker is among the methods of a class
--   `fields_offences`                  the offences of the fields among members
--   `methods_offences`                 those of the methods
use Rattle.std.specs.Prelude.{◌≡◌, List, [], ◌∷◌, ◌++◌, Some}
use Rattle.abs_tree.specs.Syntax.{Name, MemberTree, FieldTree, MethodTree, DeclTree}
use Rattle.abs_tree.specs.declared.refusal.Offence.{Offence}
use Rattle.abs_types.specs.PlainTypes.{PlainType, plain}
use Rattle.abs_types.specs.TypeOffences.{field_offences, method_offences}
use Rattle.check_fun.specs.Contexts.{context_in, Context}
use Rattle.check_fun.specs.declared.checker.Checker.{Checker}

-- A checker of the program of a context is among the methods of a class that has fields of these types.
pub record IsInClass (checker : Checker) (context : Context) (class : Name) (fields : List PlainType) : Type 0 where
  pub names_are : (context_in checker).names ≡ context.names
  pub declarations_are : (context_in checker).declarations ≡ context.declarations
  pub fields_are : (context_in checker).frame.fields ≡ fields
  pub this_is : (context_in checker).frame.this ≡ Some class

-- the offences of the fields among members, after parameters and fields of the types `known`
abbrev pub fields_offences : List DeclTree → List PlainType → List MemberTree → List Offence
fields_offences declarations known [] = []
fields_offences declarations known (FieldTree type name initial ∷ others) =
    field_offences declarations known (plain type) name.place initial
    ++ fields_offences declarations (known ++ plain type ∷ []) others
fields_offences declarations known (MethodTree signature end body ∷ others) =
    fields_offences declarations known others

-- the offences of the methods among members of a class that has fields of these types
abbrev pub methods_offences : List DeclTree → Name → List PlainType → List MemberTree → List Offence
methods_offences declarations class fields [] = []
methods_offences declarations class fields (FieldTree type name initial ∷ others) =
    methods_offences declarations class fields others
methods_offences declarations class fields (MethodTree signature end body ∷ others) =
    method_offences declarations class fields signature end body
    ++ methods_offences declarations class fields others
