-- Classes of an accepted program, by their names: the class is declared, it is well typed, and a new object of it has
-- values for its fields.
--
--   `IsClassAt`                a class of this name is declared at an index
--   `class_is_at`              so is the class with a name and its index
--   `class_has_types`          it is well typed, in a program that is
--   `class_is_there`           a class that `new` names is there
--   `class_is_filled`          a new object has the parameters that the class takes, and values for its other fields
--   `run_takes_nothing`        the method that runs at once has no parameters
--   `method_of_class`          the method with a name of a class is the first one of that name
use Rattle.std.proofs.Common.{◌≡◌, ℕ, zero, suc, ◌+◌, List, [], ◌∷◌, ◌++◌, Option, Some, None, true, true≢false, refl, sym, ap, ◌∙◌, subst, arith, codes, length, nat_eq}
use Rattle.std.specs.Prelude.{option_and_then, slice_get}
use Rattle.std.specs.Option.{option_map}
use Rattle.std.proofs.lemmas.Bool.{and_parts}
use Rattle.std.proofs.lemmas.Bool.Decides.{Decides-eqb}
use Rattle.std.proofs.lemmas.List.{length-map}
use Rattle.std.proofs.lemmas.Option.{none-some, same_Some, cond_some, option_and_then_some}
use Rattle.abs_profile.specs.Accepted.{IsAcceptedProgram}
use Rattle.abs_program.proofs.DeclaredLemmas.{class_is_declared}
use Rattle.abs_program.specs.Bodies.{initial_of, initials_among, is_unit, starts_alone, if_alone, run_among, entry_of_class, class_entry, ClassEntryTree}
use Rattle.abs_program.specs.Members.{method_among, method_in, method_of}
use Rattle.abs_program.specs.NameSpaces.{spaces_of}
use Rattle.abs_program.specs.ProgramBodies.{BodyAt, member_body, class_body}
use Rattle.abs_program.specs.Tables.{meaning_of}
use Rattle.abs_program.specs.declared.name_spaces.Taking.{Taking}
use Rattle.abs_tree.specs.Syntax.{Name, ParamTree, MaybeExpr, NoValue, Value, DeclaredTree, MemberTree, FieldTree, MethodTree, DeclTree, ClassTree, ProgramTree}
use Rattle.abs_tree.specs.SyntaxSizes.{member_statements}
use Rattle.abs_tree.specs.declared.place.Place.{Place}
use Rattle.abs_types.proofs.ProgramLemmas.{program_found}
use Rattle.abs_types.specs.HasType.HasType.{null}
use Rattle.abs_types.specs.PlainTypes.{PlainType, PlainNull, PlainFut, PlainInterface, plain}
use Rattle.abs_types.specs.Schemes.{param_types}
use Rattle.abs_types.specs.SideTypes.{class_takes, taken_by}
use Rattle.abs_types.specs.StatementOffences.{can_be_null}
use Rattle.abs_types.specs.Subtyping.{Fits}
use Rattle.abs_types.specs.Subtyping.Fits.{null_interface, null_future}
use Rattle.abs_types.specs.TypedProgram.{FitsType, IsTypedField, AreTypedMembers, IsTypedClass, AreTypedClasses}
use Rattle.abs_types.specs.TypeOffences.{field_types, value_frame}
use Rattle.config_state.proofs.StatementLemmas.{class_body-member}
use Rattle.config_state.specs.Bodies.{class_index, class_taking, method_in_class, method_at}
use Rattle.type_sound.proofs.Initials.{InitialsFit}
use Rattle.type_sound.specs.Routines.{fields_if_there, fields_of_class}

-- A class of this name is declared at the index.
pub record IsClassAt (declarations : List DeclTree) (name : Name) (index : ℕ) : Type 0 where
  pub place : Place
  pub declared : DeclaredTree
  pub params : List ParamTree
  pub implemented : List DeclaredTree
  pub members : List MemberTree
  pub there : slice_get declarations index ≡ Some (ClassTree place declared params implemented members)
  pub name_is : declared.name ≡ name
  pub means : (meaning : Taking) × (meaning_of (spaces_of declarations).classes name ≡ Some meaning)
      × (meaning.declaration ≡ index)

-- a class is declared where its name stands for it
class_of_meaning : (declarations : List DeclTree) (name : Name) (meaning : Taking)
    → meaning_of (spaces_of declarations).classes name ≡ Some meaning
    → IsClassAt declarations name meaning.declaration
class_of_meaning declarations name meaning means =
    let own = class_is_declared declarations name meaning means in
    record {
      place = own.place;
      declared = own.declared;
      params = own.params;
      implemented = own.implemented;
      members = own.members;
      there = own.there;
      name_is = own.name_is;
      means = (meaning, means, refl);
    }

-- the class with a name is declared at its index
pub class_is_at : (program : ProgramTree) (class : Name) (index : ℕ) → class_index program class ≡ Some index
    → IsClassAt program.source.declarations class index
class_is_at program class index is = by_meaning (meaning_of (spaces_of declarations).classes class) refl is
  where
    declarations : List DeclTree
    declarations = program.source.declarations

    by_meaning : (meaning : Option Taking) → meaning_of (spaces_of declarations).classes class ≡ meaning
        → option_map (λ (taken : Taking). taken.declaration) meaning ≡ Some index
        → IsClassAt declarations class index
    by_meaning None means found = absurd (none-some index found)
    by_meaning (Some taken) means found =
        subst (IsClassAt declarations class) (same_Some taken.declaration index found)
        (class_of_meaning declarations class taken means)

-- each of several declarations is well typed, if it is a class and they all are
class_among : (declarations some : List DeclTree) (next index : ℕ) (declaration : DeclTree)
    → AreTypedClasses declarations next some → slice_get some index ≡ Some declaration
    → IsTypedClass declarations (next + index) declaration
class_among declarations [] next index declaration typed there = absurd (none-some declaration there)
class_among declarations (first ∷ others) next zero declaration typed there =
    let at : next ≡ next + 0 = omega arith in
    subst (λ (place : ℕ). IsTypedClass declarations place declaration) at
    (subst (IsTypedClass declarations next) (same_Some first declaration there) typed.0)
class_among declarations (first ∷ others) next (suc index) declaration typed there =
    let at : 1 + next + index ≡ next + suc index = omega arith in
    subst (λ (place : ℕ). IsTypedClass declarations place declaration) at
    (class_among declarations others (1 + next) index declaration typed.1 there)

-- a class of an accepted program is well typed
pub class_has_types : (program : ProgramTree) → IsAcceptedProgram program → (class : Name) (index : ℕ)
    → (own : IsClassAt program.source.declarations class index)
    → IsTypedClass program.source.declarations index
    (ClassTree own.place own.declared own.params own.implemented own.members)
class_has_types program accepted class index own =
    let declarations = program.source.declarations in
    let declaration = ClassTree own.place own.declared own.params own.implemented own.members in
    let typed = program_found program.source accepted.well_typed in
    let at : 0 + index ≡ index = omega arith in
    subst (λ (place : ℕ). IsTypedClass declarations place declaration) at
    (class_among declarations declarations 0 index declaration typed.classes own.there)

-- the index of a class whose name stands for it
index_of_class : (program : ProgramTree) (class : Name) (meaning : Taking)
    → meaning_of (spaces_of program.source.declarations).classes class ≡ Some meaning
    → class_index program class ≡ Some meaning.declaration
index_of_class program class meaning means = ap (option_map (λ (taken : Taking). taken.declaration)) means

-- what a new object of a class with these parameters and members takes
abbrev entry_of : List ParamTree → List MemberTree → ClassEntryTree
entry_of params members =
    record { params = length params; initials = initials_among members; run = run_among members }

-- the class is found with what a new object of it takes
taking_of_class : (program : ProgramTree) (class : Name) (index : ℕ) → class_index program class ≡ Some index
    → (own : IsClassAt program.source.declarations class index)
    → class_taking program class ≡ Some (entry_of own.params own.members)
unfolding class_entry
taking_of_class program class index is own =
    let declarations = program.source.declarations in
    ap (option_and_then (class_entry declarations)) is
    ∙ ap (option_and_then entry_of_class) own.there

-- the class that has an entry is declared, and the entry is its own
class_with_entry : (program : ProgramTree) (class : Name) (entry : ClassEntryTree)
    → class_taking program class ≡ Some entry
    → (index : ℕ) × (own : IsClassAt program.source.declarations class index)
    × (class_index program class ≡ Some index) × (entry ≡ entry_of own.params own.members)
class_with_entry program class entry taking =
    option_and_then_some (class_entry program.source.declarations) (class_index program class) entry taking
    (λ index is found.
    let own = class_is_at program class index is in
    let same = sym taking ∙ taking_of_class program class index is own in
    (index, own, is, same_Some entry (entry_of own.params own.members) same))

-- A class that `new` names is there.
pub class_is_there : (program : ProgramTree) (class : Name) (takes : List PlainType)
    → class_takes program.source.declarations class ≡ Some takes
    → (index : ℕ) × (entry : ClassEntryTree) × (class_index program class ≡ Some index)
    × (class_taking program class ≡ Some entry)
unfolding class_takes
class_is_there program class takes is =
    by_meaning (meaning_of (spaces_of declarations).classes class) refl is
  where
    declarations : List DeclTree
    declarations = program.source.declarations

    by_meaning : (meaning : Option Taking) → meaning_of (spaces_of declarations).classes class ≡ meaning
        → option_and_then taken_by (option_and_then (λ (found : Taking). slice_get declarations found.declaration)
        meaning) ≡ Some takes
        → (index : ℕ) × (entry : ClassEntryTree) × (class_index program class ≡ Some index)
        × (class_taking program class ≡ Some entry)
    by_meaning None means found = absurd (none-some takes found)
    by_meaning (Some taken) means found =
        let own = class_of_meaning declarations class taken means in
        let at = index_of_class program class taken means in
        (taken.declaration, entry_of own.params own.members, at, taking_of_class program class taken.declaration at own)

-- null is of each type that can be null
null_fits : (declarations : List DeclTree) (type : PlainType) → can_be_null type ≡ true
    → Fits declarations PlainNull type
null_fits declarations (PlainInterface name) reported = null_interface name
null_fits declarations (PlainFut value) reported = null_future value
null_fits declarations other reported = absurd (true≢false (sym reported))

-- the initial value of a field, which is null if it has none, fits the type of the field
initial_fits : (declarations : List DeclTree) (known : List PlainType) (type : PlainType) (name : DeclaredTree)
    (initial : MaybeExpr) → IsTypedField declarations known type initial
    → FitsType declarations (value_frame known) (initial_of name initial) type
initial_fits declarations known type name NoValue typed = record {
  given = PlainNull;
  has_type = null [] name.place;
  fits_it = null_fits declarations type typed;
}
initial_fits declarations known type name (Value value) typed = typed

-- the initial values of the fields among members fit their types
initials_fit : (declarations : List DeclTree) (class : Name) (fields known : List PlainType) (members : List MemberTree)
    → AreTypedMembers declarations class fields known members
    → InitialsFit declarations known (initials_among members) (field_types members)
initials_fit declarations class fields known [] typed = tt
initials_fit declarations class fields known (FieldTree type name initial ∷ others) typed = (
  initial_fits declarations known (plain type) name initial typed.0,
  initials_fit declarations class fields (known ++ plain type ∷ []) others typed.1,
)
initials_fit declarations class fields known (MethodTree signature end body ∷ others) typed =
    initials_fit declarations class fields known others typed.1

-- what a new object of a class takes are the types of its parameters
takes_of_class : (declarations : List DeclTree) (class : Name) (index : ℕ) (own : IsClassAt declarations class index)
    → class_takes declarations class ≡ Some (param_types own.params)
unfolding class_takes
takes_of_class declarations class index own =
    ap (λ (meaning : Option Taking). option_and_then taken_by
    (option_and_then (λ (found : Taking). slice_get declarations found.declaration) meaning)) own.means.1
    ∙ (ap (λ (place : ℕ). option_and_then taken_by (slice_get declarations place)) own.means.2
    ∙ ap (option_and_then taken_by) own.there)

-- the fields of a class are its parameters and the fields among its members
fields_of_declared : (program : ProgramTree) (class : Name) (index : ℕ) → class_index program class ≡ Some index
    → (own : IsClassAt program.source.declarations class index)
    → fields_of_class program class ≡ param_types own.params ++ field_types own.members
fields_of_declared program class index is own =
    ap (λ (at : Option ℕ). fields_if_there (option_and_then (slice_get program.source.declarations) at)) is
    ∙ ap fields_if_there own.there

-- A new object of a class has the parameters that the class takes, and its other fields have initial values that fit
-- their types.
pub class_is_filled : (program : ProgramTree) → IsAcceptedProgram program → (class : Name) (entry : ClassEntryTree)
    → class_taking program class ≡ Some entry
    → (takes : List PlainType) × (others : List PlainType)
    × (class_takes program.source.declarations class ≡ Some takes)
    × (fields_of_class program class ≡ takes ++ others) × (entry.params ≡ length takes)
    × InitialsFit program.source.declarations takes entry.initials others
class_is_filled program accepted class entry taking =
    let declarations = program.source.declarations in
    let found = class_with_entry program class entry taking in
    let own = found.1 in
    let takes = param_types own.params in
    let typed = class_has_types program accepted class found.0 own in
    let fit = initials_fit declarations own.declared.name (takes ++ field_types own.members) takes own.members typed.1
    in (
      takes,
      field_types own.members,
      takes_of_class declarations class found.0 own,
      fields_of_declared program class found.0 found.2 own,
      ap (λ (one : ClassEntryTree). one.params) found.3
          ∙ sym (length-map own.params (λ (param : ParamTree). plain param.type_of)),
      subst (λ (one : ClassEntryTree). InitialsFit declarations takes one.initials (field_types own.members))
          (sym found.3) fit,
    )

-- a member that starts alone has no parameters
alone_takes_nothing : (index : ℕ) (members : List MemberTree) (member own alone : ℕ) (body : BodyAt)
    → member_body index members member ≡ Some body → if_alone own (slice_get members member) ≡ Some alone
    → body.params ≡ 0
alone_takes_nothing index [] member own alone body is starts = absurd (none-some body is)
alone_takes_nothing index (MethodTree signature end statements ∷ others) zero own alone body is starts =
    let tests = cond_some (starts_alone (MethodTree signature end statements)) own alone starts in
    let parts = and_parts (nat_eq (length signature.params) 0) (is_unit signature.result) tests.0 in
    ap (λ (one : BodyAt). one.params) (sym (same_Some _ body is))
    ∙ (Decides-eqb (length signature.params) 0).0 parts.0
alone_takes_nothing index (FieldTree type name initial ∷ others) zero own alone body is starts =
    absurd (none-some body is)
alone_takes_nothing index (first ∷ others) (suc member) own alone body is starts =
    alone_takes_nothing (index + member_statements (first ∷ [])) others member own alone body is starts

-- the method with a name of the class at an index is the first one among the members that has the name
pub method_of_class : (declarations : List DeclTree) (class method : Name) (index : ℕ)
    → (own : IsClassAt declarations class index)
    → method_of declarations index method ≡ method_among 0 own.members method
unfolding method_of
method_of_class declarations class method index own =
    ap (option_and_then (λ (declaration : DeclTree). method_in declaration method)) own.there

-- The method `run` of an active class takes nothing.
pub run_takes_nothing : (program : ProgramTree) (class : Name) (entry : ClassEntryTree) (member : ℕ) (body : BodyAt)
    → class_taking program class ≡ Some entry → entry.run ≡ Some member
    → method_at program class (codes "run") ≡ Some body → body.params ≡ 0
unfolding method_in_class
run_takes_nothing program class entry member body taking starts found =
    let run = codes "run" in
    let declarations = program.source.declarations in
    let known = class_with_entry program class entry taking in
    let index = known.0 in
    let own = known.1 in
    let runs : run_among own.members ≡ Some member = sym (ap (λ (one : ClassEntryTree). one.run) known.3) ∙ starts in
    let in_class : method_in_class declarations index run ≡ Some body =
    sym (ap (option_and_then (λ (at : ℕ). method_in_class declarations at run)) known.2) ∙ found in
    let by_members : option_and_then (class_body 0 declarations index) (method_among 0 own.members run) ≡ Some body =
    sym (ap (option_and_then (class_body 0 declarations index)) (method_of_class declarations class run index own))
    ∙ in_class in
    option_and_then_some (class_body 0 declarations index) (method_among 0 own.members run) body by_members
    (λ at among there.
    let inside = class_body-member 0 declarations index at body own.place own.declared own.params own.implemented
    own.members own.there there in
    let alone = sym (ap (option_and_then (λ (place : ℕ). if_alone place (slice_get own.members place))) among) ∙ runs in
    alone_takes_nothing inside.0 own.members at at member body inside.1 alone)
