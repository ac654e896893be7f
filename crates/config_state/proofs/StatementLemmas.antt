-- What the statements of a whole program can use is there, and what is known of the classes and the bodies of methods.
--
--   `statements_there`, ..         what each point of statements can use is there
--   `method_inside`                what the body of a method of a class can use
--   `class_body-member`            the body of a method of a class is among the members of the class
--   `class_takes_arguments`        a class takes as many arguments as it has parameters
--   `method_entry-is`              the method in the table of bodies is that body
--   `method_statement_is_there`    what a statement of the body of a method can use is there
--   `main_statement_is_there`      so is what one of the main block can use
use Rattle.std.proofs.Common.{◌≡◌, ℕ, zero, suc, ◌+◌, ◌-◌, ◌<◌, true, false, List, [], ◌∷◌, Some, None, ⊎_elim, refl, sym, ap, ◌∙◌, subst, arith, length, All}
use Rattle.std.specs.Option.{option_map}
use Rattle.std.specs.Prelude.{Option, option_and_then, slice_get}
use Rattle.std.proofs.lemmas.List.Elements.{All-get_or}
use Rattle.std.proofs.lemmas.Option.{none-some, same_Some, option_and_then_some, slice_get_within, get_or_from_slice_get}
use Rattle.abs_program.proofs.DeclaredLemmas.{class_is_declared}
use Rattle.abs_program.specs.Bodies.{method_entry, member_entry, entry_in_class, initials_among, run_among, entry_of_class, class_entry, ClassEntryTree}
use Rattle.abs_program.specs.Control.{Point, entry, points, points_of, else_points, program_points}
use Rattle.abs_program.specs.Members.{method_of}
use Rattle.abs_program.specs.NameSpaces.{NameSpaces, spaces_of}
use Rattle.abs_program.specs.Slots.{body_slots}
use Rattle.abs_tree.specs.Syntax.{Name, Statement, BlockOf, IfOf, WhileOf, MaybeStatements, NoElse, Else, Statements, NoStatement, NextStatement, ParamTree, DeclaredTree, MemberTree, FieldTree, MethodTree, DeclTree, ClassTree, ProgramTree}
use Rattle.abs_tree.specs.SyntaxCounts.{count_exprs}
use Rattle.abs_tree.specs.SyntaxSizes.{count_of, statement_count, decl_statements, fields_among}
use Rattle.abs_program.specs.Tables.{meaning_of}
use Rattle.abs_program.specs.Whole.{Inside, StatementIsThere, ElseIsThere, StatementsAreThere, MembersAreThere, DeclarationIsThere, IsWhole}
use Rattle.abs_program.specs.declared.name_spaces.Taking.{Taking}
use Rattle.abs_tree.specs.declared.place.Place.{Place}
use Rattle.abs_program.proofs.ProgramPointLemmas.{points_of_body}
use Rattle.config_state.proofs.BodyLemmas.{method_is_body}
use Rattle.abs_program.specs.ProgramBodies.{BodyAt, entry_of_body, member_body, class_body, IsBodyOf, OfMain, IsStatementOf}
use Rattle.config_state.specs.Bodies.{class_taking, main_at, method_in_class, method_at}
use Rattle.list_facts.proofs.EntryLemmas.{slice_get-append}

module _ (inside : Inside) where
  mutual
    unfolding points

    -- what each point of statements can use is there, if what they can use is
    statements_there : (index : ℕ) (statements : Statements) (after : Option ℕ)
        → StatementsAreThere inside statements → (place : ℕ) (point : Point)
        → slice_get (points index statements after) place ≡ Some point → StatementIsThere inside point.statement
    statements_there index NoStatement after there place point is = absurd (none-some point is)
    statements_there index (NextStatement first others) after there place point is =
        let next = index + count_of first in
        let before = entry next others after in
        ⊎_elim (λ own. statement_there index first before there.0 place point own)
        (λ later. statements_there next others after there.1 later.0 point later.1)
        (slice_get-append (points_of index first before) (points next others after) place point is)

    -- so is what each point of a statement can use
    statement_there : (index : ℕ) (statement : Statement) (after : Option ℕ) → StatementIsThere inside statement
        → (place : ℕ) (point : Point) → slice_get (points_of index statement after) place ≡ Some point
        → StatementIsThere inside point.statement
    statement_there index (BlockOf at block) after there place point is =
        statements_there index block after there place point is
    statement_there index (IfOf own at condition first second) after there zero point is =
        subst (λ (one : Point). StatementIsThere inside one.statement) (same_Some _ _ is) there
    statement_there index (IfOf own at condition first second) after there (suc place) point is =
        let next = index + 1 + statement_count first in
        ⊎_elim (λ early. statements_there (index + 1) first after there.1 place point early)
        (λ later. else_there next second after there.2 later.0 point later.1)
        (slice_get-append (points (index + 1) first after) (else_points next second after) place point is)
    statement_there index (WhileOf own at condition body) after there zero point is =
        subst (λ (one : Point). StatementIsThere inside one.statement) (same_Some _ _ is) there
    statement_there index (WhileOf own at condition body) after there (suc place) point is =
        statements_there (index + 1) body (Some index) there.1 place point is
    statement_there index statement after there zero point is =
        subst (λ (one : Point). StatementIsThere inside one.statement) (same_Some _ _ is) there
    statement_there index statement after there (suc place) point is = absurd (none-some point is)

    -- and each of the other branch of an `if`
    else_there : (index : ℕ) (branch : MaybeStatements) (after : Option ℕ) → ElseIsThere inside branch
        → (place : ℕ) (point : Point) → slice_get (else_points index branch after) place ≡ Some point
        → StatementIsThere inside point.statement
    else_there index NoElse after there place point is = absurd (none-some point is)
    else_there index (Else branch) after there place point is =
        statements_there index branch after there place point is

-- what a statement of a body can use is there, if what the body can use is
statement_of_body_there : (program : ProgramTree) (body : BodyAt) (inside : Inside) (index : ℕ) (point : Point)
    → IsBodyOf program.source body → StatementsAreThere inside body.statements → IsStatementOf body index
    → slice_get (program_points program.source) index ≡ Some point → StatementIsThere inside point.statement
statement_of_body_there program body inside index point is there of found =
    let place = index - body.index in
    let at : body.index + place ≡ index = omega (arith, of.after_start) in
    let less : place < statement_count body.statements = omega (arith, of.after_start, of.before_end) in
    statements_there inside body.index body.statements None there place point
    (sym (points_of_body program.source body place is less) ∙ (ap (slice_get (program_points program.source)) at ∙ found))

-- what the body of a method can use, if its class has so many fields
abbrev method_inside : NameSpaces → ℕ → BodyAt → Inside
method_inside spaces fields body = record {
  spaces = spaces;
  type_params = 0;
  has_this = true;
  has_task = true;
  fields = fields;
  slots = length (body_slots body.params body.statements);
}

-- what the body of a method among members can use is there
member_is_there : (spaces : NameSpaces) (fields earlier start : ℕ) (members : List MemberTree) (member : ℕ)
    (body : BodyAt) → MembersAreThere spaces fields earlier members → member_body start members member ≡ Some body
    → StatementsAreThere (method_inside spaces fields body) body.statements
member_is_there spaces fields earlier start [] member body there found = absurd (none-some body found)
member_is_there spaces fields earlier start (MethodTree signature end statements ∷ others) zero body there found =
    subst (λ (one : BodyAt). StatementsAreThere (method_inside spaces fields one) one.statements)
    (same_Some _ _ found) there.0.1
member_is_there spaces fields earlier start (FieldTree type name initial ∷ others) zero body there found =
    absurd (none-some body found)
member_is_there spaces fields earlier start (MethodTree signature end statements ∷ others) (suc member) body there
    found =
    member_is_there spaces fields (earlier + 0) (start + (statement_count statements + 0)) others member body there.1
    found
member_is_there spaces fields earlier start (FieldTree type name initial ∷ others) (suc member) body there found =
    member_is_there spaces fields (earlier + (1 + 0)) (start + 0) others member body there.1 found

-- the body of a method of a class is among the members of the class
pub class_body-member : (start : ℕ) (declarations : List DeclTree) (class member : ℕ) (body : BodyAt) (place : Place)
    (name : DeclaredTree) (params : List ParamTree) (implemented : List DeclaredTree) (members : List MemberTree)
    → slice_get declarations class ≡ Some (ClassTree place name params implemented members)
    → class_body start declarations class member ≡ Some body
    → (index : ℕ) × (member_body index members member ≡ Some body)
class_body-member start [] class member body place name params implemented members there found =
    absurd (none-some body found)
class_body-member start (first ∷ others) zero member body place name params implemented members there found =
    let own = subst (λ (one : DeclTree). class_body start (one ∷ others) zero member ≡ Some body) (same_Some _ _ there)
    found in
    (start, own)
class_body-member start (first ∷ others) (suc class) member body place name params implemented members there found =
    class_body-member (start + decl_statements (first ∷ [])) others class member body place name params implemented
    members there found

-- what a class declared at an index can use is there
class_is_there : (spaces : NameSpaces) (declarations : List DeclTree) (class : ℕ) (place : Place)
    (name : DeclaredTree) (params : List ParamTree) (implemented : List DeclaredTree) (members : List MemberTree)
    → All (DeclarationIsThere spaces) declarations
    → slice_get declarations class ≡ Some (ClassTree place name params implemented members)
    → MembersAreThere spaces (length params + fields_among members) (length params) members
class_is_there spaces declarations class place name params implemented members are there =
    let own = ClassTree place name params implemented members in
    (subst (DeclarationIsThere spaces) (get_or_from_slice_get declarations class own own there)
    (All-get_or (DeclarationIsThere spaces) declarations class own (slice_get_within declarations class own there)
    are)).2

-- there are as many initial values as fields among members
count_exprs-initials : (members : List MemberTree)
    → count_exprs (initials_among members) ≡ fields_among members
count_exprs-initials [] = refl
count_exprs-initials (FieldTree type name initial ∷ others) =
    ap (λ (count : ℕ). 1 + count) (count_exprs-initials others)
count_exprs-initials (MethodTree signature end body ∷ others) = count_exprs-initials others

-- what a new object of a class takes, by the members of the class
abbrev entry_with : List ParamTree → List MemberTree → ClassEntryTree
entry_with params members =
    record { params = length params; initials = initials_among members; run = run_among members }

-- a class that is declared at an index has its entry there
class_entry-is : (declarations : List DeclTree) (class : ℕ) (place : Place) (name : DeclaredTree)
    (params : List ParamTree) (implemented : List DeclaredTree) (members : List MemberTree)
    → slice_get declarations class ≡ Some (ClassTree place name params implemented members)
    → class_entry declarations class ≡ Some (entry_with params members)
unfolding class_entry
class_entry-is declarations class place name params implemented members there =
    ap (option_and_then entry_of_class) there

-- the method with a name of a class has an index among the members
method_in_class-body : (declarations : List DeclTree) (class : ℕ) (method : Name) (body : BodyAt)
    → method_in_class declarations class method ≡ Some body
    → (member : ℕ) × (class_body 0 declarations class member ≡ Some body)
unfolding method_in_class
method_in_class-body declarations class method body found =
    option_and_then_some (class_body 0 declarations class) (method_of declarations class method) body found
    (λ member named is. (member, is))

-- what the body of a method of a class can use is there, by what the name of the class means
named_body_there : (program : ProgramTree) (class method : Name) (body : BodyAt) (entry : ClassEntryTree)
    (meaning : Option Taking) → IsWhole program.source
    → meaning_of (spaces_of program.source.declarations).classes class ≡ meaning
    → option_and_then (λ (index : ℕ). method_in_class program.source.declarations index method)
    (option_map (λ (taking : Taking). taking.declaration) meaning) ≡ Some body
    → option_and_then (class_entry program.source.declarations)
    (option_map (λ (taking : Taking). taking.declaration) meaning) ≡ Some entry
    → StatementsAreThere
    (method_inside (spaces_of program.source.declarations) (entry.params + count_exprs entry.initials) body)
    body.statements
named_body_there program class method body entry None whole means found taken = absurd (none-some body found)
named_body_there program class method body entry (Some taking) whole means found taken =
    let declarations = program.source.declarations in
    let spaces = spaces_of declarations in
    let index = taking.declaration in
    let own = class_is_declared declarations class taking means in
    let is = class_entry-is declarations index own.place own.declared own.params own.implemented own.members
    own.there in
    let same : entry_with own.params own.members ≡ entry = same_Some _ _ (sym is ∙ taken) in
    let fields : length own.params + fields_among own.members ≡ entry.params + count_exprs entry.initials =
    ap (λ (count : ℕ). length own.params + count) (sym (count_exprs-initials own.members))
    ∙ ap (λ (one : ClassEntryTree). one.params + count_exprs one.initials) same in
    let named = method_in_class-body declarations index method body found in
    let at = class_body-member 0 declarations index named.0 body own.place own.declared own.params own.implemented
    own.members own.there named.1 in
    let are = class_is_there spaces declarations index own.place own.declared own.params own.implemented own.members
    whole.declarations_are own.there in
    subst (λ (count : ℕ). StatementsAreThere (method_inside spaces count body) body.statements) fields
    (member_is_there spaces (length own.params + fields_among own.members) (length own.params) at.0 own.members named.0
    body are at.1)

-- what a statement of the body of a method can use is there
pub method_statement_is_there : (program : ProgramTree) (class method : Name) (body : BodyAt) (entry : ClassEntryTree)
    (index : ℕ) (point : Point) → IsWhole program.source → method_at program class method ≡ Some body
    → class_taking program class ≡ Some entry → IsStatementOf body index
    → slice_get (program_points program.source) index ≡ Some point
    → StatementIsThere (record {
      spaces = spaces_of program.source.declarations;
      type_params = 0;
      has_this = true;
      has_task = true;
      fields = entry.params + count_exprs entry.initials;
      slots = length (body_slots body.params body.statements);
    }) point.statement
method_statement_is_there program class method body entry index point whole found taken of at =
    statement_of_body_there program body
    (method_inside (spaces_of program.source.declarations) (entry.params + count_exprs entry.initials) body) index
    point (method_is_body program class method body found)
    (named_body_there program class method body entry
    (meaning_of (spaces_of program.source.declarations).classes class) whole refl found taken) of at

-- so is what a statement of the main block can use
pub main_statement_is_there : (program : ProgramTree) (index : ℕ) (point : Point) → IsWhole program.source
    → IsStatementOf (main_at program) index → slice_get (program_points program.source) index ≡ Some point
    → StatementIsThere (record {
      spaces = spaces_of program.source.declarations;
      type_params = 0;
      has_this = false;
      has_task = true;
      fields = 0;
      slots = length (body_slots 0 program.source.main);
    }) point.statement
main_statement_is_there program index point whole of at =
    statement_of_body_there program (main_at program) (record {
      spaces = spaces_of program.source.declarations;
      type_params = 0;
      has_this = false;
      has_task = true;
      fields = 0;
      slots = length (body_slots 0 program.source.main);
    }) index point (OfMain refl) whole.main_is of at

-- a class takes as many arguments as it has parameters, by what its name means
named_takes_arguments : (program : ProgramTree) (class : Name) (entry : ClassEntryTree) (count : ℕ)
    (meaning : Option Taking) → meaning_of (spaces_of program.source.declarations).classes class ≡ meaning
    → option_and_then (class_entry program.source.declarations)
    (option_map (λ (taking : Taking). taking.declaration) meaning) ≡ Some entry
    → option_map (λ (taking : Taking). taking.arity) meaning ≡ Some count → entry.params ≡ count
named_takes_arguments program class entry count None means taken takes = absurd (none-some entry taken)
named_takes_arguments program class entry count (Some taking) means taken takes =
    let declarations = program.source.declarations in
    let own = class_is_declared declarations class taking means in
    let is = class_entry-is declarations taking.declaration own.place own.declared own.params own.implemented
    own.members own.there in
    let same : entry_with own.params own.members ≡ entry = same_Some _ _ (sym is ∙ taken) in
    sym (ap (λ (one : ClassEntryTree). one.params) same) ∙ (own.arity_is ∙ same_Some _ _ takes)

-- a class takes as many arguments as it has parameters
pub class_takes_arguments : (program : ProgramTree) (class : Name) (entry : ClassEntryTree) (count : ℕ)
    → class_taking program class ≡ Some entry
    → option_map (λ (c : Taking). c.arity) (meaning_of (spaces_of program.source.declarations).classes class)
    ≡ Some count
    → entry.params ≡ count
class_takes_arguments program class entry count taken takes =
    named_takes_arguments program class entry count (meaning_of (spaces_of program.source.declarations).classes class)
    refl taken takes

-- the entry of a member is that of its body
member_entry-is : (index : ℕ) (members : List MemberTree) (member : ℕ)
    → member_entry index members member ≡ option_map entry_of_body (member_body index members member)
member_entry-is index [] member = refl
member_entry-is index (MethodTree signature end body ∷ others) zero = refl
member_entry-is index (FieldTree type name initial ∷ others) zero = refl
member_entry-is index (MethodTree signature end body ∷ others) (suc member) =
    member_entry-is (index + (statement_count body + 0)) others member
member_entry-is index (FieldTree type name initial ∷ others) (suc member) =
    member_entry-is (index + 0) others member

-- the entry of a method of a class is that of its body
entry_in_class-is : (index : ℕ) (declarations : List DeclTree) (class member : ℕ)
    → entry_in_class index declarations class member
    ≡ option_map entry_of_body (class_body index declarations class member)
entry_in_class-is index [] class member = refl
entry_in_class-is index (ClassTree place name params implemented members ∷ others) zero member =
    member_entry-is index members member
entry_in_class-is index (first ∷ others) zero member = refl
entry_in_class-is index (first ∷ others) (suc class) member =
    entry_in_class-is (index + decl_statements (first ∷ [])) others class member

-- the method in the table of bodies is that body
pub method_entry-is : (declarations : List DeclTree) (class member : ℕ)
    → method_entry declarations class member ≡ option_map entry_of_body (class_body 0 declarations class member)
unfolding method_entry
method_entry-is declarations class member = entry_in_class-is 0 declarations class member
