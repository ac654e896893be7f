-- Facts at the statements of a whole program follow control.
--
--   `program_follows`                  no more is said where control goes than after a statement
--   `body_stands`                      the facts of a body stand from its first index on
--   `program_starts`                   no more is said at the beginning of a body than before it
--   `facts_at_program_points`          there are as many facts as points
use Rattle.std.proofs.Common.{◌≡◌, ℕ, zero, suc, ◌+◌, List, [], ◌∷◌, Some, None, arith, refl, sym, ◌∙◌, subst, length}
use Rattle.std.specs.List.{AllZip}
use Rattle.std.specs.Prelude.{slice_get}
use Rattle.std.proofs.lemmas.List.{length-append}
use Rattle.std.proofs.lemmas.Option.{none-some, same_Some}
use Rattle.abs_program.proofs.FlowLemmas.{FollowsControl, length-facts, statements_follow}
use Rattle.abs_program.proofs.PointLemmas.{length-program_points}
use Rattle.abs_program.specs.Control.{Point, entry, points, member_points, decl_points, program_points}
use Rattle.abs_program.specs.Flows.{Slots, Flow, IsFlow, facts, Lands, Follows}
use Rattle.abs_program.specs.ProgramBodies.{BodyAt, member_body, class_body, IsBodyOf, OfMain, OfMethod}
use Rattle.abs_program.specs.ProgramFacts.{member_facts, decl_facts, program_facts}
use Rattle.abs_tree.specs.Syntax.{Statements, MemberTree, FieldTree, MethodTree, DeclTree, ClassTree, SourceTree}
use Rattle.abs_tree.specs.SyntaxSizes.{statement_count, member_statements, decl_statements}
use Rattle.list_facts.proofs.PartLemmas.{StandsAt, whole_stands, first_stands, second_stands, AllZip-append, AllZip-slice_get}

module _ (flow : Flow) (before : ℕ → Slots) where
  -- there is a fact at each statement of the methods of a class
  length-member_facts : (members : List MemberTree) → length (member_facts flow before members) ≡ member_statements members
  length-member_facts [] = refl
  length-member_facts (FieldTree type name initial ∷ others) = length-member_facts others
  length-member_facts (MethodTree signature end body ∷ others) =
      length-append (facts flow (before (length signature.params)) body) (member_facts flow before others)
      ∙ omega (arith, length-facts flow (before (length signature.params)) body, length-member_facts others)

  -- so there is of declarations
  length-decl_facts : (declarations : List DeclTree)
      → length (decl_facts flow before declarations) ≡ decl_statements declarations
  length-decl_facts [] = refl
  length-decl_facts (ClassTree place name params implemented members ∷ others) =
      length-append (member_facts flow before members) (decl_facts flow before others)
      ∙ omega (arith, length-member_facts members, length-decl_facts others)
  length-decl_facts (declaration ∷ others) = length-decl_facts others

  -- There are as many facts as points.
  pub facts_at_program_points : (program : SourceTree)
      → length (program_facts flow before program) ≡ length (program_points program)
  unfolding program_facts
  facts_at_program_points program =
      length-append (decl_facts flow before program.declarations) (facts flow (before 0) program.main)
      ∙ omega (
        arith,
        length-decl_facts program.declarations,
        length-facts flow (before 0) program.main,
        length-program_points program,
      )

  module _ (all : List Slots) where
    -- the facts of a method stand where those of the methods of its class do
    member_stands : (index : ℕ) (members : List MemberTree) (member : ℕ) (body : BodyAt)
        → StandsAt all index (member_facts flow before members) → member_body index members member ≡ Some body
        → StandsAt all body.index (facts flow (before body.params) body.statements)
    member_stands index [] member body stands is = absurd (none-some body is)
    member_stands index (MethodTree signature end statements ∷ others) zero body stands is =
        let own = facts flow (before (length signature.params)) statements in
        let method : BodyAt = record { index = index; params = length signature.params; statements = statements } in
        subst (λ (one : BodyAt). StandsAt all one.index (facts flow (before one.params) one.statements))
        (same_Some method body is) (first_stands own (member_facts flow before others) stands)
    member_stands index (MethodTree signature end statements ∷ others) (suc member) body stands is =
        let own = facts flow (before (length signature.params)) statements in
        let next = index + statement_count statements in
        let size : next ≡ index + length own =
        omega (arith, length-facts flow (before (length signature.params)) statements) in
        let same : index + member_statements (MethodTree signature end statements ∷ []) ≡ next = omega arith in
        member_stands next others member body (second_stands own (member_facts flow before others) size stands)
        (subst (λ (n : ℕ). member_body n others member ≡ Some body) same is)
    member_stands index (FieldTree type name initial ∷ others) zero body stands is = absurd (none-some body is)
    member_stands index (FieldTree type name initial ∷ others) (suc member) body stands is =
        let same : index + member_statements (FieldTree type name initial ∷ []) ≡ index = omega arith in
        member_stands index others member body stands
        (subst (λ (n : ℕ). member_body n others member ≡ Some body) same is)

    -- they stand where those of declarations do
    decl_stands : (index : ℕ) (declarations : List DeclTree) (class member : ℕ) (body : BodyAt)
        → StandsAt all index (decl_facts flow before declarations)
        → class_body index declarations class member ≡ Some body
        → StandsAt all body.index (facts flow (before body.params) body.statements)
    decl_stands index [] class member body stands is = absurd (none-some body is)
    decl_stands index (ClassTree place name params implemented members ∷ others) zero member body stands is =
        member_stands index members member body
        (first_stands (member_facts flow before members) (decl_facts flow before others) stands) is
    decl_stands index (ClassTree place name params implemented members ∷ others) (suc class) member body stands is =
        let own = member_facts flow before members in
        let next = index + member_statements members in
        let size : next ≡ index + length own = omega (arith, length-member_facts members) in
        let same : index + decl_statements (ClassTree place name params implemented members ∷ []) ≡ next =
        omega arith in
        decl_stands next others class member body (second_stands own (decl_facts flow before others) size stands)
        (subst (λ (n : ℕ). class_body n others class member ≡ Some body) same is)
    decl_stands index (declaration ∷ others) zero member body stands is = absurd (none-some body is)
    decl_stands index (declaration ∷ others) (suc class) member body stands is =
        let same : index + decl_statements (declaration ∷ []) ≡ index = omega arith in
        decl_stands index others class member body stands
        (subst (λ (n : ℕ). class_body n others class member ≡ Some body) same is)

    -- The facts at the statements of a body follow control, where they stand from the body's first index on.
    body_follows : IsFlow flow → (index params : ℕ) (statements : Statements)
        → StandsAt all index (facts flow (before params) statements)
        → FollowsControl flow 0 all (entry index statements None) (before params) (facts flow (before params) statements)
        (points index statements None)
    body_follows may index params statements stands =
        statements_follow flow may 0 all index index (before params) statements None (omega arith) stands tt

    -- so do those of the methods of a class
    members_follow : IsFlow flow → (index : ℕ) (members : List MemberTree)
        → StandsAt all index (member_facts flow before members)
        → AllZip (λ fact point. Follows flow 0 all fact point.statement point.goes) (member_facts flow before members)
        (member_points index members)
    members_follow may index [] stands = tt
    members_follow may index (FieldTree type name initial ∷ others) stands = members_follow may index others stands
    members_follow may index (MethodTree signature end body ∷ others) stands =
        let own = facts flow (before (length signature.params)) body in
        let theirs = member_facts flow before others in
        let next = index + statement_count body in
        let size : next ≡ index + length own =
        omega (arith, length-facts flow (before (length signature.params)) body) in
        AllZip-append (λ fact point. Follows flow 0 all fact point.statement point.goes) own (points index body None)
        theirs (member_points next others)
        (body_follows may index (length signature.params) body (first_stands own theirs stands)).follow
        (members_follow may next others (second_stands own theirs size stands))

    -- and those of declarations
    decls_follow : IsFlow flow → (index : ℕ) (declarations : List DeclTree)
        → StandsAt all index (decl_facts flow before declarations)
        → AllZip (λ fact point. Follows flow 0 all fact point.statement point.goes)
        (decl_facts flow before declarations) (decl_points index declarations)
    decls_follow may index [] stands = tt
    decls_follow may index (ClassTree place name params implemented members ∷ others) stands =
        let own = member_facts flow before members in
        let theirs = decl_facts flow before others in
        let next = index + member_statements members in
        let size : next ≡ index + length own = omega (arith, length-member_facts members) in
        AllZip-append (λ fact point. Follows flow 0 all fact point.statement point.goes) own
        (member_points index members) theirs (decl_points next others)
        (members_follow may index members (first_stands own theirs stands))
        (decls_follow may next others (second_stands own theirs size stands))
    decls_follow may index (declaration ∷ others) stands = decls_follow may index others stands

  -- the facts of the main block stand after those of the declarations
  main_stands : (program : SourceTree)
      → StandsAt (program_facts flow before program) (decl_statements program.declarations)
      (facts flow (before 0) program.main)
  unfolding program_facts
  main_stands program =
      let own = decl_facts flow before program.declarations in
      second_stands own (facts flow (before 0) program.main)
      (omega (arith, length-decl_facts program.declarations)) (whole_stands (program_facts flow before program))

  -- Those of a body stand from its first index on.
  pub body_stands : (program : SourceTree) (body : BodyAt) → IsBodyOf program body
      → StandsAt (program_facts flow before program) body.index (facts flow (before body.params) body.statements)
  unfolding program_facts
  body_stands program body (OfMain is) =
      subst (λ (one : BodyAt).
      StandsAt (program_facts flow before program) one.index (facts flow (before one.params) one.statements)) (sym is)
      (main_stands program)
  body_stands program body (OfMethod class member is) =
      let all = program_facts flow before program in
      decl_stands all 0 program.declarations class member body
      (first_stands (decl_facts flow before program.declarations) (facts flow (before 0) program.main)
      (whole_stands all)) is

  -- At the first statement of a body no more is said than before it.
  pub program_starts : IsFlow flow → (program : SourceTree) (body : BodyAt) → IsBodyOf program body
      → Lands 0 (program_facts flow before program) (entry body.index body.statements None) (before body.params)
  program_starts may program body is =
      (body_follows (program_facts flow before program) may body.index body.params body.statements
      (body_stands program body is)).starts

  -- Where control goes after a statement of a program, no more is said than after it.
  pub program_follows : IsFlow flow → (program : SourceTree) (index : ℕ) (point : Point) (fact : Slots)
      → slice_get (program_points program) index ≡ Some point
      → slice_get (program_facts flow before program) index ≡ Some fact
      → Follows flow 0 (program_facts flow before program) fact point.statement point.goes
  unfolding program_facts
  program_follows may program index point fact point_is fact_is =
      let all = program_facts flow before program in
      let own = decl_facts flow before program.declarations in
      let theirs = facts flow (before 0) program.main in
      let first = decl_statements program.declarations in
      AllZip-slice_get (λ at one. Follows flow 0 all at one.statement one.goes) all (program_points program)
      (AllZip-append (λ at one. Follows flow 0 all at one.statement one.goes) own (decl_points 0 program.declarations)
      theirs (points first program.main None)
      (decls_follow all may 0 program.declarations (first_stands own theirs (whole_stands all)))
      (body_follows all may first 0 program.main (main_stands program)).follow)
      index fact point fact_is point_is
