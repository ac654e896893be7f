-- The points of a body of a program are those of the program, from its first index on.
--
--   `StandsIn`                         the points of a body stand in a list
--   `stands_whole`                     they stand where they are all
--   `members_stand`                    those of a method stand among the points of its class
--   `points_of_body`                   those of a body of a program are points of the program
use Rattle.std.proofs.Common.{◌≡◌, ℕ, zero, suc, ◌+◌, ◌<◌, ◌≤◌, List, [], ◌∷◌, ◌++◌, Some, None, arith, sym, ap, ◌∙◌, subst, length}
use Rattle.std.specs.Prelude.{slice_get}
use Rattle.std.proofs.lemmas.List.{length-append}
use Rattle.std.proofs.lemmas.Option.{none-some, same_Some}
use Rattle.abs_program.proofs.PointLemmas.{length-points, length-member_points, length-decl_points}
use Rattle.abs_program.specs.Control.{Point, points, member_points, decl_points, program_points}
use Rattle.abs_program.specs.ProgramBodies.{BodyAt, main_body, member_body, class_body, IsBodyOf, OfMain, OfMethod}
use Rattle.abs_tree.specs.Syntax.{Statements, MemberTree, FieldTree, MethodTree, DeclTree, ClassTree, SourceTree}
use Rattle.abs_tree.specs.SyntaxSizes.{statement_count, member_statements, decl_statements}
use Rattle.list_facts.proofs.EntryLemmas.{slice_get-before, slice_get-after}

-- The points of a body stand in a list of points, of which the first one has this index.
pub record StandsIn (start : ℕ) (all : List Point) (body : BodyAt) : Type 0 where
  pub place : ℕ
  pub begins : body.index ≡ start + place
  pub fits : place + statement_count body.statements ≤ length all
  pub there : (offset : ℕ) → offset < statement_count body.statements
      → slice_get all (place + offset) ≡ slice_get (points body.index body.statements None) offset

-- they stand where they are all
pub stands_whole : (index params : ℕ) (statements : Statements)
    → StandsIn index (points index statements None)
    (record { index = index; params = params; statements = statements })
stands_whole index params statements = record {
  place = 0;
  begins = omega arith;
  fits = omega (arith, length-points index statements None);
  there = λ offset within. ap (slice_get (points index statements None)) (omega arith);
}

-- they stand in the first of two lists
stands_before : {start : ℕ} (first others : List Point) (body : BodyAt) → StandsIn start first body
    → StandsIn start (first ++ others) body
stands_before {start} first others body stands = record {
  place = stands.place;
  begins = stands.begins;
  fits = omega (arith, stands.fits, length-append first others);
  there = λ offset within.
      slice_get-before first others (stands.place + offset) (omega (arith, within, stands.fits))
      ∙ stands.there offset within;
}

-- they stand in the second one, whose first point has the index after those of the first list
stands_after : {start next : ℕ} (first others : List Point) (body : BodyAt) → next ≡ start + length first
    → StandsIn next others body → StandsIn start (first ++ others) body
stands_after {start} {next} first others body after stands = record {
  place = length first + stands.place;
  begins = omega (arith, stands.begins, after);
  fits = omega (arith, stands.fits, length-append first others);
  there = λ offset within.
      slice_get-after first others (length first + stands.place + offset) (stands.place + offset) (omega arith)
      ∙ stands.there offset within;
}

-- the points of a method stand among those of its class
pub members_stand : (index : ℕ) (members : List MemberTree) (member : ℕ) (body : BodyAt)
    → member_body index members member ≡ Some body → StandsIn index (member_points index members) body
members_stand index [] member body is = absurd (none-some body is)
members_stand index (MethodTree signature end statements ∷ others) zero body is =
    let own = points index statements None in
    let later = member_points (index + statement_count statements) others in
    let method : BodyAt = record { index = index; params = length signature.params; statements = statements } in
    subst (StandsIn index (own ++ later)) (same_Some method body is)
    (stands_before own later method (stands_whole index (length signature.params) statements))
members_stand index (MethodTree signature end statements ∷ others) (suc member) body is =
    let next = index + statement_count statements in
    let same : index + member_statements (MethodTree signature end statements ∷ []) ≡ next = omega arith in
    stands_after (points index statements None) (member_points next others) body
    (omega (arith, length-points index statements None))
    (members_stand next others member body (subst (λ (n : ℕ). member_body n others member ≡ Some body) same is))
members_stand index (FieldTree type name initial ∷ others) zero body is = absurd (none-some body is)
members_stand index (FieldTree type name initial ∷ others) (suc member) body is =
    let same : index + member_statements (FieldTree type name initial ∷ []) ≡ index = omega arith in
    members_stand index others member body (subst (λ (n : ℕ). member_body n others member ≡ Some body) same is)

-- the points of a method stand among those of the declarations
declarations_stand : (index : ℕ) (declarations : List DeclTree) (class member : ℕ) (body : BodyAt)
    → class_body index declarations class member ≡ Some body → StandsIn index (decl_points index declarations) body
declarations_stand index [] class member body is = absurd (none-some body is)
declarations_stand index (ClassTree place name params implemented members ∷ others) zero member body is =
    stands_before (member_points index members) (decl_points (index + member_statements members) others) body
    (members_stand index members member body is)
declarations_stand index (ClassTree place name params implemented members ∷ others) (suc class) member body is =
    let next = index + member_statements members in
    let same : index + decl_statements (ClassTree place name params implemented members ∷ []) ≡ next = omega arith in
    stands_after (member_points index members) (decl_points next others) body
    (omega (arith, length-member_points index members))
    (declarations_stand next others class member body
    (subst (λ (n : ℕ). class_body n others class member ≡ Some body) same is))
declarations_stand index (declaration ∷ others) zero member body is = absurd (none-some body is)
declarations_stand index (declaration ∷ others) (suc class) member body is =
    let same : index + decl_statements (declaration ∷ []) ≡ index = omega arith in
    declarations_stand index others class member body
    (subst (λ (n : ℕ). class_body n others class member ≡ Some body) same is)

-- the points of a body stand among those of the program
body_stands : (program : SourceTree) (body : BodyAt) → IsBodyOf program body
    → StandsIn 0 (program_points program) body
body_stands program body (OfMain is) =
    let first = decl_statements program.declarations in
    let main = points first program.main None in
    subst (StandsIn 0 (program_points program)) (sym is)
    (stands_after (decl_points 0 program.declarations) main (main_body program)
    (omega (arith, length-decl_points 0 program.declarations)) (stands_whole first 0 program.main))
body_stands program body (OfMethod class member is) =
    let main = points (decl_statements program.declarations) program.main None in
    stands_before (decl_points 0 program.declarations) main body
    (declarations_stand 0 program.declarations class member body is)

-- The points of the program from the first index of a body on are those of the body.
pub points_of_body : (program : SourceTree) (body : BodyAt) (k : ℕ) → IsBodyOf program body
    → k < statement_count body.statements
    → slice_get (program_points program) (body.index + k) ≡ slice_get (points body.index body.statements None) k
points_of_body program body k is within =
    let stands = body_stands program body is in
    let same : body.index + k ≡ stands.place + k = omega (arith, stands.begins) in
    ap (slice_get (program_points program)) same ∙ stands.there k within
