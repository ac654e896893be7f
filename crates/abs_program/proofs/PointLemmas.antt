-- Points of statements: there is one for each index of statements, of a class, and of a whole program.
use Rattle.std.proofs.Common.{◌≡◌, ℕ, ◌+◌, List, [], ◌∷◌, arith, refl, ◌∙◌, length}
use Rattle.std.specs.Prelude.{Option, Some, None}
use Rattle.std.proofs.lemmas.List.{length-append}
use Rattle.abs_program.specs.Control.{entry, points, points_of, else_points, member_points, decl_points, program_points}
use Rattle.abs_tree.specs.Syntax.{Statement, BlockOf, IfOf, WhileOf, MaybeStatements, NoElse, Else, Statements, NoStatement, NextStatement, MemberTree, FieldTree, MethodTree, DeclTree, ClassTree, SourceTree}
use Rattle.abs_tree.specs.SyntaxSizes.{count_of, count_of_else, statement_count, member_statements, decl_statements, all_statements}

mutual
  unfolding points

  -- statements have a point for each index
  pub length-points : (index : ℕ) (statements : Statements) (after : Option ℕ)
      → length (points index statements after) ≡ statement_count statements
  length-points index NoStatement after = refl
  length-points index (NextStatement first others) after =
      let next = index + count_of first in
      length-append (points_of index first (entry next others after)) (points next others after)
      ∙ omega (arith, length-points_of index first (entry next others after), length-points next others after)

  -- so does a statement with those in it
  pub length-points_of : (index : ℕ) (statement : Statement) (after : Option ℕ)
      → length (points_of index statement after) ≡ count_of statement
  length-points_of index (BlockOf place block) after = length-points index block after
  length-points_of index (IfOf own place condition first second) after =
      let next = index + 1 + statement_count first in
      let both = length-append (points (index + 1) first after) (else_points next second after) in
      omega (arith, both, length-points (index + 1) first after, length-else_points next second after)
  length-points_of index (WhileOf own place condition body) after =
      omega (arith, length-points (index + 1) body (Some index))
  length-points_of index statement after = refl

  -- and the other branch of an `if`
  pub length-else_points : (index : ℕ) (branch : MaybeStatements) (after : Option ℕ)
      → length (else_points index branch after) ≡ count_of_else branch
  length-else_points index NoElse after = refl
  length-else_points index (Else branch) after = length-points index branch after

-- the methods of a class have a point for each of their statements
pub length-member_points : (index : ℕ) (members : List MemberTree)
    → length (member_points index members) ≡ member_statements members
length-member_points index [] = refl
length-member_points index (FieldTree type name initial ∷ others) = length-member_points index others
length-member_points index (MethodTree signature end body ∷ others) =
    let next = index + statement_count body in
    length-append (points index body None) (member_points next others)
    ∙ omega (arith, length-points index body None, length-member_points next others)

-- so do declarations
pub length-decl_points : (index : ℕ) (declarations : List DeclTree)
    → length (decl_points index declarations) ≡ decl_statements declarations
length-decl_points index [] = refl
length-decl_points index (ClassTree place name params implemented members ∷ others) =
    let next = index + member_statements members in
    length-append (member_points index members) (decl_points next others)
    ∙ omega (arith, length-member_points index members, length-decl_points next others)
length-decl_points index (declaration ∷ others) = length-decl_points index others

-- A program has a point for each of its statements.
pub length-program_points : (program : SourceTree) → length (program_points program) ≡ all_statements program
length-program_points program =
    let first = decl_points 0 program.declarations in
    let main = points (decl_statements program.declarations) program.main None in
    length-append first main
    ∙ omega (
      arith,
      length-decl_points 0 program.declarations,
      length-points (decl_statements program.declarations) program.main None,
    )
