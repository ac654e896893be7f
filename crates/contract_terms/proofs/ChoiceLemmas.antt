-- Where control goes by an answer, the statement chooses.
--
--   `ChoosesByAnswer`                  an effect is a choice, if control goes by an answer
--   `program_chooses`                  it is for each statement of a program
use Rattle.std.proofs.Common.{◌≡◌, ℕ, ◌+◌, List, [], ◌∷◌, ◌++◌, All, Some, None, refl}
use Rattle.std.specs.Prelude.{⊤, Option, slice_get}
use Rattle.std.proofs.lemmas.List.Elements.{All-nil, All-cons, All-append}
use Rattle.abs_program.specs.Control.{Goes, Next, ByAnswer, Point, entry, else_entry, points, points_of, else_points, member_points, decl_points, program_points}
use Rattle.abs_program.specs.Instructions.{EffectTree, Chooses, effect_of}
use Rattle.abs_tree.specs.Syntax.{Statement, BlockOf, IfOf, WhileOf, MaybeStatements, NoElse, Else, Statements, NoStatement, NextStatement, MemberTree, FieldTree, MethodTree, DeclTree, ClassTree, SourceTree}
use Rattle.abs_tree.specs.SyntaxSizes.{count_of, statement_count, member_statements, decl_statements}
use Rattle.list_facts.proofs.AllLemmas.{All-slice_get}

-- an effect is a choice, if control goes by an answer
abbrev pub ChoosesByAnswer : EffectTree → Goes → Type 0
ChoosesByAnswer effect (Next after) = ⊤
ChoosesByAnswer effect (ByAnswer when_true when_false) = effect ≡ Chooses

-- the effect of a point's statement is a choice, if control goes on from there by an answer
abbrev ChoosesAt : Point → Type 0
ChoosesAt point = ChoosesByAnswer (effect_of point.statement) point.goes

mutual
  unfolding points

  -- it is for statements
  statements_choose : (index : ℕ) (statements : Statements) (after : Option ℕ)
      → All ChoosesAt (points index statements after)
  statements_choose index NoStatement after = All-nil ChoosesAt
  statements_choose index (NextStatement first others) after =
      let next = index + count_of first in
      All-append ChoosesAt (points_of index first (entry next others after)) (points next others after)
      (statement_chooses index first (entry next others after)) (statements_choose next others after)

  -- for a statement and those in it
  statement_chooses : (index : ℕ) (statement : Statement) (after : Option ℕ)
      → All ChoosesAt (points_of index statement after)
  statement_chooses index (BlockOf place block) after = statements_choose index block after
  statement_chooses index (IfOf own place condition first second) after =
      let next = index + 1 + statement_count first in
      let inner_first = points (index + 1) first after in
      let inner_second = else_points next second after in
      let point : Point = record {
        statement = IfOf own place condition first second;
        goes = ByAnswer (entry (index + 1) first after) (else_entry next second after);
      } in
      All-cons ChoosesAt point (inner_first ++ inner_second) refl
      (All-append ChoosesAt inner_first inner_second (statements_choose (index + 1) first after)
      (else_chooses next second after))
  statement_chooses index (WhileOf own place condition body) after =
      let point : Point = record {
        statement = WhileOf own place condition body;
        goes = ByAnswer (entry (index + 1) body (Some index)) after;
      } in
      All-cons ChoosesAt point (points (index + 1) body (Some index)) refl
      (statements_choose (index + 1) body (Some index))
  statement_chooses index statement after =
      let point : Point = record { statement = statement; goes = Next after } in
      All-cons ChoosesAt point [] tt (All-nil ChoosesAt)

  -- and for the other branch of an `if`
  else_chooses : (index : ℕ) (branch : MaybeStatements) (after : Option ℕ)
      → All ChoosesAt (else_points index branch after)
  else_chooses index NoElse after = All-nil ChoosesAt
  else_chooses index (Else branch) after = statements_choose index branch after

-- it is for the methods of a class
members_choose : (index : ℕ) (members : List MemberTree) → All ChoosesAt (member_points index members)
members_choose index [] = All-nil ChoosesAt
members_choose index (FieldTree type name initial ∷ others) = members_choose index others
members_choose index (MethodTree signature end body ∷ others) =
    let next = index + statement_count body in
    All-append ChoosesAt (points index body None) (member_points next others) (statements_choose index body None)
    (members_choose next others)

-- for declarations
decls_choose : (index : ℕ) (declarations : List DeclTree) → All ChoosesAt (decl_points index declarations)
decls_choose index [] = All-nil ChoosesAt
decls_choose index (ClassTree place name params implemented members ∷ others) =
    let next = index + member_statements members in
    All-append ChoosesAt (member_points index members) (decl_points next others) (members_choose index members)
    (decls_choose next others)
decls_choose index (declaration ∷ others) = decls_choose index others

-- Where control goes by an answer after a statement of a program, the statement chooses.
pub program_chooses : (program : SourceTree) (index : ℕ) (point : Point)
    → slice_get (program_points program) index ≡ Some point
    → ChoosesByAnswer (effect_of point.statement) point.goes
program_chooses program index point is =
    let first = decl_statements program.declarations in
    let main = points first program.main None in
    All-slice_get ChoosesAt (program_points program) index point
    (All-append ChoosesAt (decl_points 0 program.declarations) main (decls_choose 0 program.declarations)
    (statements_choose first program.main None)) is
