-- In a program of the profile each statement is, taken alone.
--
--   `point_in_profile`     a statement of an accepted program has no offence of the profile
use Rattle.std.proofs.Common.{◌≡◌, ℕ, ◌+◌, zero, suc, List, [], ◌∷◌, ◌++◌, Option, Some, None, ⊎_elim, subst}
use Rattle.std.specs.Prelude.{slice_get, flat_map}
use Rattle.std.proofs.lemmas.Option.{none-some, same_Some}
use Rattle.abs_profile.specs.Accepted.{IsAcceptedProgram}
use Rattle.abs_profile.specs.Profile.{statement_offences, statements_offences, else_offences, member_offences, decl_offences, expr_offences, param_offences}
use Rattle.abs_program.specs.Control.{Goes, Next, Point, entry, points, points_of, else_points, member_points, decl_points, program_points}
use Rattle.abs_tree.specs.Syntax.{Statement, BlockOf, IfOf, WhileOf, MaybeStatements, NoElse, Else, Statements, NoStatement, NextStatement, MemberTree, FieldTree, MethodTree, DeclTree, ClassTree, ProgramTree}
use Rattle.abs_tree.specs.SyntaxSizes.{count_of, statement_count, member_statements, decl_statements}
use Rattle.config_state.specs.Configurations.{Each}
use Rattle.list_facts.proofs.AppendLemmas.{both_empty}
use Rattle.list_facts.proofs.EntryLemmas.{slice_get-append}

-- the statement of each of these points is in the profile
abbrev AreInProfile : List Point → Type 0
AreInProfile list = Each list (λ index point. statement_offences point.statement ≡ [])

-- there is none in no list
none_in_profile : AreInProfile []
none_in_profile index point is = absurd (none-some point is)

-- so it is for two lists
both_in_profile : (one other : List Point) → AreInProfile one → AreInProfile other → AreInProfile (one ++ other)
both_in_profile one other first second index point is =
    ⊎_elim (λ there. first index point there) (λ there. second there.0 point there.1)
    (slice_get-append one other index point is)

-- a statement with where control goes after it
one_in_profile : (statement : Statement) (goes : Goes) → statement_offences statement ≡ []
    → AreInProfile (record { statement = statement; goes = goes } ∷ [])
one_in_profile statement goes none zero point is =
    let own : Point = record { statement = statement; goes = goes } in
    subst (λ (one : Point). statement_offences one.statement ≡ []) (same_Some own point is) none
one_in_profile statement goes none (suc index) point is = absurd (none-some point is)

mutual
  unfolding points

  -- statements without offence
  points_in_profile : (index : ℕ) (statements : Statements) (after : Option ℕ) → statements_offences statements ≡ []
      → AreInProfile (points index statements after)
  points_in_profile index NoStatement after none = none_in_profile
  points_in_profile index (NextStatement first others) after none =
      let parts = both_empty (statement_offences first) (statements_offences others) none in
      both_in_profile (points_of index first (entry (index + count_of first) others after))
      (points (index + count_of first) others after)
      (points_of_in_profile index first (entry (index + count_of first) others after) parts.0)
      (points_in_profile (index + count_of first) others after parts.1)

  -- a statement without offence
  points_of_in_profile : (index : ℕ) (statement : Statement) (after : Option ℕ) → statement_offences statement ≡ []
      → AreInProfile (points_of index statement after)
  points_of_in_profile index (BlockOf place block) after none = points_in_profile index block after none
  points_of_in_profile index (IfOf own place condition first second) after none =
      let all = both_empty (expr_offences condition) (statements_offences first ++ else_offences second) none in
      let parts = both_empty (statements_offences first) (else_offences second) all.1 in
      let next = index + 1 + statement_count first in
      both_in_profile (_ ∷ []) (points (index + 1) first after ++ else_points next second after)
      (one_in_profile (IfOf own place condition first second) _ none)
      (both_in_profile (points (index + 1) first after) (else_points next second after)
      (points_in_profile (index + 1) first after parts.0) (else_points_in_profile next second after parts.1))
  points_of_in_profile index (WhileOf own place condition body) after none =
      let parts = both_empty (expr_offences condition) (statements_offences body) none in
      both_in_profile (_ ∷ []) (points (index + 1) body (Some index))
      (one_in_profile (WhileOf own place condition body) _ none)
      (points_in_profile (index + 1) body (Some index) parts.1)
  points_of_in_profile index statement after none = one_in_profile statement (Next after) none

  -- the other branch of an `if` without offence
  else_points_in_profile : (index : ℕ) (second : MaybeStatements) (after : Option ℕ) → else_offences second ≡ []
      → AreInProfile (else_points index second after)
  else_points_in_profile index NoElse after none = none_in_profile
  else_points_in_profile index (Else branch) after none = points_in_profile index branch after none

-- the methods of a class
members_in_profile : (index : ℕ) (members : List MemberTree) → flat_map member_offences members ≡ []
    → AreInProfile (member_points index members)
members_in_profile index [] none = none_in_profile
members_in_profile index (FieldTree type name initial ∷ others) none =
    let parts = both_empty (member_offences (FieldTree type name initial)) (flat_map member_offences others) none in
    members_in_profile index others parts.1
members_in_profile index (MethodTree signature end body ∷ others) none =
    let parts = both_empty (statements_offences body) (flat_map member_offences others) none in
    let next = index + statement_count body in
    both_in_profile (points index body None) (member_points next others)
    (points_in_profile index body None parts.0) (members_in_profile next others parts.1)

-- those of declarations
declarations_in_profile : (index : ℕ) (declarations : List DeclTree) → flat_map decl_offences declarations ≡ []
    → AreInProfile (decl_points index declarations)
declarations_in_profile index [] none = none_in_profile
declarations_in_profile index (ClassTree place name params implemented members ∷ others) none =
    let class = ClassTree place name params implemented members in
    let parts = both_empty (decl_offences class) (flat_map decl_offences others) none in
    let own = both_empty (flat_map param_offences params) (flat_map member_offences members) parts.0 in
    let next = index + member_statements members in
    both_in_profile (member_points index members) (decl_points next others)
    (members_in_profile index members own.1) (declarations_in_profile next others parts.1)
declarations_in_profile index (declaration ∷ others) none =
    declarations_in_profile index others
    (both_empty (decl_offences declaration) (flat_map decl_offences others) none).1

-- a statement of an accepted program has no offence of the profile
pub point_in_profile : (program : ProgramTree) → IsAcceptedProgram program → (index : ℕ) (point : Point)
    → slice_get (program_points program.source) index ≡ Some point → statement_offences point.statement ≡ []
point_in_profile program accepted =
    let declarations = program.source.declarations in
    let main = program.source.main in
    let first = decl_statements declarations in
    let parts = both_empty (flat_map decl_offences declarations) (statements_offences main) accepted.in_profile in
    both_in_profile (decl_points 0 declarations) (points first main None)
    (declarations_in_profile 0 declarations parts.0) (points_in_profile first main None parts.1)
