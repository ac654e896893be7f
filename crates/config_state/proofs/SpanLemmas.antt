-- Where control goes from statements: to an index within bounds that have room for these statements, or to none, if
-- that is so of where control goes after them.
--
--   `IsInside`, `GoesInside`       an index is within bounds, if there is one; so is each one to which control goes
--   `AllStay`, `stays-at`          so it is from each of some points, and thus from the one at an index
--   `entry_inside`, `points_inside`    where control is before statements, and where it goes from each of them
use Rattle.std.proofs.Common.{◌≡◌, ℕ, zero, suc, ◌+◌, ◌<◌, ◌≤◌, List, [], ◌∷◌, ◌++◌, Some, None, arith, subst}
use Rattle.std.specs.Prelude.{⊤, Option, slice_get}
use Rattle.std.proofs.lemmas.Option.{none-some, same_Some}
use Rattle.abs_program.specs.Control.{Goes, Next, ByAnswer, Point, entry, entry_of, else_entry, points, points_of, else_points}
use Rattle.abs_tree.specs.Syntax.{Statement, BlockOf, IfOf, WhileOf, MaybeStatements, NoElse, Else, Statements, NoStatement, NextStatement}
use Rattle.abs_tree.specs.SyntaxSizes.{count_of, count_of_else, statement_count}

-- an index is at least `low` and less than `high`, if there is one
abbrev pub IsInside : ℕ → ℕ → Option ℕ → Type 0
IsInside low high None = ⊤
IsInside low high (Some index) = (low ≤ index) × (index < high)

-- so is each index to which control goes
abbrev pub GoesInside : ℕ → ℕ → Goes → Type 0
GoesInside low high (Next index) = IsInside low high index
GoesInside low high (ByAnswer when_true when_false) = IsInside low high when_true × IsInside low high when_false

-- and each one to which it goes from some points
abbrev pub AllStay : ℕ → ℕ → List Point → Type 0
AllStay low high [] = ⊤
AllStay low high (point ∷ others) = GoesInside low high point.goes × AllStay low high others

-- control stays within bounds from two lists of points
stay-append : (low high : ℕ) (one other : List Point) → AllStay low high one → AllStay low high other
    → AllStay low high (one ++ other)
stay-append low high [] other first second = second
stay-append low high (point ∷ one) other first second = (first.0, stay-append low high one other first.1 second)

-- control stays within bounds from the point at an index
pub stays-at : (low high : ℕ) (all : List Point) (index : ℕ) (point : Point) → slice_get all index ≡ Some point
    → AllStay low high all → GoesInside low high point.goes
stays-at low high [] index point there stay = absurd (none-some point there)
stays-at low high (first ∷ others) zero point there stay =
    subst (λ (one : Point). GoesInside low high one.goes) (same_Some first point there) stay.0
stays-at low high (first ∷ others) (suc index) point there stay =
    stays-at low high others index point there stay.1

module _ (low high : ℕ) where
  mutual
    unfolding entry

    -- where control is before statements
    pub entry_inside : (index : ℕ) (statements : Statements) (after : Option ℕ) → low ≤ index
        → index + statement_count statements ≤ high → IsInside low high after
        → IsInside low high (entry index statements after)
    entry_inside index NoStatement after begins fits inside = inside
    entry_inside index (NextStatement first others) after begins fits inside =
        let next = index + count_of first in
        entry_of_inside index first (entry next others after) begins (omega (arith, fits))
        (entry_inside next others after (omega (arith, begins)) (omega (arith, fits)) inside)

    -- where it is before a statement
    entry_of_inside : (index : ℕ) (statement : Statement) (after : Option ℕ) → low ≤ index
        → index + count_of statement ≤ high → IsInside low high after
        → IsInside low high (entry_of index statement after)
    entry_of_inside index (BlockOf place block) after begins fits inside =
        entry_inside index block after begins fits inside
    entry_of_inside index statement after begins fits inside = (begins, omega (arith, fits))

  -- where it is before the other branch of an `if`
  else_entry_inside : (index : ℕ) (branch : MaybeStatements) (after : Option ℕ) → low ≤ index
      → index + count_of_else branch ≤ high → IsInside low high after
      → IsInside low high (else_entry index branch after)
  else_entry_inside index NoElse after begins fits inside = inside
  else_entry_inside index (Else branch) after begins fits inside = entry_inside index branch after begins fits inside

  mutual
    unfolding points

    -- where control goes from each of some statements
    pub points_inside : (index : ℕ) (statements : Statements) (after : Option ℕ) → low ≤ index
        → index + statement_count statements ≤ high → IsInside low high after
        → AllStay low high (points index statements after)
    points_inside index NoStatement after begins fits inside = tt
    points_inside index (NextStatement first others) after begins fits inside =
        let next = index + count_of first in
        let then = entry next others after in
        stay-append low high (points_of index first then) (points next others after)
        (points_of_inside index first then begins (omega (arith, fits))
        (entry_inside next others after (omega (arith, begins)) (omega (arith, fits)) inside))
        (points_inside next others after (omega (arith, begins)) (omega (arith, fits)) inside)

    -- where it goes from a statement, and from those in it
    points_of_inside : (index : ℕ) (statement : Statement) (after : Option ℕ) → low ≤ index
        → index + count_of statement ≤ high → IsInside low high after
        → AllStay low high (points_of index statement after)
    points_of_inside index (BlockOf place block) after begins fits inside =
        points_inside index block after begins fits inside
    points_of_inside index (IfOf own place condition first second) after begins fits inside =
        let next = index + 1 + statement_count first in
        let first_begins : low ≤ index + 1 = omega (arith, begins) in
        let first_fits : index + 1 + statement_count first ≤ high = omega (arith, fits) in
        let second_begins : low ≤ next = omega (arith, begins) in
        let second_fits : next + count_of_else second ≤ high = omega (arith, fits) in (
          (
            entry_inside (index + 1) first after first_begins first_fits inside,
            else_entry_inside next second after second_begins second_fits inside,
          ),
          stay-append low high (points (index + 1) first after) (else_points next second after)
              (points_inside (index + 1) first after first_begins first_fits inside)
              (else_points_inside next second after second_begins second_fits inside),
        )
    points_of_inside index (WhileOf own place condition body) after begins fits inside =
        let own_inside : IsInside low high (Some index) = (begins, omega (arith, fits)) in
        let body_begins : low ≤ index + 1 = omega (arith, begins) in
        let body_fits : index + 1 + statement_count body ≤ high = omega (arith, fits) in (
          (entry_inside (index + 1) body (Some index) body_begins body_fits own_inside, inside),
          points_inside (index + 1) body (Some index) body_begins body_fits own_inside,
        )
    points_of_inside index statement after begins fits inside = (inside, tt)

    -- where it goes from the other branch of an `if`
    else_points_inside : (index : ℕ) (branch : MaybeStatements) (after : Option ℕ) → low ≤ index
        → index + count_of_else branch ≤ high → IsInside low high after
        → AllStay low high (else_points index branch after)
    else_points_inside index NoElse after begins fits inside = tt
    else_points_inside index (Else branch) after begins fits inside =
        points_inside index branch after begins fits inside
