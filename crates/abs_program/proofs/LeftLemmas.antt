-- What is left at statements agrees with where control goes. One recursion on the tree gives two facts: where control
-- is before statements, these are left; and what is left at each of them steps to what is left where control goes.
use Rattle.std.proofs.Common.{◌≡◌, ℕ, ◌+◌, List, [], ◌∷◌, arith, refl, ◌∙◌, length}
use Rattle.std.specs.List.{AllZip}
use Rattle.std.specs.Prelude.{Option, Some, None, slice_get}
use Rattle.std.proofs.lemmas.List.{length-append}
use Rattle.abs_program.specs.Control.{Point, entry, entry_of, else_entry, points, points_of, else_points}
use Rattle.abs_program.specs.Left.{lefts, lefts_of, else_lefts, opened, first_left, else_branch, IsLeftAt, IsAt, Steps}
use Rattle.abs_tree.specs.Syntax.{Statement, BlockOf, IfOf, WhileOf, MaybeStatements, NoElse, Else, Statements, NoStatement, NextStatement}
use Rattle.abs_tree.specs.SyntaxSizes.{count_of, count_of_else, statement_count}
use Rattle.list_facts.proofs.PartLemmas.{StandsAt, whole_stands, first_stands, second_stands, others_stand, item_stands, AllZip-append, AllZip-slice_get}

mutual
  unfolding lefts

  -- something is left at each index
  pub length-lefts : (statements : Statements) (rest : List Statements)
      → length (lefts statements rest) ≡ statement_count statements
  length-lefts NoStatement rest = refl
  length-lefts (NextStatement first others) rest =
      length-append (lefts_of first others rest) (lefts others rest)
      ∙ omega (arith, length-lefts_of first others rest, length-lefts others rest)

  -- so it is at a statement and those in it
  length-lefts_of : (statement : Statement) (others : Statements) (rest : List Statements)
      → length (lefts_of statement others rest) ≡ count_of statement
  length-lefts_of (BlockOf place block) others rest = length-lefts block (others ∷ rest)
  length-lefts_of (IfOf index place condition first second) others rest =
      let both = length-append (lefts first (others ∷ rest)) (else_lefts second (others ∷ rest)) in
      omega (arith, both, length-lefts first (others ∷ rest), length-else_lefts second (others ∷ rest))
  length-lefts_of (WhileOf index place condition body) others rest =
      omega (arith, length-lefts body (NextStatement (WhileOf index place condition body) others ∷ rest))
  length-lefts_of statement others rest = refl

  -- and in the other branch of an `if`
  length-else_lefts : (branch : MaybeStatements) (rest : List Statements)
      → length (else_lefts branch rest) ≡ count_of_else branch
  length-else_lefts NoElse rest = refl
  length-else_lefts (Else branch) rest = length-lefts branch rest

-- Control is where this is left, and each of these points goes on from what is left there.
record Agrees (start : ℕ) (all : List (List Statements)) (before : Option ℕ) (left : List Statements)
    (theirs : List (List Statements)) (own : List Point) : Type 0 where
  starts : IsAt start all before left
  steps : AllZip (Steps start all) theirs own

module _ (start : ℕ) (all : List (List Statements)) where
  -- this is left at the first statement of a part of the list
  item_left : {offset : ℕ} {left : List Statements} {others : List (List Statements)} (index : ℕ)
      → index ≡ start + offset → StandsAt all offset (left ∷ others) → IsLeftAt start all index left
  item_left {offset} index is stands = record { offset = offset; is = is; there = item_stands stands }

  mutual
    unfolding entry points lefts opened first_left

    -- Statements agree with where control goes, if what is left after them does.
    statements_agree : (index offset : ℕ) (statements : Statements) (rest : List Statements) (after : Option ℕ)
        → index ≡ start + offset → StandsAt all offset (lefts statements rest) → IsAt start all after (first_left rest)
        → Agrees start all (entry index statements after) (first_left (statements ∷ rest)) (lefts statements rest)
        (points index statements after)
    statements_agree index offset NoStatement rest after is stands left = record { starts = left; steps = tt }
    statements_agree index offset (NextStatement first others) rest after is stands left =
        let next = index + count_of first in
        let own = lefts_of first others rest in
        let theirs = lefts others rest in
        let size : offset + count_of first ≡ offset + length own = omega (arith, length-lefts_of first others rest) in
        let later = statements_agree next (offset + count_of first) others rest after (omega (arith, is))
        (second_stands own theirs size stands) left in
        let now = statement_agrees index offset first others rest (entry next others after) is
        (first_stands own theirs stands) later.starts in
        record {
          starts = now.starts;
          steps =
              AllZip-append (Steps start all) own (points_of index first (entry next others after)) theirs
              (points next others after) now.steps later.steps;
        }

    -- A statement with those in it agrees, if what is left after it does.
    statement_agrees : (index offset : ℕ) (statement : Statement) (others : Statements) (rest : List Statements)
        (after : Option ℕ) → index ≡ start + offset → StandsAt all offset (lefts_of statement others rest)
        → IsAt start all after (first_left (others ∷ rest))
        → Agrees start all (entry_of index statement after) (first_left (NextStatement statement others ∷ rest))
        (lefts_of statement others rest) (points_of index statement after)
    statement_agrees index offset (BlockOf place block) others rest after is stands left =
        statements_agree index offset block (others ∷ rest) after is stands left
    statement_agrees index offset (IfOf own place condition first second) others rest after is stands left =
        let inner = others ∷ rest in
        let size : offset + 1 + statement_count first ≡ offset + 1 + length (lefts first inner) =
        omega (arith, length-lefts first inner) in
        let one = statements_agree (index + 1) (offset + 1) first inner after (omega (arith, is))
        (first_stands (lefts first inner) (else_lefts second inner) (others_stand stands)) left in
        let other = else_agrees (index + 1 + statement_count first) (offset + 1 + statement_count first) second inner
        after (omega (arith, is))
        (second_stands (lefts first inner) (else_lefts second inner) size (others_stand stands)) left in
        record {
          starts = item_left index is stands;
          steps = (
            (refl, (one.starts, other.starts)),
            AllZip-append (Steps start all) (lefts first inner) (points (index + 1) first after)
                (else_lefts second inner) (else_points (index + 1 + statement_count first) second after) one.steps
                other.steps,
          );
        }
    statement_agrees index offset (WhileOf own place condition body) others rest after is stands left =
        let inner = statements_agree (index + 1) (offset + 1) body
        (NextStatement (WhileOf own place condition body) others ∷ rest) (Some index) (omega (arith, is))
        (others_stand stands) (item_left index is stands) in
        record { starts = item_left index is stands; steps = ((refl, (inner.starts, left)), inner.steps) }
    statement_agrees index offset statement others rest after is stands left =
        record { starts = item_left index is stands; steps = ((refl, left), tt) }

    -- The other branch of an `if` agrees, if what is left after it does.
    else_agrees : (index offset : ℕ) (branch : MaybeStatements) (rest : List Statements) (after : Option ℕ)
        → index ≡ start + offset → StandsAt all offset (else_lefts branch rest) → IsAt start all after (first_left rest)
        → Agrees start all (else_entry index branch after) (first_left (else_branch branch ∷ rest))
        (else_lefts branch rest) (else_points index branch after)
    else_agrees index offset NoElse rest after is stands left = record { starts = left; steps = tt }
    else_agrees index offset (Else branch) rest after is stands left =
        statements_agree index offset branch rest after is stands left

-- a body agrees with where control goes, since nothing is left after it
body_agrees : (start : ℕ) (body : Statements)
    → Agrees start (lefts body []) (entry start body None) (first_left (body ∷ [])) (lefts body [])
    (points start body None)
unfolding first_left
body_agrees start body =
    statements_agree start (lefts body []) start 0 body [] None (omega arith) (whole_stands (lefts body [])) refl

-- What is left at a statement steps to what is left where control goes.
pub left_steps : (start : ℕ) (body : Statements) (offset : ℕ) (point : Point) (left : List Statements)
    → slice_get (points start body None) offset ≡ Some point → slice_get (lefts body []) offset ≡ Some left
    → Steps start (lefts body []) left point
left_steps start body offset point left point_is left_is =
    AllZip-slice_get (Steps start (lefts body [])) (lefts body []) (points start body None)
    (body_agrees start body).steps offset left point left_is point_is

-- Where control begins the whole body is left.
pub left_starts : (start : ℕ) (body : Statements)
    → IsAt start (lefts body []) (entry start body None) (first_left (body ∷ []))
left_starts start body = (body_agrees start body).starts
