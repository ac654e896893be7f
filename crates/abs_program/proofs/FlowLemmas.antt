-- Facts at statements follow control. One recursion on the tree shows both parts: where control is before statements,
-- no more is said than before them; and where it goes after each of them, no more is said than after it.
use Rattle.std.proofs.Common.{◌≡◌, ℕ, ◌+◌, List, ◌∷◌, arith, refl, sym, ◌∙◌, length}
use Rattle.std.specs.List.{AllZip}
use Rattle.std.specs.Prelude.{Option, Some, None, slice_get}
use Rattle.std.proofs.lemmas.List.{length-append}
use Rattle.abs_program.proofs.PointLemmas.{length-points}
use Rattle.abs_program.specs.Control.{Point, entry, entry_of, else_entry, points, points_of, else_points}
use Rattle.abs_program.specs.Flows.{Slots, IsWithin, Flow, IsFlow, fact_after, fact_after_one, fact_after_else, facts, facts_of, else_facts, Lands, Follows}
use Rattle.abs_tree.specs.Syntax.{Statement, BlockOf, IfOf, WhileOf, MaybeStatements, NoElse, Else, Statements, NoStatement, NextStatement}
use Rattle.abs_tree.specs.SyntaxSizes.{count_of, count_of_else, statement_count}
use Rattle.list_facts.proofs.PartLemmas.{StandsAt, whole_stands, first_stands, second_stands, others_stand, item_stands, AllZip-append, AllZip-slice_get}

mutual
  unfolding facts

  -- there is a fact at each index
  pub length-facts : (flow : Flow) (fact : Slots) (statements : Statements)
      → length (facts flow fact statements) ≡ statement_count statements
  length-facts flow fact NoStatement = refl
  length-facts flow fact (NextStatement first others) =
      let after = fact_after_one flow fact first in
      length-append (facts_of flow fact first) (facts flow after others)
      ∙ omega (arith, length-facts_of flow fact first, length-facts flow after others)

  -- so there is for a statement and those in it
  length-facts_of : (flow : Flow) (fact : Slots) (statement : Statement)
      → length (facts_of flow fact statement) ≡ count_of statement
  length-facts_of flow fact (BlockOf place block) = length-facts flow fact block
  length-facts_of flow fact (IfOf index place condition first second) =
      let both = length-append (facts flow fact first) (else_facts flow fact second) in
      omega (arith, both, length-facts flow fact first, length-else_facts flow fact second)
  length-facts_of flow fact (WhileOf index place condition body) =
      omega (arith, length-facts flow (flow.looped fact body) body)
  length-facts_of flow fact statement = refl

  -- and in the other branch of an `if`
  length-else_facts : (flow : Flow) (fact : Slots) (branch : MaybeStatements)
      → length (else_facts flow fact branch) ≡ count_of_else branch
  length-else_facts flow fact NoElse = refl
  length-else_facts flow fact (Else branch) = length-facts flow fact branch

-- Where control is before statements no more is said than this, and the facts at them follow control.
pub record FollowsControl (flow : Flow) (start : ℕ) (all : List Slots) (before : Option ℕ) (fact : Slots)
    (theirs : List Slots) (own : List Point) : Type 0 where
  pub starts : Lands start all before fact
  pub follow : AllZip (λ at point. Follows flow start all at point.statement point.goes) theirs own

-- a set is a part of itself
within_itself : (slots : Slots) → IsWithin slots slots
within_itself slots slot among = among

module _ (flow : Flow) (may : IsFlow flow) (start : ℕ) (all : List Slots) where
  -- where no more is said than this, no more is said than what it is within
  lands_within : (next : Option ℕ) (one other : Slots) → IsWithin one other → Lands start all next one
      → Lands start all next other
  lands_within None one other within lands = tt
  lands_within (Some index) one other within lands = record {
    offset = lands.offset;
    is = lands.is;
    said = lands.said;
    there = lands.there;
    within = λ slot among. within slot (lands.within slot among);
  }

  -- at the first statement of a part no more is said than what the fact at it is within
  lands_there : {offset : ℕ} {others : List Slots} (index : ℕ) (one other : Slots) → index ≡ start + offset
      → StandsAt all offset (one ∷ others) → IsWithin one other → Lands start all (Some index) other
  lands_there {offset} index one other is stands within =
      record { offset = offset; is = is; said = one; there = item_stands stands; within = within }

  mutual
    unfolding entry points facts fact_after

    -- Facts at statements follow control, if no more is said where it goes after them than after them.
    pub statements_follow : (index offset : ℕ) (fact : Slots) (statements : Statements) (after : Option ℕ)
        → index ≡ start + offset → StandsAt all offset (facts flow fact statements)
        → Lands start all after (fact_after flow fact statements)
        → FollowsControl flow start all (entry index statements after) fact (facts flow fact statements)
        (points index statements after)
    statements_follow index offset fact NoStatement after is stands lands = record { starts = lands; follow = tt }
    statements_follow index offset fact (NextStatement first others) after is stands lands =
        let next = index + count_of first in
        let own = facts_of flow fact first in
        let theirs = facts flow (fact_after_one flow fact first) others in
        let size : offset + count_of first ≡ offset + length own = omega (arith, length-facts_of flow fact first) in
        let later = statements_follow next (offset + count_of first) (fact_after_one flow fact first) others after
        (omega (arith, is)) (second_stands own theirs size stands) lands in
        let now = statement_follows index offset fact first (entry next others after) is
        (first_stands own theirs stands) later.starts in
        record {
          starts = now.starts;
          follow =
              AllZip-append (λ at point. Follows flow start all at point.statement point.goes) own
              (points_of index first (entry next others after)) theirs (points next others after) now.follow
              later.follow;
        }

    -- Facts at a statement and those in it follow control, if no more is said where it goes after it than after it.
    statement_follows : (index offset : ℕ) (fact : Slots) (statement : Statement) (after : Option ℕ)
        → index ≡ start + offset → StandsAt all offset (facts_of flow fact statement)
        → Lands start all after (fact_after_one flow fact statement)
        → FollowsControl flow start all (entry_of index statement after) fact (facts_of flow fact statement)
        (points_of index statement after)
    statement_follows index offset fact (BlockOf place block) after is stands lands =
        let inside = fact_after flow fact block in
        statements_follow index offset fact block after is stands
        (lands_within after (flow.closed fact inside) inside (may.leaves_block fact block) lands)
    statement_follows index offset fact (IfOf own place condition first second) after is stands lands =
        let next = index + 1 + statement_count first in
        let after_first = fact_after flow fact first in
        let after_second = fact_after_else flow fact second in
        let joined = flow.joined fact after_first after_second in
        let facts_first = facts flow fact first in
        let facts_second = else_facts flow fact second in
        let size : offset + 1 + statement_count first ≡ offset + 1 + length facts_first =
        omega (arith, length-facts flow fact first) in
        let one = statements_follow (index + 1) (offset + 1) fact first after (omega (arith, is))
        (first_stands facts_first facts_second (others_stand stands))
        (lands_within after joined after_first (may.first_branch fact first second) lands) in
        let other = else_follows next (offset + 1 + statement_count first) fact second after (omega (arith, is))
        (second_stands facts_first facts_second size (others_stand stands))
        (lands_within after joined after_second (may.second_branch fact first second) lands) in
        record {
          starts = lands_there index fact fact is stands (within_itself fact);
          follow = (
            (one.starts, other.starts),
            AllZip-append (λ at point. Follows flow start all at point.statement point.goes) facts_first
                (points (index + 1) first after) facts_second (else_points next second after) one.follow other.follow,
          );
        }
    statement_follows index offset fact (WhileOf own place condition body) after is stands lands =
        let looped = flow.looped fact body in
        let inner = statements_follow (index + 1) (offset + 1) looped body (Some index) (omega (arith, is))
        (others_stand stands)
        (lands_there index looped (fact_after flow looped body) is stands (may.goes_back fact body)) in
        record {
          starts = lands_there index looped fact is stands (may.enters_loop fact body);
          follow = ((inner.starts, lands), inner.follow);
        }
    statement_follows index offset fact statement after is stands lands = record {
      starts = lands_there index fact fact is stands (within_itself fact);
      follow = (lands, tt);
    }

    -- So do those in the other branch of an `if`.
    else_follows : (index offset : ℕ) (fact : Slots) (branch : MaybeStatements) (after : Option ℕ)
        → index ≡ start + offset → StandsAt all offset (else_facts flow fact branch)
        → Lands start all after (fact_after_else flow fact branch)
        → FollowsControl flow start all (else_entry index branch after) fact (else_facts flow fact branch)
        (else_points index branch after)
    else_follows index offset fact NoElse after is stands lands = record { starts = lands; follow = tt }
    else_follows index offset fact (Else branch) after is stands lands =
        statements_follow index offset fact branch after is stands lands

-- the facts at the statements of a body follow control, which goes nowhere after it
body_follows : (flow : Flow) → IsFlow flow → (start : ℕ) (body : Statements) (before : Slots)
    → FollowsControl flow start (facts flow before body) (entry start body None) before (facts flow before body)
    (points start body None)
body_follows flow may start body before =
    let all = facts flow before body in
    statements_follow flow may start all start 0 before body None (omega arith) (whole_stands all) tt

-- Where control goes after a statement, no more is said than after it.
pub facts_follow : (flow : Flow) → IsFlow flow → (start : ℕ) (body : Statements) (before : Slots) (offset : ℕ)
    (point : Point) (fact : Slots) → slice_get (points start body None) offset ≡ Some point
    → slice_get (facts flow before body) offset ≡ Some fact
    → Follows flow start (facts flow before body) fact point.statement point.goes
facts_follow flow may start body before offset point fact point_is fact_is =
    let all = facts flow before body in
    AllZip-slice_get (λ at one. Follows flow start all at one.statement one.goes) all (points start body None)
    (body_follows flow may start body before).follow offset fact point fact_is point_is

-- Where control begins, no more is said than before the body.
pub facts_start : (flow : Flow) → IsFlow flow → (start : ℕ) (body : Statements) (before : Slots)
    → Lands start (facts flow before body) (entry start body None) before
facts_start flow may start body before = (body_follows flow may start body before).starts

-- There are as many facts as points.
pub facts_at_points : (flow : Flow) (start : ℕ) (body : Statements) (before : Slots)
    → length (facts flow before body) ≡ length (points start body None)
facts_at_points flow start body before = length-facts flow before body ∙ sym (length-points start body None)
