-- Facts at statements that follow control. A fact is a set of slots; that a local is visible is one, that it is settled
-- another.
--
--   `Slots`, `IsWithin`                a set of slots, and that one is a part of another
--   `Flow`                             how the fact after a statement follows from that before it
--   `fact_after`, `fact_after_one`     the fact after statements
--   `facts`, `facts_of`                the facts at statements, in the order of their indices
--   `IsFlow`                           branches, loops and blocks say no more than they may
--   `LandsAt`, `Lands`, `Follows`      where control goes no more is said than after the statement
use Rattle.std.specs.Prelude.{◌≡◌, ⊤, ℕ, ◌+◌, Bool, true, List, [], ◌∷◌, ◌++◌, slice_get, Option, Some, None}
use Rattle.abs_program.specs.Control.{Goes, Next, ByAnswer}
use Rattle.abs_tree.specs.Syntax.{Statement, BlockOf, IfOf, WhileOf, MaybeStatements, NoElse, Else, Statements, NoStatement, NextStatement}

-- a set of slots, by the test whether a slot is in it
abbrev pub Slots : Type 0
Slots = ℕ → Bool

-- each slot of the first set is in the second
abbrev pub IsWithin : Slots → Slots → Type 0
IsWithin one other = (slot : ℕ) → one slot ≡ true → other slot ≡ true

-- How facts follow from one another: after a statement without statements in it, from the fact before it; after an
-- `if`, from the fact before it and those after its branches; at a loop, from the fact before it; and after a bare
-- block, from the fact before it and that after its statements. After a loop the fact is that at the loop.
pub record Flow : Type 0 where
  pub after : Slots → Statement → Slots
  pub joined : Slots → Slots → Slots → Slots
  pub looped : Slots → Statements → Slots
  pub closed : Slots → Slots → Slots

unfoldable mutual
  -- the fact after statements
  pub fact_after : Flow → Slots → Statements → Slots
  fact_after flow fact NoStatement = fact
  fact_after flow fact (NextStatement first others) = fact_after flow (fact_after_one flow fact first) others

  pub fact_after_one : Flow → Slots → Statement → Slots
  fact_after_one flow fact (BlockOf place block) = flow.closed fact (fact_after flow fact block)
  fact_after_one flow fact (IfOf index place condition first second) =
      flow.joined fact (fact_after flow fact first) (fact_after_else flow fact second)
  fact_after_one flow fact (WhileOf index place condition body) = flow.looped fact body
  fact_after_one flow fact statement = flow.after fact statement

  pub fact_after_else : Flow → Slots → MaybeStatements → Slots
  fact_after_else flow fact NoElse = fact
  fact_after_else flow fact (Else branch) = fact_after flow fact branch

unfoldable mutual
  -- the facts at statements
  pub facts : Flow → Slots → Statements → List Slots
  facts flow fact NoStatement = []
  facts flow fact (NextStatement first others) =
      facts_of flow fact first ++ facts flow (fact_after_one flow fact first) others

  pub facts_of : Flow → Slots → Statement → List Slots
  facts_of flow fact (BlockOf place block) = facts flow fact block
  facts_of flow fact (IfOf index place condition first second) =
      fact ∷ facts flow fact first ++ else_facts flow fact second
  facts_of flow fact (WhileOf index place condition body) =
      flow.looped fact body ∷ facts flow (flow.looped fact body) body
  facts_of flow fact statement = fact ∷ []

  pub else_facts : Flow → Slots → MaybeStatements → List Slots
  else_facts flow fact NoElse = []
  else_facts flow fact (Else branch) = facts flow fact branch

-- What branches, loops and blocks may say: after an `if` no more than after each branch, also where the other one is
-- missing; at a loop no more than before it, and no more than after its body; after a block no more than after its
-- statements.
pub record IsFlow (flow : Flow) : Type 0 where
  pub first_branch : (fact : Slots) (first : Statements) (second : MaybeStatements)
      → IsWithin (flow.joined fact (fact_after flow fact first) (fact_after_else flow fact second))
      (fact_after flow fact first)
  pub second_branch : (fact : Slots) (first : Statements) (second : MaybeStatements)
      → IsWithin (flow.joined fact (fact_after flow fact first) (fact_after_else flow fact second))
      (fact_after_else flow fact second)
  pub enters_loop : (fact : Slots) (body : Statements) → IsWithin (flow.looped fact body) fact
  pub goes_back : (fact : Slots) (body : Statements)
      → IsWithin (flow.looped fact body) (fact_after flow (flow.looped fact body) body)
  pub leaves_block : (fact : Slots) (block : Statements)
      → IsWithin (flow.closed fact (fact_after flow fact block)) (fact_after flow fact block)

-- At the statement with an index no more is said than this, where the statements have indices from `start` on.
pub record LandsAt (start : ℕ) (all : List Slots) (index : ℕ) (fact : Slots) : Type 0 where
  pub offset : ℕ
  pub is : index ≡ start + offset
  pub said : Slots
  pub there : slice_get all offset ≡ Some said
  pub within : IsWithin said fact

-- Where control goes there is a statement, at which no more is said than this, or no statement is left.
abbrev pub Lands : ℕ → List Slots → Option ℕ → Slots → Type 0
Lands start all None fact = ⊤
Lands start all (Some index) fact = LandsAt start all index fact

-- Where control goes after a statement at which the fact holds, no more is said than after it: after `if` and `while`
-- that is the fact itself.
abbrev pub Follows : Flow → ℕ → List Slots → Slots → Statement → Goes → Type 0
Follows flow start all fact statement (Next index) = Lands start all index (flow.after fact statement)
Follows flow start all fact statement (ByAnswer when_true when_false) =
    Lands start all when_true fact × Lands start all when_false fact
