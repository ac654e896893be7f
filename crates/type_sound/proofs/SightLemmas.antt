-- What is visible follows control. Where a body begins no more is visible than its parameters, and where control goes
-- after a statement no more than at it and what it declares.
--
--   `visible_flows`        branches, loops and blocks leave no more visible than was visible before them
--   `next_sees`            what is visible at the next statement is visible at this one, or this one declares it
--   `entry_sees`           what is visible at the first statement of a body is a parameter
use Rattle.std.proofs.Common.{◌≡◌, ◌<◌, ◌||◌, ◌⊎◌, inl, inr, ℕ, Bool, true, false, length, Some, None, refl, sym, ap, ◌∙◌, arith, nat_lt}
use Rattle.std.specs.Prelude.{Option, slice_get}
use Rattle.std.proofs.lemmas.Bool.Decides.{nat_tests}
use Rattle.std.proofs.lemmas.Option.{none-some, same_Some, slice_get_within}
use Rattle.abs_program.proofs.ProgramFactLemmas.{facts_at_program_points, program_follows, program_starts}
use Rattle.abs_program.specs.Control.{Goes, Next, ByAnswer, Point, program_points}
use Rattle.abs_program.specs.Flows.{Slots, IsWithin, IsFlow, fact_after, fact_after_one, fact_after_else, Lands, Follows}
use Rattle.abs_program.specs.ProgramBodies.{BodyAt, entry_of_body, IsBodyOf}
use Rattle.abs_program.specs.ProgramFacts.{program_facts}
use Rattle.abs_tree.specs.Syntax.{Statement, BlockOf, IfOf, WhileOf, MaybeStatements, NoElse, Else, Statements, NoStatement, NextStatement, ProgramTree}
use Rattle.list_facts.proofs.EntryLemmas.{slice_get-there}
use Rattle.step_rules.specs.Lookups.{successor}
use Rattle.type_sound.specs.Visible.{declares, visible, visible_facts, IsVisible}

-- a slot that is visible before a statement without statements in it is visible after it
within_or : (fact : Slots) (statement : Statement) → IsWithin fact (λ slot. fact slot || declares statement slot)
within_or fact statement slot is = ap (λ (found : Bool). found || declares statement slot) is

mutual
  unfolding fact_after

  -- what is visible before statements is visible after them
  stays_visible : (fact : Slots) (statements : Statements) → IsWithin fact (fact_after visible fact statements)
  stays_visible fact NoStatement slot is = is
  stays_visible fact (NextStatement first others) slot is =
      stays_visible (fact_after_one visible fact first) others slot (stays_visible_one fact first slot is)

  -- so it is after a statement
  pub stays_visible_one : (fact : Slots) (statement : Statement) → IsWithin fact (fact_after_one visible fact statement)
  stays_visible_one fact (BlockOf place block) slot is = is
  stays_visible_one fact (IfOf index place condition first second) slot is = is
  stays_visible_one fact (WhileOf index place condition body) slot is = is
  stays_visible_one fact statement slot is = within_or fact statement slot is

-- and after the other branch of an `if`
stays_visible_else : (fact : Slots) (branch : MaybeStatements) → IsWithin fact (fact_after_else visible fact branch)
unfolding fact_after
stays_visible_else fact NoElse slot is = is
stays_visible_else fact (Else branch) slot is = stays_visible fact branch slot is

-- Branches, loops and blocks leave no more visible than was visible before them.
pub visible_flows : IsFlow visible
visible_flows = record {
  first_branch = λ fact first second. stays_visible fact first;
  second_branch = λ fact first second. stays_visible_else fact second;
  enters_loop = λ fact body slot is. is;
  goes_back = λ fact body. stays_visible fact body;
  leaves_block = λ fact block. stays_visible fact block;
}

-- one of two tests that are not both false
either_true : (one other : Bool) → (one || other) ≡ true → (one ≡ true) ⊎ (other ≡ true)
either_true true other is = inl refl
either_true false other is = inr is

-- a slot that is visible at a statement is in the set of slots that its fact is within
lands_seen : (program : ProgramTree) (fact : Slots) (target : Option ℕ) (next slot : ℕ)
    → Lands 0 (visible_facts program) target fact → target ≡ Some next → IsVisible program next slot → fact slot ≡ true
lands_seen program fact None next slot lands is seen = absurd (none-some next is)
lands_seen program fact (Some index) next slot lands is seen =
    let at : next ≡ lands.offset = omega (arith, same_Some index next is, lands.is) in
    let said : lands.said ≡ seen.fact =
    same_Some lands.said seen.fact (sym lands.there ∙ (ap (slice_get (visible_facts program)) (sym at) ∙ seen.there)) in
    lands.within slot (ap (λ (one : Slots). one slot) said ∙ seen.sees)

-- what is visible where control goes is visible before a statement, or the statement declares it
follows_seen : (program : ProgramTree) (fact : Slots) (statement : Statement) (goes : Goes) (answer : Bool)
    (next slot : ℕ) → Follows visible 0 (visible_facts program) fact statement goes
    → successor goes answer ≡ Some next → IsVisible program next slot
    → (fact slot ≡ true) ⊎ (declares statement slot ≡ true)
follows_seen program fact statement (Next index) answer next slot follows is seen =
    either_true (fact slot) (declares statement slot)
    (lands_seen program (λ one. fact one || declares statement one) index next slot follows is seen)
follows_seen program fact statement (ByAnswer when_true when_false) true next slot follows is seen =
    inl (lands_seen program fact when_true next slot follows.0 is seen)
follows_seen program fact statement (ByAnswer when_true when_false) false next slot follows is seen =
    inl (lands_seen program fact when_false next slot follows.1 is seen)

-- the facts of `visible` follow control
visible_follow : (program : ProgramTree) (statement : ℕ) (point : Point) (fact : Slots)
    → slice_get (program_points program.source) statement ≡ Some point
    → slice_get (visible_facts program) statement ≡ Some fact
    → Follows visible 0 (visible_facts program) fact point.statement point.goes
unfolding visible_facts
visible_follow program statement point fact there is =
    program_follows visible (λ params slot. nat_lt slot params) visible_flows program.source statement point fact there
    is

-- at each statement of a program there is a set of slots that are visible
visible_there : (program : ProgramTree) (statement : ℕ) (point : Point)
    → slice_get (program_points program.source) statement ≡ Some point
    → (fact : Slots) × (slice_get (visible_facts program) statement ≡ Some fact)
unfolding visible_facts
visible_there program statement point there =
    let facts = program_facts visible (λ params slot. nat_lt slot params) program.source in
    let size = facts_at_program_points visible (λ params slot. nat_lt slot params) program.source in
    let within : statement < length facts =
    omega (arith, size, slice_get_within (program_points program.source) statement point there) in
    slice_get-there facts statement within

-- What is visible at the statement to which control goes next is visible at this one, or this one declares it.
pub next_sees : (program : ProgramTree) (statement : ℕ) (point : Point) (answer : Bool) (next slot : ℕ)
    → slice_get (program_points program.source) statement ≡ Some point → successor point.goes answer ≡ Some next
    → IsVisible program next slot → IsVisible program statement slot ⊎ (declares point.statement slot ≡ true)
next_sees program statement point answer next slot there goes seen = by_fact
    (follows_seen program own.0 point.statement point.goes answer next slot
    (visible_follow program statement point own.0 there own.1) goes seen)
  where
    own : (fact : Slots) × (slice_get (visible_facts program) statement ≡ Some fact)
    own = visible_there program statement point there

    by_fact : (own.0 slot ≡ true) ⊎ (declares point.statement slot ≡ true)
        → IsVisible program statement slot ⊎ (declares point.statement slot ≡ true)
    by_fact (inl before) = inl (record { fact = own.0; there = own.1; sees = before })
    by_fact (inr declared) = inr declared

-- what is visible at the first statement of a body is so before the body
starts_seen : (program : ProgramTree) (body : BodyAt) → IsBodyOf program.source body
    → Lands 0 (visible_facts program) (entry_of_body body).first (λ slot. nat_lt slot body.params)
unfolding visible_facts
starts_seen program body is =
    program_starts visible (λ params slot. nat_lt slot params) visible_flows program.source body is

-- What is visible at the first statement of a body is a parameter.
pub entry_sees : (program : ProgramTree) (body : BodyAt) (first slot : ℕ) → IsBodyOf program.source body
    → (entry_of_body body).first ≡ Some first → IsVisible program first slot → slot < body.params
entry_sees program body first slot is begins seen =
    let below = lands_seen program (λ one. nat_lt one body.params) (entry_of_body body).first first slot
    (starts_seen program body is) begins seen in
    grind (arith, nat_tests)
