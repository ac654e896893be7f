-- Which slots are visible at a statement: those of parameters, and those of the locals that are declared before it in
-- its block or around that.
--
--   `declares`                 a statement declares the local in a slot
--   `visible`                  the flow: a declaration adds its slot, and after a branch, a loop or a block is visible what
--                              was before
--   `visible_facts`            the slots that are visible at each statement of a program
--   `IsVisible`                a slot is visible at a statement
use Rattle.std.specs.Prelude.{◌≡◌, ◌||◌, ℕ, nat_eq, nat_lt, Bool, true, false, List, slice_get, Some}
use Rattle.abs_program.specs.Flows.{Slots, Flow}
use Rattle.abs_program.specs.ProgramFacts.{program_facts}
use Rattle.abs_tree.specs.Syntax.{VariableTree, Unresolved, AtSlot, AtBound, AtField, Statement, DeclareOf, ProgramTree}

-- whether a variable is the slot
abbrev pub is_slot : VariableTree → ℕ → Bool
is_slot (AtSlot own) slot = nat_eq own slot
is_slot (AtBound depth) slot = false
is_slot (AtField field) slot = false
is_slot (Unresolved name) slot = false

-- whether a statement declares the local in the slot
abbrev pub declares : Statement → ℕ → Bool
declares (DeclareOf index place type variable_place variable initial) slot = is_slot variable slot
declares _ slot = false

-- after a declaration its slot is visible too; after branches, in a loop and after a block, what was before
abbrev pub visible : Flow
visible = record {
  after = λ fact statement slot. fact slot || declares statement slot;
  joined = λ before first second. before;
  looped = λ before body. before;
  closed = λ before inside. before;
}

-- the slots that are visible at each statement of a program: at first those of the parameters
unfoldable pub visible_facts : ProgramTree → List Slots
visible_facts program = program_facts visible (λ params slot. nat_lt slot params) program.source

-- The slot is visible at the statement.
pub record IsVisible (program : ProgramTree) (statement slot : ℕ) : Type 0 where
  pub fact : Slots
  pub there : slice_get (visible_facts program) statement ≡ Some fact
  pub sees : fact slot ≡ true
