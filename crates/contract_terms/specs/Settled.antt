-- Settled slots. A slot is settled at a statement where the future in it is known to be resolved: on each way there an
-- `await` or a `get` named it, and since then nothing was assigned to it. A loop forgets the slots that its body
-- assigns.
--
--   `no_slot`, `is_named`, `is_target`         no slot, the slot that a name is, and the slot that a target is
--   `settles`, `assigns`                       the slots that an effect settles, and those that it assigns
--   `assigned_in`, `assigned_by`, ..           those that statements assign
--   `settled`, `settled_facts`                 what is settled is a flow; the settled slots at a program's statements
--   `IsSuccessor`                              control can go to this statement
--   `named_slots`, `settled_names`             the slots that a statement names, and those of them that are settled there
use Rattle.std.specs.Prelude.{◌≡◌, ◌⊎◌, ℕ, false, not, ◌&&◌, ◌||◌, List, [], ◌∷◌, Option, Some, None, nat_eq, option_to_list, if◌then◌else◌}
use Rattle.std.specs.List.{flat_map, list_any}
use Rattle.abs_program.specs.Control.{Goes, Next, ByAnswer}
use Rattle.abs_program.specs.Flows.{Slots, Flow}
use Rattle.abs_program.specs.Instructions.{EffectTree, Awaits, Clears, Stores, Makes, Sends, CallsOwn, CallsOther, Gets, effect_of}
use Rattle.abs_program.specs.ProgramFacts.{program_facts}
use Rattle.abs_tree.specs.Syntax.{VariableTree, AtSlot, Statement, BlockOf, IfOf, WhileOf, MaybeStatements, NoElse, Else, Statements, NoStatement, NextStatement, SourceTree}

-- no slot
abbrev pub no_slot : Slots
no_slot slot = false

-- the slot that a guard or a `get` names; a part that is no slot names none
abbrev pub is_named : Option ℕ → Slots
is_named None slot = false
is_named (Some named) slot = nat_eq named slot

-- the slot that a target is; a field is none
abbrev pub is_target : Option VariableTree → Slots
is_target (Some (AtSlot target)) slot = nat_eq target slot
is_target _ slot = false

-- the slots that an effect settles: an `await` each slot that it names, and a `get` the one that it names
abbrev pub settles : EffectTree → Slots
settles (Awaits names) slot = list_any (λ named. is_named named slot) names
settles (Gets named target) slot = is_named named slot
settles _ slot = false

-- the slots that an effect assigns: its target, and the hidden slot of a call by "." on another object
abbrev pub assigns : EffectTree → Slots
assigns (Clears target) slot = is_target (Some target) slot
assigns (Stores target) slot = is_target target slot
assigns (Makes mode class target) slot = is_target target slot
assigns (Sends method target) slot = is_target target slot
assigns (CallsOwn method target) slot = is_target target slot
assigns (CallsOther method hidden target) slot = is_named hidden slot || is_target target slot
assigns (Gets named target) slot = is_target target slot
assigns _ slot = false

unfoldable mutual
  -- the slots that statements assign, at any depth
  pub assigned_in : Statements → Slots
  assigned_in NoStatement slot = false
  assigned_in (NextStatement first others) slot = assigned_by first slot || assigned_in others slot

  pub assigned_by : Statement → Slots
  assigned_by (BlockOf place block) slot = assigned_in block slot
  assigned_by (IfOf index place condition first second) slot = assigned_in first slot || assigned_in_else second slot
  assigned_by (WhileOf index place condition body) slot = assigned_in body slot
  assigned_by statement slot = assigns (effect_of statement) slot

  pub assigned_in_else : MaybeStatements → Slots
  assigned_in_else NoElse slot = false
  assigned_in_else (Else branch) slot = assigned_in branch slot

-- After a statement a slot is settled if it was settled before it or the statement settles it, and the statement does
-- not assign it. After an `if` a slot is settled if it is after both branches. At a loop it is settled if it was before
-- the loop, and the body does not assign it. After a bare block it is settled if it is after its statements.
abbrev pub settled : Flow
settled = record {
  after = λ fact statement slot.
      (fact slot || settles (effect_of statement) slot) && not (assigns (effect_of statement) slot);
  joined = λ before one other slot. one slot && other slot;
  looped = λ fact body slot. fact slot && not (assigned_in body slot);
  closed = λ before inside. inside;
}

-- the settled slots at the statements of a program, in the order of their indices; a body begins with none
unfoldable pub settled_facts : SourceTree → List Slots
settled_facts program = program_facts settled (λ params. no_slot) program

-- control can go to the statement with this index
abbrev pub IsSuccessor : Goes → ℕ → Type 0
IsSuccessor (Next after) index = after ≡ Some index
IsSuccessor (ByAnswer when_true when_false) index = (when_true ≡ Some index) ⊎ (when_false ≡ Some index)

-- the slots that a statement names: an `await` those of its parts that a "?" follows, and a `get` that of its future
abbrev pub named_slots : EffectTree → List ℕ
named_slots (Awaits names) = flat_map option_to_list names
named_slots (Gets named target) = option_to_list named
named_slots _ = []

-- a set of slots without one of them
abbrev pub without : Slots → ℕ → Slots
without fact gone slot = fact slot && not (nat_eq gone slot)

-- the slots of a list that are in a set, each once, in the order of the list
unfoldable pub once_among : Slots → List ℕ → List ℕ
once_among fact [] = []
once_among fact (slot ∷ others) =
    if fact slot then slot ∷ once_among (without fact slot) others else once_among fact others

-- the slots that a statement names and that are settled there, each once, in the order of the source
abbrev pub settled_names : EffectTree → Slots → List ℕ
settled_names effect fact = once_among fact (named_slots effect)
