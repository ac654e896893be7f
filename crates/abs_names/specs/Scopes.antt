-- Scopes: what a name means where it is used as a variable.
--
--   `Meanings`                                 names with the variables that they mean
--   `Scope`                                    what is visible at a place
--   `use_of`, `field_of`, `is_taken`           the use of a name, a field of `this`, a name that may not be bound
--   `with_bound`, `with_local`                 the scope after a variable is bound, and after a local is declared
--   `pattern_scope`, `statement_scope`         the scope after a pattern, and after a statement
--   `body_scope`, `class_fields`               the scope at the beginning of a body, the fields of a class
use Rattle.std.specs.Prelude.{ℕ, ◌+◌, Bool, true, false, ◌||◌, List, [], ◌∷◌, length, Option, Some, None, is_some, nat_lt, if◌then◌else◌}
use Rattle.abs_tree.specs.Syntax.{Name, VariableTree, Unresolved, AtSlot, AtBound, AtField, PatternTree, AnyValue, Binds, SameNumber, SameString, Built, PatternTrees, NoPattern, NextPattern, MaybeSide, Statement, BlockOf, SkipOf, SuspendOf, AwaitOf, ReturnOf, PrintOf, IfOf, WhileOf, DeclareOf, AssignOf, DoOf, ParamTree, MemberTree, FieldTree, MethodTree}
use Rattle.abs_program.specs.Slots.{maybe_side_slots}
use Rattle.abs_program.specs.Tables.{meaning_of, with_first}
use Rattle.abs_names.specs.TypeNames.{Around}
use Rattle.abs_names.specs.declared.scope.Routine.{Routine}
use Rattle.abs_names.specs.declared.scope.Routine.TheVariants.{Main, Method, Function, Initial}

-- names with the variables that they mean, the newest first
abbrev pub Meanings : Type 0
Meanings = List (Name × VariableTree)

-- the meanings with a new one; a variable that is resolved already has no name
abbrev pub with_meaning : Meanings → VariableTree → VariableTree → Meanings
with_meaning known (Unresolved name) meaning = (name, meaning) ∷ known
with_meaning known _ meaning = known

-- What is visible at a place: what is around it, in which routine it is, the fields of the class, and the parameters,
-- locals and bound variables.
pub record Scope : Type 0 where
  pub around : Around
  pub routine : Routine
  pub fields : Meanings
  pub variables : Meanings

-- whether there is `this`, and whether there is a task
abbrev pub has_this : Routine → Bool
has_this Main = false
has_this Method = true
has_this Function = false
has_this (Initial earlier) = false

abbrev pub has_task : Routine → Bool
has_task Main = true
has_task Method = true
has_task Function = false
has_task (Initial earlier) = false

-- the field of the class with this name
abbrev pub field_of : Scope → Name → Option VariableTree
field_of scope name = meaning_of scope.fields name

-- what the use of a field by its name alone stands for: a method sees all fields, and an initial value the earlier
-- ones, as slots
abbrev pub visible_field : Routine → Option VariableTree → Option VariableTree
visible_field Method field = field
visible_field (Initial earlier) (Some (AtField field)) = if nat_lt field earlier then Some (AtSlot field) else None
visible_field _ field = None

-- what the use of a name stands for: a variable that is visible, or else a field
abbrev pub or_field : Scope → Name → Option VariableTree → Option VariableTree
or_field scope name (Some variable) = Some variable
or_field scope name None = visible_field scope.routine (field_of scope name)

abbrev pub use_of : Scope → Name → Option VariableTree
use_of scope name = or_field scope name (meaning_of scope.variables name)

-- whether a pattern or a `let` may not bind a name, since it is that of a visible variable or of any field
abbrev pub is_taken : Scope → Name → Bool
is_taken scope name = is_some (meaning_of scope.variables name) || is_some (field_of scope name)

-- how many variables of patterns and of `let` are visible
abbrev pub bound_count : Meanings → ℕ
bound_count [] = 0
bound_count ((_, AtBound _) ∷ others) = 1 + bound_count others
bound_count (_ ∷ others) = bound_count others

-- the next variable that a pattern or a `let` binds, and the scope after that
abbrev pub next_bound : Scope → VariableTree
next_bound scope = AtBound (bound_count scope.variables)

abbrev pub with_variable : Scope → VariableTree → VariableTree → Scope
with_variable scope variable meaning =
    record scope { variables = with_meaning scope.variables variable meaning }

abbrev pub with_bound : Scope → VariableTree → Scope
with_bound scope variable = with_variable scope variable (next_bound scope)

abbrev mutual
  -- the scope after the variables of a pattern are bound
  pub pattern_scope : Scope → PatternTree → Scope
  pattern_scope scope (AnyValue place) = scope
  pattern_scope scope (Binds place variable) = with_bound scope variable
  pattern_scope scope (SameNumber place number) = scope
  pattern_scope scope (SameString place string) = scope
  pattern_scope scope (Built place constructor arguments) = patterns_scope scope arguments

  pub patterns_scope : Scope → PatternTrees → Scope
  patterns_scope scope NoPattern = scope
  patterns_scope scope (NextPattern first others) = patterns_scope (pattern_scope scope first) others

-- the slot of the local that a statement declares, where `next` is the first free slot; the slot of a call on its right
-- side comes before it
abbrev pub local_slot : ℕ → ℕ → MaybeSide → VariableTree
local_slot next index initial = AtSlot (next + length (maybe_side_slots index initial))

-- the scope after a statement; no local of a block, a branch or a loop is left
abbrev pub statement_scope : Scope → ℕ → Statement → Scope
statement_scope scope next (DeclareOf index place type variable_place variable initial) =
    with_variable scope variable (local_slot next index initial)
statement_scope scope next (BlockOf place block) = scope
statement_scope scope next (SkipOf index place) = scope
statement_scope scope next (SuspendOf index place) = scope
statement_scope scope next (AwaitOf index place guard) = scope
statement_scope scope next (ReturnOf index place value) = scope
statement_scope scope next (PrintOf index place value) = scope
statement_scope scope next (IfOf index place condition first second) = scope
statement_scope scope next (WhileOf index place condition body) = scope
statement_scope scope next (AssignOf index place target side) = scope
statement_scope scope next (DoOf index place side) = scope

-- the meanings of parameters, each the slot of its index
abbrev pub with_params : Meanings → ℕ → List ParamTree → Meanings
with_params known index [] = known
with_params known index (param ∷ others) =
    with_params (with_meaning known param.variable (AtSlot index)) (index + 1) others

-- the scope at the beginning of a body, which sees its parameters
abbrev pub body_scope : Around → Routine → Meanings → List ParamTree → Scope
body_scope around routine fields params =
    record { around = around; routine = routine; fields = fields; variables = with_params [] 0 params }

-- the fields with one more; the first field of a name counts
abbrev pub with_field : Meanings → VariableTree → ℕ → Meanings
with_field known (Unresolved name) index = with_first known name (AtField index)
with_field known _ index = known

-- the fields of a class: its parameters, and the fields among its members
abbrev pub with_param_fields : Meanings → ℕ → List ParamTree → Meanings
with_param_fields known index [] = known
with_param_fields known index (param ∷ others) =
    with_param_fields (with_field known param.variable index) (index + 1) others

abbrev pub with_member : Meanings → ℕ → MemberTree → Meanings
with_member known index (FieldTree type name initial) = with_field known (Unresolved name.name) index
with_member known index (MethodTree signature end body) = known

-- how many fields there are up to a member, given how many come before it
abbrev pub fields_after : ℕ → MemberTree → ℕ
fields_after earlier (FieldTree type name initial) = earlier + 1
fields_after earlier (MethodTree signature end body) = earlier

abbrev pub with_member_fields : Meanings → ℕ → List MemberTree → Meanings
with_member_fields known index [] = known
with_member_fields known index (member ∷ others) =
    with_member_fields (with_member known index member) (fields_after index member) others

abbrev pub class_fields : List ParamTree → List MemberTree → Meanings
class_fields params members = with_member_fields (with_param_fields [] 0 params) (length params) members
