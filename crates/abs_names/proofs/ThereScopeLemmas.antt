-- Scopes in which each variable that is visible is there.
use Rattle.std.proofs.Common.{◌≡◌, ℕ, ◌+◌, ◌≤◌, Bool, true, false, List, [], ◌∷◌, inl, inr, refl, sym, ◌∙◌, subst, is_some, arith}
use Rattle.std.specs.Prelude.{Option, Some, None, if◌then◌else◌}
use Rattle.std.specs.Str.{bytes_eq}
use Rattle.std.proofs.lemmas.Bool.{cases_Bool, cond-true, cond-false, true≢false}
use Rattle.std.proofs.lemmas.Option.{same_Some}
use Rattle.abs_tree.specs.Syntax.{Name, VariableTree, Unresolved, AtSlot, AtBound, AtField, PatternTree, AnyValue, Binds, SameNumber, SameString, Built, PatternTrees, NoPattern, NextPattern}
use Rattle.abs_tree.specs.SyntaxCounts.{count_patterns}
use Rattle.abs_tree.specs.SyntaxSizes.{pattern_variables, patterns_variables}
use Rattle.abs_program.specs.Tables.{meaning_of}
use Rattle.abs_program.specs.Whole.{Inside, VariableIsThere}
use Rattle.abs_tree.specs.declared.place.Place.{Place}
use Rattle.abs_tree.specs.declared.refusal.Code.TheVariants.{N2}
use Rattle.abs_names.specs.NameOffences.{use_offences, bind_offences, field_offences, pattern_offences, patterns_offences}
use Rattle.abs_names.specs.Resolution.{found_or, resolved_use}
use Rattle.abs_names.specs.Scopes.{Scope, has_this, has_task, field_of, visible_field, or_field, use_of, bound_count, with_bound, pattern_scope, patterns_scope}
use Rattle.abs_names.specs.Single.{unknown}
use Rattle.abs_names.specs.TypeNames.{applied, constructor_taking}
use Rattle.abs_names.proofs.ThereTypeLemmas.{is_known, Surrounds}
use Rattle.list_facts.proofs.AppendLemmas.{not_empty, both_empty}

-- A scope shows what a part of a program can use where so many variables are bound.
pub record Agrees (inside : Inside) (bound : ℕ) (scope : Scope) : Type 0 where
  pub around : Surrounds inside scope.around
  pub this : has_this scope.routine ≡ inside.has_this
  pub task : has_task scope.routine ≡ inside.has_task
  pub count : bound_count scope.variables ≡ bound
  pub variables : (name : Name) (variable : VariableTree) → meaning_of scope.variables name ≡ Some variable
      → VariableIsThere inside bound variable
  pub fields : (name : Name) (field : VariableTree) → has_this scope.routine ≡ true
      → field_of scope name ≡ Some field → VariableIsThere inside 0 field
  pub seen : (name : Name) (field : VariableTree)
      → visible_field scope.routine (field_of scope name) ≡ Some field → VariableIsThere inside 0 field

-- a variable is there also where more are bound
pub still_there : (inside : Inside) (bound more : ℕ) (variable : VariableTree) → bound ≤ more
    → VariableIsThere inside bound variable → VariableIsThere inside more variable
still_there inside bound more (AtSlot slot) grows there = there
still_there inside bound more (AtBound depth) grows there = omega (arith, grows, there)
still_there inside bound more (AtField field) grows there = there
still_there inside bound more (Unresolved name) grows there = there

-- what a name means after a new meaning
pub newest_or : {A : Type 0} (P : A → Type 0) (known : List (Name × A)) (name other : Name) (meaning older : A)
    → P meaning → (meaning_of known other ≡ Some older → P older)
    → meaning_of ((name, meaning) ∷ known) other ≡ Some older → P older
newest_or P known name other meaning older new old found =
    let later = meaning_of known other in
    elim (cases_Bool (bytes_eq name other)) [
      | inl same ↦
          subst P (same_Some meaning older
          (sym (cond-true (bytes_eq name other) (Some meaning) later same) ∙ found)) new
      | inr different ↦ old (sym (cond-false (bytes_eq name other) (Some meaning) later different) ∙ found)
    ]

-- a name that is bound
name_bound : (inside : Inside) (bound : ℕ) (scope : Scope) (name : Name) → Agrees inside bound scope
    → Agrees inside (bound + 1) (with_bound scope (Unresolved name))
name_bound inside bound scope name agrees =
    let known = scope.variables in
    let count = agrees.count in
    record {
      around = agrees.around;
      this = agrees.this;
      task = agrees.task;
      count = omega (arith, count);
      variables = λ other variable. newest_or (VariableIsThere inside (bound + 1)) known name other
          (AtBound (bound_count known)) variable (omega (arith, count))
          (λ found. still_there inside bound (bound + 1) variable (omega arith)
          (agrees.variables other variable found));
      fields = agrees.fields;
      seen = agrees.seen;
    }

-- a variable without a name offence that is bound
pub bound_agrees : (inside : Inside) (bound : ℕ) (scope : Scope) (place : Place) (variable : VariableTree)
    → Agrees inside bound scope → bind_offences scope place variable ≡ []
    → Agrees inside (bound + 1) (with_bound scope variable)
bound_agrees inside bound scope place (Unresolved name) agrees none = name_bound inside bound scope name agrees
bound_agrees inside bound scope place (AtSlot slot) agrees none = not_empty _ _ none
bound_agrees inside bound scope place (AtBound depth) agrees none = not_empty _ _ none
bound_agrees inside bound scope place (AtField field) agrees none = not_empty _ _ none

-- a scope that agrees where equally many variables are bound
same_bound : (inside : Inside) (bound : ℕ) {more : ℕ} (scope : Scope) → bound ≡ more → Agrees inside bound scope
    → Agrees inside more scope
same_bound inside bound scope same agrees = subst (λ (n : ℕ). Agrees inside n scope) same agrees

mutual
  -- the scope after a pattern
  pub pattern_agrees : (inside : Inside) (bound : ℕ) (scope : Scope) (pattern : PatternTree)
      → Agrees inside bound scope → pattern_offences scope pattern ≡ []
      → Agrees inside (bound + pattern_variables pattern) (pattern_scope scope pattern)
  pattern_agrees inside bound scope (AnyValue place) agrees none = same_bound inside bound scope (omega arith) agrees
  pattern_agrees inside bound scope (Binds place variable) agrees none =
      bound_agrees inside bound scope place variable agrees none
  pattern_agrees inside bound scope (SameNumber place number) agrees none =
      same_bound inside bound scope (omega arith) agrees
  pattern_agrees inside bound scope (SameString place string) agrees none =
      same_bound inside bound scope (omega arith) agrees
  pattern_agrees inside bound scope (Built place constructor arguments) agrees none =
      patterns_agree inside bound scope arguments agrees (both_empty
      (applied (constructor_taking scope.around constructor) (count_patterns arguments) place)
      (patterns_offences scope arguments) none).1

  -- the scope after patterns
  pub patterns_agree : (inside : Inside) (bound : ℕ) (scope : Scope) (patterns : PatternTrees)
      → Agrees inside bound scope → patterns_offences scope patterns ≡ []
      → Agrees inside (bound + patterns_variables patterns) (patterns_scope scope patterns)
  patterns_agree inside bound scope NoPattern agrees none = same_bound inside bound scope (omega arith) agrees
  patterns_agree inside bound scope (NextPattern first others) agrees none =
      let later = pattern_scope scope first in
      let parts = both_empty (pattern_offences scope first) (patterns_offences later others) none in
      same_bound inside (bound + pattern_variables first + patterns_variables others) (patterns_scope later others)
      (omega arith) (patterns_agree inside (bound + pattern_variables first) later others
      (pattern_agrees inside bound scope first agrees parts.0) parts.1)

-- a field that is visible by its name alone, or a variable
or_field_there : (inside : Inside) (bound : ℕ) (scope : Scope) (name : Name) (known : Option VariableTree)
    (variable : VariableTree) → Agrees inside bound scope → meaning_of scope.variables name ≡ known
    → or_field scope name known ≡ Some variable → VariableIsThere inside bound variable
or_field_there inside bound scope name (Some meaning) variable agrees is found =
    agrees.variables name variable (is ∙ found)
or_field_there inside bound scope name None variable agrees is found =
    still_there inside 0 bound variable (omega arith) (agrees.seen name variable found)

-- what the use of a name stands for, where it stands for something
found_there : (inside : Inside) (bound : ℕ) (name : Name) (found : Option VariableTree)
    → ((variable : VariableTree) → found ≡ Some variable → VariableIsThere inside bound variable)
    → is_some found ≡ true → VariableIsThere inside bound (found_or (Unresolved name) found)
found_there inside bound name (Some variable) there known = there variable refl
found_there inside bound name None there known = absurd (true≢false (sym known))

-- the use of a variable without a name offence
pub use_there : (inside : Inside) (bound : ℕ) (scope : Scope) (place : Place) (variable : VariableTree)
    → Agrees inside bound scope → use_offences scope place variable ≡ []
    → VariableIsThere inside bound (resolved_use scope variable)
use_there inside bound scope place (Unresolved name) agrees none =
    found_there inside bound name (use_of scope name)
    (λ variable. or_field_there inside bound scope name (meaning_of scope.variables name) variable agrees refl)
    (is_known (is_some (use_of scope name)) place none)
use_there inside bound scope place (AtSlot slot) agrees none = not_empty _ _ none
use_there inside bound scope place (AtBound depth) agrees none = not_empty _ _ none
use_there inside bound scope place (AtField field) agrees none = not_empty _ _ none

-- A field of `this` is known where there is `this`.
pub record FieldKnown (inside : Inside) (found : Option VariableTree) : Type 0 where
  pub known : is_some found ≡ true
  pub there : (field : VariableTree) → found ≡ Some field → VariableIsThere inside 0 field

known_field : (this : Bool) (found : Bool) (place name_place : Place)
    → (if this then unknown found name_place else record { place = place; code = N2 } ∷ []) ≡ []
    → (this ≡ true) × (found ≡ true)
known_field true found place name_place none = (refl, is_known found name_place none)
known_field false found place name_place none = not_empty _ _ none

-- a field of `this` without a name offence
pub field_known : (inside : Inside) (bound : ℕ) (scope : Scope) (place name_place : Place) (name : Name)
    → Agrees inside bound scope → field_offences scope place name_place name ≡ []
    → FieldKnown inside (field_of scope name)
field_known inside bound scope place name_place name agrees none =
    let both = known_field (has_this scope.routine) (is_some (field_of scope name)) place name_place none in
    record { known = both.1; there = λ field. agrees.fields name field both.0 }
