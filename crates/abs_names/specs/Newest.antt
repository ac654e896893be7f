-- What the use of a name stands for, said of the declarations before it.
--
--   `SaysNothing`          these say nothing of a name
--   `IsNewest`             the newest of these that says something of a name gives this meaning
--   `StandsFor`            a meaning is that of the newest variable of a name, or else that of a field
use Rattle.std.specs.Prelude.{◌≡◌, false, ◌∷◌, ◌++◌, ◌⊎◌, All, Some}
use Rattle.std.specs.Str.{bytes_eq}
use Rattle.abs_tree.specs.Syntax.{Name, VariableTree}
use Rattle.abs_names.specs.Scopes.{Meanings, Scope, field_of, visible_field}

-- these say nothing of a name
abbrev pub SaysNothing : Name → Meanings → Type 0
SaysNothing name known = All (λ (one : Name × VariableTree). bytes_eq one.0 name ≡ false) known

-- A name has this meaning, and no newer one of these has this name.
pub record IsNewest (known : Meanings) (name : Name) (meaning : VariableTree) : Type 0 where
  pub newer : Meanings
  pub older : Meanings
  pub among : known ≡ newer ++ (name, meaning) ∷ older
  pub newest : SaysNothing name newer

-- A field that is visible has this meaning, and no variable that is visible has its name.
pub record IsField (scope : Scope) (name : Name) (meaning : VariableTree) : Type 0 where
  pub no_variable : SaysNothing name scope.variables
  pub field : visible_field scope.routine (field_of scope name) ≡ Some meaning

-- a meaning is that of the newest variable of a name, or else that of a field
abbrev pub StandsFor : Scope → Name → VariableTree → Type 0
StandsFor scope name meaning = IsNewest scope.variables name meaning ⊎ IsField scope name meaning
