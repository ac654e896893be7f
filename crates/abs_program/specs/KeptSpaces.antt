-- Name spaces as the code keeps them: by the numbers of names. They serve proofs only.
--
--   `name_at`              the name of a number
--   `named`                meanings by name, from meanings by number
--   `ProperNumbers`        each number is the one of its name
--   `spaces_by_name`       name spaces by name, from the code's
--   `AreProper`            all their numbers are those of their names
use denote.Struct.Props as logic
use Rattle.std.specs.Prelude.{◌≡◌, ⊤, ℕ, List, [], ◌∷◌, map}
use Rattle.abs_tree.specs.Names.{number_of_name, name_of}
use Rattle.abs_program.specs.NameSpaces.{NameSpaces}
use Rattle.abs_tree.specs.Syntax.{Name}
use Rattle.abs_program.specs.declared.name_spaces.NameSpaces as code_spaces

-- the name of a number
abbrev pub name_at : List Name → ℕ → Name
name_at names number = name_of names (record { 0 = number })

-- meanings by name, each by what the code has for it
abbrev pub named : {A B : Type 0} → List Name → (A → B) → List (ℕ × A) → List (Name × B)
named names tree known = map (λ one. (name_at names one.0, tree one.1)) known

-- each number is the one of its name
abbrev pub ProperNumbers : {A : Type 0} → List Name → List (ℕ × A) → Type 0
ProperNumbers names [] = ⊤
ProperNumbers names (one ∷ others) =
    (number_of_name names (name_at names one.0) ≡ one.0) × ProperNumbers names others

-- name spaces by name, and whether all their numbers are those of their names
abbrev pub spaces_by_name : List Name → code_spaces.NameSpaces → NameSpaces
spaces_by_name names spaces = record {
  types = named names (λ meaning. meaning) spaces.types;
  constructors = named names (λ meaning. meaning) spaces.constructors;
  functions = named names (λ meaning. meaning) spaces.functions;
  classes = named names (λ meaning. meaning) spaces.classes;
}

pub record AreProper (names : List Name) (spaces : code_spaces.NameSpaces) : Type 0 where
  pub types : ProperNumbers names spaces.types
  pub constructors : ProperNumbers names spaces.constructors
  pub functions : ProperNumbers names spaces.functions
  pub classes : ProperNumbers names spaces.classes

-- there is one proof at most that each number is the one of its name
pub proper-prop : {A : Type 0} (names : List Name) (known : List (ℕ × A)) → IsProp (ProperNumbers names known)
proper-prop names [] = Prim.hlevel logic.props
proper-prop names (one ∷ others) = Prim.hlevel (logic.props, proper-prop names others)
