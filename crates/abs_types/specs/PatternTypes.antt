-- Patterns: whether they fit the type of their subject, and the types of their variables. A subject, and a variable,
-- may be without a type, where another part offends.
--
--   `arguments_of`                 the data that a type is, with the arguments to which it is applied
--   `constructor_parts`            the types of the parts of a constructor, if it is one of the subject's type
--   `parts_matched`                the same, if there is a pattern for each part
--   `part_subjects`                the subjects of the patterns in a pattern
--   `pattern_fits`                 a pattern fits the type of its subject
--   `pattern_types`                the types of the variables of a pattern, in their order
--   `pattern_offences`             the patterns that do not fit, each where no pattern around it offends
use Rattle.std.specs.Prelude.{ℕ, Bool, false, List, [], ◌∷◌, ◌++◌, map, length, nat_eq, Option, Some, None, is_none, option_map, option_and_then, if◌then◌else◌}
use Rattle.std.specs.Str.{bytes_eq}
use Rattle.abs_tree.specs.Syntax.{Name, DeclTree, PatternTree, AnyValue, Binds, SameNumber, SameString, Built, PatternTrees, NoPattern, NextPattern}
use Rattle.abs_tree.specs.SyntaxCounts.{count_patterns}
use Rattle.abs_tree.specs.declared.refusal.Offence.{Offence}
use Rattle.abs_types.specs.Applications.{replaced}
use Rattle.abs_types.specs.Mistyped.{mistyped_if, unfit}
use Rattle.abs_types.specs.PlainTypes.{PlainType, PlainInt, PlainString, PlainBottom, PlainData, PlainApplied}
use Rattle.abs_types.specs.Schemes.{Scheme, scheme_of_constructor}

-- data with the arguments to which it is applied
pub record DataOf : Type 0 where
  pub name : Name
  pub arguments : List PlainType

abbrev pub arguments_of : PlainType → Option DataOf
arguments_of (PlainData name) = Some (record { name = name; arguments = [] })
arguments_of (PlainApplied head argument) =
    option_map (λ (known : DataOf). record known { arguments = known.arguments ++ argument ∷ [] }) (arguments_of head)
arguments_of _ = None

-- the types of the parts of a constructor with this scheme, if it gives the same data: its type parameters are replaced
-- by the arguments of the data
abbrev pub parts_if_same : Scheme → Option DataOf → Option DataOf → Option (List PlainType)
parts_if_same scheme (Some given) (Some subject) =
    if bytes_eq given.name subject.name then Some (map (replaced subject.arguments) scheme.takes) else None
parts_if_same scheme _ _ = None

-- the types of the parts: where the subject has no value, no part has one either
abbrev pub parts_by : PlainType → Scheme → Option (List PlainType)
parts_by PlainBottom scheme = Some (map (λ (taken : PlainType). PlainBottom) scheme.takes)
parts_by subject scheme = parts_if_same scheme (arguments_of scheme.gives) (arguments_of subject)

unfoldable pub constructor_parts : List DeclTree → PlainType → Name → Option (List PlainType)
constructor_parts declarations subject constructor =
    option_and_then (parts_by subject) (scheme_of_constructor declarations constructor)

-- the types of the parts, if there is a pattern for each
abbrev pub if_as_many : ℕ → List PlainType → Option (List PlainType)
if_as_many count parts = if nat_eq (length parts) count then Some parts else None

abbrev pub parts_matched : List DeclTree → PlainType → Name → PatternTrees → Option (List PlainType)
parts_matched declarations subject constructor arguments =
    option_and_then (if_as_many (count_patterns arguments)) (constructor_parts declarations subject constructor)

-- the subjects of the patterns in a pattern; without types where the pattern does not fit
abbrev pub subjects : Option (List PlainType) → List (Option PlainType)
subjects (Some types) = map Some types
subjects None = []

abbrev pub part_subjects : List DeclTree → Option PlainType → Name → PatternTrees → List (Option PlainType)
part_subjects declarations (Some subject) constructor arguments =
    subjects (parts_matched declarations subject constructor arguments)
part_subjects declarations None constructor arguments = []

-- the first subject, and those after it; past the list there is none with a type
abbrev pub first_subject : List (Option PlainType) → Option PlainType
first_subject [] = None
first_subject (one ∷ others) = one

abbrev pub other_subjects : List (Option PlainType) → List (Option PlainType)
other_subjects [] = []
other_subjects (one ∷ others) = others

-- whether a constructor is not one of the subject's type; a subject without a type has each
abbrev pub is_foreign : List DeclTree → Option PlainType → Name → PatternTrees → Bool
is_foreign declarations (Some subject) constructor arguments =
    is_none (parts_matched declarations subject constructor arguments)
is_foreign declarations None constructor arguments = false

abbrev mutual
  -- the types of the variables of a pattern
  pub pattern_types : List DeclTree → Option PlainType → PatternTree → List (Option PlainType)
  pattern_types declarations subject (AnyValue place) = []
  pattern_types declarations subject (Binds place variable) = subject ∷ []
  pattern_types declarations subject (SameNumber place number) = []
  pattern_types declarations subject (SameString place string) = []
  pattern_types declarations subject (Built place constructor arguments) =
      patterns_types declarations (part_subjects declarations subject constructor arguments) arguments

  pub patterns_types : List DeclTree → List (Option PlainType) → PatternTrees → List (Option PlainType)
  patterns_types declarations parts NoPattern = []
  patterns_types declarations parts (NextPattern first others) =
      pattern_types declarations (first_subject parts) first
      ++ patterns_types declarations (other_subjects parts) others

abbrev mutual
  -- the patterns that do not fit
  pub pattern_offences : List DeclTree → Option PlainType → PatternTree → List Offence
  pattern_offences declarations subject (AnyValue place) = []
  pattern_offences declarations subject (Binds place variable) = []
  pattern_offences declarations subject (SameNumber place number) =
      unfit declarations subject PlainInt place
  pattern_offences declarations subject (SameString place string) =
      unfit declarations subject PlainString place
  pattern_offences declarations subject (Built place constructor arguments) =
      mistyped_if (is_foreign declarations subject constructor arguments) place
      ++ patterns_offences declarations (part_subjects declarations subject constructor arguments) arguments

  pub patterns_offences : List DeclTree → List (Option PlainType) → PatternTrees → List Offence
  patterns_offences declarations parts NoPattern = []
  patterns_offences declarations parts (NextPattern first others) =
      pattern_offences declarations (first_subject parts) first
      ++ patterns_offences declarations (other_subjects parts) others

-- whether a pattern fits the type of its subject: no pattern in it offends
abbrev pub pattern_fits : List DeclTree → Option PlainType → PatternTree → Bool
pattern_fits declarations subject pattern = nat_eq (length (pattern_offences declarations subject pattern)) 0
