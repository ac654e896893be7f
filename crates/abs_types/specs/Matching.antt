-- Patterns as a relation: a pattern fits the type of its subject, and its variables have these types, in their order.
--
--   `Matches`, `MatchAll`      a constructor for each form of a pattern
use Rattle.std.specs.Prelude.{◌≡◌, ℤ, ℕ, List, [], ◌∷◌, ◌++◌, Some}
use Rattle.abs_tree.specs.Syntax.{Name, VariableTree, DeclTree, PatternTree, AnyValue, Binds, SameNumber, SameString, Built, PatternTrees, NoPattern, NextPattern}
use Rattle.abs_tree.specs.declared.place.Place.{Place}
use Rattle.abs_types.specs.PatternTypes.{constructor_parts}
use Rattle.abs_types.specs.PlainTypes.{PlainType, PlainInt, PlainString}
use Rattle.abs_types.specs.Subtyping.{Fits}

mutual
  -- `_` takes any value, and a variable has the subject's type. A number asks for `Int`, and a string for `String`. A
  -- constructor is one of the subject's type, and the patterns in it match its parts.
  pub data Matches (declarations : List DeclTree) : PlainType → PatternTree → List PlainType → Type 0 where
    any : (subject : PlainType) (place : Place) → Matches declarations subject (AnyValue place) []
    binds : (subject : PlainType) (place : Place) (variable : VariableTree)
        → Matches declarations subject (Binds place variable) (subject ∷ [])
    same_number : (subject : PlainType) (place : Place) (number : ℤ) → Fits declarations subject PlainInt
        → Matches declarations subject (SameNumber place number) []
    same_string : (subject : PlainType) (place : Place) (string : List ℕ) → Fits declarations subject PlainString
        → Matches declarations subject (SameString place string) []
    built : (subject : PlainType) (place : Place) (constructor : Name) (arguments : PatternTrees)
        (parts types : List PlainType) → constructor_parts declarations subject constructor ≡ Some parts
        → MatchAll declarations parts arguments types
        → Matches declarations subject (Built place constructor arguments) types

  pub data MatchAll (declarations : List DeclTree) : List PlainType → PatternTrees → List PlainType → Type 0 where
    none : MatchAll declarations [] NoPattern []
    next : (part : PlainType) (parts : List PlainType) (first : PatternTree) (others : PatternTrees)
        (types more : List PlainType) → Matches declarations part first types
        → MatchAll declarations parts others more
        → MatchAll declarations (part ∷ parts) (NextPattern first others) (types ++ more)
