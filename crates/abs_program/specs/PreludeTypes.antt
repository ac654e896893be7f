-- The types of the prelude as they are once names are resolved. The functions of the prelude are left out: to a law they
-- are functions like those of a source.
--
--   `resolved_list`, `resolved_maybe`, `resolved_pair`     the declarations that have types inside
--   `prelude_types`                                        those of all five types, in order
--   `names_prelude_type`                                   a declaration is data with the name of one of them
--   `without_parts`                                        a constructor without parts, by the index of its data
--   `BeginsWithPrelude`                                    a source declares these first
use Rattle.std.specs.Prelude.{◌≡◌, ℕ, Bool, false, List, [], ◌∷◌, ◌++◌, codes}
use Rattle.std.specs.List.{list_any}
use Rattle.std.specs.Str.{bytes_eq}
use Rattle.abs_prelude.specs.Prelude.{at, declared, constructor, unit_data, bool_data}
use Rattle.abs_program.specs.declared.name_spaces.ConstructorMeaning.{ConstructorMeaning}
use Rattle.abs_tree.specs.Syntax.{Name, NoType, NextType, DataType, ParameterType, DeclTree, DataTree, SourceTree}

-- data List<A> = Nil | Cons(A, List<A>);
abbrev pub resolved_list : DeclTree
resolved_list =
    DataTree (at 3 1) (declared 3 6 (codes "List")) ((declared 3 11 (codes "A")) ∷ []) (constructor (declared 3 16
    (codes "Nil")) NoType ∷ constructor (declared 3 22 (codes "Cons")) (NextType (ParameterType (at 3 27) 0)
    (NextType (DataType (at 3 30) (codes "List") (NextType (ParameterType (at 3 35) 0) NoType)) NoType)) ∷ [])

-- data Maybe<A> = Nothing | Just(A);
abbrev pub resolved_maybe : DeclTree
resolved_maybe =
    DataTree (at 4 1) (declared 4 6 (codes "Maybe")) ((declared 4 12 (codes "A")) ∷ []) (constructor (declared 4 17
    (codes "Nothing")) NoType ∷ constructor (declared 4 27 (codes "Just")) (NextType (ParameterType (at 4 32) 0) NoType)
    ∷ [])

-- data Pair<A, B> = Pair(A, B);
abbrev pub resolved_pair : DeclTree
resolved_pair =
    DataTree (at 5 1) (declared 5 6 (codes "Pair")) ((declared 5 11 (codes "A")) ∷ (declared 5 14 (codes "B")) ∷ [])
    (constructor (declared 5 19 (codes "Pair")) (NextType (ParameterType (at 5 24) 0) (NextType (ParameterType (at 5 27) 1)
    NoType)) ∷ [])

-- the types, in order; the first two have no types inside, so they are as they are written
unfoldable pub prelude_types : List DeclTree
prelude_types = unit_data ∷ bool_data ∷ resolved_list ∷ resolved_maybe ∷ resolved_pair ∷ []

-- their names, in the same order
abbrev pub prelude_type_names : List Name
prelude_type_names = codes "Unit" ∷ codes "Bool" ∷ codes "List" ∷ codes "Maybe" ∷ codes "Pair" ∷ []

-- whether a declaration is data with the name of a type of the prelude
abbrev pub names_prelude_type : DeclTree → Bool
names_prelude_type (DataTree place name type_params constructors) = list_any (bytes_eq name.name) prelude_type_names
names_prelude_type _ = false

-- the constructor without parts at an index among those of the data at an index of declarations
abbrev pub without_parts : (declaration index : ℕ) → ConstructorMeaning
without_parts declaration index = record {
  taking = record { declaration = declaration; arity = 0 };
  index = index;
}

-- A source declares the types of the prelude first, and then others.
pub record BeginsWithPrelude (source : SourceTree) : Type 0 where
  pub others : List DeclTree
  pub are : source.declarations ≡ prelude_types ++ others
