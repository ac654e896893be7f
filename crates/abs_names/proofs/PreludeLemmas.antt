-- The types of the prelude come first in each resolved source, as they are.
use Rattle.std.proofs.Common.{◌≡◌, List, [], ◌∷◌, ◌++◌, refl, ap}
use Rattle.std.specs.Prelude.{codes, Option, Some, None}
use Rattle.abs_prelude.specs.Prelude.{at, declared, constructor, prelude, unit_data, bool_data, list_data, maybe_data, pair_data, head_function, tail_function, is_empty_function, length_function, nth_function, append_function, fst_function, snd_function, from_just_function}
use Rattle.abs_program.proofs.KeptMeaningLemmas.{types_stay}
use Rattle.abs_program.specs.NameSpaces.{NameSpaces, built_in, with_declaration, spaces_of}
use Rattle.abs_program.specs.PreludeTypes.{resolved_list, resolved_maybe, resolved_pair, prelude_types, BeginsWithPrelude}
use Rattle.abs_program.specs.Tables.{meaning_of}
use Rattle.abs_program.specs.declared.name_spaces.TypeMeaning.{TypeMeaning}
use Rattle.abs_program.specs.declared.name_spaces.TypeMeaning.TheVariants as type
use Rattle.abs_tree.specs.Syntax.{NoType, NextType, ParameterType, DeclTree, DataTree, SourceTree}
use Rattle.abs_names.specs.Resolution.{resolved_declaration, resolved_declarations, resolved}
use Rattle.abs_names.specs.TypeNames.{named_type}

-- the functions of the prelude
abbrev functions : List DeclTree
functions =
    head_function ∷ tail_function ∷ is_empty_function ∷ length_function ∷ nth_function ∷ append_function ∷ fst_function
    ∷ snd_function ∷ from_just_function ∷ []

-- the name spaces of the declarations of a source have the meaning of `List` as it is declared by the prelude
list_means : (source : List DeclTree)
    → meaning_of (spaces_of (prelude ++ source)).types (codes "List")
    ≡ Some (type.Data (record { declaration = 2; arity = 1 }))
unfolding prelude
list_means source =
    types_stay 3 (with_declaration 2 (with_declaration 1 (with_declaration 0 built_in unit_data) bool_data) list_data)
    (maybe_data ∷ pair_data ∷ functions ++ source) (codes "List")
    (type.Data (record { declaration = 2; arity = 1 })) refl

-- `List` is resolved where its name means itself
list_resolved : (spaces : NameSpaces) → meaning_of spaces.types (codes "List")
    ≡ Some (type.Data (record { declaration = 2; arity = 1 }))
    → resolved_declaration spaces list_data ≡ resolved_list
list_resolved spaces means =
    ap (λ (meaning : Option TypeMeaning). DataTree (at 3 1) (declared 3 6 (codes "List"))
    ((declared 3 11 (codes "A")) ∷ []) (constructor (declared 3 16 (codes "Nil")) NoType
    ∷ constructor (declared 3 22 (codes "Cons")) (NextType (ParameterType (at 3 27) 0)
    (NextType (named_type (at 3 30) (codes "List") (NextType (ParameterType (at 3 35) 0) NoType) None meaning) NoType))
    ∷ [])) means

-- a resolved source begins with the types of the prelude
pub resolved_begins : (source : SourceTree) → BeginsWithPrelude (resolved source)
unfolding prelude prelude_types
resolved_begins source =
    let spaces = spaces_of (prelude ++ source.declarations) in
    record {
      others = resolved_declarations spaces (functions ++ source.declarations);
      are = ap (λ (list : DeclTree). unit_data ∷ bool_data ∷ list ∷ resolved_maybe ∷ resolved_pair
          ∷ resolved_declarations spaces (functions ++ source.declarations))
          (list_resolved spaces (list_means source.declarations));
    }
