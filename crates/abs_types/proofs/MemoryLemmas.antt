-- The joins that a table remembers.
--
--   `remembered_found`, `remembered_among`     what is found among them is right, and among the types
--   `remembered_inserted`                      they are right after one more is put there
use denote.Struct.Props as logic
use mathlib.Core.Logic.{∥∥₁_elim}
use Rattle.std.proofs.Common.{◌≡◌, Bool, true, false, List, [], ◌∷◌, All, Result, Ok, Err, Option, Some, None, refl, sym, subst, rules}
use Rattle.std.proofs.Math.Logic.{∥∥₁_map}
use Rattle.std.proofs.lemmas.List.Elements.{All-cons, All-head, All-tail}
use Rattle.std.proofs.lemmas.Map.Entries.{place_from_lookup}
use Rattle.std.proofs.lemmas.Option.{slice_get_within, get_or_from_slice_get}
use Rattle.std.specs.Map.{lookup}
use Rattle.std.specs.Prelude.{option_map, IfSome, OnOk, OnErr, if◌then◌else◌}
use Rattle.indexmap.specs.IndexMap.{insert_entry}
use Rattle.abs_tree.specs.Syntax.{DeclTree}
use Rattle.abs_types.proofs.TypeSetLemmas.{type_set}
use Rattle.abs_types.specs.Joins.{join_of}
use Rattle.abs_types.specs.PlainTypes.{PlainType}
use Rattle.abs_types.specs.TypeShapes.{type_at, AreRemembered, IsAmong, IsRemembered}
use Rattle.abs_types.specs.contracts.table.shape.TypePairPartialEq.TheImpl as pair_equality
use Rattle.abs_types.specs.declared.table.shape.TypeIndex.{TypeIndex}
use Rattle.abs_types.specs.declared.table.shape.TypePair.{TypePair}

-- whether two pairs are equal
abbrev pair_eq : TypePair → TypePair → Bool
pair_eq = (pair_equality.eq-value).it

-- the test tells equal pairs
pair_eq_same : (one other : TypePair) → pair_eq one other ≡ true → one ≡ other
pair_eq_same one other reported = search rules

-- what is found among right joins is right
found_right : (declarations : List DeclTree) (types : List PlainType) (entries : List (TypePair × Option TypeIndex))
    (pair : TypePair) (found : Option TypeIndex) → Some found ≡ lookup (pair_eq pair) entries
    → AreRemembered declarations types entries → IsRemembered declarations types (pair, found)
found_right declarations types entries pair found is right =
    let place = place_from_lookup (pair_eq pair) entries found (sym is) in
    subst (λ (key : TypePair). IsRemembered declarations types (key, found)) (sym (pair_eq_same pair place.1 place.3))
    (subst (IsRemembered declarations types)
    (get_or_from_slice_get entries place.0 (place.1, found) (place.1, found) place.2)
    (right place.0 (place.1, found) (slice_get_within entries place.0 (place.1, found) place.2)))

-- an index that may be there is among types in one way at most
pub among-prop : (types : List PlainType) (found : Option TypeIndex) → IsProp (IfSome found (IsAmong types))
among-prop types None = Prim.hlevel logic.props
among-prop types (Some index) = Prim.hlevel logic.props

-- what is found among the joins of a table is that of its types
pub remembered_found : (declarations : List DeclTree) (types : List PlainType)
    (entries : List (TypePair × Option TypeIndex)) (pair : TypePair) (found : Option TypeIndex)
    → Some found ≡ lookup (pair_eq pair) entries → ∥ AreRemembered declarations types entries ∥₁
    → option_map (type_at types) found ≡ join_of declarations (type_at types pair.one) (type_at types pair.other)
remembered_found declarations types entries pair found is right =
    ∥∥₁_elim right (Prim.hlevel (logic.props, type_set))
    (λ all. (found_right declarations types entries pair found is all).is_join)

-- it is among the types
pub remembered_among : (declarations : List DeclTree) (types : List PlainType)
    (entries : List (TypePair × Option TypeIndex)) (pair : TypePair) (found : Option TypeIndex)
    → Some found ≡ lookup (pair_eq pair) entries → ∥ AreRemembered declarations types entries ∥₁
    → IfSome found (IsAmong types)
remembered_among declarations types entries pair found is right =
    ∥∥₁_elim right (among-prop types found)
    (λ all. (found_right declarations types entries pair found is all).joined)

-- what is so of each entry and of a new one is so after it is put there, where the test of the key is the same on both
put_first : (P : TypePair × Option TypeIndex → Type 0) (entry : TypePair × Option TypeIndex)
    (others : List (TypePair × Option TypeIndex)) (pair : TypePair) (found : Option TypeIndex) (reported : Bool)
    → pair_eq pair entry.0 ≡ reported → All P (entry ∷ others) → P (pair, found)
    → All P (insert_entry pair_eq others pair found)
    → All P (if reported then (entry.0, found) ∷ others else entry ∷ insert_entry pair_eq others pair found)
put_first P entry others pair found true same all own more =
    All-cons P (entry.0, found) others
    (subst (λ (key : TypePair). P (key, found)) (pair_eq_same pair entry.0 same) own) (All-tail P entry others all)
put_first P entry others pair found false same all own more =
    All-cons P entry (insert_entry pair_eq others pair found) (All-head P entry others all) more

-- what is so of each entry and of a new one is so after it is put there
put_all : (P : TypePair × Option TypeIndex → Type 0) (entries : List (TypePair × Option TypeIndex)) (pair : TypePair)
    (found : Option TypeIndex) → All P entries → P (pair, found) → All P (insert_entry pair_eq entries pair found)
put_all P [] pair found all own = All-cons P (pair, found) [] own all
put_all P (entry ∷ others) pair found all own =
    put_first P entry others pair found (pair_eq pair entry.0) refl all own
    (put_all P others pair found (All-tail P entry others all) own)

-- joins are right after one more is put there, or was to be
pub remembered_inserted : {T E : Type 0} (result : Result T E) (declarations : List DeclTree) (types : List PlainType)
    (entries later : List (TypePair × Option TypeIndex)) (pair : TypePair) (found : Option TypeIndex)
    → OnOk result (later ≡ insert_entry pair_eq entries pair found) → OnErr result (later ≡ entries)
    → IsRemembered declarations types (pair, found) → ∥ AreRemembered declarations types entries ∥₁
    → ∥ AreRemembered declarations types later ∥₁
remembered_inserted (Ok value) declarations types entries later pair found ok err own right =
    subst (λ (all : List (TypePair × Option TypeIndex)). ∥ AreRemembered declarations types all ∥₁) (sym ok)
    (∥∥₁_map right (λ all. put_all (IsRemembered declarations types) entries pair found all own))
remembered_inserted (Err error) declarations types entries later pair found ok err own right =
    subst (λ (all : List (TypePair × Option TypeIndex)). ∥ AreRemembered declarations types all ∥₁) (sym err) right
