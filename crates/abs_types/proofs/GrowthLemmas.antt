-- What is known of the entries of a table of types stays known with one more shape.
--
--   `AreKnown`                     what is known of the entries
--   `known_empty`, `known_push`    there are none, or one more
use Rattle.std.proofs.Common.{◌≡◌, ℕ, ◌<◌, ◌≤◌, ◌^◌, Bool, List, [], ◌∷◌, ◌++◌, Option, Some, None, ◌⊎◌, ⊎_elim, refl, sym, ap, ap₂, ◌∙◌, subst, length, map, slice_get, arith}
use Rattle.std.proofs.Math.Logic.{∥∥₁_map}
use Rattle.std.proofs.lemmas.Grind.{merely}
use Rattle.std.proofs.lemmas.List.{map-append, length-map, length_push}
use Rattle.std.proofs.lemmas.List.Elements.{All-nil, All-weaker}
use Rattle.std.proofs.lemmas.Option.{none-some}
use Rattle.std.specs.Prelude.{option_map, IfSome}
use Rattle.abs_tree.specs.Syntax.{Name, DeclTree}
use Rattle.abs_types.proofs.TypeTableLemmas.{Grow, types_of-grow, types_of-push}
use Rattle.abs_types.specs.PlainTypes.{PlainType}
use Rattle.abs_types.specs.Schemes.{has_parameter}
use Rattle.abs_types.specs.TypeShapes.{type_at, shape_type, types_of, HasPartsBelow, HasOwnNames, AreFormed, AreRemembered, IsRemembered, IsAmong}
use Rattle.abs_types.specs.declared.table.shape.Shape.{Shape}
use Rattle.abs_types.specs.declared.table.shape.TypeIndex.{TypeIndex}
use Rattle.abs_types.specs.declared.table.shape.TypePair.{TypePair}
use Rattle.list_facts.proofs.EntryLemmas.{slice_get-push}

-- what is so of each shape of a list, with its index, is so of those of a list with one more
each_push : (P : ℕ → Shape → Type 0) (shapes : List Shape) (last : Shape)
    → ((index : ℕ) (found : Shape) → slice_get shapes index ≡ Some found → P index found) → P (length shapes) last
    → (index : ℕ) (found : Shape) → slice_get (shapes ++ last ∷ []) index ≡ Some found → P index found
each_push P shapes last each own index found is =
    ⊎_elim (λ inside. each index found inside)
    (λ both. subst (λ (place : ℕ). P place found) both.0 (subst (P (length shapes)) both.1 own))
    (slice_get-push shapes last index found is)

-- one more shape whose parts are before it
formed_push : (names : List Name) (shapes : List Shape) (last : Shape) → AreFormed names shapes
    → HasPartsBelow (length shapes) last → HasOwnNames names last → AreFormed names (shapes ++ last ∷ [])
formed_push names shapes last formed parts own = record {
  parts = each_push HasPartsBelow shapes last formed.parts parts;
  names_are = each_push (λ index found. HasOwnNames names found) shapes last formed.names_are own;
}

-- the type that an index may stand for stays with more types
type_found : (types more : List PlainType) (found : Option TypeIndex) → Grow types more
    → IfSome found (IsAmong types) → option_map (type_at more) found ≡ option_map (type_at types) found
type_found types more None grow among = refl
type_found types more (Some index) grow among = ap Some (grow.same index.0 among)

-- an index that may be among types is among more types
found_among : (types more : List PlainType) (found : Option TypeIndex) → Grow types more
    → IfSome found (IsAmong types) → IfSome found (IsAmong more)
found_among types more None grow among = among
found_among types more (Some index) grow among = let longer = grow.longer in omega arith

-- a remembered join is that of its types among more types
remembered_grown : (declarations : List DeclTree) (types more : List PlainType) (entry : TypePair × Option TypeIndex)
    → Grow types more → IsRemembered declarations types entry → IsRemembered declarations more entry
remembered_grown declarations types more entry grow remembered =
    let longer = grow.longer in
    let one = remembered.one in
    let other = remembered.other in
    record {
      one = omega arith;
      other = omega arith;
      joined = found_among types more entry.1 grow remembered.joined;
      is_join = rw (grow.same entry.0.one.0 one, grow.same entry.0.other.0 other)
          (type_found types more entry.1 grow remembered.joined ∙ remembered.is_join);
    }

-- the shapes of entries, and whether a type parameter is in the type of each
abbrev pub entry_shapes : List (Shape × Bool) → List Shape
entry_shapes entries = map (λ (entry : Shape × Bool). entry.0) entries

abbrev entry_flags : List (Shape × Bool) → List Bool
entry_flags entries = map (λ (entry : Shape × Bool). entry.1) entries

-- What is known of the entries of a table, beside the joins that it remembers.
pub record AreKnown (names : List Name) (declarations : List DeclTree) (joins : List (TypePair × Option TypeIndex))
    (entries : List (Shape × Bool)) : Type 0 where
  pub few : length entries ≤ 2 ^ 31
  pub formed : AreFormed names (entry_shapes entries)
  pub flags : entry_flags entries ≡ map has_parameter (types_of names (entry_shapes entries))
  pub remembered : ∥ AreRemembered declarations (types_of names (entry_shapes entries)) joins ∥₁

-- nothing needs to be known of no entries
pub known_empty : (names : List Name) (declarations : List DeclTree) (entries : List (Shape × Bool))
    (joins : List (TypePair × Option TypeIndex)) → entries ≡ [] → joins ≡ [] → AreKnown names declarations joins entries
unfolding types_of
known_empty names declarations entries joins none nothing =
    subst (λ (entries : List (Shape × Bool)). AreKnown names declarations joins entries) (sym none) (record {
      few = omega arith;
      formed = record {
        parts = λ index found is. absurd (none-some found is);
        names_are = λ index found is. absurd (none-some found is);
      };
      flags = refl;
      remembered = merely (subst (λ (joins : List (TypePair × Option TypeIndex)). AreRemembered declarations [] joins)
          (sym nothing) (All-nil (IsRemembered declarations [])));
    })

-- it is known with one more entry
pub known_push : (names : List Name) (declarations : List DeclTree) (joins : List (TypePair × Option TypeIndex))
    (entries : List (Shape × Bool)) (last : Shape) (flag : Bool) → AreKnown names declarations joins entries
    → length entries < 2 ^ 31 → HasPartsBelow (length entries) last → HasOwnNames names last
    → flag ≡ has_parameter (shape_type names (types_of names (entry_shapes entries)) last)
    → AreKnown names declarations joins (entries ++ (last, flag) ∷ [])
known_push names declarations joins entries last flag known room parts own flag_is =
    let shapes = entry_shapes entries in
    let types = types_of names shapes in
    let pushed : entry_shapes (entries ++ (last, flag) ∷ []) ≡ shapes ++ last ∷ [] =
    map-append (λ (entry : Shape × Bool). entry.0) entries ((last, flag) ∷ []) in
    let count : length shapes ≡ length entries = length-map entries (λ (entry : Shape × Bool). entry.0) in
    record {
      few = omega (arith, length_push entries (last, flag));
      formed = subst (AreFormed names) (sym pushed)
          (formed_push names shapes last known.formed
          (subst (λ (place : ℕ). HasPartsBelow place last) (sym count) parts) own);
      flags = map-append (λ (entry : Shape × Bool). entry.1) entries ((last, flag) ∷ [])
          ∙ (ap₂ (λ (flags : List Bool) (one : Bool). flags ++ one ∷ []) known.flags flag_is
          ∙ (sym (map-append has_parameter types (shape_type names types last ∷ []))
          ∙ ap (map has_parameter) (sym (ap (types_of names) pushed ∙ types_of-push names shapes last))));
      remembered = subst (λ (all : List Shape). ∥ AreRemembered declarations (types_of names all) joins ∥₁) (sym pushed)
          (∥∥₁_map known.remembered (λ all. All-weaker (IsRemembered declarations types)
          (IsRemembered declarations (types_of names (shapes ++ last ∷ [])))
          (λ entry. remembered_grown declarations types (types_of names (shapes ++ last ∷ [])) entry
          (types_of-grow names shapes (last ∷ []))) joins all));
    }
