-- Applied types that are walked down their heads.
--
--   `has_parts`, `not_walked`, `not_both_walked`   what the shape of a type says of it
--   `applied_back-push`, `met_back-push`           one more argument before the others
--   `IsSpine-next`, `AreMetSpines-next`               a type, or two, after one more head
use Rattle.std.proofs.Common.{◌≡◌, ◌<◌, true, false, List, [], ◌∷◌, ◌++◌, Option, refl, sym, ap, ap₂, ◌∙◌, arith}
use Rattle.std.specs.Prelude.{option_and_then}
use Rattle.std.proofs.lemmas.List.{map-append}
use Rattle.std.proofs.lemmas.List.Elements.{All-push}
use Rattle.abs_tree.specs.Syntax.{Name, DeclTree}
use Rattle.abs_types.specs.Applications.{meet}
use Rattle.abs_types.specs.Heads.{is_walked, are_walked, applied_back, met_back, HasParts, ArePairParts, IsSpine, AreMetSpines}
use Rattle.abs_types.specs.TypeParts.{ArePairAmong}
use Rattle.abs_types.specs.PlainTypes.{PlainType, PlainApplied}
use Rattle.abs_types.specs.Schemes.{has_parameter}
use Rattle.abs_types.specs.TypeShapes.{shape_type, type_at, types_at, HasPartsBelow}
use Rattle.abs_types.specs.declared.table.shape.Shape.{Shape}
use Rattle.abs_types.specs.declared.table.shape.Shape.TheVariants as shape
use Rattle.abs_types.specs.declared.table.shape.TypeIndex.{TypeIndex}
use Rattle.abs_types.specs.declared.table.shape.TypePair.{TypePair}

-- the shape of an applied type has its parts
pub has_parts : (names : List Name) {types : List PlainType} {index head argument : TypeIndex} {found : Shape}
    → found ≡ shape.Applied head argument → type_at types index ≡ shape_type names types found
    → HasPartsBelow index.0 found → HasParts types index head argument
unfolding shape_type
has_parts names {types} {index} {head} {argument} {found} is stands below =
    let parts = rw is at below in record {
      head_below = parts.0;
      argument_below = parts.1;
      is = stands ∙ ap (shape_type names types) is;
    }

-- a type of another shape is not applied
shape_not_walked : (names : List Name) (types : List PlainType) (found : Shape)
    → ((head argument : TypeIndex) → found ≡ shape.Applied head argument → ⊥)
    → is_walked (shape_type names types found) ≡ false
unfolding shape_type
shape_not_walked names types (shape.Applied head argument) other = absurd (other head argument refl)
shape_not_walked names types found other = refl

-- so a type whose shape is another one is not walked
pub not_walked : (names : List Name) (types : List PlainType) {one : PlainType} {found : Shape}
    → ((head argument : TypeIndex) → found ≡ shape.Applied head argument → ⊥)
    → one ≡ shape_type names types found → is_walked one ≡ false
not_walked names types {one} {found} other stands = ap is_walked stands ∙ shape_not_walked names types found other

-- nor are two types, if the second is of another shape
second_not_walked : (takes : PlainType) (names : List Name) (types : List PlainType) (found : Shape)
    → ((head argument : TypeIndex) → found ≡ shape.Applied head argument → ⊥)
    → are_walked takes (shape_type names types found) ≡ false
unfolding shape_type
second_not_walked takes names types (shape.Applied head argument) other = absurd (other head argument refl)
second_not_walked takes names types found other = refl

-- so two types are not walked if the shape of the second is another one
pub not_both_walked : (takes : PlainType) (names : List Name) (types : List PlainType) {given : PlainType}
    {found : Shape} → ((head argument : TypeIndex) → found ≡ shape.Applied head argument → ⊥)
    → given ≡ shape_type names types found → are_walked takes given ≡ false
not_both_walked takes names types {given} {found} other stands =
    ap (are_walked takes) stands ∙ second_not_walked takes names types found other

-- one more argument before the others
pub applied_back-push : (head argument : PlainType) (arguments : List PlainType)
    → applied_back (PlainApplied head argument) arguments ≡ applied_back head (arguments ++ argument ∷ [])
applied_back-push head argument [] = refl
applied_back-push head argument (last ∷ before) =
    ap (λ (one : PlainType). PlainApplied one last) (applied_back-push head argument before)

-- a head that is applied is one more head with one more argument
pub IsSpine-next : {types : List PlainType} {index head inner argument : TypeIndex}
    {arguments after : List TypeIndex} → IsSpine types index head arguments → HasParts types head inner argument
    → after ≡ arguments ++ argument ∷ [] → IsSpine types index inner after
IsSpine-next {types} {index} {head} {inner} {argument} {arguments} {after} spine parts added =
    let inner_below = parts.head_below in
    let argument_below = parts.argument_below in
    let head_below = spine.head_below in record {
      head_below = omega arith;
      arguments_below = rw added (All-push (λ (one : TypeIndex). one.0 < index.0) arguments argument
          spine.arguments_below (omega arith));
      is = spine.is ∙ (ap (λ (one : PlainType). applied_back one (types_at types arguments)) parts.is
          ∙ (applied_back-push (type_at types inner) (type_at types argument) (types_at types arguments)
          ∙ (ap (applied_back (type_at types inner)) (sym (map-append (type_at types) arguments (argument ∷ [])))
          ∙ ap (λ (items : List TypeIndex). applied_back (type_at types inner) (types_at types items)) (sym added))));
    }

-- one more pair of arguments before the others
pub met_back-push : (declarations : List DeclTree) (types : List PlainType) (met : Option (List PlainType))
    (argument : TypePair) (arguments : List TypePair)
    → met_back declarations types (option_and_then
    (meet declarations (type_at types argument.one) (type_at types argument.other)) met) arguments
    ≡ met_back declarations types met (arguments ++ argument ∷ [])
met_back-push declarations types met argument [] = refl
met_back-push declarations types met argument (last ∷ before) =
    ap (option_and_then (meet declarations (type_at types last.one) (type_at types last.other)))
    (met_back-push declarations types met argument before)

-- applied data with a type parameter meets the same by its head and its argument
meet_parts : (declarations : List DeclTree) (head argument given_head given_argument : PlainType)
    (met : List PlainType) → has_parameter (PlainApplied head argument) ≡ true
    → meet declarations (PlainApplied head argument) (PlainApplied given_head given_argument) met
    ≡ option_and_then (meet declarations argument given_argument) (meet declarations head given_head met)
unfolding meet
meet_parts declarations head argument given_head given_argument met inside = rw inside refl

-- so do two types of a table, by their parts
pairs_met : {types : List PlainType} {heads inner argument : TypePair} (declarations : List DeclTree)
    (met : List PlainType) → ArePairParts types heads inner argument
    → meet declarations (type_at types heads.one) (type_at types heads.other) met
    ≡ option_and_then (meet declarations (type_at types argument.one) (type_at types argument.other))
    (meet declarations (type_at types inner.one) (type_at types inner.other) met)
pairs_met {types} {heads} {inner} {argument} declarations met parts =
    ap₂ (λ (one other : PlainType). meet declarations one other met) parts.one.is parts.other.is
    ∙ meet_parts declarations (type_at types inner.one) (type_at types argument.one) (type_at types inner.other)
    (type_at types argument.other) met (sym (ap has_parameter parts.one.is) ∙ parts.walked)

-- two heads that are applied are one more pair of heads with one more pair of arguments
pub AreMetSpines-next : {declarations : List DeclTree} {types : List PlainType} {pair heads inner argument : TypePair}
    {arguments after : List TypePair} → AreMetSpines declarations types pair heads arguments
    → ArePairParts types heads inner argument → after ≡ arguments ++ argument ∷ []
    → AreMetSpines declarations types pair inner after
AreMetSpines-next {declarations} {types} {pair} {heads} {inner} {argument} {arguments} {after} spines parts added =
    let one_below = parts.one.head_below in
    let argument_below = parts.one.argument_below in
    let other_below = parts.other.head_below in
    let other_argument_below = parts.other.argument_below in
    let heads_below = spines.heads_below in
    let one_among = spines.heads_among.0 in
    let other_among = spines.heads_among.1 in record {
      heads_among = (omega arith, omega arith);
      heads_below = omega arith;
      arguments_among = rw added (All-push (ArePairAmong types) arguments argument spines.arguments_among
          (omega arith, omega arith));
      arguments_below = rw added (All-push (λ (one : TypePair). one.one.0 < pair.one.0) arguments argument
          spines.arguments_below (omega arith));
      meets = λ met.
          let first = meet declarations (type_at types inner.one) (type_at types inner.other) met in
          spines.meets met
          ∙ (ap (λ (before : Option (List PlainType)). met_back declarations types before arguments)
          (pairs_met declarations met parts)
          ∙ (met_back-push declarations types first argument arguments
          ∙ ap (met_back declarations types first) (sym added)));
    }
