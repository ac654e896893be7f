-- Types of slots and of fields that a checker finds, one after the other.
--
--   `FindSlots`                        the types at indices of slots are these
--   `one_more_slot`                    one more is found
--   `view_more`                        what is seen of one more item
--   `slots_found`, `fields_found`      those of all slots and of all fields were found
use denote.Ref.{Bor}
use Rattle.std.proofs.Common.{◌≡◌, ℕ, ◌+◌, ◌<◌, ◌≤◌, List, [], ◌∷◌, ◌++◌, All, Option, Some, get_or, length, map, option_map, take, refl, sym, ap, ap₂, ◌∙◌, subst}
use Rattle.std.proofs.lemmas.List.{map-append, map_more, take_all}
use Rattle.std.proofs.lemmas.List.Elements.{All-head, All-push, All-tail}
use Rattle.abs_tree.specs.declared.syntax.types.TypeTerm.{TypeTerm}
use Rattle.abs_types.specs.PlainTypes.{PlainType, plain}
use Rattle.abs_types.specs.TypeShapes.{type_at}
use Rattle.abs_types.specs.TypeTables.{types_in}
use Rattle.abs_types.specs.declared.table.shape.TypeIndex.{TypeIndex}
use Rattle.check_fun.proofs.ContextLemmas.{found_stays, maybe_same}
use Rattle.check_fun.proofs.SchemeLemmas.{SoFar}
use Rattle.check_fun.specs.Contexts.{types_known, Context, Finds, FindsAll, Found, Knows, Stays}
use Rattle.check_fun.specs.declared.checker.Checker.{Checker}
use Rattle.contract_infer.specs.DeclaredTypes.{maybe_types, type_trees_at}

-- Indices of slots are of the table, and the types at them are these. A slot without an index has no type.
pub record FindSlots (checker : Checker) (found : List (Option TypeIndex)) (types : List (Option PlainType)) : Type 0
  where
    pub among : All (Found checker) found
    pub are : types_known (types_in checker.table) found ≡ types

-- the types at them are the same later
known_stays : {before now : Checker} (found : List (Option TypeIndex)) → Stays before now → All (Found before) found
    → types_known (types_in now.table) found ≡ types_known (types_in before.table) found
known_stays [] stays among = refl
known_stays {before} (first ∷ others) stays among =
    ap₂ (λ (one : Option PlainType) (more : List (Option PlainType)). one ∷ more)
    (maybe_same first stays.keeps (All-head (Found before) first others among).among)
    (known_stays others stays (All-tail (Found before) first others among))

-- one more index is found after others
pub one_more_slot : {now next : Checker} {found after : List (Option TypeIndex)} {index : Option TypeIndex}
    {types more : List (Option PlainType)} {type : Option PlainType} → Stays now next → FindSlots now found types
    → Finds next index type → after ≡ found ++ index ∷ [] → more ≡ types ++ type ∷ [] → FindSlots next after more
one_more_slot {next = next} {found = found} {index = index} stays before one added is =
    let at = option_map (type_at (types_in next.table)) in
    record {
      among = rw added (All-push (Found next) found index
          (λ place default below. found_stays stays (before.among place default below)) one.found_is);
      are = ap (map at) added ∙ (map-append at found (index ∷ [])
          ∙ (ap₂ (λ (xs : List (Option PlainType)) (x : Option PlainType). xs ++ x ∷ [])
          (known_stays found stays before.among ∙ before.are) one.is ∙ sym is));
    }

-- what is seen of one more item follows what is seen of those before it
pub view_more : {A B C : Type 0} (kind : B → C) (view : A → B) (items : List A) (index : ℕ) (item : A)
    → index < length items → item ≡ get_or items index item
    → map kind (map view (take (index + 1) items)) ≡ map kind (map view (take index items)) ++ kind (view item) ∷ []
view_more {A} kind view items index item there is =
    ap (map kind) (map_more view items index item there)
    ∙ (map-append kind (map view (take index items)) (view (get_or items index item) ∷ [])
    ∙ ap (λ (one : A). map kind (map view (take index items)) ++ kind (view one) ∷ []) (sym is))

-- the types of all slots were found
pub slots_found : {start now : Checker} {found : List (Option TypeIndex)} {index : ℕ}
    (terms : List (Option (Bor TypeTerm)))
    → SoFar start now (λ (context : Context). FindSlots now found
    (map (option_map plain) (maybe_types context.names (take index terms))))
    → length terms ≤ index → (context : Context) → Knows start context
    → FindSlots now found (map (option_map plain) (maybe_types context.names terms))
slots_found {now = now} {found = found} {index = index} terms so over context knows =
    subst (λ (all : List (Option (Bor TypeTerm))). FindSlots now found
    (map (option_map plain) (maybe_types context.names all))) (take_all index terms over) (so.found context knows)

-- those of all fields were found
pub fields_found : {start now : Checker} {found : List TypeIndex} {index : ℕ} (terms : List (Bor TypeTerm))
    → SoFar start now (λ (context : Context). FindsAll now (Some found)
    (Some (map plain (type_trees_at context.names (take index terms)))))
    → length terms ≤ index → (context : Context) → Knows start context
    → FindsAll now (Some found) (Some (map plain (type_trees_at context.names terms)))
fields_found {now = now} {found = found} {index = index} terms so over context knows =
    subst (λ (all : List (Bor TypeTerm)). FindsAll now (Some found)
    (Some (map plain (type_trees_at context.names all)))) (take_all index terms over) (so.found context knows)
