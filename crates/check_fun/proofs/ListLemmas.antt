-- Lists of indices that a loop finds one by one.
--
--   `found_at`                             each of several indices that are found is found
--   `ReplacedTypes`                        the types of several indices were found, with type parameters replaced
--   `replaced_none`, `replaced_pushed`     they were before the first one, and after one more
--   `replaced_all`                         what was found after all
use Rattle.std.proofs.Common.{◌≡◌, ℕ, ◌+◌, ◌<◌, ◌≤◌, List, [], ◌∷◌, ◌++◌, Some, get_or, length, map, take, take_all, refl, ap, ap₂, ◌∙◌}
use Rattle.std.proofs.lemmas.List.{take_more, map-append}
use Rattle.std.proofs.lemmas.List.Elements.{All-push, All-get_or}
use Rattle.std.proofs.lemmas.Option.{same_Some}
use Rattle.abs_types.specs.Applications.{replaced}
use Rattle.abs_types.specs.PlainTypes.{PlainType}
use Rattle.abs_types.specs.TypeShapes.{type_at, types_at, IsAmong}
use Rattle.abs_types.specs.TypeTables.{types_in}
use Rattle.abs_types.specs.declared.table.shape.TypeIndex.{TypeIndex}
use Rattle.check_fun.proofs.ContextLemmas.{finds_stays, finds_all_stays, stays_reflexive, stays_transitive}
use Rattle.check_fun.specs.Contexts.{Found, Finds, FoundAll, FindsAll, Stays}
use Rattle.check_fun.specs.declared.checker.Checker.{Checker}
use Rattle.check_fun.proofs.FoundLemmas.{finds_all_own, finds_all_none}

-- an index that is found stands for its type
finds_itself : {checker : Checker} {index : TypeIndex} → Found checker (Some index)
    → Finds checker (Some index) (Some (type_at (types_in checker.table) index))
finds_itself found = record { found_is = found; is = refl }

-- each of several indices that are found is found
pub found_at : {checker : Checker} {indices : List TypeIndex} (count : ℕ) (default : TypeIndex)
    → count < length indices → FoundAll checker (Some indices) → Found checker (Some (get_or indices count default))
found_at {checker} {indices} count default below found = record {
  among = All-get_or (IsAmong (types_in checker.table)) indices count default below found.among;
}

-- indices with one more stand for their types and its type
finds_pushed : {checker : Checker} (done : List TypeIndex) (types : List PlainType) (index : TypeIndex)
    (type : PlainType) → FindsAll checker (Some done) (Some types) → Finds checker (Some index) (Some type)
    → FindsAll checker (Some (done ++ index ∷ [])) (Some (types ++ type ∷ []))
finds_pushed {checker} done types index type were finds = record {
  found_are = record {
    among = All-push (IsAmong (types_in checker.table)) done index were.found_are.among finds.found_is.among;
  };
  are = ap Some (map-append (type_at (types_in checker.table)) done (index ∷ [])
      ∙ ap₂ (λ (before : List PlainType) (one : PlainType). before ++ one ∷ [])
      (same_Some _ _ were.are) (same_Some _ _ finds.is));
}

-- Type parameters are replaced in the types of some of the indices, in their order.
pub record ReplacedTypes (before now : Checker) (types indices done : List TypeIndex) : Type 0 where
  pub stays : Stays before now
  pub first_is : now.first ≡ before.first
  pub found : FindsAll now (Some done) (Some (map (replaced (types_at (types_in before.table) types))
      (types_at (types_in before.table) indices)))

-- it is so before the first of them
pub replaced_none : {checker : Checker} (types : List TypeIndex) → ReplacedTypes checker checker types [] []
replaced_none types = record { stays = stays_reflexive; first_is = refl; found = finds_all_none }

-- it is so after one more
pub replaced_pushed : {before between now : Checker} (types indices done : List TypeIndex) (count : ℕ)
    (default found : TypeIndex) → ReplacedTypes before between types (take count indices) done
    → count < length indices → FoundAll before (Some types) → FoundAll before (Some indices)
    → ((arguments : List PlainType) (type : PlainType) → FindsAll between (Some types) (Some arguments)
    → Finds between (Some (get_or indices count default)) (Some type)
    → Finds now (Some found) (Some (replaced arguments type)))
    → now.first ≡ between.first → Stays between now
    → ReplacedTypes before now types (take (count + 1) indices) (done ++ found ∷ [])
replaced_pushed {before} {between} {now} types indices done count default found so below types_found indices_found
    replaces first stays =
    let all = types_in before.table in
    let index = get_or indices count default in
    let one : Finds now (Some found) (Some (replaced (types_at all types) (type_at all index))) =
    replaces (types_at all types) (type_at all index) (finds_all_stays so.stays (finds_all_own types_found))
    (finds_stays so.stays (finds_itself (found_at count default below indices_found))) in
    record {
      stays = stays_transitive so.stays stays;
      first_is = first ∙ so.first_is;
      found = rw (take_more indices count default below, map-append, map-append)
          (finds_pushed done (map (replaced (types_at all types)) (types_at all (take count indices))) found
          (replaced (types_at all types) (type_at all index)) (finds_all_stays stays so.found) one);
    }

-- after all indices their types are found, with type parameters replaced
pub replaced_all : {before now : Checker} (types indices done : List TypeIndex) (count : ℕ)
    → ReplacedTypes before now types (take count indices) done → length indices ≤ count
    → (arguments parts : List PlainType) → FindsAll before (Some types) (Some arguments)
    → FindsAll before (Some indices) (Some parts) → FindsAll now (Some done) (Some (map (replaced arguments) parts))
replaced_all {before} types indices done count so ended arguments parts given taken =
    let arguments_are : types_at (types_in before.table) types ≡ arguments = same_Some _ _ given.are in
    let parts_are : types_at (types_in before.table) indices ≡ parts = same_Some _ _ taken.are in
    rw (← arguments_are, ← parts_are, ← take_all count indices ended) so.found
