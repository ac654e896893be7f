-- The join of several types, after some of them.
--
--   `JoinedSoFar`                              what a loop over the types keeps
--   `JoinedSoFar-first`, `JoinedSoFar-next`    it is so at first, and after one more type
--   `next_found`                               the next type is of the table
--   `joined_found`, `joined_failed`            the join of all, or that there is none
use Rattle.std.proofs.Common.{◌≡◌, ℕ, ◌+◌, ◌<◌, ◌≤◌, List, ◌∷◌, Option, Some, None, refl, sym, ap, ◌∙◌, get_or, length, drop, drop_of_length-le}
use Rattle.std.specs.Prelude.{option_and_then}
use Rattle.std.proofs.lemmas.List.{drop_more}
use Rattle.std.proofs.lemmas.List.Elements.{All-head, All-tail}
use Rattle.std.proofs.lemmas.Option.{same_Some}
use Rattle.abs_types.proofs.KeepLemmas.{among_kept, type_at_kept}
use Rattle.abs_types.specs.Joins.{join_all, join_of}
use Rattle.abs_types.specs.PlainTypes.{PlainType}
use Rattle.abs_types.specs.TypeShapes.{type_at, types_at, IsAmong}
use Rattle.abs_types.specs.TypeTables.{declarations_of, types_in}
use Rattle.abs_types.specs.Typing.{join_branches}
use Rattle.abs_types.specs.declared.table.shape.TypeIndex.{TypeIndex}
use Rattle.check_fun.proofs.ContextLemmas.{knows_stays, stays_reflexive, stays_transitive}
use Rattle.check_fun.proofs.RuleLemmas.{declarations_are, declarations_stay}
use Rattle.check_fun.specs.Contexts.{context_in, Context, FindsAll, Finds, FoundAll, Found, Knows, Stays}
use Rattle.check_fun.specs.declared.checker.Checker.{Checker}

-- The types from an index on are left. With the join so far they give what all types give.
pub record JoinedSoFar (before now : Checker) (first : TypeIndex) (others : List TypeIndex) (found : TypeIndex)
    (index : ℕ) : Type 0 where
  pub first_is : now.first ≡ before.first
  pub stays : Stays before now
  pub others_are : FoundAll before (Some others)
  pub found_is : Found now (Some found)
  pub so_far : join_all (declarations_of before.table) (type_at (types_in now.table) found)
      (types_at (types_in before.table) (drop index others))
      ≡ join_all (declarations_of before.table) (type_at (types_in before.table) first)
      (types_at (types_in before.table) others)

-- before the others the join is the first type
pub JoinedSoFar-first : {checker : Checker} {types others : List TypeIndex} {first : TypeIndex}
    → types ≡ first ∷ others → FoundAll checker (Some types) → JoinedSoFar checker checker first others first 0
JoinedSoFar-first {checker} {others = others} {first = first} types_are found =
    let found_are : FoundAll checker (Some (first ∷ others)) = rw types_are at found in
    record {
      first_is = refl;
      stays = stays_reflexive;
      others_are = record { among = All-tail (IsAmong (types_in checker.table)) first others found_are.among };
      found_is = record { among = All-head (IsAmong (types_in checker.table)) first others found_are.among };
      so_far = refl;
    }

-- the next type is of the table
pub next_found : {before now : Checker} {first found : TypeIndex} {others : List TypeIndex} {index : ℕ}
    (default : TypeIndex) → JoinedSoFar before now first others found index → index < length others
    → Found now (Some (get_or others index default))
next_found {index = index} default so there =
    record { among = among_kept so.stays.keeps (so.others_are.among index default there) }

-- the join with the next type, followed by the others, is that of all
next_joined : {before now : Checker} {context : Context} {first found : TypeIndex} {others : List TypeIndex} {index : ℕ}
    (default : TypeIndex) (joined : Option PlainType) → JoinedSoFar before now first others found index
    → index < length others → Knows now context
    → joined ≡ join_of context.declarations (type_at (types_in now.table) found)
    (type_at (types_in now.table) (get_or others index default))
    → option_and_then (λ (one : PlainType). join_all (declarations_of before.table) one
    (types_at (types_in before.table) (drop (index + 1) others))) joined
    ≡ join_all (declarations_of before.table) (type_at (types_in before.table) first)
    (types_at (types_in before.table) others)
next_joined {before} {now} {found = found} {others = others} {index = index} default joined so there knows is =
    let met : joined ≡ join_of (declarations_of before.table) (type_at (types_in now.table) found)
    (type_at (types_in before.table) (get_or others index default)) =
    rw (
      declarations_stay so.stays knows,
      sym (type_at_kept so.stays.keeps (so.others_are.among index default there)),
    ) is in
    ap (option_and_then (λ (one : PlainType). join_all (declarations_of before.table) one
    (types_at (types_in before.table) (drop (index + 1) others)))) met
    ∙ (rw (drop_more others index default there) at so.so_far)

-- it is so after one more type
pub JoinedSoFar-next : {before now later : Checker} {first found joined : TypeIndex} {others : List TypeIndex}
    {index : ℕ} (default : TypeIndex) → JoinedSoFar before now first others found index → index < length others
    → later.first ≡ now.first → Stays now later
    → Finds later (Some joined) (join_of (context_in now).declarations (type_at (types_in now.table) found)
    (type_at (types_in now.table) (get_or others index default)))
    → JoinedSoFar before later first others joined (index + 1)
JoinedSoFar-next {later = later} {joined = joined} default so there first_is stays finds = record {
  first_is = first_is ∙ so.first_is;
  stays = stays_transitive so.stays stays;
  others_are = so.others_are;
  found_is = finds.found_is;
  so_far = next_joined default (Some (type_at (types_in later.table) joined)) so there (record { is = refl }) finds.is;
}

-- the join of branches is that of their types
branches_are : {before : Checker} {context : Context} {types others : List TypeIndex} {first : TypeIndex}
    {plain_types : List PlainType} → types ≡ first ∷ others → Knows before context
    → FindsAll before (Some types) (Some plain_types)
    → join_branches context.declarations plain_types
    ≡ join_all (declarations_of before.table) (type_at (types_in before.table) first)
    (types_at (types_in before.table) others)
branches_are types_are knows all =
    rw (sym (same_Some _ _ all.are), types_are, sym (declarations_are knows)) refl

-- after all types it is their join
pub joined_found : {before now : Checker} {context : Context} {types others : List TypeIndex}
    {first found : TypeIndex} {index : ℕ} {plain_types : List PlainType}
    → JoinedSoFar before now first others found index → types ≡ first ∷ others → length others ≤ index
    → Knows before context → FindsAll before (Some types) (Some plain_types)
    → Finds now (Some found) (join_branches context.declarations plain_types)
joined_found {others = others} so types_are done knows all = record {
  found_is = so.found_is;
  is = (rw (drop_of_length-le others done) at so.so_far) ∙ sym (branches_are types_are knows all);
}

-- where one more type has no join with those before it, there is none
pub joined_failed : {before now later : Checker} {context : Context} {types others : List TypeIndex}
    {first found : TypeIndex} {index : ℕ} {plain_types : List PlainType} (default : TypeIndex)
    → JoinedSoFar before now first others found index → types ≡ first ∷ others → index < length others
    → Knows before context → FindsAll before (Some types) (Some plain_types)
    → Finds later None (join_of context.declarations (type_at (types_in now.table) found)
    (type_at (types_in now.table) (get_or others index default)))
    → Finds later None (join_branches context.declarations plain_types)
joined_failed default so types_are there knows all finds = record {
  found_is = finds.found_is;
  is = next_joined default None so there (knows_stays so.stays knows) finds.is
      ∙ sym (branches_are types_are knows all);
}
