-- What type parameters have met, after some of the arguments of an application.
--
--   `AllMetSoFar`                              what a loop over the arguments keeps
--   `next_met`, `AllMetSoFar-next`             what the next argument gives, and that it is so after it
--   `lengths_failed`                           what is met where there are not as many arguments as types
--   `application_is`, `application_found`      the type of an application, by what has been met
use Rattle.std.proofs.Common.{◌≡◌, ℕ, zero, suc, ◌+◌, ◌<◌, List, [], ◌∷◌, Option, Some, None, All, refl, sym, ap, ap₂, ◌∙◌, get_or, length, drop, replicate}
use Rattle.std.specs.Prelude.{option_map, option_and_then}
use Rattle.std.proofs.lemmas.List.{drop_more}
use Rattle.abs_tree.specs.Syntax.{DeclTree}
use Rattle.abs_types.proofs.KeepLemmas.{type_at_kept, types_at_kept, keeps_transitive, declarations_kept}
use Rattle.abs_types.proofs.MetSoFarLemmas.{pair_kept}
use Rattle.abs_types.specs.Applications.{applied_type, meet, meet_all, replaced}
use Rattle.abs_types.specs.TypeParts.{ArePairAmong}
use Rattle.abs_types.specs.PlainTypes.{PlainType, PlainBottom}
use Rattle.abs_types.specs.TypeShapes.{type_at, types_at, IsAmong}
use Rattle.abs_types.specs.TypeTables.{declarations_of, types_in, Keeps, StandsFor}
use Rattle.abs_types.specs.declared.table.TypeTable.{TypeTable}
use Rattle.abs_types.specs.declared.table.shape.TypeIndex.{TypeIndex}
use Rattle.list_facts.proofs.OptionLemmas.{option_and_then-none}

-- The arguments from an index on are left. With what has been met so far they give what all arguments give.
pub record AllMetSoFar (before now : TypeTable) (takes given start met : List TypeIndex) (index : ℕ) : Type 0 where
  pub keeps : Keeps before now
  pub met_among : All (IsAmong (types_in now)) met
  pub so_far : meet_all (declarations_of before) (types_at (types_in before) (drop index takes))
      (types_at (types_in before) (drop index given)) (types_at (types_in now) met)
      ≡ meet_all (declarations_of before) (types_at (types_in before) takes) (types_at (types_in before) given)
      (types_at (types_in before) start)

-- nothing is met where there are not as many arguments as types
pub lengths_failed : (declarations : List DeclTree) (types : List PlainType) (takes given : List TypeIndex)
    (met : List PlainType) → (length takes ≡ length given → ⊥)
    → None ≡ meet_all declarations (types_at types takes) (types_at types given) met
lengths_failed declarations types [] [] met apart = absurd (apart refl)
lengths_failed declarations types [] (one ∷ given) met apart = refl
lengths_failed declarations types (first ∷ takes) [] met apart = refl
lengths_failed declarations types (first ∷ takes) (one ∷ given) met apart =
    sym (option_and_then-none (meet_all declarations (types_at types takes) (types_at types given))
    (λ (between : List PlainType). sym (lengths_failed declarations types takes given between
    (λ same. apart (ap suc same))))
    (meet declarations (type_at types first) (type_at types one) met))

-- the next argument comes first, with what has been met so far; nothing is met where it cannot be met
pub next_met : {before now : TypeTable} {takes given start met : List TypeIndex} {index : ℕ} (default : TypeIndex)
    (after : Option (List PlainType)) → AllMetSoFar before now takes given start met index
    → All (IsAmong (types_in before)) takes → All (IsAmong (types_in before)) given
    → index < length takes → index < length given
    → after ≡ meet (declarations_of now) (type_at (types_in now) (get_or takes index default))
    (type_at (types_in now) (get_or given index default)) (types_at (types_in now) met)
    → option_and_then (meet_all (declarations_of before) (types_at (types_in before) (drop (index + 1) takes))
    (types_at (types_in before) (drop (index + 1) given))) after
    ≡ meet_all (declarations_of before) (types_at (types_in before) takes) (types_at (types_in before) given)
    (types_at (types_in before) start)
next_met {before} {now} {takes} {given} {start} {met} {index} default after so takes_among given_among there other_there
    reported =
    let one = get_or takes index default in
    let other = get_or given index default in
    let types = types_in before in
    let pair_among : ArePairAmong types (record { one = one; other = other }) =
    (takes_among index default there, given_among index default other_there) in
    ap (option_and_then (meet_all (declarations_of before) (types_at types (drop (index + 1) takes))
    (types_at types (drop (index + 1) given))))
    (reported ∙ pair_kept (types_at (types_in now) met) so.keeps pair_among)
    ∙ (sym (ap₂ (λ (left right : List TypeIndex).
    meet_all (declarations_of before) (types_at types left) (types_at types right) (types_at (types_in now) met))
    (drop_more takes index default there) (drop_more given index default other_there))
    ∙ so.so_far)

-- it is so after one more argument
pub AllMetSoFar-next : {before now later : TypeTable} {takes given start met after : List TypeIndex} {index : ℕ}
    (default : TypeIndex) → AllMetSoFar before now takes given start met index
    → All (IsAmong (types_in before)) takes → All (IsAmong (types_in before)) given
    → index < length takes → index < length given → Keeps now later → All (IsAmong (types_in later)) after
    → Some (types_at (types_in later) after)
    ≡ meet (declarations_of now) (type_at (types_in now) (get_or takes index default))
    (type_at (types_in now) (get_or given index default)) (types_at (types_in now) met)
    → AllMetSoFar before later takes given start after (index + 1)
AllMetSoFar-next {before} {now} {later} {takes} {given} {start} {met} {after} {index} default so takes_among given_among
    there other_there keeps among reported = record {
      keeps = keeps_transitive so.keeps keeps;
      met_among = among;
      so_far = next_met default (Some (types_at (types_in later) after)) so takes_among given_among there
          other_there reported;
    }

-- before all arguments each type parameter has met no value
none_at_first : {table : TypeTable} {bottom : TypeIndex} (parameters : ℕ) → StandsFor table bottom PlainBottom
    → types_at (types_in table) (replicate parameters bottom) ≡ replicate parameters PlainBottom
none_at_first zero stands = refl
none_at_first (suc parameters) stands =
    ap₂ (λ (one : PlainType) (more : List PlainType). one ∷ more) stands.is (none_at_first parameters stands)

-- what all arguments give is that which they give in a table that was there before
first_met : {before start : TypeTable} {bottom : TypeIndex} (parameters : ℕ) (takes given : List TypeIndex)
    → Keeps before start → StandsFor start bottom PlainBottom → All (IsAmong (types_in before)) takes
    → All (IsAmong (types_in before)) given
    → meet_all (declarations_of start) (types_at (types_in start) takes) (types_at (types_in start) given)
    (types_at (types_in start) (replicate parameters bottom))
    ≡ meet_all (declarations_of before) (types_at (types_in before) takes) (types_at (types_in before) given)
    (replicate parameters PlainBottom)
first_met {before} {start} {bottom} parameters takes given keeps stands takes_among given_among =
    ap (λ (declarations : List DeclTree). meet_all declarations (types_at (types_in start) takes)
    (types_at (types_in start) given) (types_at (types_in start) (replicate parameters bottom)))
    (declarations_kept keeps)
    ∙ (ap₂ (λ (left right : List PlainType). meet_all (declarations_of before) left right
    (types_at (types_in start) (replicate parameters bottom)))
    (types_at_kept takes keeps takes_among) (types_at_kept given keeps given_among)
    ∙ ap (meet_all (declarations_of before) (types_at (types_in before) takes) (types_at (types_in before) given))
    (none_at_first parameters stands))

-- what has been met decides on the type of an application
pub application_is : {before start : TypeTable} {bottom : TypeIndex} {first : List TypeIndex} (parameters : ℕ)
    (takes given : List TypeIndex) (gives : PlainType) (found : Option (List PlainType)) → Keeps before start
    → StandsFor start bottom PlainBottom → All (IsAmong (types_in before)) takes
    → All (IsAmong (types_in before)) given → first ≡ replicate parameters bottom
    → found ≡ meet_all (declarations_of start) (types_at (types_in start) takes) (types_at (types_in start) given)
    (types_at (types_in start) first)
    → option_map (λ (met : List PlainType). replaced met gives) found
    ≡ applied_type (declarations_of before)
    (record { parameters = parameters; takes = types_at (types_in before) takes; gives = gives })
    (types_at (types_in before) given)
unfolding applied_type
application_is {before} {start} {bottom} {first} parameters takes given gives found keeps stands takes_among given_among
    is reported =
    ap (option_map (λ (met : List PlainType). replaced met gives))
    (reported ∙ (ap (λ (items : List TypeIndex). meet_all (declarations_of start) (types_at (types_in start) takes)
    (types_at (types_in start) given) (types_at (types_in start) items)) is
    ∙ first_met parameters takes given keeps stands takes_among given_among))

-- so it is found
pub application_found : {before start later after : TypeTable} {bottom gives : TypeIndex} {first : List TypeIndex}
    (parameters : ℕ) (takes given met : List TypeIndex) (found : TypeIndex) → Keeps before start
    → StandsFor start bottom PlainBottom → All (IsAmong (types_in before)) takes
    → All (IsAmong (types_in before)) given → IsAmong (types_in before) gives → first ≡ replicate parameters bottom
    → Keeps start later
    → Some (types_at (types_in later) met)
    ≡ meet_all (declarations_of start) (types_at (types_in start) takes) (types_at (types_in start) given)
    (types_at (types_in start) first)
    → StandsFor after found (replaced (types_at (types_in later) met) (type_at (types_in later) gives))
    → Some (type_at (types_in after) found)
    ≡ applied_type (declarations_of before) (record {
      parameters = parameters;
      takes = types_at (types_in before) takes;
      gives = type_at (types_in before) gives;
    }) (types_at (types_in before) given)
application_found {before} {start} {later} {after} {bottom} {gives} {first} parameters takes given met found keeps
    stands takes_among given_among gives_among is keeps_too reported found_is =
    ap Some (found_is.is ∙ ap (replaced (types_at (types_in later) met))
    (type_at_kept (keeps_transitive keeps keeps_too) gives_among))
    ∙ application_is parameters takes given (type_at (types_in before) gives) (Some (types_at (types_in later) met))
    keeps stands takes_among given_among is reported
