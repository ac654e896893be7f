-- What type parameters have met, after some of the arguments of applied types.
--
--   `MetSoFar`, `MetSoFar-next`        what a loop over pairs of arguments keeps, also after one more pair
--   `next_among`, `next_below`         the next pair
--   `heads_failed`, `argument_failed`  nothing is met where heads or arguments cannot be met
--   `pair_kept`                        a pair is met by the same later
use Rattle.std.proofs.Common.{◌≡◌, ◌<◌, List, [], ◌∷◌, ◌++◌, Option, Some, None, All, refl, sym, ap, ap₂, ◌∙◌}
use Rattle.std.specs.Prelude.{option_and_then}
use Rattle.std.proofs.lemmas.List.Elements.{All-pop}
use Rattle.abs_tree.specs.Syntax.{DeclTree}
use Rattle.abs_types.proofs.HeadLemmas.{met_back-push}
use Rattle.abs_types.proofs.KeepLemmas.{among_kept, type_at_kept, keeps_transitive, declarations_kept}
use Rattle.abs_types.specs.Applications.{meet}
use Rattle.abs_types.specs.Heads.{met_back, AreMetSpines}
use Rattle.abs_types.specs.TypeParts.{ArePairAmong}
use Rattle.abs_types.specs.PlainTypes.{PlainType}
use Rattle.abs_types.specs.TypeShapes.{type_at, types_at, IsAmong}
use Rattle.abs_types.specs.TypeTables.{declarations_of, types_in, Keeps}
use Rattle.abs_types.specs.declared.table.TypeTable.{TypeTable}
use Rattle.abs_types.specs.declared.table.shape.TypeIndex.{TypeIndex}
use Rattle.abs_types.specs.declared.table.shape.TypePair.{TypePair}

-- Some pairs of arguments are left to be met, of the types of a table that was there before. With what has been met so
-- far they give what the whole types meet.
pub record MetSoFar (before now : TypeTable) (pair : TypePair) (start met : List TypeIndex) (arguments : List TypePair)
    : Type 0 where
  pub keeps : Keeps before now
  pub met_among : All (IsAmong (types_in now)) met
  pub arguments_among : All (ArePairAmong (types_in before)) arguments
  pub arguments_below : All (λ (argument : TypePair). argument.one.0 < pair.one.0) arguments
  pub so_far : met_back (declarations_of before) (types_in before) (Some (types_at (types_in now) met)) arguments
      ≡ meet (declarations_of before) (type_at (types_in before) pair.one) (type_at (types_in before) pair.other)
      (types_at (types_in before) start)

-- where the first arguments cannot be met, nor can the others
none_back : (declarations : List DeclTree) (types : List PlainType) (arguments : List TypePair)
    → met_back declarations types None arguments ≡ None
none_back declarations types [] = refl
none_back declarations types (last ∷ before) =
    ap (option_and_then (meet declarations (type_at types last.one) (type_at types last.other)))
    (none_back declarations types before)

-- so it is where the heads cannot be met
pub heads_failed : {declarations : List DeclTree} {types : List PlainType} {pair heads : TypePair}
    {arguments : List TypePair} (met : List PlainType) → AreMetSpines declarations types pair heads arguments
    → None ≡ meet declarations (type_at types heads.one) (type_at types heads.other) met
    → None ≡ meet declarations (type_at types pair.one) (type_at types pair.other) met
heads_failed {declarations} {types} {pair} {heads} {arguments} met spines reported =
    sym (spines.meets met
    ∙ (ap (λ (first : Option (List PlainType)). met_back declarations types first arguments) (sym reported)
    ∙ none_back declarations types arguments))

-- a pair is met by the same later
pub pair_kept : {before now : TypeTable} {pair : TypePair} (met : List PlainType) → Keeps before now
    → ArePairAmong (types_in before) pair
    → meet (declarations_of now) (type_at (types_in now) pair.one) (type_at (types_in now) pair.other) met
    ≡ meet (declarations_of before) (type_at (types_in before) pair.one) (type_at (types_in before) pair.other) met
pair_kept {before} {now} {pair} met keeps among =
    ap (λ (declarations : List DeclTree).
    meet declarations (type_at (types_in now) pair.one) (type_at (types_in now) pair.other) met)
    (declarations_kept keeps)
    ∙ ap₂ (λ (one other : PlainType). meet (declarations_of before) one other met) (type_at_kept keeps among.0)
    (type_at_kept keeps among.1)

-- the last of the pairs comes first, with what has been met so far
pair_met : {before now : TypeTable} {pair : TypePair} {start met : List TypeIndex} {arguments : List TypePair}
    (last : TypePair) (rest : List TypePair) (after : Option (List PlainType))
    → MetSoFar before now pair start met arguments → arguments ≡ rest ++ last ∷ []
    → after ≡ meet (declarations_of now) (type_at (types_in now) last.one) (type_at (types_in now) last.other)
    (types_at (types_in now) met)
    → met_back (declarations_of before) (types_in before) after rest
    ≡ meet (declarations_of before) (type_at (types_in before) pair.one) (type_at (types_in before) pair.other)
    (types_at (types_in before) start)
pair_met {before} {now} {pair} {start} {met} {arguments} last rest after so taken reported =
    let among = (All-pop (ArePairAmong (types_in before)) arguments rest (Some last) taken so.arguments_among).1 in
    ap (λ (first : Option (List PlainType)). met_back (declarations_of before) (types_in before) first rest)
    (reported ∙ pair_kept (types_at (types_in now) met) so.keeps among)
    ∙ (met_back-push (declarations_of before) (types_in before) (Some (types_at (types_in now) met)) last rest
    ∙ (ap (met_back (declarations_of before) (types_in before) (Some (types_at (types_in now) met))) (sym taken)
    ∙ so.so_far))

-- it is so after one more pair
pub MetSoFar-next : {before now later : TypeTable} {pair : TypePair} {start met after : List TypeIndex}
    {arguments rest : List TypePair} (last : TypePair) → MetSoFar before now pair start met arguments
    → arguments ≡ rest ++ last ∷ [] → Keeps now later → All (IsAmong (types_in later)) after
    → Some (types_at (types_in later) after)
    ≡ meet (declarations_of now) (type_at (types_in now) last.one) (type_at (types_in now) last.other)
    (types_at (types_in now) met)
    → MetSoFar before later pair start after rest
MetSoFar-next {before} {now} {later} {pair} {start} {met} {after} {arguments} {rest} last so taken keeps among reported =
    record {
      keeps = keeps_transitive so.keeps keeps;
      met_among = among;
      arguments_among = (All-pop (ArePairAmong (types_in before)) arguments rest (Some last) taken so.arguments_among).0;
      arguments_below = (All-pop (λ (argument : TypePair). argument.one.0 < pair.one.0) arguments rest (Some last) taken
          so.arguments_below).0;
      so_far = pair_met last rest (Some (types_at (types_in later) after)) so taken reported;
    }

-- where a pair cannot be met, nor can the whole types
pub argument_failed : {before now : TypeTable} {pair : TypePair} {start met : List TypeIndex}
    {arguments : List TypePair} (last : TypePair) (rest : List TypePair) → MetSoFar before now pair start met arguments
    → arguments ≡ rest ++ last ∷ []
    → None ≡ meet (declarations_of now) (type_at (types_in now) last.one) (type_at (types_in now) last.other)
    (types_at (types_in now) met)
    → None ≡ meet (declarations_of before) (type_at (types_in before) pair.one) (type_at (types_in before) pair.other)
    (types_at (types_in before) start)
argument_failed {before} {now} {pair} {start} {met} {arguments} last rest so taken reported =
    sym (none_back (declarations_of before) (types_in before) rest) ∙ pair_met last rest None so taken reported

-- the last of the pairs is of types of the table
pub next_among : {before now : TypeTable} {pair : TypePair} {start met : List TypeIndex} {arguments : List TypePair}
    (last : TypePair) (rest : List TypePair) → MetSoFar before now pair start met arguments
    → arguments ≡ rest ++ last ∷ [] → ArePairAmong (types_in now) last
next_among {before} {now} {pair} {start} {met} {arguments} last rest so taken =
    let among = (All-pop (ArePairAmong (types_in before)) arguments rest (Some last) taken so.arguments_among).1 in
    (among_kept so.keeps among.0, among_kept so.keeps among.1)

-- its types are parts of the whole ones
pub next_below : {before now : TypeTable} {pair : TypePair} {start met : List TypeIndex} {arguments : List TypePair}
    (last : TypePair) (rest : List TypePair) → MetSoFar before now pair start met arguments
    → arguments ≡ rest ++ last ∷ [] → last.one.0 < pair.one.0
next_below {before} {now} {pair} {start} {met} {arguments} last rest so taken =
    (All-pop (λ (argument : TypePair). argument.one.0 < pair.one.0) arguments rest (Some last) taken
    so.arguments_below).1
