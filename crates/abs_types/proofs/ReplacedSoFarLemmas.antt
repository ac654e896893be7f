-- Types in which type parameters are replaced, after some of the arguments of an applied type.
--
--   `ReplacedSoFar`                                        what a loop over arguments keeps
--   `ReplacedSoFar-start`, `ReplacedSoFar-next`            it is so before the first argument, and after one more
--   `next_below`, `next_among`                             the next argument
--   `replaced_parameter`, `past_parameter`                 a type parameter that is replaced, and one that stays
--   `replaced_future`                                      `Fut`
--   `nothing_open`                                         nothing else that is not applied has a type parameter
use Rattle.std.proofs.Common.{◌≡◌, ℕ, ◌<◌, ◌≤◌, true, false, List, [], ◌∷◌, ◌++◌, Some, All, Result, IfOk, refl, sym, ap, ap₂, ◌∙◌, get_or, length, map, arith}
use Rattle.std.proofs.lemmas.Bool.{false≢true}
use Rattle.std.proofs.lemmas.List.{get_or_past, get_or-map, map-append, length-map}
use Rattle.std.proofs.lemmas.List.Elements.{All-get_or, All-pop}
use Rattle.std.proofs.lemmas.Result.{IfOk-weaker}
use Rattle.abs_tree.specs.Syntax.{Name}
use Rattle.abs_types.proofs.HeadLemmas.{applied_back-push}
use Rattle.abs_types.proofs.KeepLemmas.{among_kept, type_at_kept, types_at_kept, keeps_transitive}
use Rattle.abs_types.proofs.OpenLemmas.{open_cases}
use Rattle.abs_types.specs.Applications.{replaced}
use Rattle.abs_types.specs.Heads.{is_walked, applied_back, IsSpine}
use Rattle.abs_types.specs.PlainTypes.{PlainType, PlainFut, PlainApplied, PlainParameter}
use Rattle.abs_types.specs.Schemes.{has_parameter}
use Rattle.abs_types.specs.TypeShapes.{shape_type, type_at, types_at, IsAmong}
use Rattle.abs_types.specs.TypeTables.{types_in, Keeps, StandsFor}
use Rattle.abs_types.specs.declared.table.TypeTable.{TypeTable}
use Rattle.abs_types.specs.declared.table.shape.Shape.{Shape}
use Rattle.abs_types.specs.declared.table.shape.Shape.TheVariants as shape
use Rattle.abs_types.specs.declared.table.shape.TypeIndex.{TypeIndex}

-- type parameters are replaced in a head and in the arguments to which it is applied
replaced_back : (types : List PlainType) (head : PlainType) (arguments : List PlainType)
    → replaced types (applied_back head arguments) ≡ applied_back (replaced types head) (map (replaced types) arguments)
unfolding replaced
replaced_back types head [] = refl
replaced_back types head (last ∷ before) =
    ap (λ (one : PlainType). PlainApplied one (replaced types last)) (replaced_back types head before)

-- Some arguments are left, of the types of a table that was there before. With them replaced, what has been found so
-- far gives the whole type with its type parameters replaced.
pub record ReplacedSoFar (before now : TypeTable) (types : List TypeIndex) (index found : TypeIndex)
    (arguments : List TypeIndex) : Type 0 where
  pub keeps : Keeps before now
  pub found_among : IsAmong (types_in now) found
  pub arguments_below : All (λ (argument : TypeIndex). argument.0 < index.0) arguments
  pub so_far : applied_back (type_at (types_in now) found)
      (map (replaced (types_at (types_in before) types)) (types_at (types_in before) arguments))
      ≡ replaced (types_at (types_in before) types) (type_at (types_in before) index)

-- it is so once the head is replaced
pub ReplacedSoFar-start : {before now : TypeTable} {index head found : TypeIndex} {arguments : List TypeIndex}
    (types : List TypeIndex) → IsSpine (types_in before) index head arguments → Keeps before now
    → StandsFor now found (replaced (types_at (types_in before) types) (type_at (types_in before) head))
    → ReplacedSoFar before now types index found arguments
ReplacedSoFar-start {before} {now} {index} {head} {found} {arguments} types spine keeps reported = record {
  keeps = keeps;
  found_among = reported.among;
  arguments_below = spine.arguments_below;
  so_far =
      let all = types_at (types_in before) types in
      ap (λ (one : PlainType). applied_back one (map (replaced all) (types_at (types_in before) arguments))) reported.is
      ∙ (sym (replaced_back all (type_at (types_in before) head) (types_at (types_in before) arguments))
      ∙ ap (replaced all) (sym spine.is));
}

-- the last of the arguments is a part of the whole type
pub next_below : {before now : TypeTable} {types : List TypeIndex} {index found : TypeIndex}
    {arguments : List TypeIndex} (last : TypeIndex) (rest : List TypeIndex) → ReplacedSoFar before now types index found arguments
    → arguments ≡ rest ++ last ∷ [] → last.0 < index.0
next_below {before} {now} {types} {index} {found} {arguments} last rest so taken =
    (All-pop (λ (argument : TypeIndex). argument.0 < index.0) arguments rest (Some last) taken so.arguments_below).1

-- it is among the types of the table
pub next_among : {before now : TypeTable} {types : List TypeIndex} {index found : TypeIndex}
    {arguments : List TypeIndex} (last : TypeIndex) (rest : List TypeIndex) → ReplacedSoFar before now types index found arguments
    → arguments ≡ rest ++ last ∷ [] → IsAmong (types_in before) index → IsAmong (types_in now) last
next_among {before} {now} {types} {index} {found} {arguments} last rest so taken among =
    let below = next_below last rest so taken in
    let last_among : IsAmong (types_in before) last = omega arith in among_kept so.keeps last_among

-- the last of the arguments is replaced after the others
replaced_push : (all types : List PlainType) (rest : List TypeIndex) (last : TypeIndex)
    → map (replaced all) (types_at types (rest ++ last ∷ []))
    ≡ map (replaced all) (types_at types rest) ++ replaced all (type_at types last) ∷ []
replaced_push all types rest last =
    ap (map (replaced all)) (map-append (type_at types) rest (last ∷ []))
    ∙ map-append (replaced all) (types_at types rest) (type_at types last ∷ [])

-- it is so after one more argument
pub ReplacedSoFar-next : {before now between later : TypeTable} {types : List TypeIndex}
    {index found argument after : TypeIndex} {arguments rest : List TypeIndex} (last : TypeIndex)
    → ReplacedSoFar before now types index found arguments → arguments ≡ rest ++ last ∷ []
    → IsAmong (types_in before) index → All (IsAmong (types_in before)) types → Keeps now between
    → StandsFor between argument (replaced (types_at (types_in now) types) (type_at (types_in now) last))
    → Keeps between later
    → StandsFor later after (PlainApplied (type_at (types_in between) found) (type_at (types_in between) argument))
    → ReplacedSoFar before later types index after rest
ReplacedSoFar-next {before} {now} {between} {later} {types} {index} {found} {argument} {after} {arguments} {rest} last
    so taken among all_among keeps argument_is keeps_too after_is =
    let all = types_at (types_in before) types in
    let below = next_below last rest so taken in
    let last_among : IsAmong (types_in before) last = omega arith in
    let replacement : type_at (types_in between) argument ≡ replaced all (type_at (types_in before) last) =
    argument_is.is ∙ ap₂ replaced (types_at_kept types so.keeps all_among) (type_at_kept so.keeps last_among) in
    let head = type_at_kept keeps so.found_among in
    record {
      keeps = keeps_transitive so.keeps (keeps_transitive keeps keeps_too);
      found_among = after_is.among;
      arguments_below = (All-pop (λ (one : TypeIndex). one.0 < index.0) arguments rest (Some last) taken
          so.arguments_below).0;
      so_far =
          let others = map (replaced all) (types_at (types_in before) rest) in
          ap (λ (one : PlainType). applied_back one others) (after_is.is ∙ ap₂ PlainApplied head replacement)
          ∙ (applied_back-push (type_at (types_in now) found) (replaced all (type_at (types_in before) last)) others
          ∙ (ap (applied_back (type_at (types_in now) found)) (sym (ap (λ (items : List TypeIndex).
          map (replaced all) (types_at (types_in before) items)) taken
          ∙ replaced_push all (types_in before) rest last))
          ∙ so.so_far));
    }

-- a type parameter is replaced by the type of its index
pub replaced_parameter : {table : TypeTable} {index : ℕ} {one : PlainType} (types : List TypeIndex) (found : TypeIndex)
    → one ≡ PlainParameter index → All (IsAmong (types_in table)) types → index < length types
    → found ≡ get_or types index found
    → StandsFor table found (replaced (types_at (types_in table) types) one)
unfolding replaced
replaced_parameter {table} {index} {one} types found is among below found_is = record {
  among = rw found_is (All-get_or (IsAmong (types_in table)) types index found below among);
  is = rw is (ap (type_at (types_in table)) found_is
      ∙ sym (get_or-map (type_at (types_in table)) types index found (PlainParameter index) below));
}

-- it stays if there is none
pub past_parameter : {table : TypeTable} {index : ℕ} (types : List TypeIndex) (head : TypeIndex)
    → type_at (types_in table) head ≡ PlainParameter index → IsAmong (types_in table) head → length types ≤ index
    → StandsFor table head (replaced (types_at (types_in table) types) (type_at (types_in table) head))
unfolding replaced
past_parameter {table} {index} types head is among past = record {
  among = among;
  is = rw is (sym (get_or_past (types_at (types_in table) types) index (PlainParameter index)
      (omega (arith, length-map types (type_at (types_in table))))));
}

-- `Fut` is replaced by `Fut` of what replaces its value
future_replaced : {between later : TypeTable} {value after : TypeIndex} {one inner : PlainType}
    (types : List PlainType) → one ≡ PlainFut inner → StandsFor between value (replaced types inner)
    → StandsFor later after (PlainFut (type_at (types_in between) value)) → StandsFor later after (replaced types one)
unfolding replaced
future_replaced types is value_is after_is = record {
  among = after_is.among;
  is = after_is.is ∙ (ap PlainFut value_is.is ∙ ap (replaced types) (sym is));
}

-- so it is if that is found
pub replaced_future : {E : Type 0} {between : TypeTable} {value : TypeIndex} {one inner : PlainType}
    (types : List PlainType) (result : Result TypeIndex E) (later : TypeTable) → one ≡ PlainFut inner
    → StandsFor between value (replaced types inner)
    → IfOk result (λ after. StandsFor later after (PlainFut (type_at (types_in between) value)))
    → IfOk result (λ after. StandsFor later after (replaced types one))
replaced_future {E} {between} {value} {one} {inner} types result later is value_is =
    IfOk-weaker result (λ (after : TypeIndex). StandsFor later after (PlainFut (type_at (types_in between) value)))
    (λ (after : TypeIndex). StandsFor later after (replaced types one))
    (λ (after : TypeIndex). future_replaced types is value_is)

-- nothing else that is not applied has a type parameter in it
pub nothing_open : (names : List Name) (types : List PlainType) {one : PlainType} {found : Shape}
    → ((inner : TypeIndex) → found ≡ shape.Fut inner → ⊥) → ((index : ℕ) → found ≡ shape.Parameter index → ⊥)
    → one ≡ shape_type names types found → has_parameter one ≡ true → is_walked one ≡ false → ⊥
nothing_open names types not_fut not_parameter stands inside apart =
    open_cases (λ (type : PlainType). has_parameter type ≡ true → is_walked type ≡ false → ⊥)
    (λ head argument has_one is. false≢true (sym is ∙ has_one)) names types not_fut not_parameter stands inside inside
    apart
