-- The joins of types of a table. Applied types are taken apart into heads and arguments, which are joined one by one.
--
--   `applied_join`, `future_join`      the joins of the parts decide
--   `same_join`, `unlike_join`         the join of a type with itself, and of types without one
--   `spines_step`                      one more pair of arguments is taken off
--   `found_kept`                       what was found stands for the same later
--   `AppliedSoFar`, `CanBeNext`        some arguments are joined, and the next pair can be
--   `applied_init`, `applied_step`     at first, and after one more pair
--   `heads_stop`, `applied_stop`       the heads, or a pair, have no join
--   `next_pair`                        the next pair can be joined
use Rattle.std.proofs.Common.{◌≡◌, ◌≤◌, max, false, List, [], ◌∷◌, ◌++◌, Option, Some, None, option_map, All, refl, sym, ap, ap₂, ◌∙◌, arith}
use Rattle.std.specs.Prelude.{Result, Ok, Err, IfOk}
use Rattle.std.specs.declared.alloc.AllocError.{AllocError}
use Rattle.std.proofs.lemmas.List.Elements.{All-head, All-tail, All-push, All-pop, All-weaker}
use Rattle.abs_tree.specs.Syntax.{DeclTree}
use Rattle.abs_types.proofs.JoinLemmas.{join_of_fitting, join_of_apart, join_of_applied, join_of_futures}
use Rattle.abs_types.proofs.KeepLemmas.{among_kept, type_at_kept, keeps_transitive, declarations_kept}
use Rattle.abs_types.proofs.PartLemmas.{same_fits}
use Rattle.abs_types.specs.Joins.{both_applied, join_of}
use Rattle.abs_types.specs.PlainTypes.{PlainType, PlainFut, PlainApplied}
use Rattle.abs_types.specs.Subtyping.{fits, NoneExtendsItself}
use Rattle.abs_types.specs.TypeParts.{have_parts_alike, AreFutures, AreApplied, AreSpines, ArePairAmong, IsFound, pair_join, joined_along}
use Rattle.abs_types.specs.TypeShapes.{type_at, IsAmong}
use Rattle.abs_types.specs.TypeTables.{declarations_of, types_in, Keeps, StandsFor}
use Rattle.abs_types.specs.declared.table.TypeTable.{TypeTable}
use Rattle.abs_types.specs.declared.table.shape.TypeIndex.{TypeIndex}
use Rattle.abs_types.specs.declared.table.shape.TypePair.{TypePair}

-- the join of applied types is that of the heads, applied to that of the arguments
pub applied_join : {types : List PlainType} {one other : TypeIndex} {heads arguments : TypePair}
    (declarations : List DeclTree) → NoneExtendsItself declarations → AreApplied types one other heads arguments
    → join_of declarations (type_at types one) (type_at types other)
    ≡ both_applied (pair_join declarations types heads) (pair_join declarations types arguments)
applied_join {types} {heads = heads} {arguments = arguments} declarations none applied =
    rw (applied.one_is, applied.other_is)
    (join_of_applied declarations (type_at types heads.one) (type_at types heads.other) (type_at types arguments.one)
    (type_at types arguments.other) none)

-- the join of two `Fut`s is that of their values
pub future_join : {types : List PlainType} {one other : TypeIndex} {values : TypePair}
    (declarations : List DeclTree) → NoneExtendsItself declarations → AreFutures types one other values
    → join_of declarations (type_at types one) (type_at types other)
    ≡ option_map PlainFut (pair_join declarations types values)
future_join {types} {values = values} declarations none futures =
    rw (futures.one_is, futures.other_is)
    (join_of_futures declarations (type_at types values.one) (type_at types values.other) none)

-- the join of a type with itself
pub same_join : (declarations : List DeclTree) (one other : PlainType) → one ≡ other
    → Some one ≡ join_of declarations one other
same_join declarations one other same =
    ap Some same ∙ sym (join_of_fitting declarations one other (same_fits declarations one other same))

-- the join of the last pair of several comes first
along_push : (declarations : List DeclTree) (types : List PlainType) (found : Option PlainType) (pairs : List TypePair)
    (last : TypePair)
    → joined_along declarations types found (pairs ++ last ∷ [])
    ≡ joined_along declarations types (both_applied found (pair_join declarations types last)) pairs
along_push declarations types found [] last = refl
along_push declarations types found (first ∷ others) last =
    ap (λ (joined : Option PlainType). both_applied joined (pair_join declarations types first))
    (along_push declarations types found others last)

-- one more pair of arguments is taken off
pub spines_step : {declarations : List DeclTree} {types : List PlainType}
    {heads arguments innermost next more : TypePair} {all later : List TypePair} → NoneExtendsItself declarations
    → AreSpines declarations types heads arguments innermost all
    → AreApplied types innermost.one innermost.other next more → later ≡ all ++ more ∷ []
    → AreSpines declarations types heads arguments next later
spines_step {declarations} {types} {heads} {arguments} {innermost} {next} {more} {all} none spines applied later_is =
    rw later_is (record {
      innermost_among = (omega (arith, spines.innermost_among.0), omega (arith, spines.innermost_among.1));
      all_among = All-push (ArePairAmong types) all more spines.all_among
          (omega (arith, spines.innermost_among.0), omega (arith, spines.innermost_among.1));
      innermost_below = omega (arith, spines.innermost_below);
      all_below = All-push (λ (pair : TypePair). pair.one.0 ≤ max heads.one.0 arguments.one.0) all more spines.all_below
          (omega (arith, spines.innermost_below));
      join_is = spines.join_is
          ∙ (ap (λ (found : Option PlainType). joined_along declarations types found all)
          (applied_join declarations none applied)
          ∙ sym (along_push declarations types (pair_join declarations types next) all more));
    })

-- types that neither have parts alike nor fit each other have no join
pub unlike_join : (declarations : List DeclTree) (one other : PlainType) → have_parts_alike one other ≡ false
    → fits declarations one other ≡ false → fits declarations other one ≡ false
    → join_of declarations one other ≡ None
unlike_join declarations (PlainFut one) (PlainFut other) unlike apart back = cc
unlike_join declarations (PlainApplied head argument) (PlainApplied other_head other_argument) unlike apart back = cc
unlike_join declarations one other unlike apart back = join_of_apart declarations one other apart back

-- the joins of pairs stay the same
pair_join_kept : {before now : TypeTable} {pair : TypePair} (declarations : List DeclTree) → Keeps before now
    → ArePairAmong (types_in before) pair
    → pair_join declarations (types_in now) pair ≡ pair_join declarations (types_in before) pair
pair_join_kept declarations keeps among =
    ap₂ (join_of declarations) (type_at_kept keeps among.0) (type_at_kept keeps among.1)

-- and so do the joins along them
along_kept : {before now : TypeTable} (declarations : List DeclTree) (found : Option PlainType) (pairs : List TypePair)
    → Keeps before now → All (ArePairAmong (types_in before)) pairs
    → joined_along declarations (types_in now) found pairs ≡ joined_along declarations (types_in before) found pairs
along_kept declarations found [] keeps among = refl
along_kept {before} declarations found (first ∷ others) keeps among =
    ap₂ both_applied
    (along_kept declarations found others keeps (All-tail (ArePairAmong (types_in before)) first others among))
    (pair_join_kept declarations keeps (All-head (ArePairAmong (types_in before)) first others among))

-- pairs among the types are among them later
pub pairs_among_kept : {before now : TypeTable} (pairs : List TypePair) → Keeps before now
    → All (ArePairAmong (types_in before)) pairs → All (ArePairAmong (types_in now)) pairs
pairs_among_kept {before} {now} pairs keeps among =
    All-weaker (ArePairAmong (types_in before)) (ArePairAmong (types_in now))
    (λ pair there. (among_kept keeps there.0, among_kept keeps there.1)) pairs among

-- what was found stands for the same later
pub found_kept : {before now : TypeTable} {found : Option TypeIndex} {type : Option PlainType} → Keeps before now
    → IsFound before found type → IsFound now found type
found_kept {found = None} keeps found = record { among = tt; is = found.is }
found_kept {found = Some index} keeps found = record {
  among = among_kept keeps found.among;
  is = ap Some (type_at_kept keeps found.among) ∙ found.is;
}

-- without a join of the heads there is none
along_none : (declarations : List DeclTree) (types : List PlainType) (pairs : List TypePair)
    → joined_along declarations types None pairs ≡ None
along_none declarations types [] = refl
along_none declarations types (first ∷ others) =
    ap (λ (found : Option PlainType). both_applied found (pair_join declarations types first))
    (along_none declarations types others)

-- without a join of the heads there is none of the whole
pub heads_stop : {declarations : List DeclTree} {types : List PlainType} {heads arguments innermost : TypePair}
    {all : List TypePair} → AreSpines declarations types heads arguments innermost all
    → None ≡ pair_join declarations types innermost
    → None ≡ both_applied (pair_join declarations types heads) (pair_join declarations types arguments)
heads_stop {declarations} {types} {all = all} spines none =
    sym (spines.join_is ∙ (ap (λ (found : Option PlainType). joined_along declarations types found all) (sym none)
    ∙ along_none declarations types all))

-- Heads and some arguments are joined, and the rest of the arguments is left.
pub record AppliedSoFar (before now : TypeTable) (heads arguments : TypePair) (joined : TypeIndex)
    (rest : List TypePair) : Type 0 where
  pub keeps : Keeps before now
  pub joined_among : IsAmong (types_in now) joined
  pub rest_among : All (ArePairAmong (types_in now)) rest
  pub rest_below : All (λ (pair : TypePair). pair.one.0 ≤ max heads.one.0 arguments.one.0) rest
  pub is : both_applied (pair_join (declarations_of before) (types_in before) heads)
      (pair_join (declarations_of before) (types_in before) arguments)
      ≡ joined_along (declarations_of before) (types_in now) (Some (type_at (types_in now) joined)) rest

-- at first the heads are joined
pub applied_init : {before now : TypeTable} {heads arguments innermost : TypePair} {joined : TypeIndex}
    {all : List TypePair} → AreSpines (declarations_of before) (types_in before) heads arguments innermost all
    → Keeps before now → IsAmong (types_in now) joined
    → Some (type_at (types_in now) joined) ≡ pair_join (declarations_of before) (types_in before) innermost
    → AppliedSoFar before now heads arguments joined all
applied_init {before} {now} {all = all} spines keeps among found =
    let declarations = declarations_of before in
    record {
      keeps = keeps;
      joined_among = among;
      rest_among = pairs_among_kept all keeps spines.all_among;
      rest_below = spines.all_below;
      is = spines.join_is
          ∙ (ap (λ (first : Option PlainType). joined_along declarations (types_in before) first all) (sym found)
          ∙ sym (along_kept declarations _ all keeps spines.all_among));
    }

-- The next pair can be joined.
pub record CanBeNext (now : TypeTable) (heads arguments pair : TypePair) : Type 0 where
  pub among : ArePairAmong (types_in now) pair
  pub below : pair.one.0 ≤ max heads.one.0 arguments.one.0

-- it can, since all that are left can
pub next_pair : {before now : TypeTable} {heads arguments : TypePair} {joined : TypeIndex} {whole : List TypePair}
    (pair : TypePair) (rest : List TypePair) → AppliedSoFar before now heads arguments joined whole
    → whole ≡ rest ++ pair ∷ [] → CanBeNext now heads arguments pair
next_pair {now = now} {heads} {arguments} {whole = whole} pair rest so_far whole_is = record {
  among = (All-pop (ArePairAmong (types_in now)) whole rest (Some pair) whole_is so_far.rest_among).1;
  below = (All-pop (λ (below : TypePair). below.one.0 ≤ max heads.one.0 arguments.one.0) whole rest (Some pair)
      whole_is so_far.rest_below).1;
}

-- what is left decides: the join of the next pair comes first
next_decides : {before now : TypeTable} {heads arguments : TypePair} {joined : TypeIndex} {whole : List TypePair}
    {found : Option PlainType} (pair : TypePair) (rest : List TypePair)
    → AppliedSoFar before now heads arguments joined whole
    → whole ≡ rest ++ pair ∷ [] → found ≡ pair_join (declarations_of now) (types_in now) pair
    → both_applied (pair_join (declarations_of before) (types_in before) heads)
    (pair_join (declarations_of before) (types_in before) arguments)
    ≡ joined_along (declarations_of before) (types_in now)
    (both_applied (Some (type_at (types_in now) joined)) found) rest
next_decides {before} {now} {joined = joined} pair rest so_far whole_is found_is =
    let declarations = declarations_of before in
    let joined_type = type_at (types_in now) joined in
    so_far.is
    ∙ (ap (joined_along declarations (types_in now) (Some joined_type)) whole_is
    ∙ (along_push declarations (types_in now) (Some joined_type) rest pair
    ∙ ap (λ (next : Option PlainType).
    joined_along declarations (types_in now) (both_applied (Some joined_type) next) rest)
    (sym (found_is ∙ ap (λ program. pair_join program (types_in now) pair) (declarations_kept so_far.keeps)))))

-- one more pair is joined, and the join is applied to it
pub applied_step : {before now between later : TypeTable} {heads arguments : TypePair} {joined applied : TypeIndex}
    {whole : List TypePair} (pair : TypePair) (argument : TypeIndex) (rest : List TypePair)
    → AppliedSoFar before now heads arguments joined whole → whole ≡ rest ++ pair ∷ []
    → Keeps now between
    → Some (type_at (types_in between) argument) ≡ pair_join (declarations_of now) (types_in now) pair
    → Keeps between later
    → StandsFor later applied
    (PlainApplied (type_at (types_in between) joined) (type_at (types_in between) argument))
    → AppliedSoFar before later heads arguments applied rest
applied_step {before} {now} {between} {heads = heads} {arguments} {joined} {whole = whole} pair argument rest
    so_far whole_is first found second stands =
    let declarations = declarations_of before in
    let keeps = keeps_transitive first second in
    let rest_among = (All-pop (ArePairAmong (types_in now)) whole rest (Some pair) whole_is so_far.rest_among).0 in
    let head_kept = ap (λ head. PlainApplied head (type_at (types_in between) argument))
    (sym (type_at_kept first so_far.joined_among)) in
    record {
      keeps = keeps_transitive so_far.keeps keeps;
      joined_among = stands.among;
      rest_among = pairs_among_kept rest keeps rest_among;
      rest_below = (All-pop (λ (below : TypePair). below.one.0 ≤ max heads.one.0 arguments.one.0) whole rest (Some pair)
          whole_is so_far.rest_below).0;
      is = next_decides pair rest so_far whole_is found
          ∙ (ap (λ (type : PlainType). joined_along declarations (types_in now) (Some type) rest)
          (head_kept ∙ sym stands.is)
          ∙ sym (along_kept declarations _ rest keeps rest_among));
    }

-- a pair has no join
pub applied_stop : {before now : TypeTable} {heads arguments : TypePair} {joined : TypeIndex} {whole : List TypePair}
    (pair : TypePair) (rest : List TypePair) → AppliedSoFar before now heads arguments joined whole
    → whole ≡ rest ++ pair ∷ []
    → None ≡ pair_join (declarations_of now) (types_in now) pair
    → None ≡ both_applied (pair_join (declarations_of before) (types_in before) heads)
    (pair_join (declarations_of before) (types_in before) arguments)
applied_stop {before} {now} pair rest so_far whole_is none =
    sym (next_decides pair rest so_far whole_is none ∙ along_none (declarations_of before) (types_in now) rest)

-- what was found after a table has grown is the join before
pub joined_later : {before between : TypeTable} (now : TypeTable) {one other : TypeIndex} → Keeps before between
    → IsAmong (types_in before) one → IsAmong (types_in before) other
    → (result : Result (Option TypeIndex) AllocError)
    → IfOk result (λ found. option_map (type_at (types_in now)) found
    ≡ join_of (declarations_of between) (type_at (types_in between) one) (type_at (types_in between) other))
    → IfOk result (λ found. option_map (type_at (types_in now)) found
    ≡ join_of (declarations_of before) (type_at (types_in before) one) (type_at (types_in before) other))
joined_later now keeps one_among other_among (Ok found) is =
    rw (← declarations_kept keeps, ← type_at_kept keeps one_among, ← type_at_kept keeps other_among) is
joined_later now keeps one_among other_among (Err error) is = tt
