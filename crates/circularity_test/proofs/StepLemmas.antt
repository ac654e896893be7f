-- The edges that lead on from parts.
--
--   `part_eq`, `part_eq_decides`, `sign_eq_decides`            the tests of parts and of signs in the code
--   `sign_kept`, `sign_added`, `sign_there`, `sign_found`      signs in a set
--   `one_sign`, `signs_more`   the sign of a kind, and those of the sources of each `await`, in a loop
--   `made_by_class`, `one_method`              the methods of a kind by its classes, and by a body
--   `main_is_none`, `initials_are_none`        no other body is one of a method
--   `target_all`, `target_cog` the edges from a target
--   `OwnSoFar`, `own_more`, `own_all`          the edges of pairs, in a loop
--   `FollowedSoFar`, `followed_more`, `followed_all`           the edges that lead on from the parts, in a loop
--   `parts_are`                the graph of some pairs
use Rattle.std.proofs.Common.{◌≡◌, ◌∙◌, ◌⊎◌, inl, inr, ⊎_elim, ℕ, ◌+◌, ◌<◌, ◌≤◌, Bool, true, false, if◌then◌else◌, List, [], ◌∷◌, ◌++◌, length, map, take, slice_get, Some, None, Contains, rules, refl, sym, ap, subst, arith}
use Rattle.indexmap.specs.IndexSet.{insert_key}
use Rattle.std.specs.Bool.{Decides}
use Rattle.std.specs.List.{list_any}
use Rattle.std.specs.Cmp.{IsEquivalence}
use Rattle.std.proofs.lemmas.Bool.{cases_Bool, cases_eq, false≢true}
use Rattle.std.proofs.lemmas.List.{length_push}
use Rattle.std.proofs.lemmas.List.Elements.{Contains-push, Contains-push_cases}
use Rattle.std.proofs.lemmas.Map.Views.{Contains-from_any, list_any-from_Contains}
use Rattle.std.proofs.lemmas.Option.{none-some, same_Some, slice_get_cases, slice_get_within}
use Rattle.abs_tree.specs.Names.{name_of}
use Rattle.abs_tree.specs.Syntax.{ProgramTree}
use Rattle.abs_tree.specs.declared.symbol.Symbol.{Symbol}
use Rattle.circularity_test.proofs.LinkingLemmas.{sign_eq, sign_eq_same}
use Rattle.circularity_test.proofs.NodeLemmas.{key_kept}
use Rattle.circularity_test.proofs.PartLemmas.{edge_kept, edges_kept, gets_then, has_kept, joined_at, joins_gets, kept_then}
use Rattle.circularity_test.specs.Adding.{OfEach}
use Rattle.circularity_test.specs.Numbers.{AwaitsAs}
use Rattle.circularity_test.specs.Parts.{AreKept, AreOwn, EdgeAt, Gets, Joins, joined, own_edge}
use Rattle.circularity_test.specs.Steps.{AreFollowed, AreParts, AwaitingSigns, ClassStep, IsAwaited, IsFollowed, KeepsSigns, MadeStep, MethodStep, StepsFrom, TargetStep}
use Rattle.circularity_test.specs.Steps.TargetStep.{needs, itself, begins}
use Rattle.circularity_test.specs.contracts.parts.PartPartialEq.TheImpl as part_equality
use Rattle.circularity_test.specs.declared.parts.Part.{Part}
use Rattle.circularity_test.specs.declared.parts.Part.TheVariants as part
use Rattle.circularity_test.specs.declared.parts.Parts.{Parts}
use Rattle.contract_terms.specs.Made.{classes_made}
use Rattle.contract_terms.specs.declared.pair.Pair.{Pair}
use Rattle.name_bounding.specs.Names.{cog_of}
use Rattle.name_bounding.specs.declared.kind.Kind.{Kind}
use Rattle.name_bounding.specs.declared.kind.Kind.TheVariants.{Main, Method}
use Rattle.name_bounding.specs.declared.kind.Sign.{Sign}
use Rattle.list_facts.proofs.EntryLemmas.{take-found}
use Rattle.saturation.proofs.ImageLemmas.{at_contains, contains_at, contains_mapped}
use Rattle.saturation.specs.declared.body.Body.{Body}
use Rattle.saturation.specs.declared.body.Body.TheVariants as body
use Rattle.saturation.specs.Rows.{MethodIs}

-- whether two parts are equal
abbrev pub part_eq : Part → Part → Bool
part_eq = (part_equality.eq-value).it

part_eq_reflexive : (one : Part) → part_eq one one ≡ true
part_eq_reflexive one = search rules

part_eq_same : (one other : Part) → part_eq one other ≡ true → one ≡ other
part_eq_same one other reported = search rules

-- the test tells equal parts
pub part_eq_decides : (one other : Part) → Decides (part_eq one other) (one ≡ other)
part_eq_decides one other =
    (part_eq_same one other, λ same. subst (λ it. part_eq one it ≡ true) same (part_eq_reflexive one))

sign_eq_reflexive : (one : Sign) → sign_eq one one ≡ true
sign_eq_reflexive one = search rules

-- the test is an equivalence
sign_eq_laws : IsEquivalence sign_eq
sign_eq_laws = record {
  refl = sign_eq_reflexive;
  symm = λ one other. by one other (cases_Bool (sign_eq one other)) (cases_Bool (sign_eq other one));
  congr = λ one other third same. ap (λ it. sign_eq it third) (sign_eq_same one other same);
}
  where
    by : (one other : Sign) → (sign_eq one other ≡ true) ⊎ (sign_eq one other ≡ false)
        → (sign_eq other one ≡ true) ⊎ (sign_eq other one ≡ false) → sign_eq one other ≡ sign_eq other one
    by one other (inl same) _ =
        same ∙ sym (subst (λ it. sign_eq it one ≡ true) (sign_eq_same one other same) (sign_eq_reflexive one))
    by one other (inr apart) (inl same) = absurd (false≢true (sym apart
        ∙ subst (λ it. sign_eq it other ≡ true) (sign_eq_same other one same) (sign_eq_reflexive other)))
    by one other (inr apart) (inr free) = apart ∙ sym free

-- a sign is kept when one is inserted
pub sign_kept : (signs : List Sign) (new sign : Sign) → Contains signs sign
    → Contains (insert_key sign_eq signs new) sign
sign_kept signs new sign there =
    at_contains (insert_key sign_eq signs new) there.0 sign
    (key_kept sign_eq signs new there.0 sign (contains_at signs sign there))

-- what a search finds is there
pub sign_there : (signs : List Sign) (sign : Sign) → list_any (sign_eq sign) signs ≡ true → Contains signs sign
sign_there signs sign found = Contains-from_any {eq = sign_eq} sign_eq_same sign signs found

-- a sign that is inserted is there
pub sign_added : (signs : List Sign) (new : Sign) → Contains (insert_key sign_eq signs new) new
sign_added signs new = by (list_any (sign_eq new) signs) refl
  where
    by : (has : Bool) → list_any (sign_eq new) signs ≡ has
        → Contains (if has then signs else signs ++ new ∷ []) new
    by true is = sign_there signs new is
    by false is = Contains-push signs new

-- a search finds each sign that is there
pub sign_found : (signs : List Sign) (sign : Sign) → Contains signs sign → list_any (sign_eq sign) signs ≡ true
sign_found signs sign there = list_any-from_Contains {eq = sign_eq} sign_eq_laws sign signs there

-- a kind has one sign
abbrev sign_if : Sign → Kind → Sign
sign_if default Main = default
sign_if default (Method sign method) = sign

pub one_sign : (kind : Kind) (one other : Sign) (its method : Symbol) → kind ≡ Method one its
    → kind ≡ Method other method → one ≡ other
one_sign kind one other its method first second = ap (sign_if one) (sym first ∙ second)

-- the signs of one pair more
pub signs_more : (pairs : List Pair) (index : ℕ) (pair : Pair) (old new : List Sign) → slice_get pairs index ≡ Some pair
    → AwaitingSigns (take index pairs) old → KeepsSigns pair old new → AwaitingSigns (take (index + 1) pairs) new
signs_more pairs index pair old new there so_far step sign awaits = ⊎_elim
    (λ earlier. step.kept sign (so_far sign (record {
      pair = awaits.pair;
      there = earlier;
      awaits = awaits.awaits;
      method = awaits.method;
      source = awaits.source;
    })))
    (λ same. step.added sign awaits.method (ap (λ it. it.mode) same ∙ awaits.awaits)
    (ap (λ it. it.source) same ∙ awaits.source))
    (Contains-push_cases (take index pairs) pair awaits.pair
    (subst (λ part. Contains part awaits.pair) (take-found pairs index pair there) awaits.there))

-- the methods of a kind by the classes of which objects are made at its place
pub made_by_class : (program : ProgramTree) (end : Part) (sign : Sign) (method : Symbol) (classes : List Symbol)
    → map (name_of program.names) classes ≡ classes_made program.source sign.place → (edge : Part × Part)
    → MadeStep program end sign method edge → OfEach (ClassStep program end sign method) classes edge
made_by_class program end sign method classes made edge step =
    let from = contains_mapped (name_of program.names) classes step.made.name
    (subst (λ list. Contains list step.made.name) (sym made) step.made.made) in
    record {
      from = from.0;
      inside = from.1;
      is = record {
        index = step.class;
        member = step.member;
        found = subst (λ name. MethodIs program name (name_of program.names method) (body.Method step.class step.member))
            (sym from.2)
            (record {
              index = step.class;
              class_is = record { taking = step.made.taking; named = step.made.named; is = step.made.class_is };
              member = step.member;
              found = step.made.found;
              is = refl;
            });
        is = step.is;
      };
    }

-- the part of a method by its body
abbrev method_part : Sign → Body → Part
method_part sign body.Main = part.Method sign 0 0
method_part sign (body.Method class member) = part.Method sign class member
method_part sign (body.Initials class) = part.Method sign 0 0

-- a body is that of one method
pub one_method : (end : Part) (sign : Sign) (own : Body) (class member index its : ℕ) → own ≡ body.Method class member
    → own ≡ body.Method index its → joined end (part.Method sign index its) ≡ joined end (part.Method sign class member)
one_method end sign own class member index its first second =
    ap (λ one. joined end (method_part sign one)) (sym second ∙ first)

-- no other body is one of a method
abbrev is_method : Body → Bool
is_method body.Main = false
is_method (body.Method class member) = true
is_method (body.Initials class) = false

pub main_is_none : (index its : ℕ) → body.Main ≡ body.Method index its → ⊥
main_is_none index its same = false≢true (ap is_method same)

pub initials_are_none : (class index its : ℕ) → body.Initials class ≡ body.Method index its → ⊥
initials_are_none class index its same = false≢true (ap is_method same)

-- the edges from a target that may reach an `await`
pub target_all : (program : ProgramTree) (Awaits : Sign → Type 0) (kind : Kind) {old one two now : Parts}
    → Joins old one (part.Target kind, part.Cog (cog_of kind)) → Joins one two (part.Target kind, part.Running kind)
    → Gets (MethodStep program (part.Target kind) kind) two now → Gets (TargetStep program Awaits kind) old now
target_all program Awaits kind cog running methods =
    gets_then (joins_gets cog (λ edge is. is)) (gets_then (joins_gets running (λ edge is. is)) methods (λ edge is. is))
    split
  where
    split : (edge : Part × Part) → TargetStep program Awaits kind edge
        → (edge ≡ (part.Target kind, part.Cog (cog_of kind)))
        ⊎ ((edge ≡ (part.Target kind, part.Running kind)) ⊎ MethodStep program (part.Target kind) kind edge)
    split _ needs = inl refl
    split _ (itself awaited) = inr (inl refl)
    split edge (begins _ awaited step) = inr (inr step)

-- the edge from any other target
pub target_cog : (program : ProgramTree) (Awaits : Sign → Type 0) (kind : Kind) {old now : Parts}
    → Joins old now (part.Target kind, part.Cog (cog_of kind)) → (IsAwaited Awaits kind → ⊥)
    → Gets (TargetStep program Awaits kind) old now
target_cog program Awaits kind cog never = joins_gets cog only
  where
    only : (edge : Part × Part) → TargetStep program Awaits kind edge → edge ≡ (part.Target kind, part.Cog (cog_of kind))
    only _ needs = refl
    only _ (itself awaited) = absurd (never awaited)
    only edge (begins _ awaited step) = absurd (never awaited)

-- The edges of the pairs before an index are there, and no others.
pub record OwnSoFar (parts : Parts) (pairs : List Pair) (index : ℕ) : Type 0 where
  pub count : length parts.edges.items ≡ index
  pub own : (at : ℕ) (pair : Pair) → at < index → slice_get pairs at ≡ Some pair → EdgeAt parts at (own_edge pair)

-- the edge of one pair more
pub own_more : (pairs : List Pair) (index : ℕ) (pair : Pair) (old new : Parts) → slice_get pairs index ≡ Some pair
    → OwnSoFar old pairs index → Joins old new (own_edge pair) → OwnSoFar new pairs (index + 1)
own_more pairs index pair old new there so_far joins = record {
  count = ap length joins.edges
      ∙ (length_push old.edges.items (record { from = joins.from; to = joins.to }) ∙ ap (λ it. it + 1) so_far.count);
  own = λ at one less here. ⊎_elim
      (λ same. subst (λ it. EdgeAt new it (own_edge one)) (so_far.count ∙ sym same)
      (subst (λ it. EdgeAt new (length old.edges.items) (own_edge it))
      (same_Some pair one (sym there ∙ (ap (slice_get pairs) (sym same) ∙ here))) (joined_at joins)))
      (λ apart. edge_kept old new joins.keys (edges_kept joins) at (own_edge one)
      (so_far.own at one (omega (arith, less, apart)) here))
      (cases_eq at index);
}

-- the edges of all pairs
pub own_all : (pairs : List Pair) (parts : Parts) (index : ℕ) → length pairs ≤ index → OwnSoFar parts pairs index
    → AreOwn parts pairs
own_all pairs parts index over so_far at pair there =
    let within = slice_get_within pairs at pair there in so_far.own at pair (omega (arith, within, over)) there

module _ (program : ProgramTree) (Awaits : Sign → Type 0) where
  -- The parts below a bound have all edges that lead on from them.
  pub record FollowedSoFar (old now : Parts) (bound : ℕ) : Type 0 where
    pub keys : AreKept old.parts.keys now.parts.keys
    pub edges : AreKept old.edges.items now.edges.items
    pub below : (number : ℕ) → number < bound → IsFollowed program Awaits now number

  -- what leads on from one part more
  pub followed_more : (old between now : Parts) (number : ℕ) (one : Part)
      → Some one ≡ slice_get between.parts.keys number → FollowedSoFar old between number
      → Gets (StepsFrom program Awaits one) between now → FollowedSoFar old now (number + 1)
  followed_more old between now number one there so_far gets = record {
    keys = kept_then old.parts.keys between.parts.keys now.parts.keys so_far.keys gets.keys;
    edges = kept_then old.edges.items between.edges.items now.edges.items so_far.edges gets.edges;
    below = λ at less. ⊎_elim
        (λ same. record {
          one = one;
          there = ap (slice_get now.parts.keys) same ∙ gets.keys number one (sym there);
          steps = gets.has;
        })
        (λ apart. followed_kept at (so_far.below at (omega (arith, less, apart))))
        (cases_eq at number);
  }
    where
      followed_kept : (at : ℕ) → IsFollowed program Awaits between at → IsFollowed program Awaits now at
      followed_kept at followed = record {
        one = followed.one;
        there = gets.keys at followed.one followed.there;
        steps = λ edge step. has_kept between now gets.keys gets.edges edge (followed.steps edge step);
      }

  -- what leads on from all parts
  pub followed_all : (old now : Parts) (number : ℕ) → None ≡ slice_get now.parts.keys number
      → FollowedSoFar old now number → AreFollowed program Awaits old now
  followed_all old now number past so_far = record {
    keys = so_far.keys;
    edges = so_far.edges;
    followed = λ at one there edge step.
        let within = slice_get_within now.parts.keys at one there in
        let followed = so_far.below at (omega (arith, within, over)) in
        followed.steps edge (subst (λ it. StepsFrom program Awaits it edge)
        (same_Some one followed.one (sym there ∙ followed.there)) step);
  }
    where
      over : length now.parts.keys ≤ number
      over = ⊎_elim (λ found. absurd (none-some found.0 (past ∙ found.2))) (λ beyond. beyond.0)
          (slice_get_cases now.parts.keys number).1

  -- where more signs await, there are all the edges
  awaited_more : (More : Sign → Type 0) → ((sign : Sign) → More sign → Awaits sign) → (kind : Kind)
      → IsAwaited More kind → IsAwaited Awaits kind
  awaited_more More from Main awaited = tt
  awaited_more More from (Method sign method) awaited = from sign awaited

  steps_more : (More : Sign → Type 0) → ((sign : Sign) → More sign → Awaits sign) → (one : Part) (edge : Part × Part)
      → StepsFrom program More one edge → StepsFrom program Awaits one edge
  steps_more More from (part.Target kind) _ needs = needs
  steps_more More from (part.Target kind) _ (itself awaited) = itself (awaited_more More from kind awaited)
  steps_more More from (part.Target kind) _ (begins edge awaited step) =
      begins edge (awaited_more More from kind awaited) step
  steps_more More from (part.Running kind) edge step = step
  steps_more More from (part.Cog name) edge step = step
  steps_more More from (part.Method sign class member) edge step = step

  -- the graph of some pairs
  pub parts_are : (pairs : List Pair) (old now : Parts) → ((sign : Sign) → AwaitsAs pairs sign → Awaits sign)
      → AreOwn old pairs → AreFollowed program Awaits old now → AreParts program pairs now
  parts_are pairs old now awaits own followed = record {
    own = λ index pair there.
        edge_kept old now followed.keys followed.edges index (own_edge pair) (own index pair there);
    followed = λ number one there edge step.
        followed.followed number one there edge (steps_more (AwaitsAs pairs) awaits one edge step);
  }
