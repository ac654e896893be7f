-- Equal keys and equal facts, and facts that have a key.
--
--   `key_eq_reflexive`, `key_eq_same`      the test of keys in the code tells equal keys
--   `fact_eq`, `fact_eq_decides`           the test of facts in the code, which tells equal facts
--   `fact_eq_laws`                         it is an equivalence
--   `has_key_sound`, `has_key_complete`    `has_key` tells which facts have a key
--   `keys_apart`                           the two keys of a fact differ
--   `own_no_future`, `future_named`        the first one is not that of a future, and the second one is
--   `put_is`                               what a set has after a fact is inserted
use Rattle.std.proofs.Common.{◌≡◌, ◌⊎◌, inl, inr, ⊎_elim, Bool, true, false, ◌||◌, not, cond, List, [], ◌∷◌, ◌++◌, Contains, Option, Some, None, refl, sym, ap, subst, ◌∙◌, rules, true≢false}
use Rattle.indexmap.specs.IndexSet.{insert_key}
use Rattle.std.specs.Bool.{Decides, MatchBool}
use Rattle.std.specs.List.{list_any}
use Rattle.std.specs.Cmp.{IsEquivalence}
use Rattle.std.proofs.lemmas.Bool.Decides.{same_from_decides}
use Rattle.std.proofs.lemmas.Option.{none-some, same_Some}
use Rattle.std.proofs.lemmas.Map.Views.{Contains-from_any}
use Rattle.contract_terms.specs.contracts.fact.FactPartialEq.TheImpl as fact_equality
use Rattle.contract_terms.specs.declared.fact.Atom.TheVariants.{Object, Future}
use Rattle.contract_terms.specs.declared.fact.Fact.{Fact}
use Rattle.contract_terms.specs.declared.fact.Fact.TheVariants as fact
use Rattle.name_bounding.specs.declared.kind.Kind.{Kind}
use Rattle.name_bounding.specs.declared.kind.Kind.TheVariants as kind
use Rattle.saturation.specs.Keys.{key_of, future_key_of, IsOf}
use Rattle.saturation.specs.Links.{key_eq, is_key, has_key}
use Rattle.saturation.specs.declared.key.Key.{Key}
use Rattle.saturation.specs.declared.key.Key.TheVariants as key

-- a key is equal to itself by the test of the code
pub key_eq_reflexive : (one : Key) → key_eq one one ≡ true
key_eq_reflexive one = search rules

-- the test tells equal keys
pub key_eq_same : (one other : Key) → key_eq one other ≡ true → one ≡ other
key_eq_same one other reported = search rules

-- whether two facts are equal
abbrev pub fact_eq : Fact → Fact → Bool
fact_eq = (fact_equality.eq-value).it

fact_eq_reflexive : (one : Fact) → fact_eq one one ≡ true
fact_eq_reflexive one = search rules

-- the test tells equal facts
pub fact_eq_same : (one other : Fact) → fact_eq one other ≡ true → one ≡ other
fact_eq_same one other reported = search rules

-- it does so just where they are equal
pub fact_eq_decides : (one other : Fact) → Decides (fact_eq one other) (one ≡ other)
fact_eq_decides one other =
    (fact_eq_same one other, λ same. subst (λ it. fact_eq one it ≡ true) same (fact_eq_reflexive one))

-- the test of facts is an equivalence
pub fact_eq_laws : IsEquivalence fact_eq
fact_eq_laws =
    record {
      refl = fact_eq_reflexive;
      symm = λ one other. same_from_decides (fact_eq one other) (fact_eq other one) (fact_eq_decides one other)
          (λ passed. sym (fact_eq_same other one passed), λ same. (fact_eq_decides other one).1 (sym same));
      congr = λ one other third passed. ap (λ it. fact_eq it third) (fact_eq_same one other passed);
    }

-- one of two tests is passed
either : (first second : Bool) → (first || second) ≡ true → (first ≡ true) ⊎ (second ≡ true)
either true second passed = inl refl
either false second passed = inr passed

second_passed : (first second : Bool) → second ≡ true → (first || second) ≡ true
second_passed true second passed = refl
second_passed false second passed = passed

is_key_sound : (found : Option Key) (key : Key) → is_key found key ≡ true → found ≡ Some key
is_key_sound None key passed = absurd (true≢false (sym passed))
is_key_sound (Some found) key passed = ap Some (key_eq_same found key passed)

-- a fact has a key if the test says so
pub has_key_sound : (key : Key) (fact : Fact) → has_key key fact ≡ true → IsOf key fact
unfolding has_key
has_key_sound key fact passed =
    ⊎_elim (λ future. inr (is_key_sound (future_key_of fact) key future))
    (λ own. inl (key_eq_same (key_of fact) key own))
    (either (is_key (future_key_of fact) key) (key_eq (key_of fact) key) passed)

-- the test says so if a fact has a key
pub has_key_complete : (key : Key) (fact : Fact) → IsOf key fact → has_key key fact ≡ true
unfolding has_key
has_key_complete key fact (inl own) =
    second_passed (is_key (future_key_of fact) key) (key_eq (key_of fact) key)
    (subst (λ it. key_eq (key_of fact) it ≡ true) own (key_eq_reflexive (key_of fact)))
has_key_complete key fact (inr future) =
    ap (λ first. first || key_eq (key_of fact) key)
    (ap (λ found. is_key found key) future ∙ key_eq_reflexive key)

-- the two keys of a fact differ
pub keys_apart : (fact : Fact) (future : Key) → future_key_of fact ≡ Some future → key_eq (key_of fact) future ≡ false
keys_apart (fact.Holds holder slot (Future call task)) future is =
    subst (λ it. key_eq (key.Slot holder slot) it ≡ false) (same_Some (key.Future task) future is) refl
keys_apart (fact.Holds holder slot (Object sign)) future is = absurd (none-some future is)
keys_apart (fact.Live kind) future is = absurd (none-some future is)
keys_apart (fact.Field sign field atom) future is = absurd (none-some future is)
keys_apart (fact.Gives giver atom) future is = absurd (none-some future is)

-- the key of a fact is not that of a future
pub own_no_future : (fact : Fact) (task : Kind) → key_of fact ≡ key.Future task → ⊥
own_no_future (fact.Live kind.Main) task same = cc
own_no_future (fact.Live (kind.Method sign method)) task same = cc
own_no_future (fact.Holds holder slot atom) task same = cc
own_no_future (fact.Field sign field atom) task same = cc
own_no_future (fact.Gives giver atom) task same = cc

-- the kind of the tasks of the future that a slot holds
pub task_of : Fact → Kind
task_of (fact.Holds holder slot (Future call task)) = task
task_of _ = kind.Main

-- the other key is that of a future
pub future_named : (fact : Fact) (future : Key) → future_key_of fact ≡ Some future → future ≡ key.Future (task_of fact)
unfolding task_of
future_named (fact.Holds holder slot (Future call task)) future is = sym (same_Some (key.Future task) future is)
future_named (fact.Holds holder slot (Object sign)) future is = absurd (none-some future is)
future_named (fact.Live kind) future is = absurd (none-some future is)
future_named (fact.Field sign field atom) future is = absurd (none-some future is)
future_named (fact.Gives giver atom) future is = absurd (none-some future is)

-- a fact that is inserted goes last, or was there
pub put_is : (facts now : List Fact) (fact : Fact) (added : Bool) → added ≡ not (list_any (fact_eq fact) facts)
    → now ≡ insert_key fact_eq facts fact
    → MatchBool added (now ≡ facts ++ fact ∷ []) ((now ≡ facts) × Contains facts fact)
put_is facts now fact added added_is now_is = go (list_any (fact_eq fact) facts) refl
  where
    go : (found : Bool) → list_any (fact_eq fact) facts ≡ found
        → MatchBool added (now ≡ facts ++ fact ∷ []) ((now ≡ facts) × Contains facts fact)
    go true found =
        subst (λ it. MatchBool it (now ≡ facts ++ fact ∷ []) ((now ≡ facts) × Contains facts fact))
        (sym (added_is ∙ ap not found)) (
          now_is ∙ ap (λ it. cond it facts (facts ++ fact ∷ [])) found,
          Contains-from_any {eq = fact_eq} fact_eq_same fact facts found,
        )
    go false found =
        subst (λ it. MatchBool it (now ≡ facts ++ fact ∷ []) ((now ≡ facts) × Contains facts fact))
        (sym (added_is ∙ ap not found)) (now_is ∙ ap (λ it. cond it facts (facts ++ fact ∷ [])) found)
