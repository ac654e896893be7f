-- The newest facts with each key, and the links to those before.
--
--   `own_link`, `own_noted`            the link of a fact without a future, and the newest facts after it is noted
--   `future_link`, `future_noted`      those of a fact with a future
--   `links_push`                       the links of facts with one more
--   `linked_kept`, `linked_push`       facts stay linked, also with one more
--   `link_read`                        the link at an index
--   `latest_own`, `latest_future`      what a link gives for a key that its fact has
--   `found_of`                         the element at an index that has a property
use Rattle.indexmap.specs.IndexMap.{IndexMap, get}
use Rattle.std.proofs.Common.{◌≡◌, inl, inr, ⊎_elim, ◌+◌, ℕ, Bool, true, false, cond, ◌||◌, List, [], ◌∷◌, ◌++◌, length, take, Option, Some, None, slice_get, get_or, refl, sym, ap, subst, ◌∙◌, arith, length-append}
use Rattle.std.proofs.lemmas.List.{take_all, take-append-le}
use Rattle.std.proofs.lemmas.Option.{same_Some, slice_get_within, get_or_from_slice_get}
use Rattle.std.specs.Map.{lookup}
use Rattle.std.specs.Option.{IsSomeAnd}
use Rattle.contract_terms.specs.declared.fact.Fact.{Fact}
use Rattle.list_facts.proofs.EntryLemmas.{slice_get-front, slice_get-next, slice_get-push}
use Rattle.name_bounding.specs.declared.kind.Kind.{Kind}
use Rattle.saturation.proofs.KeyLemmas.{keys_apart, own_no_future, task_of, future_named}
use Rattle.saturation.proofs.LatestLemmas.{latest_push}
use Rattle.saturation.specs.Keys.{key_of, future_key_of, IsOf}
use Rattle.saturation.specs.Links.{key_eq, is_key, has_key, latest, latest_if, link_of, AreNewest, AreLinks, AreLinked}
use Rattle.saturation.specs.declared.facts.Earlier.{Earlier}
use Rattle.saturation.specs.declared.key.Key.{Key}
use Rattle.saturation.specs.declared.key.Key.TheVariants as key

-- one choice in another is one by either test
cond_or : {A : Type 0} (one other : Bool) (is none : A) → cond one is (cond other is none) ≡ cond (one || other) is none
cond_or true other is none = refl
cond_or false other is none = refl

-- what comes before a fact with its own key
own_before : {S : Type 0} (facts : List Fact) (fact : Fact) (own : Key) (newest : IndexMap Key ℕ S) (before : Option ℕ)
    → own ≡ key_of fact → AreNewest facts newest → before ≡ get key_eq newest own
    → before ≡ latest (has_key (key_of fact)) facts
own_before facts fact own newest before own_is newest_are before_is =
    before_is ∙ (newest_are.is own ∙ ap (λ asked. latest (has_key asked) facts) own_is)

-- the link of a fact whose slot holds no future
pub own_link : {S : Type 0} (facts : List Fact) (fact : Fact) (own : Key) (newest : IndexMap Key ℕ S)
    (before : Option ℕ) → own ≡ key_of fact → future_key_of fact ≡ None → AreNewest facts newest
    → before ≡ get key_eq newest own → record { same_key = before; same_future = None } ≡ link_of facts fact
own_link facts fact own newest before own_is none newest_are before_is =
    let same_key = own_before facts fact own newest before own_is newest_are before_is in
    let same_future = ap (λ found. latest_if found facts) (sym none) in
    (λ i. record { same_key = same_key i; same_future = same_future i })

-- such a fact is noted by its key
pub own_noted : {S : Type 0} (facts : List Fact) (fact : Fact) (own : Key) (index : ℕ)
    (newest newest_now : IndexMap Key ℕ S) → own ≡ key_of fact → future_key_of fact ≡ None → index ≡ length facts
    → AreNewest facts newest
    → ((other : Key) → get key_eq newest_now other ≡ cond (key_eq own other) (Some index) (get key_eq newest other))
    → AreNewest (facts ++ fact ∷ []) newest_now
unfolding has_key
own_noted facts fact own index newest newest_now own_is none index_is newest_are now =
    record {
      is = λ other.
          let has : has_key other fact ≡ key_eq own other =
          (λ i. is_key (none i) other || key_eq (sym own_is i) other) in
          now other ∙ ((λ i. cond (sym has i) (Some (index_is i)) (newest_are.is other i))
          ∙ sym (latest_push (has_key other) facts fact));
    }

-- the link of a fact whose slot holds a future, after its own key is noted
pub future_link : {S : Type 0} (facts : List Fact) (fact : Fact) (own future : Key) (index : ℕ)
    (newest noted : IndexMap Key ℕ S) (before before_future : Option ℕ) → own ≡ key_of fact
    → future_key_of fact ≡ Some future → AreNewest facts newest → before ≡ get key_eq newest own
    → ((other : Key) → get key_eq noted other ≡ cond (key_eq own other) (Some index) (get key_eq newest other))
    → before_future ≡ get key_eq noted future
    → record { same_key = before; same_future = before_future } ≡ link_of facts fact
future_link facts fact own future index newest noted before before_future own_is future_is newest_are before_is now
    future_before =
    let same_key = own_before facts fact own newest before own_is newest_are before_is in
    let apart = ap (λ asked. key_eq asked future) own_is ∙ keys_apart fact future future_is in
    let kept = now future ∙ ap (λ passed. cond passed (Some index) (get key_eq newest future)) apart in
    let same_future = future_before
    ∙ (kept ∙ (newest_are.is future ∙ ap (λ found. latest_if found facts) (sym future_is))) in
    (λ i. record { same_key = same_key i; same_future = same_future i })

-- such a fact is noted by both keys
pub future_noted : {S : Type 0} (facts : List Fact) (fact : Fact) (own future : Key) (index : ℕ)
    (newest noted newest_now : IndexMap Key ℕ S) → own ≡ key_of fact → future_key_of fact ≡ Some future
    → index ≡ length facts → AreNewest facts newest
    → ((other : Key) → get key_eq noted other ≡ cond (key_eq own other) (Some index) (get key_eq newest other))
    → ((other : Key) → get key_eq newest_now other ≡ cond (key_eq future other) (Some index) (get key_eq noted other))
    → AreNewest (facts ++ fact ∷ []) newest_now
unfolding has_key
future_noted facts fact own future index newest noted newest_now own_is future_is index_is newest_are now now_future =
    record {
      is = λ other.
          let has : has_key other fact ≡ (key_eq future other || key_eq own other) =
          (λ i. is_key (future_is i) other || key_eq (sym own_is i) other) in
          now_future other ∙ (ap (λ found. cond (key_eq future other) (Some index) found) (now other)
          ∙ (cond_or (key_eq future other) (key_eq own other) (Some index) (get key_eq newest other)
          ∙ ((λ i. cond (sym has i) (Some (index_is i)) (newest_are.is other i))
          ∙ sym (latest_push (has_key other) facts fact))));
    }

-- the links of facts with one more are those before, and its own
pub links_push : (facts : List Fact) (fact : Fact) (links : List Earlier) → AreLinks facts links
    → AreLinks (facts ++ fact ∷ []) (links ++ link_of facts fact ∷ [])
links_push facts fact links linked =
    record {
      as_many = length-append links (link_of facts fact ∷ [])
          ∙ (ap (λ count. count + 1) linked.as_many ∙ sym (length-append facts (fact ∷ [])));
      is = λ index one there.
          ⊎_elim (earlier index one) (λ both. last index one both.0 both.1) (slice_get-push facts fact index one there);
    }
  where
    earlier : (index : ℕ) (one : Fact) → slice_get facts index ≡ Some one
        → slice_get (links ++ link_of facts fact ∷ []) index ≡ Some (link_of (take index (facts ++ fact ∷ [])) one)
    earlier index one there =
        slice_get-front links (link_of facts fact ∷ []) index (link_of (take index facts) one)
        (linked.is index one there)
        ∙ ap (λ list. Some (link_of list one))
        (sym (take-append-le index facts (fact ∷ []) (omega (arith, slice_get_within facts index one there))))

    last : (index : ℕ) (one : Fact) → length facts ≡ index → fact ≡ one
        → slice_get (links ++ link_of facts fact ∷ []) index ≡ Some (link_of (take index (facts ++ fact ∷ [])) one)
    last index one index_is same =
        let front = take-append-le index facts (fact ∷ []) (omega (arith, index_is))
        ∙ take_all index facts (omega (arith, index_is)) in
        ap (slice_get (links ++ link_of facts fact ∷ [])) (sym (linked.as_many ∙ index_is))
        ∙ (slice_get-next links (link_of facts fact) [] ∙ (λ i. Some (link_of (sym front i) (same i))))

-- facts stay linked where their parts stay
pub linked_kept : {S : Type 0} (facts facts_now : List Fact) (newest newest_now : IndexMap Key ℕ S)
    (links links_now : List Earlier) → AreLinked facts newest links → facts_now ≡ facts
    → newest_now.entries ≡ newest.entries → links_now ≡ links → AreLinked facts_now newest_now links_now
linked_kept facts facts_now newest newest_now links links_now linked facts_are entries_are links_are =
    record {
      newest_are = record {
        is = λ asked.
            ap (lookup (key_eq asked)) entries_are
            ∙ (linked.newest_are.is asked ∙ ap (latest (has_key asked)) (sym facts_are));
      };
      links_are = subst (λ list. AreLinks list links_now) (sym facts_are)
          (subst (AreLinks facts) (sym links_are) linked.links_are);
    }

-- facts are linked with one more
pub linked_push : {S : Type 0} (facts facts_now : List Fact) (fact stored : Fact) (index : ℕ)
    (newest newest_now : IndexMap Key ℕ S) (links links_now : List Earlier) (link : Earlier)
    → AreLinked facts newest links → facts_now ≡ facts ++ fact ∷ [] → index ≡ length facts
    → slice_get facts_now index ≡ Some stored
    → ((list : List Fact) → AreNewest list newest → link ≡ link_of list stored)
    → ((list : List Fact) → index ≡ length list → AreNewest list newest → AreNewest (list ++ stored ∷ []) newest_now)
    → links_now ≡ links ++ link ∷ [] → AreLinked facts_now newest_now links_now
linked_push facts facts_now fact stored index newest newest_now links links_now link linked facts_are index_is there
    link_is noted links_are =
    let same = same_Some stored fact (sym there ∙ (λ i. slice_get (facts_are i) (index_is i))
    ∙ slice_get-next facts fact []) in
    let fact_link = link_is facts linked.newest_are ∙ ap (link_of facts) same in
    record {
      newest_are = subst (λ list. AreNewest list newest_now) (ap (λ it. facts ++ it ∷ []) same ∙ sym facts_are)
          (noted facts index_is linked.newest_are);
      links_are = subst (λ list. AreLinks list links_now) (sym facts_are)
          (subst (AreLinks (facts ++ fact ∷ []))
          (ap (λ it. links ++ it ∷ []) (sym fact_link) ∙ sym links_are)
          (links_push facts fact links linked.links_are));
    }

-- the link at an index is that of the fact there
pub link_read : (facts : List Fact) (links : List Earlier) (index : ℕ) (link : Earlier) (fact : Fact)
    → AreLinks facts links → link ≡ get_or links index link → slice_get facts index ≡ Some fact
    → link ≡ link_of (take index facts) fact
link_read facts links index link fact linked read there =
    read ∙ get_or_from_slice_get links index (link_of (take index facts) fact) link (linked.is index fact there)

-- for a key that is not of a future, it gives the one before with the same key
pub latest_own : (before : List Fact) (fact : Fact) (asked : Key) (link : Earlier) → link ≡ link_of before fact
    → IsOf asked fact → ((task : Kind) → asked ≡ key.Future task → ⊥) → link.same_key ≡ latest (has_key asked) before
latest_own before fact asked link is (inl own) other =
    ap (λ it. it.same_key) is ∙ ap (λ it. latest (has_key it) before) own
latest_own before fact asked link is (inr future) other =
    absurd (other (task_of fact) (future_named fact asked future))

-- for the key of a future, it gives the one before with the same future
pub latest_future : (before : List Fact) (fact : Fact) (asked : Key) (task : Kind) (link : Earlier)
    → link ≡ link_of before fact → IsOf asked fact → asked ≡ key.Future task
    → link.same_future ≡ latest (has_key asked) before
latest_future before fact asked task link is (inl own) future = absurd (own_no_future fact task (own ∙ future))
latest_future before fact asked task link is (inr own) future =
    ap (λ it. it.same_future) is ∙ ap (λ found. latest_if found before) own

-- the element at an index that has a property
pub found_of : {A : Type 0} (list : List A) (index : ℕ) (Has : A → Type 0) → IsSomeAnd (slice_get list index) Has
    → (one : A) × (slice_get list index ≡ Some one) × Has one
found_of {A} list index Has has = go (slice_get list index) refl has
  where
    go : (found : Option A) → slice_get list index ≡ found → IsSomeAnd found Has
        → (one : A) × (slice_get list index ≡ Some one) × Has one
    go (Some one) is it = (one, is, it)
    go None is it = absurd it
