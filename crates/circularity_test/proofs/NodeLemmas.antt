-- Lists in which each key is once, and the numbers of keys there.
--
--   `node_eq_decides`, `group_eq_decides`      the tests of nodes and of groups in the code
--   `number_found`, `one_number`               a search finds the number of a key, and a key has one number
--   `key_kept`                 a key keeps its number when one is inserted
--   `zip_at`, `zip_both`       what is at an index of one of two lists that go together, and of both
--   `zip_length`, `zip_push`   they are as long, and one more in each
--   `has_component`            there is a component for each pair
--   `numbers_none`, `numbers_more`, `numbers_all`      the numbers of the keys of some items, in a loop
--   `numbers_within`                           they are within the list of keys
use denote.Struct.Props as logic
use mathlib.Core.Logic.{∥∥₁_elim}
use Rattle.std.proofs.Common.{◌≡◌, ◌∙◌, ⊎_elim, ◌↔◌, ℕ, zero, suc, ◌+◌, ◌<◌, ◌≤◌, Bool, true, false, cond, if◌then◌else◌, List, [], ◌∷◌, ◌++◌, length, get_or, take, position, slice_get, Option, Some, None, All, rules, refl, sym, ap, subst, arith}
use Rattle.indexmap.specs.IndexSet.{insert_key}
use Rattle.list_facts.proofs.EntryLemmas.{slice_get-front, take-found}
use Rattle.std.proofs.lemmas.Bool.{cases_Bool, false≢true}
use Rattle.std.proofs.lemmas.Bool.Decides.{nat_tests}
use Rattle.std.proofs.lemmas.List.{take_all}
use Rattle.std.proofs.lemmas.List.Elements.{All-cons, All-nil}
use Rattle.std.proofs.lemmas.List.Quantifiers.{position-Some}
use Rattle.std.proofs.lemmas.List.Sums.{position_or_len_is}
use Rattle.std.proofs.lemmas.Map.Keys.{apart_from_distinct}
use Rattle.std.proofs.lemmas.Option.{get_or_from_slice_get, none-some, same_Some, slice_get-get_or, slice_get_within}
use Rattle.std.specs.Bool.{Decides}
use Rattle.std.specs.List.{AllZip, IsDistinct, list_any, position_or_len}
use Rattle.std.specs.Prelude.{nat_lt}
use Rattle.circularity_test.specs.Network.{AreNumbers}
use Rattle.circularity_test.specs.Numbers.{HasComponents}
use Rattle.circularity_test.specs.contracts.network.GroupPartialEq.TheImpl as group_equality
use Rattle.circularity_test.specs.contracts.network.NodePartialEq.TheImpl as node_equality
use Rattle.circularity_test.specs.declared.network.Group.{Group}
use Rattle.circularity_test.specs.declared.network.Node.{Node}
use Rattle.contract_terms.specs.declared.pair.Pair.{Pair}

-- whether two nodes are equal
abbrev pub node_eq : Node → Node → Bool
node_eq = (node_equality.eq-value).it

node_eq_reflexive : (one : Node) → node_eq one one ≡ true
node_eq_reflexive one = search rules

node_eq_same : (one other : Node) → node_eq one other ≡ true → one ≡ other
node_eq_same one other reported = search rules

-- the test tells equal nodes
pub node_eq_decides : (one other : Node) → Decides (node_eq one other) (one ≡ other)
node_eq_decides one other =
    (node_eq_same one other, λ same. subst (λ it. node_eq one it ≡ true) same (node_eq_reflexive one))

-- whether two groups are equal
abbrev pub group_eq : Group → Group → Bool
group_eq = (group_equality.eq-value).it

group_eq_reflexive : (one : Group) → group_eq one one ≡ true
group_eq_reflexive one = search rules

group_eq_same : (one other : Group) → group_eq one other ≡ true → one ≡ other
group_eq_same one other reported = search rules

-- the test tells equal groups
pub group_eq_decides : (one other : Group) → Decides (group_eq one other) (one ≡ other)
group_eq_decides one other =
    (group_eq_same one other, λ same. subst (λ it. group_eq one it ≡ true) same (group_eq_reflexive one))

module _ {A : Type 0} (eq : A → A → Bool) (decides : (one other : A) → Decides (eq one other) (one ≡ other))
    (keys : List A)
  where
    -- what is found is the key
    found_there : (key : A) (number : ℕ) → position (eq key) keys ≡ Some number → slice_get keys number ≡ Some key
    found_there key number found =
        let at = position-Some (eq key) keys number key found in
        slice_get-get_or keys number key at.0 ∙ ap Some (sym ((decides key (get_or keys number key)).0 at.1))

    module _ (distinct : IsDistinct eq keys) where
      -- a key is not before one that is equal
      not_before : (one other : ℕ) (key : A) → slice_get keys one ≡ Some key → slice_get keys other ≡ Some key
          → one < other → ⊥
      not_before one other key here there less =
          let apart = apart_from_distinct eq keys one other key distinct less
          (slice_get_within keys other key there) in
          false≢true (sym apart ∙ (decides (get_or keys one key) (get_or keys other key)).1
          (get_or_from_slice_get keys one key key here ∙ sym (get_or_from_slice_get keys other key key there)))

      -- nothing before a key passes the test for it
      fails_before : (number : ℕ) (key : A) → slice_get keys number ≡ Some key → (earlier : ℕ) → earlier < number
          → eq key (get_or keys earlier key) ≡ false
      fails_before number key there earlier less = ⊎_elim
          (λ passed. absurd (not_before earlier number key
          (slice_get-get_or keys earlier key (omega (arith, less, slice_get_within keys number key there))
          ∙ ap Some (sym ((decides key (get_or keys earlier key)).0 passed))) there less))
          (λ failed. failed)
          (cases_Bool (eq key (get_or keys earlier key)))

      -- a search finds each key that is there
      there_found : (key : A) (number : ℕ) → slice_get keys number ≡ Some key → position (eq key) keys ≡ Some number
      there_found key number there =
          let within = slice_get_within keys number key there in
          let first : position_or_len (eq key) keys ≡ number = position_or_len_is (eq key) keys number key
          (omega (arith, within)) (fails_before number key there)
          (λ _. (decides key (get_or keys number key)).1 (sym (get_or_from_slice_get keys number key key there))) in
          let below : nat_lt number (length keys) ≡ true = grind (arith, nat_tests, within) in
          ap (λ at. cond (nat_lt at (length keys)) (Some at) None) first
          ∙ ap (λ (is : Bool). cond is (Some number) None) below

      -- a search finds the number of a key
      pub number_found : (key : A) (found : Option ℕ) → found ≡ position (eq key) keys → (number : ℕ)
          → (found ≡ Some number) ↔ (slice_get keys number ≡ Some key)
      number_found key found is number =
          ((λ at. found_there key number (sym is ∙ at)), (λ there. is ∙ there_found key number there))

      -- a key has one number
      pub one_number : (one other : ℕ) (key : A) → slice_get keys one ≡ Some key → slice_get keys other ≡ Some key
          → one ≡ other
      one_number one other key here there =
          same_Some one other (sym (there_found key one here) ∙ there_found key other there)

-- what is at an index of the first of two lists goes with what is there in the second
pub zip_at : {A B : Type 0} (Is : A → B → Type 0) (firsts : List A) (seconds : List B) → AllZip Is firsts seconds
    → (index : ℕ) (first : A) → slice_get firsts index ≡ Some first
    → (second : B) × (slice_get seconds index ≡ Some second) × Is first second
zip_at Is [] seconds all index first there = absurd (none-some first there)
zip_at Is (one ∷ firsts) [] all index first there = absurd all
zip_at Is (one ∷ firsts) (other ∷ seconds) all zero first there =
    (other, refl, subst (λ it. Is it other) (same_Some one first there) all.0)
zip_at Is (one ∷ firsts) (other ∷ seconds) all (suc index) first there =
    zip_at Is firsts seconds all.1 index first there

-- what is at an index of two lists goes together
pub zip_both : {A B : Type 0} (Is : A → B → Type 0) (firsts : List A) (seconds : List B) → AllZip Is firsts seconds
    → (index : ℕ) (first : A) (second : B) → slice_get firsts index ≡ Some first → slice_get seconds index ≡ Some second
    → Is first second
zip_both Is firsts seconds all index first second here there =
    let at = zip_at Is firsts seconds all index first here in
    subst (Is first) (same_Some at.0 second (sym at.1 ∙ there)) at.2

-- both lists are as long
pub zip_length : {A B : Type 0} (Is : A → B → Type 0) (firsts : List A) (seconds : List B) → AllZip Is firsts seconds
    → length firsts ≡ length seconds
zip_length Is [] [] all = refl
zip_length Is [] (other ∷ seconds) all = absurd all
zip_length Is (one ∷ firsts) [] all = absurd all
zip_length Is (one ∷ firsts) (other ∷ seconds) all = ap suc (zip_length Is firsts seconds all.1)

-- there is a component for each pair
pub has_component : (pairs : List Pair) (components : List ℕ) → ∥ HasComponents pairs components ∥₁ → (index : ℕ)
    → index < length pairs → index < length components
has_component pairs components numbered index within =
    ∥∥₁_elim numbered (Prim.hlevel logic.props) (λ it.
    let same = zip_length _ pairs components it.1 in omega (arith, within, same))

-- one more in each list
pub zip_push : {A B : Type 0} (Is : A → B → Type 0) (firsts : List A) (seconds : List B) (first : A) (second : B)
    → AllZip Is firsts seconds → Is first second → AllZip Is (firsts ++ first ∷ []) (seconds ++ second ∷ [])
zip_push Is [] [] first second all is = (is, tt)
zip_push Is [] (other ∷ seconds) first second all is = absurd all
zip_push Is (one ∷ firsts) [] first second all is = absurd all
zip_push Is (one ∷ firsts) (other ∷ seconds) first second all is =
    (all.0, zip_push Is firsts seconds first second all.1 is)

-- a key keeps its number when one is inserted
pub key_kept : {A : Type 0} (eq : A → A → Bool) (keys : List A) (new : A) (number : ℕ) (key : A)
    → slice_get keys number ≡ Some key → slice_get (insert_key eq keys new) number ≡ Some key
key_kept eq keys new number key there = by (list_any (eq new) keys)
  where
    by : (has : Bool) → slice_get (if has then keys else keys ++ new ∷ []) number ≡ Some key
    by true = there
    by false = slice_get-front keys (new ∷ []) number key there

module _ {A B : Type 0} (eq : A → A → Bool) (decides : (one other : A) → Decides (eq one other) (one ≡ other))
    (key_of : B → A)
  where
    numbers_kept : (keys : List A) (new : A) (items : List B) (numbers : List ℕ) → AreNumbers key_of items keys numbers
        → AreNumbers key_of items (insert_key eq keys new) numbers
    numbers_kept keys new [] [] all = tt
    numbers_kept keys new [] (number ∷ numbers) all = all
    numbers_kept keys new (item ∷ items) [] all = all
    numbers_kept keys new (item ∷ items) (number ∷ numbers) all =
        (key_kept eq keys new number (key_of item) all.0, numbers_kept keys new items numbers all.1)

    -- one item more has its number
    pub numbers_more : (keys more : List A) (items : List B) (numbers : List ℕ) (index : ℕ) (item : B) (key : A)
        (number : ℕ) → slice_get items index ≡ Some item → key ≡ key_of item → more ≡ insert_key eq keys key
        → (found : A) × (slice_get more number ≡ Some found) × (eq key found ≡ true)
        → AreNumbers key_of (take index items) keys numbers
        → AreNumbers key_of (take (index + 1) items) more (numbers ++ number ∷ [])
    numbers_more keys more items numbers index item key number there is inserted stored all =
        subst (λ part. AreNumbers key_of part more (numbers ++ number ∷ [])) (sym (take-found items index item there))
        (zip_push (λ (one : B) (at : ℕ). slice_get more at ≡ Some (key_of one)) (take index items) numbers item number
        (subst (λ now. AreNumbers key_of (take index items) now numbers) (sym inserted)
        (numbers_kept keys key (take index items) numbers all))
        (stored.1 ∙ ap Some (sym ((decides key stored.0).0 stored.2) ∙ is)))

    -- all items have their numbers
    pub numbers_all : (keys : List A) (items : List B) (numbers : List ℕ) (index : ℕ) → length items ≤ index
        → AreNumbers key_of (take index items) keys numbers → AreNumbers key_of items keys numbers
    numbers_all keys items numbers index over all =
        subst (λ part. AreNumbers key_of part keys numbers) (take_all index items over) all

-- the numbers of keys are within the list of keys
pub numbers_within : {A B : Type 0} (key_of : B → A) (keys : List A) (items : List B) (numbers : List ℕ)
    → AreNumbers key_of items keys numbers → All (λ number. number < length keys) numbers
numbers_within key_of keys [] [] all = All-nil (λ number. number < length keys)
numbers_within key_of keys [] (number ∷ numbers) all = absurd all
numbers_within key_of keys (item ∷ items) [] all = absurd all
numbers_within key_of keys (item ∷ items) (number ∷ numbers) all =
    All-cons (λ one. one < length keys) number numbers (slice_get_within keys number (key_of item) all.0)
    (numbers_within key_of keys items numbers all.1)
