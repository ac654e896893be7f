-- How facts are found by their keys. It serves proofs only.
--
--   `key_eq`               the test of the code, which tells equal keys
--   `has_key`              whether a fact has a key
--   `latest`               the index of the last element that passes a test
--   `AreNewest`            a map gives for each key the index of the newest fact with it
--   `link_of`, `AreLinks`  the facts before one that have its keys, and those before each
--   `AreLinked`            both hold
use Rattle.indexmap.specs.IndexMap.{IndexMap, get}
use Rattle.std.specs.Prelude.{◌≡◌, ℕ, suc, Bool, true, false, ◌||◌, List, [], ◌∷◌, length, take, Option, Some, None, slice_get}
use Rattle.contract_terms.specs.declared.fact.Fact.{Fact}
use Rattle.saturation.specs.Keys.{key_of, future_key_of}
use Rattle.saturation.specs.contracts.key.KeyPartialEq.TheImpl as key_equality
use Rattle.saturation.specs.declared.facts.Earlier.{Earlier}
use Rattle.saturation.specs.declared.key.Key.{Key}

-- whether two keys are equal
abbrev pub key_eq : Key → Key → Bool
key_eq = (key_equality.eq-value).it

-- whether there is a key, and it is this one
abbrev pub is_key : Option Key → Key → Bool
is_key None key = false
is_key (Some found) key = key_eq found key

-- whether a fact has a key
unfoldable pub has_key : Key → Fact → Bool
has_key key fact = is_key (future_key_of fact) key || key_eq (key_of fact) key

-- an index among the later elements, or that of the first one if it passes the test
abbrev pub or_first : Option ℕ → Bool → Option ℕ
or_first (Some index) first = Some (suc index)
or_first None true = Some 0
or_first None false = None

-- the index of the last element that passes a test
abbrev pub latest : {A : Type 0} → (A → Bool) → List A → Option ℕ
latest test [] = None
latest test (one ∷ others) = or_first (latest test others) (test one)

-- the index of the last fact with a key, if there is a key
abbrev pub latest_if : Option Key → List Fact → Option ℕ
latest_if None facts = None
latest_if (Some key) facts = latest (has_key key) facts

-- The map gives for each key the index of the newest fact with it.
pub record AreNewest {S : Type 0} (facts : List Fact) (newest : IndexMap Key ℕ S) : Type 0 where
  pub is : (key : Key) → get key_eq newest key ≡ latest (has_key key) facts

-- the newest of some facts that have the keys of a fact
abbrev pub link_of : List Fact → Fact → Earlier
link_of before fact =
    record { same_key = latest (has_key (key_of fact)) before; same_future = latest_if (future_key_of fact) before }

-- There is a link for each fact, which is to those before it that have its keys.
pub record AreLinks (facts : List Fact) (links : List Earlier) : Type 0 where
  pub as_many : length links ≡ length facts
  pub is : (index : ℕ) (fact : Fact) → slice_get facts index ≡ Some fact
      → slice_get links index ≡ Some (link_of (take index facts) fact)

-- The map gives the newest fact with each key, and the links are to those before.
pub record AreLinked {S : Type 0} (facts : List Fact) (newest : IndexMap Key ℕ S) (links : List Earlier) : Type 0 where
  pub newest_are : AreNewest facts newest
  pub links_are : AreLinks facts links
