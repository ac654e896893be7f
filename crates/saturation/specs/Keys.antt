-- Keys of facts, by which they are found.
--
--   `key_of`, `future_key_of`      the key of a fact, and that of the future that a slot holds
--   `IsOf`, `IsOfSlot`             a fact has a key, and it says that a slot of a kind holds something
--   `IsLatest`                     the last of the first elements of a list that has a property
use Rattle.std.specs.Prelude.{◌≡◌, ◌<◌, ◌⊎◌, ℕ, List, Option, Some, None, slice_get}
use Rattle.contract_terms.specs.declared.fact.Atom.{Atom}
use Rattle.contract_terms.specs.declared.fact.Atom.TheVariants.{Future}
use Rattle.contract_terms.specs.declared.fact.Fact.{Fact}
use Rattle.contract_terms.specs.declared.fact.Fact.TheVariants as fact
use Rattle.name_bounding.specs.declared.kind.Kind.{Kind}
use Rattle.name_bounding.specs.declared.kind.Kind.TheVariants as kind
use Rattle.saturation.specs.declared.key.Key.{Key}
use Rattle.saturation.specs.declared.key.Key.TheVariants as key

-- the key of a fact
abbrev pub key_of : Fact → Key
key_of (fact.Live kind.Main) = key.Main
key_of (fact.Live (kind.Method sign method)) = key.Object sign
key_of (fact.Holds holder slot atom) = key.Slot holder slot
key_of (fact.Field sign field atom) = key.Field sign field
key_of (fact.Gives giver atom) = key.Result giver

-- the key of the future that a slot holds, if the fact says that one does
abbrev pub future_key_of : Fact → Option Key
future_key_of (fact.Holds holder slot (Future call task)) = Some (key.Future task)
future_key_of _ = None

-- The fact has the key: its own, or that of the future that a slot holds.
abbrev pub IsOf : Key → Fact → Type 0
IsOf key fact = (key_of fact ≡ key) ⊎ (future_key_of fact ≡ Some key)

-- The fact says that a slot of a kind holds something.
abbrev pub IsOfSlot : Kind → ℕ → Fact → Type 0
IsOfSlot kind slot one = (atom : Atom) × (one ≡ fact.Holds kind slot atom)

-- No one of the first elements has the property, or the last of them that has it is at this index.
abbrev pub IsLatest : {A : Type 0} → (A → Type 0) → List A → ℕ → Option ℕ → Type 0
IsLatest {A} Has list bound None = (index : ℕ) (one : A) → index < bound → slice_get list index ≡ Some one → Has one → ⊥
IsLatest {A} Has list bound (Some latest) = (latest < bound)
    × ((found : A) × (slice_get list latest ≡ Some found) × Has found)
    × ((index : ℕ) (one : A) → latest < index → index < bound → slice_get list index ≡ Some one → Has one → ⊥)
