-- Facts with a key, and the atoms that they hold.
--
--   `holding_slot`, `slot_holding`         a fact with the key of a slot holds an atom just if the slot does
--   `holding_field`, `field_holding`       so it is for a field
--   `holding_result`, `result_holding`     so it is for results
--   `key_grows`, `holding_grows`           more facts have what fewer have
--   `method_of_key`, `call_of_key`         what a fact says that has the key of a sign, or of the futures of a task
use Rattle.std.proofs.Common.{◌≡◌, inl, inr, ℕ, Bool, true, false, List, Contains, refl, sym, ap, subst, ◌∙◌}
use Rattle.std.specs.Prelude.{Option, Some, None, is_some}
use Rattle.abs_tree.specs.declared.symbol.Symbol.{Symbol}
use Rattle.std.proofs.lemmas.Bool.{false≢true}
use Rattle.std.proofs.lemmas.Option.{none-some, same_Some}
use Rattle.contract_terms.specs.declared.fact.Atom.{Atom}
use Rattle.contract_terms.specs.declared.fact.Atom.TheVariants.{Object, Future}
use Rattle.contract_terms.specs.declared.fact.Fact.{Fact}
use Rattle.contract_terms.specs.declared.fact.Fact.TheVariants as fact
use Rattle.name_bounding.specs.declared.kind.Kind.{Kind}
use Rattle.name_bounding.specs.declared.kind.Kind.TheVariants as kind
use Rattle.name_bounding.specs.declared.kind.Sign.{Sign}
use Rattle.saturation.specs.Keys.{key_of, future_key_of, IsOf}
use Rattle.saturation.specs.Steps.{AreAmong, HasKey, Holding, atom_of}
use Rattle.saturation.specs.declared.key.Key.{Key}
use Rattle.saturation.specs.declared.key.Key.TheVariants as key

-- the fact that what has a key holds an atom
abbrev says : Key → Atom → Option Fact
says (key.Slot holder slot) atom = Some (fact.Holds holder slot atom)
says (key.Field sign field) atom = Some (fact.Field sign field atom)
says (key.Result giver) atom = Some (fact.Gives giver atom)
says _ atom = None

-- a fact that holds an atom says so of its key
says_own : (one : Fact) (atom : Atom) → atom_of one ≡ Some atom → says (key_of one) atom ≡ Some one
says_own (fact.Live live) atom is = absurd (false≢true (ap is_some is))
says_own (fact.Holds holder slot held) atom is =
    ap (λ one. Some (fact.Holds holder slot one)) (sym (same_Some held atom is))
says_own (fact.Field sign field held) atom is =
    ap (λ one. Some (fact.Field sign field one)) (sym (same_Some held atom is))
says_own (fact.Gives giver held) atom is = ap (λ one. Some (fact.Gives giver one)) (sym (same_Some held atom is))

-- whether a key is that of a future
abbrev is_future : Key → Bool
is_future (key.Future task) = true
is_future _ = false

-- a fact has the key of a future only if that is one
future_is : (one : Fact) (own : Key) → future_key_of one ≡ Some own → is_future own ≡ true
future_is (fact.Live live) own is = absurd (false≢true (ap is_some is))
future_is (fact.Holds holder slot (Object sign)) own is = absurd (false≢true (ap is_some is))
future_is (fact.Holds holder slot (Future call task)) own is =
    ap is_future (sym (same_Some (key.Future task) own is))
future_is (fact.Field sign field atom) own is = absurd (false≢true (ap is_some is))
future_is (fact.Gives giver atom) own is = absurd (false≢true (ap is_some is))

-- a fact with a key that is not that of a future, and that holds an atom, says so of the key
says_key : (one : Fact) (key : Key) (atom : Atom) → is_future key ≡ false → IsOf key one → atom_of one ≡ Some atom
    → says key atom ≡ Some one
says_key one key atom plain (inl same) holds =
    subst (λ (it : Key). says it atom ≡ Some one) same (says_own one atom holds)
says_key one key atom plain (inr future) holds =
    absurd (false≢true (sym plain ∙ future_is one key future))

-- what a key says to hold is held, if a fact with it holds it
said : (key : Key) (facts : List Fact) (atom : Atom) (one : Fact) → is_future key ≡ false
    → says key atom ≡ Some one → Holding key facts atom → Contains facts one
said key facts atom one plain is holding =
    let same = same_Some holding.fact one
    (sym (says_key holding.fact key atom plain holding.there.1 holding.holds) ∙ is) in
    subst (λ (it : Fact). Contains facts it) same holding.there.0

-- a fact with the key of a slot holds an atom just if the slot does
pub holding_slot : (holder : Kind) (slot : ℕ) (facts : List Fact) (atom : Atom)
    → Holding (key.Slot holder slot) facts atom → Contains facts (fact.Holds holder slot atom)
holding_slot holder slot facts atom = said (key.Slot holder slot) facts atom (fact.Holds holder slot atom) refl refl

pub slot_holding : (holder : Kind) (slot : ℕ) (facts : List Fact) (atom : Atom)
    → Contains facts (fact.Holds holder slot atom) → Holding (key.Slot holder slot) facts atom
slot_holding holder slot facts atom there =
    record { fact = fact.Holds holder slot atom; there = (there, inl refl); holds = refl }

-- so it is for a field
pub holding_field : (sign : Sign) (field : ℕ) (facts : List Fact) (atom : Atom)
    → Holding (key.Field sign field) facts atom → Contains facts (fact.Field sign field atom)
holding_field sign field facts atom = said (key.Field sign field) facts atom (fact.Field sign field atom) refl refl

pub field_holding : (sign : Sign) (field : ℕ) (facts : List Fact) (atom : Atom)
    → Contains facts (fact.Field sign field atom) → Holding (key.Field sign field) facts atom
field_holding sign field facts atom there =
    record { fact = fact.Field sign field atom; there = (there, inl refl); holds = refl }

-- so it is for results
pub holding_result : (giver : Kind) (facts : List Fact) (atom : Atom)
    → Holding (key.Result giver) facts atom → Contains facts (fact.Gives giver atom)
holding_result giver facts atom = said (key.Result giver) facts atom (fact.Gives giver atom) refl refl

pub result_holding : (giver : Kind) (facts : List Fact) (atom : Atom)
    → Contains facts (fact.Gives giver atom) → Holding (key.Result giver) facts atom
result_holding giver facts atom there =
    record { fact = fact.Gives giver atom; there = (there, inl refl); holds = refl }

-- more facts have what fewer have
pub holding_grows : (key : Key) (some others : List Fact) → AreAmong some others → (atom : Atom)
    → Holding key some atom → Holding key others atom
holding_grows key some others among atom holding = record {
  fact = holding.fact;
  there = (among holding.fact holding.there.0, holding.there.1);
  holds = holding.holds;
}

pub key_grows : (key : Key) (some others : List Fact) → AreAmong some others → (one : Fact) → HasKey key some one
    → HasKey key others one
key_grows key some others among one has = (among one has.0, has.1)

-- the sign of a key
abbrev sign_of_key : Key → Option Sign
sign_of_key (key.Object sign) = Some sign
sign_of_key _ = None

-- the task of the future of a key
abbrev task_of_key : Key → Option Kind
task_of_key (key.Future task) = Some task
task_of_key _ = None

-- a live kind with the key of a sign is that of a method of an object with the sign
pub method_of_key : (live : Kind) (sign : Sign) → IsOf (key.Object sign) (fact.Live live)
    → (method : Symbol) × (live ≡ kind.Method sign method)
method_of_key kind.Main sign (inl same) = absurd (none-some sign (ap sign_of_key same))
method_of_key (kind.Method own method) sign (inl same) =
    (method, ap (λ it. kind.Method it method) (same_Some own sign (ap sign_of_key same)))
method_of_key live sign (inr future) = absurd (none-some (key.Object sign) future)

-- what holds something and has the key of the futures of a task holds one of them
pub call_of_key : (holder : Kind) (slot : ℕ) (held : Atom) (task : Kind)
    → IsOf (key.Future task) (fact.Holds holder slot held) → (call : ℕ) × (held ≡ Future call task)
call_of_key holder slot held task (inl same) = absurd (none-some task (ap task_of_key same))
call_of_key holder slot (Object sign) task (inr future) = absurd (none-some (key.Future task) future)
call_of_key holder slot (Future call own) task (inr future) =
    (call, ap (Future call) (same_Some own task (ap task_of_key (same_Some (key.Future own) (key.Future task) future))))
