-- The atoms of an expression in a kind.
--
--   `slot_found`, `field_found`    the atoms of one slot and of one field were found
--   `own_found`, `this_found`      those of the fields of `this`, and then `this` itself
--   `main_gives`, `method_gives`   all atoms of an expression were found, in main and in a method
--   `gives_grows`                  an expression gives what it gave when less was known
use Rattle.std.proofs.Common.{◌≡◌, ◌∙◌, ◌⊎◌, inl, inr, ⊎_elim, ℕ, true, false, List, [], Contains, refl, sym, ap, subst}
use Rattle.std.proofs.lemmas.Bool.{false≢true}
use Rattle.abs_tree.specs.declared.symbol.Symbol.{Symbol}
use Rattle.contract_terms.specs.Reading.{ReadsTree}
use Rattle.contract_terms.specs.declared.fact.Atom.{Atom}
use Rattle.contract_terms.specs.declared.fact.Atom.TheVariants.{Object}
use Rattle.contract_terms.specs.declared.fact.Fact.{Fact}
use Rattle.contract_terms.specs.declared.fact.Fact.TheVariants.{Holds, Field}
use Rattle.name_bounding.specs.declared.kind.Kind.{Kind}
use Rattle.name_bounding.specs.declared.kind.Kind.TheVariants.{Main, Method}
use Rattle.name_bounding.specs.declared.kind.Sign.{Sign}
use Rattle.saturation.specs.Passing.{FromEach, HoldsIn, HoldsInField, OwnGives, own_field, own_this}
use Rattle.saturation.specs.Rows.{GivesAtom, by_slot, by_field, by_this}
use Rattle.saturation.specs.Steps.{AreAmong, Finds, Holding}
use Rattle.saturation.specs.declared.derivation.Derivation.{Derivation}
use Rattle.saturation.specs.declared.key.Key.TheVariants as key
use Rattle.saturation.proofs.EachLemmas.{inside_none}
use Rattle.saturation.proofs.FindLemmas.{finds_as, finds_then_more}
use Rattle.saturation.proofs.HoldingLemmas.{holding_slot, slot_holding, holding_field, field_holding}

-- what is found beside older things, in other words
found_beside : {A : Type 0} {One Other : List Fact → A → Type 0} (older : List A) {now : List A}
    {start end : Derivation}
    → Finds (λ known one. Contains older one ⊎ One known one) now start end
    → ((known : List Fact) (one : A) → One known one → Other known one)
    → ((known : List Fact) (one : A) → Other known one → One known one)
    → Finds (λ known one. Contains older one ⊎ Other known one) now start end
found_beside older {start = start} step to from = finds_as step
    (λ one there. ⊎_elim (λ old. inl old) (λ new. inr (to start.facts one new)) there)
    (λ one there. ⊎_elim (λ old. inl old) (λ new. inr (from start.facts one new)) there)

-- the atoms of a slot were found
pub slot_found : (holder copied : Kind) (slot : ℕ) → copied ≡ holder → (older : List Atom) {now : List Atom}
    {start end : Derivation}
    → Finds (λ known atom. Contains older atom ⊎ Holding (key.Slot copied slot) known atom) now start end
    → Finds (λ known atom. Contains older atom ⊎ HoldsIn holder slot known atom) now start end
slot_found holder copied slot same older {now} {start} {end} step = found_beside older
    (subst (λ it. Finds (λ known atom. Contains older atom ⊎ Holding (key.Slot it slot) known atom) now start end)
    same step)
    (holding_slot holder slot) (slot_holding holder slot)

-- so were those of a field
pub field_found : (sign copied : Sign) (field : ℕ) → copied ≡ sign → (older : List Atom) {now : List Atom}
    {start end : Derivation}
    → Finds (λ known atom. Contains older atom ⊎ Holding (key.Field copied field) known atom) now start end
    → Finds (λ known atom. Contains older atom ⊎ HoldsInField sign field known atom) now start end
field_found sign copied field same older {now} {start} {end} step = found_beside older
    (subst (λ it. Finds (λ known atom. Contains older atom ⊎ Holding (key.Field it field) known atom) now start end)
    same step)
    (holding_field sign field) (field_holding sign field)

-- `this` is not read, or it is the atom
own_without : (sign : Sign) (reads : ReadsTree) (known : List Fact) (atom : Atom) → reads.this ≡ false
    → OwnGives sign reads known atom → FromEach (HoldsInField sign) reads.fields known atom
own_without sign reads known atom not (own_field same each) = each
own_without sign reads known atom not (own_this this) = absurd (false≢true (sym not ∙ this))

own_with : (sign : Sign) (reads : ReadsTree) (known : List Fact) (atom : Atom) → OwnGives sign reads known atom
    → FromEach (HoldsInField sign) reads.fields known atom ⊎ (Object sign ≡ atom)
own_with sign reads known atom (own_field same each) = inl each
own_with sign reads known atom (own_this this) = inr refl

-- the atoms of the fields of `this` were found, where `this` is not read
pub own_found : (sign : Sign) (reads : ReadsTree) → reads.this ≡ false → (older : List Atom) {now : List Atom}
    {start end : Derivation}
    → Finds (λ known atom. Contains older atom ⊎ FromEach (HoldsInField sign) reads.fields known atom) now start end
    → Finds (λ known atom. Contains older atom ⊎ OwnGives sign reads known atom) now start end
own_found sign reads not older step =
    found_beside older step (λ known atom each. own_field atom each)
    (λ known atom. own_without sign reads known atom not)

-- they were found, and then `this` itself
pub this_found : (sign copied : Sign) (reads : ReadsTree) → reads.this ≡ true → copied ≡ sign
    → (older between : List Atom) {now : List Atom} {start middle end : Derivation}
    → Finds (λ known atom. Contains older atom ⊎ FromEach (HoldsInField sign) reads.fields known atom) between
    start middle
    → Finds (λ known atom. Contains between atom ⊎ (Object copied ≡ atom)) now middle end
    → Finds (λ known atom. Contains older atom ⊎ OwnGives sign reads known atom) now start end
this_found sign copied reads this same older between {start = start} first next = finds_as (finds_then_more first next)
    (λ atom there. ⊎_elim (⊎_elim (λ old. inl old) (λ each. inr (own_field atom each)))
    (λ is. inr (subst (OwnGives sign reads start.facts) (ap Object (sym same) ∙ is) (own_this this))) there)
    (λ atom there. ⊎_elim (λ old. inl (inl old)) (λ own. ⊎_elim (λ each. inl (inr each))
    (λ is. inr (ap Object same ∙ is)) (own_with sign reads start.facts atom own)) there)

-- in main an expression gives what its slots hold
gives_in_main : (kind : Kind) (reads : ReadsTree) (known : List Fact) (atom : Atom) → kind ≡ Main
    → GivesAtom kind reads known atom → FromEach (HoldsIn kind) reads.slots known atom
gives_in_main kind reads known atom is (by_slot slot same inside there) =
    record { from = slot; inside = inside; there = there }
gives_in_main kind reads known atom is (by_field sign method own field same inside there) = absurd cc
gives_in_main kind reads known atom is (by_this sign method own this) = absurd cc

gives_of_slots : (kind : Kind) (reads : ReadsTree) (known : List Fact) (atom : Atom)
    → FromEach (HoldsIn kind) reads.slots known atom → GivesAtom kind reads known atom
gives_of_slots kind reads known atom each = by_slot each.from atom each.inside each.there

-- in a method it gives also what it gives of `this`
gives_in_method : (kind : Kind) (sign : Sign) (method : Symbol) (reads : ReadsTree) (known : List Fact) (atom : Atom)
    → kind ≡ Method sign method → GivesAtom kind reads known atom
    → FromEach (HoldsIn kind) reads.slots known atom ⊎ OwnGives sign reads known atom
gives_in_method kind sign method reads known atom is (by_slot slot same inside there) =
    inl (record { from = slot; inside = inside; there = there })
gives_in_method kind sign method reads known atom is (by_field own_sign own_method own field same inside there) =
    let sign_is : own_sign ≡ sign = cc in
    inr (own_field atom (record {
      from = field;
      inside = inside;
      there = subst (λ it. Contains known (Field it field atom)) sign_is there;
    }))
gives_in_method kind sign method reads known atom is (by_this own_sign own_method own this) =
    let sign_is : sign ≡ own_sign = cc in
    inr (subst (λ it. OwnGives sign reads known (Object it)) sign_is (own_this this))

gives_of_own : (kind : Kind) (sign : Sign) (method : Symbol) (reads : ReadsTree) (known : List Fact) (atom : Atom)
    → kind ≡ Method sign method → OwnGives sign reads known atom → GivesAtom kind reads known atom
gives_of_own kind sign method reads known atom is (own_field same each) =
    by_field sign method is each.from atom each.inside each.there
gives_of_own kind sign method reads known atom is (own_this this) = by_this sign method is this

-- all atoms of an expression were found in main
pub main_gives : (kind : Kind) → kind ≡ Main → (reads : ReadsTree) (older : List Atom) → older ≡ [] → {now : List Atom}
    {start end : Derivation}
    → Finds (λ known atom. Contains older atom ⊎ FromEach (HoldsIn kind) reads.slots known atom) now start end
    → Finds (GivesAtom kind reads) now start end
main_gives kind is reads older none {start = start} step = finds_as step
    (λ atom there. ⊎_elim (λ old. absurd (inside_none older none atom old))
    (λ each. gives_of_slots kind reads start.facts atom each) there)
    (λ atom gives. inr (gives_in_main kind reads start.facts atom is gives))

-- they were found in a method
pub method_gives : (kind : Kind) (sign : Sign) (method : Symbol) → kind ≡ Method sign method → (reads : ReadsTree)
    (older between : List Atom) → older ≡ [] → {now : List Atom} {start middle end : Derivation}
    → Finds (λ known atom. Contains older atom ⊎ FromEach (HoldsIn kind) reads.slots known atom) between start middle
    → Finds (λ known atom. Contains between atom ⊎ OwnGives sign reads known atom) now middle end
    → Finds (GivesAtom kind reads) now start end
method_gives kind sign method is reads older between none {start = start} first next =
    finds_as (finds_then_more first next)
    (λ atom there. ⊎_elim (⊎_elim (λ old. absurd (inside_none older none atom old))
    (λ each. gives_of_slots kind reads start.facts atom each))
    (λ own. gives_of_own kind sign method reads start.facts atom is own) there)
    (λ atom gives. ⊎_elim (λ each. inl (inr each)) (λ own. inr own)
    (gives_in_method kind sign method reads start.facts atom is gives))

-- an expression gives what it gave when less was known
pub gives_grows : (kind : Kind) (reads : ReadsTree) (some others : List Fact) → AreAmong some others → (atom : Atom)
    → GivesAtom kind reads some atom → GivesAtom kind reads others atom
gives_grows kind reads some others among atom (by_slot slot same inside there) =
    by_slot slot atom inside (among (Holds kind slot atom) there)
gives_grows kind reads some others among atom (by_field sign method is field same inside there) =
    by_field sign method is field atom inside (among (Field sign field atom) there)
gives_grows kind reads some others among atom (by_this sign method is this) = by_this sign method is this
