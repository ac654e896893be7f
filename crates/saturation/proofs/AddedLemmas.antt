-- How uses are added to the table, by claims and by the items of a list.
--
--   `added_none`, `added_both`         none, and those of two claims
--   `added_same`, `added_by`           those of a claim, by another claim of the same uses
--   `added_where`, `added_nowhere`     those of a claim where a test passes
--   `ok_then`                          what follows for the answer of a function
--   `EachBefore`                       a use by one of the first items of a list
--   `added_start`, `added_step`, `added_all`       the steps of a loop over a list
--   `added_number`, `added_item`       a step over numbers, and over other items
--   `added_view`, `added_all_views`    the steps over items of which a view is looked at
use Rattle.std.proofs.Common.{◌≡◌, ◌↔◌, ◌⊎◌, ⊎_elim, inl, inr, ℕ, ◌+◌, ◌<◌, ◌≤◌, Bool, true, false, List, length, map, get_or, Some, refl, sym, subst, eq-or-lt_of_le, ◌∙◌, arith}
use Rattle.std.proofs.lemmas.List.{length-map}
use Rattle.std.proofs.lemmas.Option.{same_Some, slice_get_within, slice_get-get_or, slice_get_read}
use Rattle.list_facts.proofs.EntryLemmas.{slice_get-map_there}
use Rattle.std.specs.Prelude.{slice_get, Result, Ok, Err, OnOk}
use Rattle.contract_terms.specs.Views.{reads_tree}
use Rattle.contract_terms.specs.declared.term.Reads.{Reads}
use Rattle.saturation.specs.UsesAdded.{Added, Each, TermReads, Where}
use Rattle.saturation.specs.declared.body.Body.{Body}
use Rattle.saturation.specs.declared.uses.Location.{Location}
use Rattle.saturation.specs.declared.uses.Use.{Use}
use Rattle.saturation.specs.declared.uses.Uses.{Uses}

-- none is added by a claim that never holds
pub added_none : {Claim : Body → Location → Use → Type 0} {now : Uses}
    → ((own : Body) (place : Location) (use_ : Use) → Claim own place use_ → ⊥) → Added Claim now now
added_none none = record {
  has = λ own place use_. (inl, λ either. ⊎_elim (λ has. has) (λ holds. absurd (none own place use_ holds)) either);
}

-- those of two claims, one after the other
pub added_both : {First Second : Body → Location → Use → Type 0} {before now next : Uses} → Added First before now
    → Added Second now next → Added (λ own place use_. First own place use_ ⊎ Second own place use_) before next
added_both {First} {Second} {before} {now} {next} first second = record {
  has = λ own place use_.
      let one = first.has own place use_ in
      let other = second.has own place use_ in (
        λ has. ⊎_elim
            (λ had. ⊎_elim inl (λ holds. inr (inl holds)) (one.0 had))
            (λ holds. inr (inr holds)) (other.0 has),
        λ either. other.1 (⊎_elim (λ had. inl (one.1 (inl had)))
            (λ both. ⊎_elim (λ holds. inl (one.1 (inr holds))) (λ holds. inr holds) both) either),
      );
}

-- those of a claim, by another claim of the same uses
pub added_same : {Claim Other : Body → Location → Use → Type 0} {before now : Uses} → Added Claim before now
    → ((own : Body) (place : Location) (use_ : Use) → Claim own place use_ ↔ Other own place use_)
    → Added Other before now
added_same added same = record {
  has = λ own place use_.
      let one = added.has own place use_ in
      let both = same own place use_ in (
        λ has. ⊎_elim inl (λ holds. inr (both.0 holds)) (one.0 has),
        λ either. one.1 (⊎_elim inl (λ holds. inr (both.1 holds)) either),
      );
}

-- those of a claim about a value, by the same about another one that it is
pub added_by : {X : Type 0} {before now : Uses} (Claim : X → Body → Location → Use → Type 0) {one other : X}
    → one ≡ other → Added (Claim one) before now → Added (Claim other) before now
added_by {X} {before} {now} Claim is added =
    let Holds : X → Type 0 = λ value. Added (Claim value) before now in subst Holds is added

-- those of a claim where a test passes: if it does, and if it does not
pub added_where : {Claim : Body → Location → Use → Type 0} {before now : Uses} (test : Bool) → test ≡ true
    → Added Claim before now → Added (Where test Claim) before now
added_where test passes added = added_same added (λ own place use_. (λ holds. (passes, holds), λ both. both.1))

pub added_nowhere : {Claim : Body → Location → Use → Type 0} {now : Uses} (test : Bool) → test ≡ false
    → Added (Where test Claim) now now
added_nowhere test fails = added_none (λ own place use_ both. let passes = both.0 in absurd cc)

-- what follows for the answer of a function
pub ok_then : {T E P Q : Type 0} (result : Result T E) → (P → Q) → OnOk result P → OnOk result Q
ok_then (Ok value) follows holds = follows holds
ok_then (Err error) follows holds = tt

-- those of what a term reads, where the code's test and its list are the same as those of a claim
pub added_reads : {before now : Uses} (reader : Body) (index : ℕ) {test other_test : Bool} {reads others : List Reads}
    → test ≡ other_test → reads ≡ others → Added (Where test (TermReads reader index (map reads_tree reads))) before now
    → Added (Where other_test (TermReads reader index (map reads_tree others))) before now
added_reads reader index {test} {other_test} {reads} {others} test_is reads_are added =
    added_by (λ (value : Bool). Where value (TermReads reader index (map reads_tree others))) test_is
    (added_by (λ (list : List Reads). Where test (TermReads reader index (map reads_tree list))) reads_are added)

-- a use by one of the first items of a list
pub record EachBefore {A : Type 0} (Claim : ℕ → A → Body → Location → Use → Type 0) (items : List A) (count : ℕ)
    (own : Body) (place : Location) (use_ : Use) : Type 0 where
  pub index : ℕ
  pub item : A
  pub there : slice_get items index ≡ Some item
  pub before : index < count
  pub holds : Claim index item own place use_

-- at the start of a loop over a list
pub added_start : {A : Type 0} {Claim : ℕ → A → Body → Location → Use → Type 0} {items : List A} {now : Uses}
    → Added (EachBefore Claim items 0) now now
added_start = added_none (λ own place use_ each. let before = each.before in absurd (omega (arith, before)))

-- those of the first items, and those of one more
one_more : {A : Type 0} (Claim : ℕ → A → Body → Location → Use → Type 0) (items : List A) (index : ℕ) (item : A)
    → slice_get items index ≡ Some item → (own : Body) (place : Location) (use_ : Use)
    → (EachBefore Claim items index own place use_ ⊎ Claim index item own place use_)
    ↔ EachBefore Claim items (index + 1) own place use_
one_more {A} Claim items index item there own place use_ =
    let forth : EachBefore Claim items index own place use_ ⊎ Claim index item own place use_
    → EachBefore Claim items (index + 1) own place use_ =
    λ either. ⊎_elim
    (λ each. let before = each.before in record {
      index = each.index;
      item = each.item;
      there = each.there;
      before = omega (arith, before);
      holds = each.holds;
    })
    (λ holds. record { index = index; item = item; there = there; before = omega arith; holds = holds }) either in
    let last : (other : ℕ) (one : A) → slice_get items other ≡ Some one → Claim other one own place use_
    → other ≡ index → Claim index item own place use_ =
    λ other one one_there holds same.
    let At : ℕ → Type 0 = λ at. slice_get items at ≡ Some one in
    let one_is = same_Some one item (sym (subst At same one_there) ∙ there) in
    let ClaimAt : ℕ → Type 0 = λ at. Claim at one own place use_ in
    let ClaimOf : A → Type 0 = λ of. Claim index of own place use_ in
    subst ClaimOf one_is (subst ClaimAt same holds) in
    let back : EachBefore Claim items (index + 1) own place use_
    → EachBefore Claim items index own place use_ ⊎ Claim index item own place use_ =
    λ each.
    let before = each.before in
    let within : each.index ≤ index = omega (arith, before) in
    ⊎_elim (λ same. inr (last each.index each.item each.there each.holds same))
    (λ less. inl (record {
      index = each.index;
      item = each.item;
      there = each.there;
      before = less;
      holds = each.holds;
    })) (eq-or-lt_of_le within) in
    (forth, back)

-- a step of a loop over a list
pub added_step : {A : Type 0} {Claim : ℕ → A → Body → Location → Use → Type 0} {items : List A} {index : ℕ}
    {before now next : Uses} (item : A) → Added (EachBefore Claim items index) before now
    → slice_get items index ≡ Some item → Added (Claim index item) now next
    → Added (EachBefore Claim items (index + 1)) before next
added_step {A} {Claim} {items} {index} item so_far there one =
    added_same (added_both so_far one) (one_more Claim items index item there)

-- the same at a number
pub added_number : {Claim : ℕ → ℕ → Body → Location → Use → Type 0} {items : List ℕ} {index : ℕ}
    {before now next : Uses} → Added (EachBefore Claim items index) before now → index < length items
    → Added (Claim index (get_or items index 0)) now next → Added (EachBefore Claim items (index + 1)) before next
added_number {Claim} {items} {index} so_far within one =
    added_step (get_or items index 0) so_far (slice_get-get_or items index 0 within) one

-- the same at another item
pub added_item : {A : Type 0} {Claim : ℕ → A → Body → Location → Use → Type 0} {items : List A} {index : ℕ}
    {before now next : Uses} (item : A) → Added (EachBefore Claim items index) before now → index < length items
    → item ≡ get_or items index item → Added (Claim index item) now next
    → Added (EachBefore Claim items (index + 1)) before next
added_item {A} {Claim} {items} {index} item so_far within is one =
    added_step item so_far (slice_get_read items (length items) index item refl within is) one

-- the same at an item of which a view is looked at
pub added_view : {A B : Type 0} {Claim : ℕ → B → Body → Location → Use → Type 0} {index : ℕ} {before now next : Uses}
    (view : A → B) (items : List A) (item : A) → Added (EachBefore Claim (map view items) index) before now
    → index < length items → item ≡ get_or items index item → Added (Claim index (view item)) now next
    → Added (EachBefore Claim (map view items) (index + 1)) before next
added_view {index = index} view items item so_far within is one =
    added_step (view item) so_far (slice_get-map_there view items index item within is) one

-- all items were looked at
pub added_all : {A : Type 0} {Claim : ℕ → A → Body → Location → Use → Type 0} {items : List A} {count : ℕ}
    {before now : Uses} → Added (EachBefore Claim items count) before now → length items ≤ count
    → Added (Each Claim items) before now
added_all {A} {Claim} {items} {count} {before} {now} so_far all =
    added_same so_far (λ own place use_. (
      λ each. record { index = each.index; item = each.item; there = each.there; holds = each.holds },
      λ each. let within = slice_get_within items each.index each.item each.there in record {
        index = each.index;
        item = each.item;
        there = each.there;
        before = omega (arith, within, all);
        holds = each.holds;
      },
    ))

-- all items of which a view is looked at were
pub added_all_views : {A B : Type 0} {Claim : ℕ → B → Body → Location → Use → Type 0} {count : ℕ} {before now : Uses}
    (view : A → B) (items : List A) → Added (EachBefore Claim (map view items) count) before now
    → length items ≤ count → Added (Each Claim (map view items)) before now
added_all_views view items so_far all = added_all so_far (omega (arith, all, length-map items view))
