use Rattle.std.proofs.Common.{◌≡◌, ◌<◌, ℕ, List, [], Contains, arith, subst}
use Rattle.std.proofs.lemmas.Bool.{false≢true}
use Rattle.abs_values.specs.Scopes.{InSlot, InField, InThis}
use Rattle.contract_infer.proofs.CollectingLemmas.{noted_is_read}
use Rattle.contract_infer.proofs.reads.reads_of.Goals as goal

-- an empty list has no number
Contains-not_empty : (numbers : List ℕ) (number : ℕ) → numbers ≡ [] → Contains numbers number → ⊥
Contains-not_empty numbers number none there =
    let h = subst (λ (xs : List ℕ). Contains xs number) none there in
    let below : h.0 < 0 = h.1 in
    omega arith

pub returns : goal.returns
returns c names =
    let noted = (c.expression.ensures names).noted c.if-reader.false in
    record {
      slots =
          λ slot. noted_is_read (c.each_once.ensures.same slot) (noted (InSlot slot))
          (Contains-not_empty _ slot c.new.ensures.items);
      slots_rise = c.each_once.ensures.rises;
      fields =
          λ field. noted_is_read (c.each_once-2.ensures.same field) (noted (InField field))
          (Contains-not_empty _ field c.new-2.ensures.items);
      fields_rise = c.each_once-2.ensures.rises;
      this = noted_is_read (λ this. this, λ this. this) (noted InThis) false≢true;
    }
