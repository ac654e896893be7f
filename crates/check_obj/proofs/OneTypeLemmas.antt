-- Methods agree by the test exactly where those of one name have one type.
--
--   `HaveOneType`                  methods of one name have one type
--   `agree_found`, `agree_whole`   it is so of methods that agree by the test, and the other way round
use Rattle.std.proofs.Common.{◌≡◌, Bool, true, false, not, ◌||◌, List, [], ◌∷◌, ◌⊎◌, All, Contains, refl, sym, ap, ◌∙◌, ⊎_elim, arith}
use Rattle.std.specs.Str.{bytes_eq}
use Rattle.std.proofs.lemmas.Bool.{and_from, and_parts}
use Rattle.std.proofs.lemmas.List.Elements.{All-cons, All-contains, All-contains_itself, All-head, All-nil, All-tail, All-weaker, Contains-append_left, Contains-append_right, Contains-push}
use Rattle.std.proofs.lemmas.Slice.Eq.{bytes_eq-Decides}
use Rattle.abs_tree.specs.Syntax.{SignatureTree}
use Rattle.abs_types.specs.InterfacesMet.{agree, can_be_both, can_be_with_all, same_method, same_type}
use Rattle.abs_types.specs.Methods.{method_type}
use Rattle.check_obj.proofs.SameTypeLemmas.{method_test, one_type, same_itself}
use Rattle.check_obj.specs.MethodRows.{signature_type}
use Rattle.list_facts.proofs.AllLemmas.{Contains-head_or_tail}

-- Methods of one name have one type.
pub record HaveOneType (signatures : List SignatureTree) : Type 0 where
  pub one_type : (one other : SignatureTree) → Contains signatures one → Contains signatures other
      → one.name.name ≡ other.name.name → signature_type one ≡ signature_type other

-- methods of one name that can be both have one type
both_found : (one other : SignatureTree) → can_be_both one other ≡ true → one.name.name ≡ other.name.name
    → signature_type one ≡ signature_type other
both_found one other can same =
    one_type one other
    (ap (λ (reported : Bool). not reported || same_method (method_type one) (method_type other))
    (sym ((bytes_eq-Decides one.name.name other.name.name).1 same)) ∙ can)

-- a method that can be with all can be with each
all_found : (one : SignatureTree) (others : List SignatureTree) → can_be_with_all one others ≡ true
    → All (λ (other : SignatureTree). can_be_both one other ≡ true) others
all_found one [] can = All-nil (λ (other : SignatureTree). can_be_both one other ≡ true)
all_found one (first ∷ others) can =
    let both = and_parts (can_be_both one first) (can_be_with_all one others) can in
    All-cons (λ (other : SignatureTree). can_be_both one other ≡ true) first others both.0
    (all_found one others both.1)

-- the first one of methods and another one have one type
first_found : (first : SignatureTree) (others : List SignatureTree) (one : SignatureTree)
    → can_be_with_all first others ≡ true → Contains others one → first.name.name ≡ one.name.name
    → signature_type first ≡ signature_type one
first_found first others one can there same =
    both_found first one
    (All-contains (λ (other : SignatureTree). can_be_both first other ≡ true) others one (all_found first others can)
    there) same

-- methods that agree by the test have one type, if they have one name
pub agree_found : (signatures : List SignatureTree) → agree signatures ≡ true → HaveOneType signatures
agree_found [] agreed = record { one_type = λ one other there. absurd (omega (arith, there.1)) }
agree_found (first ∷ others) agreed =
    let both = and_parts (can_be_with_all first others) (agree others) agreed in
    let rest = agree_found others both.1 in
    record {
      one_type = λ one other one_there other_there same. ⊎_elim
          (λ one_first. ⊎_elim
          (λ other_first. ap signature_type (sym one_first ∙ other_first))
          (λ other_rest. ap signature_type (sym one_first)
          ∙ first_found first others other both.0 other_rest
          (ap (λ (method : SignatureTree). method.name.name) one_first ∙ same))
          (Contains-head_or_tail first others other other_there))
          (λ one_rest. ⊎_elim
          (λ other_first. sym (first_found first others one both.0 one_rest
          (ap (λ (method : SignatureTree). method.name.name) other_first ∙ sym same))
          ∙ ap signature_type other_first)
          (λ other_rest. rest.one_type one other one_rest other_rest same)
          (Contains-head_or_tail first others other other_there))
          (Contains-head_or_tail first others one one_there);
    }

-- methods can be both, if they have one type where they have one name: by whether they have one name
can_be_by : (one other : SignatureTree) (reported : Bool) → bytes_eq one.name.name other.name.name ≡ reported
    → (one.name.name ≡ other.name.name → signature_type one ≡ signature_type other)
    → (not reported || same_method (method_type one) (method_type other)) ≡ true
can_be_by one other true same tells =
    sym (method_test one other)
    ∙ (ap (same_type (signature_type one)) (sym (tells ((bytes_eq-Decides one.name.name other.name.name).0 same)))
    ∙ same_itself (signature_type one))
can_be_by one other false apart tells = refl

-- a method can be with all with which it has one type
all_whole : (one : SignatureTree) (others : List SignatureTree)
    → All (λ (other : SignatureTree). one.name.name ≡ other.name.name → signature_type one ≡ signature_type other)
    others
    → can_be_with_all one others ≡ true
all_whole one [] tell = refl
all_whole one (first ∷ others) tell =
    let Tells : SignatureTree → Type 0 =
    λ (other : SignatureTree). one.name.name ≡ other.name.name → signature_type one ≡ signature_type other in
    and_from (can_be_both one first) (can_be_with_all one others)
    (can_be_by one first (bytes_eq one.name.name first.name.name) refl (All-head Tells first others tell))
    (all_whole one others (All-tail Tells first others tell))

-- methods agree by the test, if those of one name have one type
pub agree_whole : (signatures : List SignatureTree) → HaveOneType signatures → agree signatures ≡ true
agree_whole [] have = refl
agree_whole (first ∷ others) have =
    let there = λ (one : SignatureTree) (in_others : Contains others one).
    Contains-append_right (first ∷ []) others one in_others in
    and_from (can_be_with_all first others) (agree others)
    (all_whole first others (All-weaker (Contains others)
    (λ (other : SignatureTree). first.name.name ≡ other.name.name → signature_type first ≡ signature_type other)
    (λ other in_others. have.one_type first other
    (Contains-append_left (first ∷ []) others first (Contains-push [] first)) (there other in_others)) others
    (All-contains_itself others)))
    (agree_whole others (record {
      one_type = λ one other one_there other_there.
          have.one_type one other (there one one_there) (there other other_there);
    }))
