-- The first one of several offences: noted one after the other, it is one of them, none of them comes before it, and
-- no other one is like that.
use Rattle.std.proofs.Common.{◌≡◌, ℕ, Bool, true, false, List, [], ◌∷◌, ◌++◌, refl, sym, ap, ◌∙◌, subst, fold, cond, length, get_or, arith, append_assoc}
use Rattle.std.specs.Prelude.{◌↔◌, Option, Some, None, All, Contains}
use Rattle.std.specs.Cmp.{IsTotalOrder}
use Rattle.std.specs.Ordering.{is_lt}
use Rattle.std.specs.declared.cmp.Ordering.TheVariants.{Equal}
use Rattle.std.proofs.lemmas.Cmp.{tied_itself, nat_cmp_total, on_total, then_total}
use Rattle.std.proofs.lemmas.List.Elements.{All-nil, All-cons, All-append, All-contains, All-weaker, Contains-append_left, Contains-append_right}
use Rattle.std.proofs.lemmas.List.{append-nil}
use Rattle.abs_tree.specs.declared.place.Place.{Place}
use Rattle.abs_tree.specs.declared.refusal.Code.{Code}
use Rattle.abs_tree.specs.declared.refusal.Code.TheVariants as code
use Rattle.abs_tree.specs.declared.refusal.Offence.{Offence}
use Rattle.abs_tree.specs.Offences.{code_index, place_cmp, offence_cmp, earlier, first_offence, IsFirst}
use Rattle.list_facts.proofs.OrderingLemmas.{before_by, is_less, tied_by, both_equal, nat_cmp-equal}

-- the order of offences is total
offence_total : IsTotalOrder offence_cmp
offence_total = then_total (on_total (λ offence. offence.place) (then_total (on_total (λ place. place.offset) nat_cmp_total)
    (then_total (on_total (λ place. place.line) nat_cmp_total) (on_total (λ place. place.column) nat_cmp_total))))
    (on_total (λ offence. code_index offence.code) nat_cmp_total)

-- places of which the order tells nothing are the same
same_place : (one other : Place) → place_cmp one other ≡ Equal → one ≡ other
same_place one other e =
    let offsets = both_equal _ _ e in
    let lines = both_equal _ _ offsets.1 in
    ap (λ (n : ℕ). record { offset = n; line = one.line; column = one.column })
    (nat_cmp-equal one.offset other.offset offsets.0)
    ∙ (ap (λ (n : ℕ). record { offset = other.offset; line = n; column = one.column })
    (nat_cmp-equal one.line other.line lines.0)
    ∙ ap (λ (n : ℕ). record { offset = other.offset; line = other.line; column = n })
    (nat_cmp-equal one.column other.column lines.1))

-- the code of an index
abbrev code_at : ℕ → Code
code_at n = get_or (code.L1 ∷ code.L2 ∷ code.L3 ∷ code.L4 ∷ code.S1 ∷ code.S2 ∷ code.S3 ∷ code.N1 ∷ code.N2 ∷ code.N3
    ∷ code.N4 ∷ code.T1 ∷ code.T2 ∷ code.T3 ∷ code.T4 ∷ code.T5 ∷ code.P1 ∷ code.P2 ∷ code.P3 ∷ code.P4 ∷ code.P5 ∷ [])
    n code.L1

code_at_index : (c : Code) → code_at (code_index c) ≡ c
code_at_index code.L1 = refl
code_at_index code.L2 = refl
code_at_index code.L3 = refl
code_at_index code.L4 = refl
code_at_index code.S1 = refl
code_at_index code.S2 = refl
code_at_index code.S3 = refl
code_at_index code.N1 = refl
code_at_index code.N2 = refl
code_at_index code.N3 = refl
code_at_index code.N4 = refl
code_at_index code.T1 = refl
code_at_index code.T2 = refl
code_at_index code.T3 = refl
code_at_index code.T4 = refl
code_at_index code.T5 = refl
code_at_index code.P1 = refl
code_at_index code.P2 = refl
code_at_index code.P3 = refl
code_at_index code.P4 = refl
code_at_index code.P5 = refl

same_code : (one other : Code) → code_index one ≡ code_index other → one ≡ other
same_code one other e = sym (code_at_index one) ∙ (ap code_at e ∙ code_at_index other)

-- Two offences that the order does not tell apart are equal.
same_offence : (one other : Offence) → offence_cmp one other ≡ Equal → one ≡ other
same_offence one other e =
    let parts = both_equal _ _ e in
    ap (λ (place : Place). record { place = place; code = one.code }) (same_place one.place other.place parts.0)
    ∙ ap (λ (c : Code). record { place = other.place; code = c })
    (same_code one.code other.code (nat_cmp-equal (code_index one.code) (code_index other.code) parts.1))

-- no offence comes before this one
abbrev pub NotBefore : Offence → Offence → Type 0
NotBefore offence other = is_lt (offence_cmp other offence) ≡ false

-- what was noted of the offences so far: the first of them, if there are any
abbrev Noted : Option Offence → List Offence → Type 0
Noted None offences = offences ≡ []
Noted (Some first) offences = IsFirst offences first

last_is_there : (offences : List Offence) (offence : Offence) → Contains (offences ++ offence ∷ []) offence
last_is_there offences offence = Contains-append_right offences (offence ∷ []) offence (0, omega arith, refl)

alone : (first offence : Offence) → NotBefore first offence → All (NotBefore first) (offence ∷ [])
alone first offence h = All-cons (NotBefore first) offence [] h (All-nil (NotBefore first))

-- an offence does not come before itself
not_before_itself : (offence : Offence) → NotBefore offence offence
not_before_itself offence = ap is_lt (tied_itself offence_total offence)

noted_by : (b : Bool) (first offence : Offence) (offences : List Offence) → is_lt (offence_cmp offence first) ≡ b
    → IsFirst offences first → Noted (cond b (Some offence) (Some first)) (offences ++ offence ∷ [])
noted_by true first offence offences test h = record {
  among = last_is_there offences offence;
  least = All-append (NotBefore offence) offences (offence ∷ [])
      (All-weaker (NotBefore first) (NotBefore offence)
      (λ other not. before_by offence_total other offence first (offence_cmp other offence) refl (is_less _ test) not)
      offences h.least)
      (alone offence offence (not_before_itself offence));
}
noted_by false first offence offences test h = record {
  among = Contains-append_left offences (offence ∷ []) first h.among;
  least = All-append (NotBefore first) offences (offence ∷ []) h.least (alone first offence test);
}

-- one more offence was noted
noted_more : (first : Option Offence) (offence : Offence) (offences : List Offence) → Noted first offences
    → Noted (earlier first offence) (offences ++ offence ∷ [])
noted_more None offence offences h = record {
  among = last_is_there offences offence;
  least = subst (λ (os : List Offence). All (NotBefore offence) (os ++ offence ∷ [])) (sym h)
      (alone offence offence (not_before_itself offence));
}
noted_more (Some first) offence offences h =
    noted_by (is_lt (offence_cmp offence first)) first offence offences refl h

noted_all : (first : Option Offence) (offences rest : List Offence) → Noted first offences
    → Noted (fold earlier first rest) (offences ++ rest)
noted_all first offences [] h = subst (Noted first) (sym (append-nil offences)) h
noted_all first offences (offence ∷ rest) h =
    subst (Noted (fold earlier (earlier first offence) rest)) (append_assoc offences (offence ∷ []) rest)
    (noted_all (earlier first offence) (offences ++ offence ∷ []) rest (noted_more first offence offences h))

noted : (offences : List Offence) (first : Option Offence) → first_offence offences ≡ first → Noted first offences
noted offences first e = subst (λ (o : Option Offence). Noted o offences) e (noted_all None [] offences refl)

-- If no offence is the first one, there is none.
pub no_offence : (offences : List Offence) → first_offence offences ≡ None → offences ≡ []
no_offence offences e = noted offences None e

-- Two offences of a list before which none of it comes are equal.
one_first : {offences : List Offence} {one other : Offence} → IsFirst offences one → IsFirst offences other
    → one ≡ other
one_first {offences} {one} {other} x y =
    same_offence one other (tied_by (offence_cmp one other) (offence_cmp other one) (offence_total.antisymm one other)
    (All-contains (NotBefore other) offences one y.least x.among)
    (All-contains (NotBefore one) offences other x.least y.among))

first_by : (offences : List Offence) (offence : Offence) (first : Option Offence) → first_offence offences ≡ first
    → IsFirst offences offence → first ≡ Some offence
first_by offences offence None e h =
    let none : length offences ≡ 0 = ap length (noted offences None e) in
    absurd (omega (arith, h.among.1))
first_by offences offence (Some first) e h = ap (λ (o : Offence). Some o) (one_first (noted offences (Some first) e) h)

-- The first offence is one before which none comes, and the other way round.
pub first_is_least : (offences : List Offence) (offence : Offence)
    → (first_offence offences ≡ Some offence) ↔ IsFirst offences offence
first_is_least offences offence = (
  λ e. noted offences (Some offence) e,
  λ h. first_by offences offence (first_offence offences) refl h,
)
