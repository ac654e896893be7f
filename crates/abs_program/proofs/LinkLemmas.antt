-- The table of what numbers mean, after a name is added and after the newest one is taken away.
use Rattle.std.proofs.Common.{◌≡◌, ℕ, zero, suc, ◌+◌, ◌<◌, ◌≤◌, Bool, true, false, List, [], ◌∷◌, ◌++◌, inl, inr, refl, sym, ap, ◌∙◌, subst, length, set, get_or, fold, replicate, cond, nat_eq, arith}
use Rattle.std.specs.Prelude.{Option, Some, None}
use Rattle.std.proofs.lemmas.Bool.{cases_eq}
use Rattle.std.proofs.lemmas.Bool.Decides.{nat_tests, leb_tells}
use Rattle.std.proofs.lemmas.List.{length-append, length-set, get_or_append_left, get_or-append_right, get_or-set_same, get_or-set_other}
use Rattle.std.proofs.lemmas.List.Sums.{fold-append}
use Rattle.abs_program.specs.declared.meanings.Entry.{Entry}
use Rattle.abs_program.specs.Linked.{newest_first, pairs, pairs_of, EntriesAreLinked, AreLinked}
use Rattle.abs_program.specs.Numbered.{looked_up, SaysTheSame}

-- the newest entry comes first
pub added_first : {A : Type 0} (entries : List (Entry A)) (entry : Entry A)
    → newest_first (entries ++ entry ∷ []) ≡ entry ∷ newest_first entries
added_first entries entry = fold-append (λ newer entry. entry ∷ newer) [] entries (entry ∷ [])

-- there are as many names as entries
turned_length : {A : Type 0} (newer entries : List (Entry A))
    → length (fold (λ newer entry. entry ∷ newer) newer entries) ≡ length newer + length entries
turned_length newer [] = omega arith
turned_length newer (entry ∷ entries) = omega (arith, turned_length (entry ∷ newer) entries)

length-pairs : {A : Type 0} (entries : List (Entry A)) → length (pairs entries) ≡ length entries
length-pairs [] = refl
length-pairs (entry ∷ older) = ap (λ (n : ℕ). suc n) (length-pairs older)

pub length-pairs_of : {A : Type 0} (entries : List (Entry A)) → length (pairs_of entries) ≡ length entries
length-pairs_of entries = omega (arith, length-pairs (newest_first entries), turned_length [] entries)

-- a longer table has the same numbers
longer : {A : Type 0} (size more : ℕ) (entries : List (Entry A)) → size ≤ more → EntriesAreLinked size entries
    → EntriesAreLinked more entries
longer size more [] few linked = tt
longer size more (entry ∷ older) few linked =
    (omega (arith, linked.0), linked.1, longer size more older few linked.2)

-- a number past the table means nothing, and so does each one of more room
past : {A : Type 0} (items : List (Option A)) (number : ℕ) → length items ≤ number → get_or items number None ≡ None
past [] number few = refl
past (item ∷ items) zero few = absurd (omega arith)
past (item ∷ items) (suc number) few = past items number (omega arith)

filled : {A : Type 0} (item : A) (more number : ℕ) → get_or (replicate more item) number item ≡ item
filled item zero number = refl
filled item (suc more) zero = refl
filled item (suc more) (suc number) = filled item more number

same_number : {A : Type 0} (newest : List (Option A)) (more number : ℕ)
    → get_or (newest ++ replicate more None) number None ≡ get_or newest number None
same_number newest more number = elim (leb_tells (length newest) number) [
  | inl outside ↦ get_or-append_right newest (replicate more None) (length newest) number None refl outside.1
      ∙ (filled None more _ ∙ sym (past newest number outside.1))
  | inr there ↦ get_or_append_left newest (replicate more None) None number there.1
]

-- a table with room for more numbers, which mean nothing, and one in which each number means the same
pub with_room : {A : Type 0} (newest : List (Option A)) (more : ℕ) → SaysTheSame newest (newest ++ replicate more None)
with_room newest more = record {
  longer = omega (arith, length-append newest (replicate more None));
  same = same_number newest more;
}

pub still_linked : {A : Type 0} (newest now : List (Option A)) (entries : List (Entry A)) → SaysTheSame newest now
    → AreLinked newest entries → AreLinked now entries
still_linked newest now entries same linked = record {
  are = longer (length newest) (length now) (newest_first entries) same.longer linked.are;
  table = λ number. same.same number ∙ linked.table number;
}

-- what the newest entry says of its number, and of another one
newest_says : {A : Type 0} (known : ℕ × A) (others : List (ℕ × A)) (number : ℕ) → known.0 ≡ number
    → looked_up (known ∷ others) number ≡ Some known.1
newest_says known others number same = by (nat_eq known.0 number) (grind (arith, nat_tests))
  where
    by : (b : Bool) → b ≡ true → cond b (Some known.1) (looked_up others number) ≡ Some known.1
    by true e = refl
    by false e = absurd (cc)

others_say : {A : Type 0} (known : ℕ × A) (others : List (ℕ × A)) (number : ℕ) → (known.0 ≡ number → ⊥)
    → looked_up (known ∷ others) number ≡ looked_up others number
others_say known others number other = by (nat_eq known.0 number) (grind (arith, nat_tests))
  where
    by : (b : Bool) → b ≡ false → cond b (Some known.1) (looked_up others number) ≡ looked_up others number
    by true e = absurd (cc)
    by false e = refl

-- the entries are those of a table of as many numbers
of_size : {A : Type 0} (size many : ℕ) (entries : List (Entry A)) → size ≡ many → EntriesAreLinked size entries
    → EntriesAreLinked many entries
of_size size many entries same linked = longer size many entries (omega (arith, same)) linked

-- the table after a name is added
added_table : {A : Type 0} (newest : List (Option A)) (known : List (ℕ × A)) (number : ℕ) (meaning : A) (n : ℕ)
    → number < length newest → get_or newest n None ≡ looked_up known n
    → get_or (set newest number (Some meaning)) n None ≡ looked_up ((number, meaning) ∷ known) n
added_table newest known number meaning n there says = elim (cases_eq n number) [
  | inl same ↦ ap (λ (m : ℕ). get_or (set newest number (Some meaning)) m None) same
      ∙ (get_or-set_same newest number (Some meaning) None there
      ∙ sym (newest_says (number, meaning) known n (sym same)))
  | inr other ↦ get_or-set_other newest number n (Some meaning) None other
      ∙ (says ∙ sym (others_say (number, meaning) known n (λ e. other (sym e))))
]

pub added : {A : Type 0} (newest : List (Option A)) (entries : List (Entry A)) (entry : Entry A) → AreLinked newest entries
    → entry.number < length newest → entry.before ≡ looked_up (pairs_of entries) entry.number
    → AreLinked (set newest entry.number (Some entry.meaning)) (entries ++ entry ∷ [])
added {A} newest entries entry linked there before =
    let table = set newest entry.number (Some entry.meaning) in
    let same = length-set newest entry.number (Some entry.meaning) in
    let are : EntriesAreLinked (length table) (entry ∷ newest_first entries) = (
      omega (arith, same, there),
      before,
      of_size (length newest) (length table) (newest_first entries) (sym same) linked.are,
    ) in
    record {
      are = subst (EntriesAreLinked (length table)) (sym (added_first entries entry)) are;
      table = λ n. added_table newest (pairs_of entries) entry.number entry.meaning n there (linked.table n)
          ∙ ap (λ (es : List (Entry A)). looked_up (pairs es) n) (sym (added_first entries entry));
    }

-- and after the newest name is taken away
taken_table : {A : Type 0} (newest : List (Option A)) (known : List (ℕ × A)) (number : ℕ) (meaning : A)
    (before : Option A) (n : ℕ)
    → number < length newest → before ≡ looked_up known number
    → get_or newest n None ≡ looked_up ((number, meaning) ∷ known) n
    → get_or (set newest number before) n None ≡ looked_up known n
taken_table newest known number meaning before n there was says = elim (cases_eq n number) [
  | inl same ↦ ap (λ (m : ℕ). get_or (set newest number before) m None) same
      ∙ (get_or-set_same newest number before None there
      ∙ (was ∙ ap (looked_up known) (sym same)))
  | inr other ↦ get_or-set_other newest number n before None other
      ∙ (says ∙ others_say (number, meaning) known n (λ e. other (sym e)))
]

pub taken : {A : Type 0} (newest : List (Option A)) (entries : List (Entry A)) (entry : Entry A)
    → AreLinked newest (entries ++ entry ∷ []) → AreLinked (set newest entry.number entry.before) entries
taken {A} newest entries entry linked =
    let are : EntriesAreLinked (length newest) (entry ∷ newest_first entries) =
    subst (EntriesAreLinked (length newest)) (added_first entries entry) linked.are in
    record {
      are = of_size (length newest) (length (set newest entry.number entry.before)) (newest_first entries)
          (sym (length-set newest entry.number entry.before)) are.2;
      table = λ n. taken_table newest (pairs_of entries) entry.number entry.meaning entry.before n are.0 are.1
          (linked.table n ∙ ap (λ (es : List (Entry A)). looked_up (pairs es) n) (added_first entries entry));
    }
