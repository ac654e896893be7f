-- Entries agree exactly where those that count have one type under each number.
--
--   `agree_append`, `after_append`     whether entries and more entries agree, and what is met after both
--   `agree_one_type`                   entries that agree have one type under each number that counts
--   `Consistent`                       what has one type under each number that counts
--   `consistent_agree`                 entries that have one type under each such number agree
use Rattle.std.proofs.Common.{◌≡◌, ℕ, Bool, true, false, ◌&&◌, cond, List, [], ◌∷◌, ◌++◌, Option, Some, None, if◌then◌else◌, nat_eq, All, Contains, refl, sym, ap, ◌∙◌, subst, true≢false, eq-eqb, eqb-true}
use Rattle.std.specs.List.{list_any}
use Rattle.std.specs.Map.{lookup}
use Rattle.std.specs.Option.{is_some}
use Rattle.std.proofs.lemmas.Bool.{and_parts, and_from}
use Rattle.std.proofs.lemmas.List.Elements.{All-cons, All-contains, All-head, All-nil, All-push, All-tail}
use Rattle.std.proofs.lemmas.Option.{none-some, same_Some}
use Rattle.abs_types.specs.InterfacesMet.{same_type}
use Rattle.abs_types.specs.PlainTypes.{PlainType}
use Rattle.check_obj.proofs.SameTypeLemmas.{same_found, same_itself}
use Rattle.check_obj.specs.MethodsMet.{entries_agree, met_after, same_or_new, with_entry}
use Rattle.list_facts.proofs.LookupLemmas.{lookup-last_found, lookup-still_found}
use Rattle.std.proofs.Math.Bool.{and_assoc}

-- whether entries and more entries agree: the case of one more before them, by whether it counts
agree_append_if : (several : List ℕ) (met : List (ℕ × PlainType)) (first : ℕ × PlainType)
    (others more : List (ℕ × PlainType)) (counts : Bool)
    → ((at : List (ℕ × PlainType)) → entries_agree several at (others ++ more)
    ≡ (entries_agree several at others && entries_agree several (met_after several at others) more))
    → (if counts then
    same_or_new first.1 (lookup (nat_eq first.0) met)
    && entries_agree several (with_entry met first) (others ++ more)
    else entries_agree several met (others ++ more))
    ≡ ((if counts then
    same_or_new first.1 (lookup (nat_eq first.0) met) && entries_agree several (with_entry met first) others
    else entries_agree several met others)
    && entries_agree several (if counts then met_after several (with_entry met first) others
    else met_after several met others) more)
agree_append_if several met first others more true rest =
    ap (λ (reported : Bool). same_or_new first.1 (lookup (nat_eq first.0) met) && reported) (rest (with_entry met first))
    ∙ sym (and_assoc (same_or_new first.1 (lookup (nat_eq first.0) met))
    (entries_agree several (with_entry met first) others)
    (entries_agree several (met_after several (with_entry met first) others) more))
agree_append_if several met first others more false rest = rest met

-- whether entries and more entries agree
pub agree_append : (several : List ℕ) (met entries more : List (ℕ × PlainType))
    → entries_agree several met (entries ++ more)
    ≡ (entries_agree several met entries && entries_agree several (met_after several met entries) more)
agree_append several met [] more = refl
agree_append several met (first ∷ others) more =
    agree_append_if several met first others more (list_any (nat_eq first.0) several)
    (λ at. agree_append several at others more)

-- what is met after entries and more entries: the case of one more before them, by whether it counts
after_append_if : (several : List ℕ) (met : List (ℕ × PlainType)) (first : ℕ × PlainType)
    (others more : List (ℕ × PlainType)) (counts : Bool)
    → ((at : List (ℕ × PlainType)) → met_after several at (others ++ more)
    ≡ met_after several (met_after several at others) more)
    → (if counts then met_after several (with_entry met first) (others ++ more)
    else met_after several met (others ++ more))
    ≡ met_after several (if counts then met_after several (with_entry met first) others
    else met_after several met others) more
after_append_if several met first others more true rest = rest (with_entry met first)
after_append_if several met first others more false rest = rest met

-- what is met after entries and more entries
pub after_append : (several : List ℕ) (met entries more : List (ℕ × PlainType))
    → met_after several met (entries ++ more) ≡ met_after several (met_after several met entries) more
after_append several met [] more = refl
after_append several met (first ∷ others) more =
    after_append_if several met first others more (list_any (nat_eq first.0) several)
    (λ at. after_append several at others more)

-- what was found is found after an entry, by whether its number was met
kept_if : (met : List (ℕ × PlainType)) (entry : ℕ × PlainType) (number : ℕ) (type : PlainType) (there : Bool)
    → lookup (nat_eq number) met ≡ Some type
    → lookup (nat_eq number) (if there then met else met ++ entry ∷ []) ≡ Some type
kept_if met entry number type true found = found
kept_if met entry number type false found = lookup-still_found met entry (nat_eq number) type found

-- what was found is found after entries: the case of one more before them, by whether it counts
found_after_if : (several : List ℕ) (met : List (ℕ × PlainType)) (first : ℕ × PlainType)
    (others : List (ℕ × PlainType)) (number : ℕ) (type : PlainType) (counts : Bool)
    → ((at : List (ℕ × PlainType)) → lookup (nat_eq number) at ≡ Some type
    → lookup (nat_eq number) (met_after several at others) ≡ Some type)
    → lookup (nat_eq number) met ≡ Some type
    → lookup (nat_eq number) (if counts then met_after several (with_entry met first) others
    else met_after several met others) ≡ Some type
found_after_if several met first others number type true rest found =
    rest (with_entry met first) (kept_if met first number type (is_some (lookup (nat_eq first.0) met)) found)
found_after_if several met first others number type false rest found = rest met found

-- what was found is found after entries
found_after : (several : List ℕ) (met entries : List (ℕ × PlainType)) (number : ℕ) (type : PlainType)
    → lookup (nat_eq number) met ≡ Some type → lookup (nat_eq number) (met_after several met entries) ≡ Some type
found_after several met [] number type found = found
found_after several met (first ∷ others) number type found =
    found_after_if several met first others number type (list_any (nat_eq first.0) several)
    (λ at. found_after several at others number type) found

-- an entry that agrees is found after it, by what was found before
entry_found : (met : List (ℕ × PlainType)) (entry : ℕ × PlainType) (found : Option PlainType)
    → lookup (nat_eq entry.0) met ≡ found → same_or_new entry.1 found ≡ true
    → lookup (nat_eq entry.0) (if is_some found then met else met ++ entry ∷ []) ≡ Some entry.1
entry_found met entry None none agrees =
    lookup-last_found met entry (nat_eq entry.0) none (eq-eqb entry.0 entry.0 refl)
entry_found met entry (Some known) is agrees = is ∙ ap Some (same_found known entry.1 agrees)

-- the type of an entry that counts is found
abbrev IsFound : List ℕ → List (ℕ × PlainType) → ℕ × PlainType → Type 0
IsFound several met entry =
    list_any (nat_eq entry.0) several ≡ true → lookup (nat_eq entry.0) met ≡ Some entry.1

-- each entry that counts is found after entries that agree: the case of one more before them, by whether it counts
each_found_if : (several : List ℕ) (met : List (ℕ × PlainType)) (first : ℕ × PlainType)
    (others : List (ℕ × PlainType)) (counts : Bool) → list_any (nat_eq first.0) several ≡ counts
    → ((at : List (ℕ × PlainType)) → entries_agree several at others ≡ true
    → All (IsFound several (met_after several at others)) others)
    → (if counts then
    same_or_new first.1 (lookup (nat_eq first.0) met) && entries_agree several (with_entry met first) others
    else entries_agree several met others) ≡ true
    → All (IsFound several (if counts then met_after several (with_entry met first) others
    else met_after several met others)) (first ∷ others)
each_found_if several met first others true counted rest agree =
    let both = and_parts (same_or_new first.1 (lookup (nat_eq first.0) met))
    (entries_agree several (with_entry met first) others) agree in
    All-cons (IsFound several (met_after several (with_entry met first) others)) first others
    (λ counts. found_after several (with_entry met first) others first.0 first.1
    (entry_found met first (lookup (nat_eq first.0) met) refl both.0))
    (rest (with_entry met first) both.1)
each_found_if several met first others false counted rest agree =
    All-cons (IsFound several (met_after several met others)) first others
    (λ counts. absurd (true≢false (sym counts ∙ counted))) (rest met agree)

-- each entry that counts is found after entries that agree
each_found : (several : List ℕ) (met entries : List (ℕ × PlainType)) → entries_agree several met entries ≡ true
    → All (IsFound several (met_after several met entries)) entries
each_found several met [] agree = All-nil (IsFound several met)
each_found several met (first ∷ others) agree =
    each_found_if several met first others (list_any (nat_eq first.0) several) refl
    (λ at. each_found several at others) agree

-- entries that agree have one type under each number that counts
pub agree_one_type : (several : List ℕ) (entries : List (ℕ × PlainType)) (number : ℕ) (one other : PlainType)
    → entries_agree several [] entries ≡ true → Contains entries (number, one) → Contains entries (number, other)
    → list_any (nat_eq number) several ≡ true → one ≡ other
agree_one_type several entries number one other agree one_there other_there counts =
    let met = met_after several [] entries in
    let all = each_found several [] entries agree in
    same_Some one other (sym (All-contains (IsFound several met) entries (number, one) all one_there counts)
    ∙ All-contains (IsFound several met) entries (number, other) all other_there counts)

-- Such entries have one type under each number that counts.
pub record Consistent (several : List ℕ) (P : ℕ × PlainType → Type 0) : Type 0 where
  pub one_type : (number : ℕ) (one other : PlainType) → P (number, one) → P (number, other)
      → list_any (nat_eq number) several ≡ true → one ≡ other

-- what is found among such entries is such: the case of one more entry
such_step : (P : ℕ × PlainType → Type 0) (first : ℕ × PlainType) (others : List (ℕ × PlainType)) (number : ℕ)
    (type : PlainType) (reported : Bool) → nat_eq number first.0 ≡ reported → P first
    → (lookup (nat_eq number) others ≡ Some type → P (number, type))
    → cond reported (Some first.1) (lookup (nat_eq number) others) ≡ Some type → P (number, type)
such_step P first others number type true same such rest found =
    subst (λ (at : ℕ). P (at, type)) (sym (eqb-true number first.0 same))
    (subst (λ (known : PlainType). P (first.0, known)) (same_Some first.1 type found) such)
such_step P first others number type false same such rest found = rest found

-- what is found among such entries is such
such_found : (P : ℕ × PlainType → Type 0) (met : List (ℕ × PlainType)) (number : ℕ) (type : PlainType)
    → All P met → lookup (nat_eq number) met ≡ Some type → P (number, type)
such_found P [] number type all found = absurd (none-some type found)
such_found P (first ∷ others) number type all found =
    such_step P first others number type (nat_eq number first.0) refl (All-head P first others all)
    (such_found P others number type (All-tail P first others all)) found

-- such an entry agrees, by what was found
such_agrees : {several : List ℕ} {P : ℕ × PlainType → Type 0} (met : List (ℕ × PlainType)) (entry : ℕ × PlainType)
    (found : Option PlainType) → Consistent several P → All P met → P entry
    → list_any (nat_eq entry.0) several ≡ true → lookup (nat_eq entry.0) met ≡ found
    → same_or_new entry.1 found ≡ true
such_agrees met entry None consistent all such counts is = refl
such_agrees {several} {P} met entry (Some known) consistent all such counts is =
    ap (λ (type : PlainType). same_type type entry.1)
    (consistent.one_type entry.0 known entry.1 (such_found P met entry.0 known all is) such counts)
    ∙ same_itself entry.1

-- what is met after such an entry is such
such_after : (P : ℕ × PlainType → Type 0) (met : List (ℕ × PlainType)) (entry : ℕ × PlainType) (there : Bool)
    → All P met → P entry → All P (if there then met else met ++ entry ∷ [])
such_after P met entry true all such = all
such_after P met entry false all such = All-push P met entry all such

-- such entries agree: the case of one more before them, by whether it counts
consistent_agree_if : {several : List ℕ} {P : ℕ × PlainType → Type 0} (met : List (ℕ × PlainType))
    (first : ℕ × PlainType) (others : List (ℕ × PlainType)) (counts : Bool)
    → list_any (nat_eq first.0) several ≡ counts → Consistent several P → All P met → P first
    → ((at : List (ℕ × PlainType)) → All P at → entries_agree several at others ≡ true)
    → (if counts then
    same_or_new first.1 (lookup (nat_eq first.0) met) && entries_agree several (with_entry met first) others
    else entries_agree several met others) ≡ true
consistent_agree_if {several} {P} met first others true counted consistent all one rest =
    and_from (same_or_new first.1 (lookup (nat_eq first.0) met))
    (entries_agree several (with_entry met first) others)
    (such_agrees met first (lookup (nat_eq first.0) met) consistent all one counted refl)
    (rest (with_entry met first) (such_after P met first (is_some (lookup (nat_eq first.0) met)) all one))
consistent_agree_if met first others false counted consistent all one rest = rest met all

-- such entries agree
pub consistent_agree : {several : List ℕ} {P : ℕ × PlainType → Type 0} (met entries : List (ℕ × PlainType))
    → Consistent several P → All P met → All P entries → entries_agree several met entries ≡ true
consistent_agree met [] consistent all such = refl
consistent_agree {several} {P} met (first ∷ others) consistent all such =
    consistent_agree_if met first others (list_any (nat_eq first.0) several) refl consistent all
    (All-head P first others such)
    (λ at at_all. consistent_agree at others consistent at_all (All-tail P first others such))
