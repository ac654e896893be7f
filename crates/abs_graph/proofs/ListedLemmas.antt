-- Lists of the numbers that bits have, and of the nodes that have them as columns.
--
--   `listed_push`, `listed_none`       a list with one more number, and one without any
--   `listed_as`                        what a list that is found has, by a test that is the same
--   `listed_more`                      the first numbers of a list, with one more
--   `bit_none`, `bit_skipped`, ..      the first bits of a word, with one more of them
--   `words_none`, `words_more`, ..     the first words, with one more of them
--   `column_past`, `column_taken`, ..  the nodes whose column is listed, with one more column
use Rattle.std.proofs.Common.{◌≡◌, ℕ, ◌+◌, ◌*◌, ◌/◌, ◌%◌, ◌<◌, ◌≤◌, Bool, true, false, ◌&&◌, ◌||◌, List, [], ◌∷◌, ◌++◌, take, length, get_or, nat_eq, nat_lt, refl, sym, ap, ◌∙◌, ⊎_elim, inl, inr, arith, lt-ltb, ltb-true, eq-eqb, eqb-true, true≢false, IfOk, Ok, Err, Result}
use Rattle.std.specs.Int.{bit_at}
use Rattle.std.specs.declared.alloc.AllocError.{AllocError}
use Rattle.std.specs.declared.alloc.Global.{Global}
use Rattle.std.specs.declared.vec.Vec.{Vec}
use Rattle.std.proofs.lemmas.Bool.{and_from, and_left, and_parts, and_right, cases_lt, false_from_ne_true, or_cases, or_left, or_right}
use Rattle.std.proofs.lemmas.List.Folds.{list_any-append, list_any_more}
use Rattle.std.proofs.lemmas.Nat.Bits.{bit_at-zero}
use Rattle.abs_graph.specs.BitSets.{word_bit, word_has}
use Rattle.abs_graph.specs.Graphs.{is_listed}
use Rattle.abs_graph.specs.Columns.{column_of, count_of, has_column}
use Rattle.abs_graph.specs.declared.columns.Columns.{Columns}
use Rattle.abs_graph.proofs.BitSetLemmas.{word_has-past}
use Rattle.abs_graph.proofs.ColumnLemmas.{column_inside, column_owner, has_owned}
use Rattle.std.specs.Cmp.{both_ways}
use Rattle.std.proofs.Math.Bool.{or-false, and-true, or_assoc, and-or_distrib_left}

-- a list with one more number
pub listed_push : (numbers : List ℕ) (last number : ℕ)
    → is_listed (numbers ++ last ∷ []) number ≡ (is_listed numbers number || nat_eq number last)
unfolding is_listed
listed_push numbers last number =
    list_any-append (nat_eq number) numbers (last ∷ [])
    ∙ ap (λ (b : Bool). is_listed numbers number || b) (or-false (nat_eq number last))

-- no number is in a list without any
pub listed_none : (number : ℕ) → is_listed [] number ≡ false
unfolding is_listed
listed_none number = refl

-- a list that is found has the numbers that pass a test, and so those that pass one that is the same
pub listed_as : {one other : ℕ → Bool} (found : Result (Vec ℕ Global) AllocError)
    → IfOk found (λ (one_found : Vec ℕ Global). (number : ℕ) → is_listed one_found.items number ≡ one number)
    → ((number : ℕ) → one number ≡ other number)
    → IfOk found (λ (one_found : Vec ℕ Global). (number : ℕ) → is_listed one_found.items number ≡ other number)
listed_as (Ok found) reported same = λ number. reported number ∙ same number
listed_as (Err failed) reported same = tt

-- the first numbers of a list, with one more
pub listed_more : (numbers : List ℕ) (index number : ℕ) → index < length numbers
    → is_listed (take (index + 1) numbers) number
    ≡ (is_listed (take index numbers) number || nat_eq number (get_or numbers index 0))
unfolding is_listed
listed_more numbers index number inside = list_any_more (nat_eq number) numbers index 0 inside

-- A number is one of the first bits of the word with an index, and the words have it.
record IsBit (words : List ℕ) (index bits number : ℕ) : Type 0 where
  at : number / 64 ≡ index
  low : number % 64 < bits
  had : word_has words number ≡ true

is_bit : (words : List ℕ) (index bits number : ℕ) → word_bit words index bits number ≡ true
    → IsBit words index bits number
unfolding word_bit
is_bit words index bits number reported =
    let whole = and_parts (nat_eq (number / 64) index && nat_lt (number % 64) bits) (word_has words number) reported in
    let place = and_parts (nat_eq (number / 64) index) (nat_lt (number % 64) bits) whole.0 in
    record {
      at = eqb-true (number / 64) index place.0;
      low = ltb-true (number % 64) bits place.1;
      had = whole.1;
    }

bit_reported : (words : List ℕ) (index bits number : ℕ) → IsBit words index bits number
    → word_bit words index bits number ≡ true
unfolding word_bit
bit_reported words index bits number bit =
    and_from (nat_eq (number / 64) index && nat_lt (number % 64) bits) (word_has words number)
    (and_from (nat_eq (number / 64) index) (nat_lt (number % 64) bits) (eq-eqb (number / 64) index bit.at)
    (lt-ltb (number % 64) bits bit.low)) bit.had

-- no bit was looked at
pub bit_none : (words : List ℕ) (index number : ℕ) (before : Bool)
    → before ≡ (before || word_bit words index 0 number)
bit_none words index number before =
    let none : word_bit words index 0 number ≡ false =
    false_from_ne_true (word_bit words index 0 number)
    (λ reported. let bit = is_bit words index 0 number reported in absurd (omega (arith, bit.low))) in
    sym (ap (λ (b : Bool). before || b) none ∙ or-false before)

-- a number whose word is zero
word_has-zero : (words : List ℕ) (number : ℕ) → get_or words (number / 64) 0 ≡ 0 → word_has words number ≡ false
unfolding word_has
word_has-zero words number is =
    ap (λ (word : ℕ). nat_eq (bit_at word (number % 64)) 1) is
    ∙ ap (λ (bit : ℕ). nat_eq bit 1) (bit_at-zero (number % 64))

nat_eq_comm : (one other : ℕ) → nat_eq one other ≡ nat_eq other one
nat_eq_comm one other = both_ways (nat_eq one other) (nat_eq other one)
    (λ reported. eq-eqb other one (sym (eqb-true one other reported))) (λ reported. eq-eqb one other (sym (eqb-true other one reported)))

-- one more bit
bit_more : (words : List ℕ) (index bits place number : ℕ) → place ≡ 64 * index + bits → bits < 64
    → (word_bit words index bits number || (nat_eq number place && word_has words place))
    ≡ word_bit words index (bits + 1) number
bit_more words index bits place number is low =
    let before : Bool = word_bit words index bits number in
    let here : Bool = nat_eq number place && word_has words place in
    both_ways (before || here) (word_bit words index (bits + 1) number)
    (λ reported. ⊎_elim
    (λ earlier.
    let bit = is_bit words index bits number earlier in
    bit_reported words index (bits + 1) number (record {
      at = bit.at;
      low = omega (arith, bit.low);
      had = bit.had;
    }))
    (λ now.
    let both = and_parts (nat_eq number place) (word_has words place) now in
    let same : number ≡ place = eqb-true number place both.0 in
    bit_reported words index (bits + 1) number (record {
      at = omega (arith, same, is, low);
      low = omega (arith, same, is, low);
      had = ap (word_has words) same ∙ both.1;
    }))
    (or_cases before here reported))
    (λ reported.
    let bit = is_bit words index (bits + 1) number reported in
    elim (cases_lt (number % 64) bits) [
      | inl less ↦
          or_left before here (bit_reported words index bits number (record {
            at = bit.at;
            low = less;
            had = bit.had;
          }))
      | inr over ↦
          let same : number ≡ place = omega (arith, is, bit.at, bit.low, over) in
          or_right before here (and_from (nat_eq number place) (word_has words place) (eq-eqb number place same)
          (ap (word_has words) (sym same) ∙ bit.had))
    ])

-- one that the words do not have
pub bit_skipped : (words : List ℕ) (index bits place number : ℕ) (before now : Bool) → place ≡ 64 * index + bits
    → bits < 64 → false ≡ word_has words place → now ≡ (before || word_bit words index bits number)
    → now ≡ (before || word_bit words index (bits + 1) number)
bit_skipped words index bits place number before now is low lacks so =
    let bit : Bool = word_bit words index bits number in
    so ∙ ap (λ (b : Bool). before || b)
    (sym (or-false bit)
    ∙ (ap (λ (b : Bool). bit || b) (sym (and_right (nat_eq number place) (word_has words place) (sym lacks)))
    ∙ bit_more words index bits place number is low))

-- one that they have
pub bit_taken : (words : List ℕ) (index bits place number : ℕ) (before : Bool) (old : List ℕ)
    → place ≡ 64 * index + bits → bits < 64 → true ≡ word_has words place
    → is_listed old number ≡ (before || word_bit words index bits number)
    → is_listed (old ++ place ∷ []) number ≡ (before || word_bit words index (bits + 1) number)
bit_taken words index bits place number before old is low has so =
    let bit : Bool = word_bit words index bits number in
    listed_push old place number
    ∙ (ap (λ (b : Bool). b || nat_eq number place) so
    ∙ (or_assoc before bit (nat_eq number place)
    ∙ ap (λ (b : Bool). before || b)
    (ap (λ (b : Bool). bit || b)
    (sym (and-true (nat_eq number place)) ∙ ap (λ (b : Bool). nat_eq number place && b) has)
    ∙ bit_more words index bits place number is low)))

ltb-none : (number : ℕ) → nat_lt number 0 ≡ false
ltb-none number =
    false_from_ne_true (nat_lt number 0) (λ reported. let less = ltb-true number 0 reported in absurd (omega (arith, less)))

-- what the first words have, before the first one and after the last one
pub words_none : (words : List ℕ) (number : ℕ)
    → is_listed [] number ≡ (nat_lt (number / 64) 0 && word_has words number)
unfolding is_listed
words_none words number = sym (and_left (nat_lt (number / 64) 0) (word_has words number) (ltb-none (number / 64)))

pub words_all : (words : List ℕ) (count number : ℕ) → length words ≤ count
    → (nat_lt (number / 64) count && word_has words number) ≡ word_has words number
words_all words count number whole = elim (cases_lt (number / 64) count) [
  | inl less ↦ ap (λ (b : Bool). b && word_has words number) (lt-ltb (number / 64) count less)
  | inr over ↦
      let lacks = word_has-past words number (omega (arith, whole, over)) in
      and_right (nat_lt (number / 64) count) (word_has words number) lacks ∙ sym lacks
]

-- what one more word has
pub words_more : (words : List ℕ) (index number : ℕ)
    → ((nat_lt (number / 64) index && word_has words number) || word_bit words index 64 number)
    ≡ (nat_lt (number / 64) (index + 1) && word_has words number)
words_more words index number =
    let had : Bool = word_has words number in
    let before : Bool = nat_lt (number / 64) index && had in
    both_ways (before || word_bit words index 64 number) (nat_lt (number / 64) (index + 1) && had)
    (λ reported. ⊎_elim
    (λ earlier.
    let both = and_parts (nat_lt (number / 64) index) had earlier in
    let less : number / 64 < index = ltb-true (number / 64) index both.0 in
    and_from (nat_lt (number / 64) (index + 1)) had (lt-ltb (number / 64) (index + 1) (omega (arith, less))) both.1)
    (λ now.
    let bit = is_bit words index 64 number now in
    and_from (nat_lt (number / 64) (index + 1)) had (lt-ltb (number / 64) (index + 1) (omega (arith, bit.at))) bit.had)
    (or_cases before (word_bit words index 64 number) reported))
    (λ reported.
    let both = and_parts (nat_lt (number / 64) (index + 1)) had reported in
    let within : number / 64 < index + 1 = ltb-true (number / 64) (index + 1) both.0 in
    elim (cases_lt (number / 64) index) [
      | inl less ↦
          or_left before (word_bit words index 64 number)
          (and_from (nat_lt (number / 64) index) had (lt-ltb (number / 64) index less) both.1)
      | inr over ↦
          or_right before (word_bit words index 64 number) (bit_reported words index 64 number (record {
            at = omega (arith, within, over);
            low = omega arith;
            had = both.1;
          }))
    ])

-- a word that is zero has no number
pub words_skipped : (words : List ℕ) (index number : ℕ) → get_or words index 0 ≡ 0
    → (nat_lt (number / 64) index && word_has words number)
    ≡ (nat_lt (number / 64) (index + 1) && word_has words number)
words_skipped words index number zero_there =
    let before : Bool = nat_lt (number / 64) index && word_has words number in
    let none : word_bit words index 64 number ≡ false = false_from_ne_true (word_bit words index 64 number)
    (λ reported.
    let bit = is_bit words index 64 number reported in
    true≢false (sym bit.had ∙ word_has-zero words number
    (ap (λ (i : ℕ). get_or words i 0) bit.at ∙ zero_there))) in
    sym (or-false before)
    ∙ (ap (λ (b : Bool). before || b) (sym none) ∙ words_more words index number)

-- the nodes whose column is one of several, with one column more
column_found : (columns : Columns) (column node other : ℕ) → get_or columns.nodes.items column 0 ≡ node
    → column < count_of columns → has_column columns other ≡ true → column_of columns other ≡ column → other ≡ node
column_found columns column node other is inside reported same =
    sym (column_owner columns other reported) ∙ (ap (λ (c : ℕ). get_or columns.nodes.items c 0) same ∙ is)

-- a column without a node
pub column_past : (columns : Columns) (column node : ℕ) (before : Bool) → count_of columns ≤ column
    → before ≡ (before || (has_column columns node && nat_eq column (column_of columns node)))
column_past columns column node before past =
    let none = false_from_ne_true (has_column columns node && nat_eq column (column_of columns node))
    (λ reported.
    let both = and_parts (has_column columns node) (nat_eq column (column_of columns node)) reported in
    let same : column ≡ column_of columns node = eqb-true column (column_of columns node) both.1 in
    absurd (omega (arith, past, same, column_inside columns node both.0))) in
    sym (ap (λ (b : Bool). before || b) none ∙ or-false before)

-- one whose node has another column
pub column_skipped : (columns : Columns) (column node other : ℕ) (before : Bool)
    → get_or columns.nodes.items column 0 ≡ node → column < count_of columns
    → (column_of columns node ≡ column → ⊥)
    → before ≡ (before || (has_column columns other && nat_eq column (column_of columns other)))
column_skipped columns column node other before is inside differs =
    let none = false_from_ne_true (has_column columns other && nat_eq column (column_of columns other))
    (λ reported.
    let both = and_parts (has_column columns other) (nat_eq column (column_of columns other)) reported in
    let same : column ≡ column_of columns other = eqb-true column (column_of columns other) both.1 in
    let here : other ≡ node = column_found columns column node other is inside both.0 (sym same) in
    differs (ap (column_of columns) (sym here) ∙ sym same)) in
    sym (ap (λ (b : Bool). before || b) none ∙ or-false before)

-- one of a node
pub column_taken : (columns : Columns) (column node other : ℕ) (old : List ℕ)
    → get_or columns.nodes.items column 0 ≡ node → column < count_of columns → column_of columns node ≡ column
    → is_listed (old ++ node ∷ []) other
    ≡ (is_listed old other || (has_column columns other && nat_eq column (column_of columns other)))
column_taken columns column node other old is inside owns =
    let own : has_column columns node ≡ true =
    has_owned columns node (omega (arith, inside, owns))
    (ap (λ (c : ℕ). get_or columns.nodes.items c 0) owns ∙ is) in
    listed_push old node other
    ∙ ap (λ (b : Bool). is_listed old other || b)
    (both_ways (nat_eq other node) (has_column columns other && nat_eq column (column_of columns other))
    (λ reported.
    let here : other ≡ node = eqb-true other node reported in
    and_from (has_column columns other) (nat_eq column (column_of columns other))
    (ap (has_column columns) here ∙ own)
    (eq-eqb column (column_of columns other) (sym owns ∙ ap (column_of columns) (sym here))))
    (λ reported.
    let both = and_parts (has_column columns other) (nat_eq column (column_of columns other)) reported in
    let same : column ≡ column_of columns other = eqb-true column (column_of columns other) both.1 in
    eq-eqb other node (column_found columns column node other is inside both.0 (sym same))))

-- no column was looked at
pub columns_none : (columns : Columns) (node : ℕ)
    → is_listed [] node ≡ (has_column columns node && is_listed [] (column_of columns node))
columns_none columns node =
    listed_none node
    ∙ sym (and_right (has_column columns node) (is_listed [] (column_of columns node))
    (listed_none (column_of columns node)))

-- the nodes of the first of several columns, with one more of them
pub columns_listed : (columns : Columns) (numbers : List ℕ) (index node : ℕ) → index < length numbers
    → ((has_column columns node && is_listed (take index numbers) (column_of columns node))
    || (has_column columns node && nat_eq (get_or numbers index 0) (column_of columns node)))
    ≡ (has_column columns node && is_listed (take (index + 1) numbers) (column_of columns node))
columns_listed columns numbers index node inside =
    let column : ℕ = column_of columns node in
    sym (and-or_distrib_left (has_column columns node) (is_listed (take index numbers) column)
    (nat_eq (get_or numbers index 0) column)) ∙ ap (λ (b : Bool). has_column columns node && b)
    (ap (λ (b : Bool). is_listed (take index numbers) column || b) (nat_eq_comm (get_or numbers index 0) column)
    ∙ sym (listed_more numbers index column inside))
