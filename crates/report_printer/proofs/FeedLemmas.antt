-- The line feeds of a source, and how many there are before an offset.
--
--   `feeds_rise`, `no_feed_between`        no fewer further on, and none between offsets with the same number
--   `start_before`, `end_after`            a line begins before each place in it, and ends after it
--   `feeds_part`, `feeds_found`            the places of the line feeds are parted at each offset, which counts them
--   `starts_there`, `starts_first`, `ends_there`, `ends_last`      where lines begin and end
use Rattle.std.proofs.Common.{◌≡◌, ◌∙◌, ⊎_elim, ℕ, zero, suc, ◌+◌, ◌-◌, ◌<◌, ◌≤◌, true, false, List, ◌∷◌, length, get_or, nat_lt, refl, sym, ap, subst, arith, le_refl, count_by}
use Rattle.std.proofs.lemmas.Bool.{cases_Bool, cases_lt, cond_both, ltb-true, lt-ltb}
use Rattle.std.proofs.lemmas.List.{get_or_default, take_all}
use Rattle.std.proofs.lemmas.List.Sums.{count_by_more_yes, count_by_more_no}
use Rattle.std.specs.List.Sorted.{IsPartitionedBy}
use Rattle.std.specs.Prelude.{slice_index}
use Rattle.memchr.proofs.lemmas.CallerLemmas.{All-places, length-places}
use Rattle.memchr.specs.Find.{places, places_from, is_byte}
use Rattle.report_printer.specs.SourceLines.{is_feed}
use Rattle.report_printer.specs.SourceSearch.{feeds_to, IsLineStart, IsLineEnd}

module _ (bytes : List ℕ) where
  -- one byte more, which is a line feed or not
  feeds_with : (k : ℕ) → k < length bytes → is_feed (slice_index bytes k) ≡ true
      → feeds_to bytes (k + 1) ≡ feeds_to bytes k + 1
  feeds_with k within feed = count_by_more_yes is_feed bytes k 0 within feed

  feeds_grow : (k : ℕ) → k < length bytes → feeds_to bytes k ≤ feeds_to bytes (k + 1)
  feeds_grow k within = ⊎_elim
      (λ feed. let e = count_by_more_yes is_feed bytes k 0 within feed in omega (arith, e))
      (λ none. let e = count_by_more_no is_feed bytes k 0 within none in omega (arith, e))
      (cases_Bool (is_feed (slice_index bytes k)))

  feeds_rise_by : (j more : ℕ) → j + more ≤ length bytes → feeds_to bytes j ≤ feeds_to bytes (j + more)
  feeds_rise_by j zero within =
      let same : j ≡ j + 0 = omega arith in
      subst (λ k. feeds_to bytes j ≤ feeds_to bytes k) same (le_refl (feeds_to bytes j))
  feeds_rise_by j (suc more) within =
      let same : j + more + 1 ≡ j + suc more = omega arith in
      let before = feeds_rise_by j more (omega arith) in
      let grow = feeds_grow (j + more) (omega arith) in
      subst (λ k. feeds_to bytes j ≤ feeds_to bytes k) same (omega (arith, before, grow))

  -- there are no fewer line feeds before a later offset
  pub feeds_rise : (j k : ℕ) → j ≤ k → k ≤ length bytes → feeds_to bytes j ≤ feeds_to bytes k
  feeds_rise j k order within =
      let same : j + (k - j) ≡ k = omega arith in
      subst (λ it. feeds_to bytes j ≤ feeds_to bytes it) same (feeds_rise_by j (k - j) (omega arith))

  -- there is none between offsets before which there are as many
  pub no_feed_between : (j k : ℕ) → k ≤ length bytes → feeds_to bytes j ≡ feeds_to bytes k
      → (i : ℕ) → j ≤ i → i < k → is_feed (slice_index bytes i) ≡ false
  no_feed_between j k within same i low high = ⊎_elim
      (λ feed.
      let one = feeds_with i (omega arith) feed in
      let before = feeds_rise j i low (omega arith) in
      let after = feeds_rise (i + 1) k (omega arith) within in
      absurd (omega (arith, one, before, after, same)))
      (λ none. none)
      (cases_Bool (is_feed (slice_index bytes i)))

  -- a line begins before each place in it
  pub start_before : (feeds start at : ℕ) → IsLineStart bytes feeds start → at ≤ length bytes
      → feeds_to bytes at ≡ feeds → start ≤ at
  start_before feeds start at begins within count = ⊎_elim
      (λ late.
      let last : start - 1 + 1 ≡ start = omega arith in
      let one = feeds_with (start - 1) (omega (arith, begins.within)) (begins.after_feed (omega arith)) in
      let same = ap (feeds_to bytes) last in
      let before = feeds_rise at (start - 1) (omega arith) (omega (arith, begins.within)) in
      absurd (omega (arith, one, same, before, begins.count_is, count)))
      (λ order. order)
      (cases_lt at start)

  -- a line ends after each place in it
  pub end_after : (feeds end at : ℕ) → IsLineEnd bytes feeds end → at ≤ length bytes
      → feeds_to bytes at ≡ feeds → at ≤ end
  end_after feeds end at ends within count = ⊎_elim
      (λ early.
      let one = feeds_with end (omega arith) (ends.before_feed (omega arith)) in
      let after = feeds_rise (end + 1) at (omega arith) within in
      absurd (omega (arith, one, after, ends.count_is, count)))
      (λ order. order)
      (cases_lt end at)

  -- before a line feed and the later ones there are as many as their number says
  feeds_here : (i : ℕ) (later : List ℕ) → i < length bytes → is_feed (slice_index bytes i) ≡ true
      → ((index : ℕ) → index < length later → feeds_to bytes (get_or later index 0) ≡ feeds_to bytes (i + 1) + index)
      → (index : ℕ) → index < length (i ∷ later)
      → feeds_to bytes (get_or (i ∷ later) index 0) ≡ feeds_to bytes i + index
  feeds_here i later within feed rest zero inside = omega arith
  feeds_here i later within feed rest (suc index) inside =
      let shorter : index < length later = omega (arith, inside) in
      omega (arith, rest index shorter, feeds_with i within feed)

  -- before each line feed there are as many as its number says
  feeds_at_from : (i n : ℕ) → i + n ≤ length bytes
      → (index : ℕ) → index < length (places_from (is_byte 10) bytes i n)
      → feeds_to bytes (get_or (places_from (is_byte 10) bytes i n) index 0) ≡ feeds_to bytes i + index
  unfolding places_from
  feeds_at_from i zero within index inside = absurd (omega (arith, inside))
  feeds_at_from i (suc n) within index inside =
      let later = places_from (is_byte 10) bytes (i + 1) n in
      let rest = feeds_at_from (i + 1) n (omega arith) in
      cond_both (is_feed (slice_index bytes i)) (i ∷ later) later
      (λ list. index < length list → feeds_to bytes (get_or list index 0) ≡ feeds_to bytes i + index)
      (λ feed here. feeds_here i later (omega arith) feed rest index here)
      (λ none here.
      rest index here ∙ ap (λ count. count + index) (count_by_more_no is_feed bytes i 0 (omega arith) none))
      inside

  module _ (feeds : List ℕ) (all : feeds ≡ places (is_byte 10) bytes) where
    pub feeds_at : (index : ℕ) → index < length feeds → feeds_to bytes (get_or feeds index 0) ≡ index
    feeds_at index inside =
        let zero_more : 0 + index ≡ index = omega arith in
        subst (λ list. feeds_to bytes (get_or list index 0) ≡ index) (sym all)
        (feeds_at_from 0 (length bytes - 0) (omega arith) index (subst (λ list. index < length list) all inside)
        ∙ zero_more)

    is_feed_at : (index : ℕ) → index < length feeds
        → (get_or feeds index 0 < length bytes) × (is_feed (slice_index bytes (get_or feeds index 0)) ≡ true)
    is_feed_at index inside =
        subst (λ list. (get_or list index 0 < length bytes)
        × (is_feed (slice_index bytes (get_or list index 0)) ≡ true)) (sym all)
        (All-places (is_byte 10) bytes index 0 (subst (λ list. index < length list) all inside))

    count_of : length feeds ≡ feeds_to bytes (length bytes)
    count_of = ap length all ∙ (length-places (is_byte 10) bytes
        ∙ ap (count_by is_feed) (sym (take_all (length bytes) bytes (le_refl (length bytes)))))

    -- the line feeds rise
    rise : (one other : ℕ) → one ≤ other → other < length feeds → get_or feeds one 0 ≤ get_or feeds other 0
    rise one other order inside = ⊎_elim
        (λ wrong.
        let first = feeds_at one (omega arith) in
        let second = feeds_at other inside in
        let there = is_feed_at other inside in
        let one_there = is_feed_at one (omega arith) in
        let more = feeds_with (get_or feeds other 0) there.0 there.1 in
        let before = feeds_rise (get_or feeds other 0 + 1) (get_or feeds one 0) (omega arith)
        (omega (arith, one_there.0)) in
        absurd (omega (arith, first, second, more, before)))
        (λ right. right)
        (cases_lt (get_or feeds other 0) (get_or feeds one 0))

    -- an offset is before all line feeds from one of them on
    pub feeds_part : (at : ℕ) → IsPartitionedBy (λ feed. nat_lt feed at) feeds
    feeds_part at one other default order inside before =
        let same = get_or_default feeds other default 0 inside in
        let one_same = get_or_default feeds one default 0 (omega arith) in
        lt-ltb _ _ (omega (arith, rise one other order inside, ltb-true _ _ before, same, one_same))

    -- this is after as many line feeds as there are before the offset
    pub feeds_found : (at count : ℕ) → at ≤ length bytes → count ≤ length feeds
        → ((index : ℕ) → index < count → get_or feeds index 0 < at)
        → ((index : ℕ) → count ≤ index → index < length feeds → at ≤ get_or feeds index 0)
        → count ≡ feeds_to bytes at
    feeds_found at count within bound before after =
        let low : count ≤ feeds_to bytes at = ⊎_elim
        (λ some.
        let last = feeds_at (count - 1) (omega arith) in
        let there = is_feed_at (count - 1) (omega arith) in
        let one = feeds_with (get_or feeds (count - 1) 0) there.0 there.1 in
        let more = feeds_rise (get_or feeds (count - 1) 0 + 1) at
        (omega (arith, before (count - 1) (omega arith))) within in
        omega (arith, last, one, more))
        (λ none. omega arith)
        (cases_lt 0 count) in
        let high : feeds_to bytes at ≤ count = ⊎_elim
        (λ inside.
        let next = feeds_at count inside in
        let there = is_feed_at count inside in
        let more = feeds_rise at (get_or feeds count 0) (after count (le_refl count) inside)
        (omega (arith, there.0)) in
        omega (arith, next, more))
        (λ end. omega (arith, count_of, feeds_rise at (length bytes) within (le_refl (length bytes))))
        (cases_lt count (length feeds)) in
        omega (arith, low, high)

    -- the first line begins at the first byte
    pub starts_first : IsLineStart bytes 0 0
    starts_first = record { count_is = refl; within = omega arith; after_feed = λ some. absurd (omega arith) }

    -- each other line begins after a line feed
    pub starts_there : (count : ℕ) → 0 < count → count ≤ length feeds
        → IsLineStart bytes count (get_or feeds (count - 1) 0 + 1)
    starts_there count some bound =
        let there = is_feed_at (count - 1) (omega arith) in
        let same : get_or feeds (count - 1) 0 + 1 - 1 ≡ get_or feeds (count - 1) 0 = omega arith in
        record {
          count_is = omega (
            arith,
            feeds_with (get_or feeds (count - 1) 0) there.0 there.1,
            feeds_at (count - 1) (omega arith),
          );
          within = omega (arith, there.0);
          after_feed = λ later. subst (λ at. is_feed (slice_index bytes at) ≡ true) (sym same) there.1;
        }

    -- a line ends before the next line feed
    pub ends_there : (count : ℕ) → count < length feeds → IsLineEnd bytes count (get_or feeds count 0)
    ends_there count inside =
        let there = is_feed_at count inside in
        record {
          count_is = feeds_at count inside;
          within = omega (arith, there.0);
          before_feed = λ later. there.1;
        }

    -- the last line ends with the source
    pub ends_last : (count : ℕ) → count ≤ length feeds → length feeds ≤ count → IsLineEnd bytes count (length bytes)
    ends_last count bound last = record {
      count_is = omega (arith, count_of);
      within = le_refl (length bytes);
      before_feed = λ later. absurd (omega arith);
    }
