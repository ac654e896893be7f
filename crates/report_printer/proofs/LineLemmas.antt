-- The line and the column of a place, and the line that is quoted, by where the line begins and ends.
--
--   `line_counts`, `column_counts`     the line and the column of a place
--   `quoted_between`                   the line that is quoted
--   `clamped_place`, `clamped_line`    an offset past the end is the end
use Rattle.std.proofs.Common.{◌≡◌, ◌∙◌, ⊎_elim, ℕ, suc, ◌+◌, ◌-◌, ◌<◌, ◌≤◌, true, false, List, ◌∷◌, [], ◌++◌, length, take, drop, get_or, min, refl, sym, ap, subst, arith, le_refl, fold, cond, append_assoc, length-append, length-take}
use Rattle.std.proofs.Math.Seq.{take-add}
use Rattle.std.proofs.lemmas.Bool.{cases_Bool, cases_lt}
use Rattle.std.proofs.lemmas.List.{append-nil, drop-drop, drop_all, take_all, take-append-drop, get_or-take, get_or-drop, length-drop}
use Rattle.std.proofs.lemmas.List.Folds.{fold_along}
use Rattle.std.proofs.lemmas.List.Sums.{fold_more, fold-append}
use Rattle.std.specs.Prelude.{slice_index}
use Rattle.abs_tree.specs.Places.{start, place_after_byte, place_after}
use Rattle.report_printer.proofs.FeedLemmas.{end_after, no_feed_between, start_before}
use Rattle.report_printer.specs.SourceLines.{is_feed, source_place, with_byte, after_feeds, before_feed, quoted_line}
use Rattle.report_printer.specs.SourceSearch.{feeds_to, IsLineStart, IsLineEnd}

-- a line counts the line feeds before it
pub line_counts : (bytes : List ℕ) (offset : ℕ) → (source_place bytes offset).line ≡ feeds_to bytes offset + 1
line_counts bytes offset =
    fold_along place_after_byte (λ count byte. count + cond (is_feed byte) 1 0) (λ place count. place.line ≡ count + 1)
    (λ place count byte same. ⊎_elim
    (λ feed. rw feed (omega (arith, same)))
    (λ none. rw none (omega (arith, same)))
    (cases_Bool (is_feed byte)))
    start 0 (take offset bytes) refl

-- a column counts the bytes since the last line feed
pub column_counts : (bytes : List ℕ) (offset : ℕ)
    → (source_place bytes offset).column ≡ length (after_feeds (take offset bytes)) + 1
column_counts bytes offset =
    fold_along place_after_byte with_byte (λ place line. place.column ≡ length line + 1)
    (λ place line byte same. ⊎_elim
    (λ feed. rw feed refl)
    (λ none. rw none (omega (arith, same, length-append line (byte ∷ []))))
    (cases_Bool (is_feed byte)))
    start [] (take offset bytes) refl

-- bytes without a line feed are all after the last one
after_none : (line bytes : List ℕ)
    → ((k : ℕ) → k < length bytes → is_feed (slice_index bytes k) ≡ false) → fold with_byte line bytes ≡ line ++ bytes
after_none line [] none = sym (append-nil line)
after_none line (byte ∷ bytes) none =
    let first = none 0 (omega arith) in
    let step : with_byte line byte ≡ line ++ byte ∷ [] = rw first refl in
    ap (λ more. fold with_byte more bytes) step
    ∙ (after_none (line ++ byte ∷ []) bytes (λ k inside. none (suc k) (omega (arith, inside)))
    ∙ append_assoc line (byte ∷ []) bytes)

-- they are all before the first one, if this comes next
before_none : (bytes rest : List ℕ)
    → ((k : ℕ) → k < length bytes → is_feed (slice_index bytes k) ≡ false)
    → (0 < length rest → is_feed (slice_index rest 0) ≡ true) → before_feed (bytes ++ rest) ≡ bytes
before_none [] [] none feed = refl
before_none [] (byte ∷ rest) none feed =
    let first = feed (omega arith) in
    rw first refl
before_none (byte ∷ bytes) rest none feed =
    let first = none 0 (omega arith) in
    rw first (ap (λ more. byte ∷ more) (before_none bytes rest (λ k inside. none (suc k) (omega (arith, inside))) feed))

module _ (bytes : List ℕ) (feeds at begin : ℕ) (within : at ≤ length bytes) (count : feeds_to bytes at ≡ feeds)
    (begins : IsLineStart bytes feeds begin)
  where
    -- the line begins there
    begun : after_feeds (take begin bytes) ≡ []
    begun = ⊎_elim
        (λ some.
        let last : begin - 1 + 1 ≡ begin = omega arith in
        subst (λ it. after_feeds (take it bytes) ≡ []) last
        (fold_more with_byte [] bytes (begin - 1) 0 (omega (arith, begins.within))
        ∙ ap (λ feed. cond feed [] (after_feeds (take (begin - 1) bytes) ++ get_or bytes (begin - 1) 0 ∷ []))
        (begins.after_feed some)))
        (λ none. let first : 0 ≡ begin = omega arith in subst (λ it. after_feeds (take it bytes) ≡ []) first refl)
        (cases_lt 0 begin)

    -- what is on the line before a place
    pub after_between : after_feeds (take at bytes) ≡ take (at - begin) (drop begin bytes)
    after_between =
        let order = start_before bytes feeds begin at begins within count in
        let sum : begin + (at - begin) ≡ at = omega (arith, order) in
        let none = no_feed_between bytes begin at within (begins.count_is ∙ sym count) in
        let size = length-take (at - begin) (drop begin bytes) in
        ap (λ it. after_feeds (take it bytes)) (sym sum)
        ∙ (ap after_feeds (take-add begin (at - begin) bytes)
        ∙ (fold-append with_byte [] (take begin bytes) (take (at - begin) (drop begin bytes))
        ∙ (ap (λ line. fold with_byte line (take (at - begin) (drop begin bytes))) begun
        ∙ after_none [] (take (at - begin) (drop begin bytes)) (λ k inside.
        subst (λ byte. is_feed byte ≡ false)
        (sym (get_or-take (at - begin) (drop begin bytes) k 0 (omega (arith, inside, size))
        ∙ get_or-drop begin bytes k 0))
        (none (begin + k) (omega arith) (omega (arith, inside, size)))))))

    pub column_between : (source_place bytes at).column ≡ at - begin + 1
    column_between =
        let order = start_before bytes feeds begin at begins within count in
        let size = length-take (at - begin) (drop begin bytes) in
        let rest = length-drop begin bytes in
        column_counts bytes at ∙ (ap (λ line. length line + 1) after_between ∙ omega (arith, size, rest))

    module _ (end : ℕ) (ends : IsLineEnd bytes feeds end) where
      -- what is on the line from a place on
      before_between : before_feed (drop at bytes) ≡ take (end - at) (drop at bytes)
      before_between =
          let order = end_after bytes feeds end at ends within count in
          let none = no_feed_between bytes at end ends.within (count ∙ sym ends.count_is) in
          let size = length-take (end - at) (drop at bytes) in
          let same : at + (end - at) ≡ end = omega arith in
          let rest = drop-drop (end - at) at bytes ∙ ap (λ it. drop it bytes) same in
          ap before_feed (sym (take-append-drop (end - at) (drop at bytes)))
          ∙ before_none (take (end - at) (drop at bytes)) (drop (end - at) (drop at bytes))
          (λ k inside.
          subst (λ byte. is_feed byte ≡ false)
          (sym (get_or-take (end - at) (drop at bytes) k 0 (omega (arith, inside, size)) ∙ get_or-drop at bytes k 0))
          (none (at + k) (omega arith) (omega (arith, inside, size))))
          (λ some.
          let more = subst (λ list. 0 < length list) rest some in
          let left = length-drop end bytes in
          let first : end + 0 ≡ end = omega arith in
          subst (λ list. is_feed (slice_index list 0) ≡ true) (sym rest)
          (subst (λ byte. is_feed byte ≡ true)
          (sym (get_or-drop end bytes 0 0 ∙ ap (λ it. get_or bytes it 0) first))
          (ends.before_feed (omega (arith, more, left)))))

      pub quoted_between : quoted_line bytes at ≡ take (end - begin) (drop begin bytes)
      unfolding quoted_line
      quoted_between =
          let low = start_before bytes feeds begin at begins within count in
          let high = end_after bytes feeds end at ends within count in
          let sum : at - begin + (end - at) ≡ end - begin = omega arith in
          let same : begin + (at - begin) ≡ at = omega arith in
          let rest = drop-drop (at - begin) begin bytes ∙ ap (λ it. drop it bytes) same in
          ap (λ line. line ++ before_feed (drop at bytes)) after_between
          ∙ (ap (λ line. take (at - begin) (drop begin bytes) ++ line)
          (before_between ∙ ap (take (end - at)) (sym rest))
          ∙ (sym (take-add (at - begin) (end - at) (drop begin bytes))
          ∙ ap (λ size. take size (drop begin bytes)) sum))

-- an offset past the end is the end
clamped : (bytes : List ℕ) (offset : ℕ) → (take offset bytes ≡ take (min offset (length bytes)) bytes)
    × (drop offset bytes ≡ drop (min offset (length bytes)) bytes)
clamped bytes offset = ⊎_elim
    (λ inside.
    let same : offset ≡ min offset (length bytes) = omega arith in
    (ap (λ at. take at bytes) same, ap (λ at. drop at bytes) same))
    (λ past.
    let same : length bytes ≡ min offset (length bytes) = omega arith in
    let end = le_refl (length bytes) in (
      take_all offset bytes past ∙ (sym (take_all (length bytes) bytes end) ∙ ap (λ at. take at bytes) same),
      drop_all offset bytes past ∙ (sym (drop_all (length bytes) bytes end) ∙ ap (λ at. drop at bytes) same),
    ))
    (cases_lt offset (length bytes))

pub clamped_place : (bytes : List ℕ) (offset at : ℕ) → at ≡ min offset (length bytes)
    → source_place bytes offset ≡ source_place bytes at
clamped_place bytes offset at is =
    ap (place_after start) ((clamped bytes offset).0 ∙ ap (λ it. take it bytes) (sym is))

pub clamped_line : (bytes : List ℕ) (offset at : ℕ) → at ≡ min offset (length bytes)
    → quoted_line bytes offset ≡ quoted_line bytes at
unfolding quoted_line
clamped_line bytes offset at is =
    ap (λ line. after_feeds line ++ before_feed (drop offset bytes))
    ((clamped bytes offset).0 ∙ ap (λ it. take it bytes) (sym is))
    ∙ ap (λ line. after_feeds (take at bytes) ++ before_feed line)
    ((clamped bytes offset).1 ∙ ap (λ it. drop it bytes) (sym is))
