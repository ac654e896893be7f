-- Strings as the scanner finds them: where a string closes, and which `\` in it begins no escape.
use Rattle.std.proofs.Common.{◌≡◌, ℕ, suc, ◌+◌, ◌≤◌, ◌==◌, ◌||◌, not, Bool, true, false, List, [], ◌∷◌, ◌++◌, length, refl, ap, cond, ◌∙◌, arith}
use Rattle.std.specs.Prelude.{Option, Some, None}
use Rattle.abs_lexer.specs.Forms.{is_escape, is_on_line, is_plain, IsInside}
use Rattle.abs_lexer.specs.Forms.IsInside.{nothing, plain, escaped}
use Rattle.abs_lexer.specs.Scans.{increased_by, closing_quote, closing_after_escape, bad_escape}
use Rattle.std.proofs.lemmas.Bool.{not-true, not_from_false, eqb-true}

-- A byte that denotes itself in a string is no quote, no `\` and no line feed.
record IsOther (byte : ℕ) : Type 0 where
  quote : (byte == 34) ≡ false
  escape : (byte == 92) ≡ false
  feed : (byte == 10) ≡ false

none_of : (q e f : Bool) → not (q || e || f) ≡ true → (q ≡ false) × (e ≡ false) × (f ≡ false)
none_of true e f h = cc
none_of false true f h = cc
none_of false false true h = cc
none_of false false false h = (refl, refl, refl)

is_other : (byte : ℕ) → is_plain byte ≡ true → IsOther byte
is_other byte h = let parts = none_of (byte == 34) (byte == 92) (byte == 10) h in
    record { quote = parts.0; escape = parts.1; feed = parts.2 }

-- a byte that is none of them denotes itself
other_is : (byte : ℕ) → (byte == 34) ≡ false → (byte == 92) ≡ false → (byte == 10) ≡ false → is_plain byte ≡ true
other_is byte q e f = rw (q, e, f) refl

-- the scan finds the closing quote of a string after the bytes inside it
pub closing_inside : {inside : List ℕ} (after : List ℕ) → IsInside is_on_line inside
    → closing_quote (inside ++ 34 ∷ after) ≡ Some (length inside)
unfolding closing_quote
closing_inside after nothing = refl
closing_inside after (plain byte others p h) =
    let other = is_other byte p in
    let rest = closing_inside after h in
    rw (other.quote, other.escape, other.feed, rest) (ap (λ (n : ℕ). Some n) (omega arith))
closing_inside after (escaped byte others p h) =
    let feed = not-true (byte == 10) p in
    let rest = closing_inside after h in
    rw (feed, rest) (ap (λ (n : ℕ). Some n) (omega arith))

-- if an index increased by a count is n, then the index is some m with n = count + m
pub further_some : (count : ℕ) (index : Option ℕ) (n : ℕ) → increased_by count index ≡ Some n
    → (m : ℕ) × (index ≡ Some m) × (n ≡ count + m)
further_some count None n h = cc
further_some count (Some m) n h = (m, refl, cc)

-- a string that closes after this many bytes
pub record Closes (bytes : List ℕ) (count : ℕ) : Type 0 where
  pub inside : List ℕ
  pub after : List ℕ
  pub is : bytes ≡ inside ++ 34 ∷ after
  pub reads : IsInside is_on_line inside
  pub count_is : length inside ≡ count

-- the same after a `\`
record ClosesAfter (bytes : List ℕ) (count : ℕ) : Type 0 where
  byte : ℕ
  others : List ℕ
  is : bytes ≡ byte ∷ others
  line : is_on_line byte ≡ true
  rest : ℕ
  closes : Closes others rest
  count_is : count ≡ 2 + rest

closes_quote : (byte : ℕ) (others : List ℕ) (n : ℕ) → (byte == 34) ≡ true → Some 0 ≡ Some n → Closes (byte ∷ others) n
closes_quote byte others n q h =
    record {
      inside = [];
      after = others;
      is = ap (λ (b : ℕ). b ∷ others) (eqb-true byte 34 q);
      reads =
          nothing;
      count_is = cc;
    }

closes_plain : (byte : ℕ) (others : List ℕ) (m n : ℕ) → is_plain byte ≡ true → Closes others m → n ≡ 1 + m
    → Closes (byte ∷ others) n
closes_plain byte others m n p x e = record {
  inside = byte ∷ x.inside;
  after = x.after;
  is = ap (λ (bytes : List ℕ). byte ∷ bytes) x.is;
  reads = plain byte x.inside p x.reads;
  count_is = omega (arith, x.count_is, e);
}

closes_escaped : (byte : ℕ) (others : List ℕ) (n : ℕ) → (byte == 92) ≡ true → ClosesAfter others n
    → Closes (byte ∷ others) n
closes_escaped byte others n e x = record {
  inside = 92 ∷ x.byte ∷ x.closes.inside;
  after = x.closes.after;
  is = ap (λ (b : ℕ). b ∷ others) (eqb-true byte 92 e)
      ∙ ap (λ (bytes : List ℕ). 92 ∷ bytes) (x.is ∙ ap (λ (bytes : List ℕ). x.byte ∷ bytes) x.closes.is);
  reads = escaped x.byte x.closes.inside x.line x.closes.reads;
  count_is = omega (arith, x.closes.count_is, x.count_is);
}

-- by the first byte: a quote closes, a line feed ends the line, a `\` goes with the next byte, any other is passed
closes_by : (q f e : Bool) (byte : ℕ) (others : List ℕ) (n : ℕ) → (byte == 34) ≡ q → (byte == 10) ≡ f → (byte == 92) ≡ e
    → closing_quote (byte ∷ others) ≡ Some n
    → ((m : ℕ) → closing_quote others ≡ Some m → Closes others m)
    → ((m : ℕ) → closing_after_escape others ≡ Some m → ClosesAfter others m) → Closes (byte ∷ others) n
unfolding closing_quote
closes_by true f e byte others n a b c h reads after = closes_quote byte others n a (rw a at h)
closes_by false true e byte others n a b c h reads after = let h : None ≡ Some n = rw (a, b) at h in cc
closes_by false false true byte others n a b c h reads after =
    closes_escaped byte others n c (after n (rw (a, b, c) at h))
closes_by false false false byte others n a b c h reads after =
    let more = further_some 1 (closing_quote others) n (rw (a, b, c) at h) in
    closes_plain byte others more.0 n (other_is byte a c b) (reads more.0 more.1) more.2

after_by : (f : Bool) (byte : ℕ) (others : List ℕ) (n : ℕ) → (byte == 10) ≡ f
    → closing_after_escape (byte ∷ others) ≡ Some n
    → ((m : ℕ) → closing_quote others ≡ Some m → Closes others m) → ClosesAfter (byte ∷ others) n
unfolding closing_quote
after_by true byte others n a h reads = let h : None ≡ Some n = rw a at h in cc
after_by false byte others n a h reads =
    let more = further_some 2 (closing_quote others) n (rw a at h) in
    record {
      byte = byte;
      others = others;
      is = refl;
      line = not_from_false (byte == 10) a;
      rest = more.0;
      closes =
          reads more.0 more.1;
      count_is = more.2;
    }

mutual
  unfolding closing_quote

  -- where the scan finds a closing quote, the bytes before it are inside a string
  pub closing_reads : (bytes : List ℕ) (n : ℕ) → closing_quote bytes ≡ Some n → Closes bytes n
  closing_reads [] n h = cc
  closing_reads (byte ∷ others) n h =
      closes_by (byte == 34) (byte == 10) (byte == 92) byte others n refl refl refl h (λ m x. closing_reads others m x)
      (λ m x. after_reads others m x)

  after_reads : (bytes : List ℕ) (n : ℕ) → closing_after_escape bytes ≡ Some n → ClosesAfter bytes n
  after_reads [] n h = cc
  after_reads (byte ∷ others) n h = after_by (byte == 10) byte others n refl h (λ m x. closing_reads others m x)

-- the scan for escapes passes a byte that is no `\`
pub bad_step : (byte : ℕ) (others : List ℕ) → (byte == 92) ≡ false → bad_escape (byte ∷ others) ≡ 1 + bad_escape others
unfolding bad_escape
bad_step byte [] h = refl
bad_step byte (next ∷ others) h = rw h refl

-- the scan for escapes stops at a `\` that begins no escape, or before it
pub bad_least : {front : List ℕ} (byte : ℕ) (others : List ℕ) → is_escape byte ≡ false → IsInside is_on_line front
    → bad_escape (front ++ 92 ∷ byte ∷ others) ≤ length front
unfolding bad_escape
bad_least byte others bad nothing = rw bad (omega arith)
bad_least byte others bad (plain first rest p h) =
    omega (arith, bad_step first (rest ++ 92 ∷ byte ∷ others) (is_other first p).escape, bad_least byte others bad h)
bad_least byte others bad (escaped next rest p h) =
    bad_after (is_escape next) (bad_escape (rest ++ 92 ∷ byte ∷ others)) (length rest) (bad_least byte others bad h)
  where
    bad_after : (b : Bool) (m n : ℕ) → m ≤ n → cond b (2 + m) 0 ≤ suc (suc n)
    bad_after true m n h = omega arith
    bad_after false m n h = omega arith

-- where each `\` begins an escape, the scan reaches the end
pub bad_nowhere : {inside : List ℕ} → IsInside is_escape inside → bad_escape (inside ++ 34 ∷ []) ≡ length inside + 1
unfolding bad_escape
bad_nowhere nothing = refl
bad_nowhere (plain byte others p h) =
    let step : bad_escape (byte ∷ (others ++ 34 ∷ [])) ≡ 1 + bad_escape (others ++ 34 ∷ []) =
    bad_step byte (others ++ 34 ∷ []) (is_other byte p).escape in
    omega (arith, step, bad_nowhere h)
bad_nowhere (escaped byte others p h) = rw (p, bad_nowhere h) (omega arith)

-- What the scan for escapes finds inside a string: each `\` begins an escape, or the one after this prefix does not.
pub data Judged (inside : List ℕ) : Type 0 where
  good : IsInside is_escape inside → Judged inside
  bad : (front : List ℕ) (byte : ℕ) (others : List ℕ) → inside ≡ front ++ 92 ∷ byte ∷ others → IsInside is_on_line front
      → is_escape byte ≡ false
      → bad_escape (inside ++ 34 ∷ []) ≡ length front → Judged inside

pub judged : {inside : List ℕ} → IsInside is_on_line inside → Judged inside
unfolding bad_escape
judged nothing = good nothing
judged (plain byte others p h) = further_on (judged h)
  where
    further_on : Judged others → Judged (byte ∷ others)
    further_on (good x) = good (plain byte others p x)
    further_on (bad front other rest is reads wrong at) =
        bad (byte ∷ front) other rest (ap (λ (bytes : List ℕ). byte ∷ bytes) is) (plain byte front p reads) wrong
        (omega (arith, bad_step byte (others ++ 34 ∷ []) (is_other byte p).escape, at))
judged (escaped byte others p h) = judged_by (is_escape byte) refl (judged h)
  where
    judged_by : (b : Bool) → is_escape byte ≡ b → Judged others → Judged (92 ∷ byte ∷ others)
    judged_by false e x = bad [] byte others refl nothing e (rw e refl)
    judged_by true e (good x) = good (escaped byte others e x)
    judged_by true e (bad front other rest is reads wrong at) =
        bad (92 ∷ byte ∷ front) other rest (ap (λ (bytes : List ℕ). 92 ∷ byte ∷ bytes) is) (escaped byte front p reads)
        wrong
        (rw (e, at) (omega arith))
