-- Where a comment ends: the search for the first "*/" finds the same index as the scan over the bytes.
use Rattle.std.proofs.Common.{◌≡◌, ℕ, zero, suc, ◌+◌, Option, Some, None, Bool, true, false, cond, List, [], ◌∷◌, refl, sym, ap, ◌∙◌, arith, length, take}
use Rattle.std.proofs.lemmas.Bool.{false≢true}
use Rattle.std.proofs.lemmas.List.{length-take}
use Rattle.std.proofs.lemmas.Slice.Eq.{bytes_eq-Decides}
use Rattle.std.specs.Prelude.{codes}
use Rattle.std.specs.Str.{bytes_eq}
use Rattle.memchr.specs.Find.{OccursAt, FindsNeedle}
use Rattle.memchr.proofs.lemmas.MatchLemmas.{OccursAt-part, OccursAt-from_part}
use Rattle.abs_lexer.specs.Scans.{increased_by, block_end}

-- the bytes that end a comment
abbrev mark : List ℕ
mark = codes "*/"

-- if bytes begin with it, the test for it passes
passes_test : (bytes : List ℕ) → OccursAt bytes mark 0 → bytes_eq (take 2 bytes) mark ≡ true
passes_test bytes stands = (bytes_eq-Decides (take 2 bytes) mark).1 (OccursAt-part bytes mark 0 stands)

-- if the test passes, the bytes begin with it
stands_by : (bytes : List ℕ) → bytes_eq (take 2 bytes) mark ≡ true → OccursAt bytes mark 0
stands_by bytes test =
    let is : take 2 bytes ≡ mark = (bytes_eq-Decides (take 2 bytes) mark).0 test in
    OccursAt-from_part bytes mark 0 (omega (arith, length-take 2 bytes, ap length is)) is

-- with one more byte before it, it occurs one index later
stands_later : (byte : ℕ) (others : List ℕ) (at : ℕ) → OccursAt others mark at → OccursAt (byte ∷ others) mark (suc at)
stands_later byte others at stands = record {
  fits = omega (arith, stands.fits);
  reads = λ j few. let e : suc at + j ≡ suc (at + j) = omega arith in rw e (stands.reads j few);
}

-- without the first byte, it occurs one index earlier
stands_nearer : (byte : ℕ) (others : List ℕ) (at : ℕ) → OccursAt (byte ∷ others) mark (suc at) → OccursAt others mark at
stands_nearer byte others at stands = record {
  fits = omega (arith, stands.fits);
  reads = λ j few. let e : suc at + j ≡ suc (at + j) = omega arith in rw e at (stands.reads j few);
}

-- its first index, by the test at the first byte and its first index after that
found_by : (test : Bool) (byte : ℕ) (others : List ℕ) (found : Option ℕ) → bytes_eq (take 2 (byte ∷ others)) mark ≡ test
    → FindsNeedle (byte ∷ others) mark 0 found
    → ((after : Option ℕ) → FindsNeedle others mark 0 after → after ≡ block_end others)
    → found ≡ cond test (Some 0) (increased_by 1 (block_end others))
found_by true byte others None e finds more = absurd (finds 0 (omega arith) (omega arith) (stands_by (byte ∷ others) e))
found_by true byte others (Some zero) e finds more = refl
found_by true byte others (Some (suc at)) e finds more =
    absurd (finds.0.before 0 (omega arith) (omega arith) (stands_by (byte ∷ others) e))
found_by false byte others None e finds more =
    rw (← more None (λ at low high stands.
    finds (suc at) (omega arith) (omega arith) (stands_later byte others at stands))) refl
found_by false byte others (Some zero) e finds more = absurd (false≢true (sym e ∙ passes_test (byte ∷ others) finds.1))
found_by false byte others (Some (suc at)) e finds more =
    let first = finds.0 in
    let nearer : FindsNeedle others mark 0 (Some at) = (
      record {
        low = omega arith;
        high = omega (arith, first.high);
        before = λ place low high stands.
            first.before (suc place) (omega arith) (omega arith) (stands_later byte others place stands);
      },
      stands_nearer byte others at finds.1,
    ) in
    rw (← more (Some at) nearer) (ap Some (omega arith))

-- its first index is the one that the scan finds
pub block_end_is : (bytes : List ℕ) (found : Option ℕ) → FindsNeedle bytes mark 0 found → found ≡ block_end bytes
unfolding block_end
block_end_is [] None finds = refl
block_end_is [] (Some at) finds = absurd (omega (arith, finds.1.fits))
block_end_is (byte ∷ others) found finds = found_by _ byte others found refl finds (block_end_is others)
