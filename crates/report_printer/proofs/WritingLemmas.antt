-- Pieces written one after another.
--
--   `fails_on`, `writes_one`   a piece after memory ran out, and before
--   `then`, `nothing`          a piece and what comes after it, and no piece
--   `all_written`              all that was written, from nothing on
use Rattle.std.proofs.Common.{◌≡◌, ◌∙◌, inl, inr, ⊎_elim, ℕ, Bool, true, false, List, [], ◌++◌, Some, None, refl, sym, ap, append_assoc, cond}
use Rattle.std.proofs.lemmas.Bool.{cases_Bool}
use Rattle.std.proofs.lemmas.List.{append-nil}
use Rattle.std.proofs.lemmas.Option.{none-some, same_Some}
use Rattle.std.specs.Prelude.{Option, not}
use Rattle.report_printer.specs.Output.{with_piece, Writes}

-- after memory ran out nothing is written
pub fails_on : {before : Option (List ℕ)} {piece : List ℕ} (failed : Bool) (now : List ℕ) → failed ≡ true
    → Writes before piece (cond failed None (Some now))
fails_on failed now is = record { is = inl (ap (λ it. cond it None (Some now)) is) }

-- else the piece is, or memory runs out
pub writes_one : {before : Option (List ℕ)} {piece : List ℕ} (failed fails fits : Bool) (old now : List ℕ)
    → cond failed None (Some old) ≡ before → failed ≡ false → fits ≡ not fails
    → now ≡ cond fits (old ++ piece) old → Writes before piece (cond fails None (Some now))
unfolding with_piece
writes_one {before} {piece} failed fails fits old now view begins negation items = ⊎_elim
    (λ bad. fails_on fails now bad)
    (λ good. record {
      is = inr (ap (λ it. cond it None (Some now)) good
          ∙ (ap Some (items ∙ ap (λ it. cond it (old ++ piece) old) (negation ∙ ap not good))
          ∙ ap (λ it. with_piece it piece) (sym (ap (λ it. cond it None (Some old)) begins) ∙ view)));
    })
    (cases_Bool fails)

-- two pieces are written as one
written_twice : (out : Option (List ℕ)) (one other : List ℕ)
    → with_piece (with_piece out one) other ≡ with_piece out (one ++ other)
unfolding with_piece
written_twice None one other = refl
written_twice (Some out) one other = ap Some (append_assoc out one other)

none_with : (piece : List ℕ) → with_piece None piece ≡ None
unfolding with_piece
none_with piece = refl

-- a piece, and what comes after it
pub then : {before between after : Option (List ℕ)} {piece rest : List ℕ} → Writes before piece between
    → Writes between rest after → Writes before (piece ++ rest) after
then {before} {between} {after} {piece} {rest} one others = record {
  is = ⊎_elim
      (λ missing. inl missing)
      (λ more. ⊎_elim
      (λ missing. inl (more ∙ (ap (λ out. with_piece out rest) missing ∙ none_with rest)))
      (λ is. inr (more ∙ (ap (λ out. with_piece out rest) is ∙ written_twice before piece rest)))
      one.is)
      others.is;
}

-- no piece
pub nothing : (out : Option (List ℕ)) → Writes out [] out
unfolding with_piece
nothing None = record { is = inl refl }
nothing (Some out) = record { is = inr (ap Some (sym (append-nil out))) }

-- all that was written, from nothing on
pub all_written : {after : Option (List ℕ)} {piece : List ℕ} → Writes (Some []) piece after
    → (text : List ℕ) → after ≡ Some text → text ≡ piece
unfolding with_piece
all_written {after} {piece} one text is = ⊎_elim
    (λ missing. absurd (none-some text (sym missing ∙ is)))
    (λ all. same_Some text piece (sym is ∙ all))
    one.is
