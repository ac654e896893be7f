-- A source has one list of tokens and no offence, or one first offence and no tokens.
use Rattle.std.proofs.Common.{◌≡◌, ℕ, zero, suc, ◌<◌, ◌≤◌, List, [], ◌∷◌, ◌++◌, length, take, refl, sym, ap, subst, ◌∙◌, arith, length-append}
use Rattle.abs_tree.specs.declared.place.Place.{Place}
use Rattle.abs_tree.specs.declared.refusal.Code.{Code}
use Rattle.abs_tree.specs.declared.refusal.Offence.{Offence}
use Rattle.abs_tree.specs.Places.{start, place_after}
use Rattle.abs_lexer.specs.declared.piece.Piece.{Piece}
use Rattle.abs_lexer.specs.declared.piece.Piece.TheVariants.{Offence as Stop}
use Rattle.abs_lexer.specs.Tokens.{Lexed, TokenList, Begins, Lexes, TokensOf}
use Rattle.abs_lexer.specs.Tokens.Lexes.{end, more}
use Rattle.abs_lexer.specs.Offences.{OffendsAt, Offends, IsFirstLexical}
use Rattle.abs_lexer.specs.Offences.OffendsAt.{stray_byte, open_comment, open_string, large_number, bad_escape, broken_string, broken_comment}
use Rattle.abs_lexer.specs.Offences.Offends.{here, later}
use Rattle.abs_lexer.specs.Laws.{HasOneLexing}
use Rattle.abs_lexer.specs.Laws.HasOneLexing.{cut, refused}
use Rattle.abs_lexer.specs.Scans.{piece_at}
use Rattle.abs_lexer.proofs.StepLemmas.{Step, step, form_some, comment_some, begins_some, begins_once, begins_or_stops, stops_first, offends_once}
use Rattle.abs_lexer.proofs.StepLemmas.Step.{begins, stops}

-- an empty list of bytes has no first piece
nothing_begins : {place : Place} {bytes : List ℕ} (piece after : List ℕ) {tokens : List Lexed} → bytes ≡ []
    → bytes ≡ piece ++ after → Begins place piece after tokens → ⊥
nothing_begins piece after none is x =
    omega (arith, ap length none, ap length is, length-append piece after, begins_some x)

-- bytes have at most one list of tokens
lexes_once : {place : Place} {bytes : List ℕ} {tokens others : List Lexed} → Lexes place bytes tokens
    → Lexes place bytes others → tokens ≡ others
lexes_once (end place bytes none) (end place' bytes' none') = refl
lexes_once (end place bytes none) (more place' bytes' piece after front others tokens is x rest are) =
    absurd (nothing_begins piece after none is x)
lexes_once (more place bytes piece after front others tokens is x rest are) (end place' bytes' none) =
    absurd (nothing_begins piece after none is x)
lexes_once {place} {bytes} (more place' bytes' piece after front others tokens is x rest are)
    (more place'' bytes'' piece' after' front' others' tokens' is' x' rest' are') =
    let same = begins_once piece piece' after after' front front' is is' x x' in
    let moved : Lexes (place_after place piece) after others' =
    subst (λ (p : List ℕ). Lexes (place_after place p) after others') (sym same.piece_is)
    (subst (λ (b : List ℕ). Lexes (place_after place piece') b others') (sym same.after_is) rest') in
    are ∙ (ap (λ (f : List Lexed). f ++ others) same.tokens_are
    ∙ (ap (λ (o : List Lexed). front' ++ o) (lexes_once rest moved) ∙ sym are'))

-- an empty list of bytes has no offence
nothing_offends : {place : Place} {bytes : List ℕ} {offence : Offence} → bytes ≡ [] → OffendsAt place bytes offence → ⊥
nothing_offends none (stray_byte x) = omega (arith, ap length none, ap length x.is)
nothing_offends none (open_comment x) = omega (arith, ap length none, ap length x.is)
nothing_offends none (open_string x) = omega (arith, ap length none, ap length x.is)
nothing_offends none (large_number piece after is x large) =
    omega (arith, ap length none, ap length is, length-append piece after, form_some x.form)
nothing_offends none (bad_escape piece after front is x y) =
    omega (arith, ap length none, ap length is, length-append piece after, ap length x.is)
nothing_offends none (broken_string piece after front is x y) =
    omega (arith, ap length none, ap length is, length-append piece after, ap length x.is)
nothing_offends none (broken_comment piece after front is x y) =
    omega (arith, ap length none, ap length is, length-append piece after, comment_some x)

-- if the first piece has no offence, each offence of the bytes is one of the rest
pub offends_after : {place : Place} {bytes : List ℕ} (piece after : List ℕ) {tokens : List Lexed} {offence : Offence}
    → bytes ≡ piece ++ after → Begins place piece after tokens
    → Offends place bytes offence → Offends (place_after place piece) after offence
offends_after piece after is x (here place bytes offence y) = absurd (begins_or_stops piece after is x y)
offends_after piece after {tokens} is x (later place bytes piece' after' front offence is' x' rest) =
    let same = begins_once piece piece' after after' tokens front is is' x x' in
    subst (λ (p : List ℕ). Offends (place_after place p) after offence) (sym same.piece_is)
    (subst (λ (b : List ℕ). Offends (place_after place piece') b offence) (sym same.after_is) rest)

-- bytes that have tokens have no offence
lexes_or_offends : {place : Place} {bytes : List ℕ} {tokens : List Lexed} {offence : Offence} → Lexes place bytes tokens
    → Offends place bytes offence → ⊥
lexes_or_offends (end place bytes none) (here place' bytes' offence x) = nothing_offends none x
lexes_or_offends (end place bytes none) (later place' bytes' piece after front offence is x rest) =
    nothing_begins piece after none is x
lexes_or_offends (more place bytes piece after front others tokens is x rest are) y =
    lexes_or_offends rest (offends_after piece after is x y)

-- the first offence of bytes that begin at a place
pub record IsFirstFrom (place : Place) (bytes : List ℕ) (offence : Offence) : Type 0 where
  pub offends : Offends place bytes offence
  pub least : (other : Offence) → Offends place bytes other → offence.place.offset ≤ other.place.offset

-- an offence that stops the scanner is the first one
pub stop_is_first : {place : Place} {bytes : List ℕ} {code : Code} (count : ℕ) → piece_at bytes ≡ Stop code count
    → count ≤ length bytes
    → OffendsAt place bytes (record { code = code; place = place_after place (take count bytes) })
    → IsFirstFrom place bytes (record { code = code; place = place_after place (take count bytes) })
stop_is_first {place} {bytes} {code} count found few x =
    record {
      offends = here place bytes (record { code = code; place = place_after place (take count bytes) }) x;
      least
          = least;
    }
  where
    least : (other : Offence) → Offends place bytes other
        → (place_after place (take count bytes)).offset ≤ other.place.offset
    least other (here place' bytes' other' y) = stops_first code count found few y
    least other (later place' bytes' piece after front other' is y rest) = absurd (begins_or_stops piece after is y x)

-- if the first piece has no offence, the first offence of the rest is the first one of all the bytes
first_later : {place : Place} {bytes : List ℕ} (piece after : List ℕ) (tokens : List Lexed) (offence : Offence)
    → bytes ≡ piece ++ after → Begins place piece after tokens
    → IsFirstFrom (place_after place piece) after offence → IsFirstFrom place bytes offence
first_later {place} {bytes} piece after tokens offence is x first = record {
  offends = later place bytes piece after tokens offence is x first.offends;
  least = λ other y. first.least other (offends_after piece after is x y);
}

-- bytes have tokens, or a first offence
data Lexing (place : Place) (bytes : List ℕ) : Type 0 where
  lexed : (tokens : List Lexed) → Lexes place bytes tokens → Lexing place bytes
  stopped : (offence : Offence) → IsFirstFrom place bytes offence → Lexing place bytes

lexing_after : {place : Place} {bytes : List ℕ} (piece after : List ℕ) (tokens : List Lexed) → bytes ≡ piece ++ after
    → Begins place piece after tokens
    → Lexing (place_after place piece) after → Lexing place bytes
lexing_after {place} {bytes} piece after tokens is x (lexed others rest) =
    lexed (tokens ++ others) (more place bytes piece after tokens others (tokens ++ others) is x rest refl)
lexing_after {place} {bytes} piece after tokens is x (stopped offence first) =
    stopped offence (first_later piece after tokens offence is x first)

lexing_by : {place : Place} {bytes : List ℕ} (found : Piece) → piece_at bytes ≡ found → Step place bytes found
    → ((piece after : List ℕ) → bytes ≡ piece ++ after → 0 < length piece → Lexing (place_after place piece) after)
    → Lexing place bytes
lexing_by found is (begins found' piece after tokens e x) rest =
    lexing_after piece after tokens e x (rest piece after e (begins_some x))
lexing_by found is (stops code count offends few) rest =
    stopped (record { code = code; place = place_after _ (take count _) }) (stop_is_first count is few offends)

lexing : (room : ℕ) (place : Place) (bytes : List ℕ) → length bytes ≤ room → Lexing place bytes
lexing room place [] few = lexed [] (end place [] refl)
lexing zero place (byte ∷ others) few = absurd (omega arith)
lexing (suc room) place (byte ∷ others) few =
    lexing_by (piece_at (byte ∷ others)) refl (step place (byte ∷ others) (omega arith))
    (λ piece after is some. lexing room (place_after place piece) after
    (omega (arith, few, some, ap length is, length-append piece after)))

-- a source has at most one list of tokens
pub list_once : {text : List ℕ} {list other : TokenList} → TokensOf text list → TokensOf text other → list ≡ other
list_once {list = list} {other} x y = same_list list other (lexes_once x.tokens y.tokens) (x.end ∙ sym y.end)
  where
    same_list : (l m : TokenList) → l.tokens ≡ m.tokens → l.end ≡ m.end → l ≡ m
    same_list l m e f = rw (e, f) refl

-- a source with a list of tokens has no first offence
pub list_or_first : {text : List ℕ} {list : TokenList} {offence : Offence} → TokensOf text list
    → IsFirstLexical text offence → ⊥
list_or_first x y = lexes_or_offends x.tokens y.offends

-- two offences at the same offset are equal
offends_same : {place : Place} {bytes : List ℕ} {one other : Offence} → Offends place bytes one
    → Offends place bytes other → one.place.offset ≡ other.place.offset → one ≡ other
offends_same (here place bytes one x) (here place' bytes' other y) same = offends_once x y same
offends_same (here place bytes one x) (later place' bytes' piece after front other is y rest) same =
    absurd (begins_or_stops piece after is y x)
offends_same (later place bytes piece after front one is x rest) y same =
    offends_same rest (offends_after piece after is x y) same

-- so a source has at most one first offence
pub first_once : {text : List ℕ} {one other : Offence} → IsFirstLexical text one → IsFirstLexical text other
    → one ≡ other
first_once {text} {one} {other} x y =
    let before = x.least other y.offends in
    let after = y.least one x.offends in
    offends_same x.offends y.offends (omega arith)

pub one_lexing : (text : List ℕ) → HasOneLexing text
one_lexing text = by (lexing (length text) start text (omega arith))
  where
    by : Lexing start text → HasOneLexing text
    by (lexed tokens x) =
        let list : TokenList = record { tokens = tokens; end = place_after start text } in
        let is : TokensOf text list = record { tokens = x; end = refl } in
        cut (record {
          list = list;
          tokens = is;
          only = λ other y. list_once y is;
          no_offence =
              λ offence y. lexes_or_offends x y;
        })
    by (stopped offence first) =
        let is : IsFirstLexical text offence = record { offends = first.offends; least = first.least } in
        refused (record {
          offence = offence;
          first = is;
          only = λ other y. first_once y is;
          no_tokens =
              λ list x. list_or_first x is;
        })
