-- How a source is split into tokens from its first byte on: what the split so far says of the whole source. Then what a
-- list of tokens says of its source.
use Rattle.std.proofs.Common.{◌≡◌, ℕ, ◌+◌, ◌≤◌, List, [], ◌∷◌, ◌++◌, length, refl, sym, ap, subst, ◌∙◌, arith, append_assoc, length-append}
use Rattle.std.proofs.lemmas.List.{append-nil}
use Rattle.std.proofs.lemmas.List.Elements.{All-nil, All-cons}
use Rattle.std.specs.List.{All}
use Rattle.abs_tree.specs.declared.place.Place.{Place}
use Rattle.abs_tree.specs.declared.refusal.Offence.{Offence}
use Rattle.abs_tree.specs.declared.refusal.Refusal.{Refusal}
use Rattle.abs_tree.specs.Places.{start, place_after}
use Rattle.abs_tree.specs.Refusals.{refusal_of}
use Rattle.abs_lexer.specs.Answers.{RefusesLexing}
use Rattle.abs_lexer.specs.Tokens.{Lexed, TokenList, Begins, Lexes, TokensOf, IsPieceAt, Rise}
use Rattle.abs_lexer.specs.Tokens.Begins.{white, comment, lexeme}
use Rattle.abs_lexer.specs.Tokens.Lexes.{end, more}
use Rattle.abs_lexer.specs.Offences.{Offends}
use Rattle.abs_lexer.specs.Offences.Offends.{later}
use Rattle.abs_lexer.proofs.StepLemmas.{form_some, place-append, offset_after}
use Rattle.abs_lexer.proofs.LawLemmas.{offends_after, IsFirstFrom}

-- The source was split into these tokens so far. These bytes are left, and they begin at this place.
pub data Leads (text : List ℕ) : List Lexed → Place → List ℕ → Type 0 where
  begin : (bytes : List ℕ) (place : Place) → bytes ≡ text → place ≡ start → Leads text [] place bytes
  step : (tokens : List Lexed) (place : Place) (bytes piece after : List ℕ) (front : List Lexed)
      → Leads text tokens place bytes → bytes ≡ piece ++ after → Begins place piece after front
      → Leads text (tokens ++ front) (place_after place piece) after

-- the tokens so far, followed by those of the bytes that are left, are the tokens of the source
leads_lexes : {text : List ℕ} {tokens : List Lexed} {place : Place} {bytes : List ℕ} (others : List Lexed)
    → Leads text tokens place bytes → Lexes place bytes others
    → Lexes start text (tokens ++ others)
leads_lexes {text} others (begin bytes place is at) x =
    subst (λ (p : Place). Lexes p text others) at (subst (λ (bs : List ℕ). Lexes place bs others) is x)
leads_lexes {text} others (step tokens place bytes piece after front lead is begins) x =
    subst (λ (ts : List Lexed). Lexes start text ts) (sym (append_assoc tokens front others))
    (leads_lexes (front ++ others) lead (more place bytes piece after front others (front ++ others) is begins x refl))

-- an offence of the bytes that are left is one of the source
leads_offends : {text : List ℕ} {tokens : List Lexed} {place : Place} {bytes : List ℕ} {offence : Offence}
    → Leads text tokens place bytes → Offends place bytes offence → Offends start text offence
leads_offends {text} {offence = offence} (begin bytes place is at) x =
    subst (λ (p : Place). Offends p text offence) at (subst (λ (bs : List ℕ). Offends place bs offence) is x)
leads_offends {offence = offence} (step tokens place bytes piece after front lead is begins) x =
    leads_offends lead (later place bytes piece after front offence is begins x)

-- and an offence of the source is one of the bytes that are left
offends_left : {text : List ℕ} {tokens : List Lexed} {place : Place} {bytes : List ℕ} {offence : Offence}
    → Leads text tokens place bytes → Offends start text offence → Offends place bytes offence
offends_left {offence = offence} (begin bytes place is at) x =
    subst (λ (p : Place). Offends p bytes offence) (sym at)
    (subst (λ (bs : List ℕ). Offends start bs offence) (sym is) x)
offends_left (step tokens place bytes piece after front lead is begins) x =
    offends_after piece after is begins (offends_left lead x)

-- so the first offence of the bytes that are left is that of the source
pub leads_first : {text : List ℕ} {tokens : List Lexed} {place : Place} {bytes : List ℕ} {offence : Offence}
    {refusal : Refusal} → Leads text tokens place bytes
    → IsFirstFrom place bytes offence → refusal ≡ refusal_of offence → RefusesLexing text refusal
leads_first {offence = offence} lead first is = record {
  first = offence;
  is_first = record {
    offends = leads_offends lead first.offends;
    least =
        λ other x. first.least other (offends_left lead x);
  };
  refusal_is = is;
}

-- the bytes that are left follow a prefix of the source, at the place after it
pub record IsCutAt (text : List ℕ) (place : Place) (bytes : List ℕ) : Type 0 where
  pub front : List ℕ
  pub is : text ≡ front ++ bytes
  pub place_is : place ≡ place_after start front

cut_further : {text : List ℕ} {place : Place} {bytes : List ℕ} (piece after : List ℕ) → bytes ≡ piece ++ after
    → IsCutAt text place bytes → IsCutAt text (place_after place piece) after
cut_further piece after is x = record {
  front = x.front ++ piece;
  is = x.is ∙ (ap (λ (bs : List ℕ). x.front ++ bs) is ∙ sym (append_assoc x.front piece after));
  place_is = ap (λ (p : Place). place_after p piece) x.place_is ∙ sym (place-append start x.front piece);
}

leads_cut : {text : List ℕ} {tokens : List Lexed} {place : Place} {bytes : List ℕ} → Leads text tokens place bytes
    → IsCutAt text place bytes
leads_cut (begin bytes place is at) = record { front = []; is = sym is; place_is = at }
leads_cut (step tokens place bytes piece after front lead is begins) = cut_further piece after is (leads_cut lead)

-- if no bytes are left, the source has these tokens
pub leads_whole : {text : List ℕ} {tokens : List Lexed} {place : Place} {bytes : List ℕ} → bytes ≡ []
    → Leads text tokens place bytes → TokensOf text (record { tokens = tokens; end = place })
leads_whole {text} {tokens} {place} {bytes} none lead =
    let cut = leads_cut lead in
    let all : text ≡ cut.front = cut.is ∙ (ap (λ (bs : List ℕ). cut.front ++ bs) none ∙ append-nil cut.front) in
    record {
      tokens = subst (λ (ts : List Lexed). Lexes start text ts) (append-nil tokens)
          (leads_lexes [] lead (end place bytes none));
      end = cut.place_is ∙ ap (place_after start) (sym all);
    }

-- if the first piece is a token, it is a piece of the source
front_piece : {text : List ℕ} {place : Place} {bytes : List ℕ} (piece after : List ℕ) {front : List Lexed}
    (others : List Lexed) → IsCutAt text place bytes → bytes ≡ piece ++ after
    → Begins place piece after front → All (IsPieceAt text) others → All (IsPieceAt text) (front ++ others)
front_piece piece after others cut is (white byte e w) each = each
front_piece piece after others cut is (comment y valid) each = each
front_piece {text} {place} piece after others cut is (lexeme kind unopened y sound) each =
    All-cons (IsPieceAt text) (record { kind = kind; place = place; bytes = piece }) others
    (record {
      front = cut.front;
      after = after;
      is = cut.is ∙ ap (λ (bs : List ℕ). cut.front ++ bs) is;
      place =
          cut.place_is;
    }) each

-- the tokens of bytes that are left are pieces of the source
pieces_of : {text : List ℕ} {place : Place} {bytes : List ℕ} {tokens : List Lexed} → IsCutAt text place bytes
    → Lexes place bytes tokens → All (IsPieceAt text) tokens
pieces_of {text} cut (end place bytes none) = All-nil (IsPieceAt text)
pieces_of {text} cut (more place bytes piece after front others tokens is x rest are) =
    subst (λ (ts : List Lexed). All (IsPieceAt text) ts) (sym are)
    (front_piece piece after others cut is x (pieces_of (cut_further piece after is cut) rest))

-- so the tokens of a source are pieces of it
pub slices : {text : List ℕ} {list : TokenList} → TokensOf text list → All (IsPieceAt text) list.tokens
slices {text} x = pieces_of (record { front = []; is = refl; place_is = refl }) x.tokens

-- tokens that rise from one offset on rise from a smaller one on too
rise_from : (low lower high : ℕ) (tokens : List Lexed) → lower ≤ low → Rise low tokens high → Rise lower tokens high
rise_from low lower high [] few x = omega arith
rise_from low lower high (token ∷ others) few x = (omega (arith, few, x.0), x.1, x.2)

-- if the first piece is a token, it rises with the tokens after it
front_rises : {place : Place} (piece after : List ℕ) {front : List Lexed} (others : List Lexed) (high : ℕ)
    → Begins place piece after front
    → Rise (place.offset + length piece) others high → Rise place.offset (front ++ others) high
front_rises {place} piece after others high (white byte e w) y =
    rise_from (place.offset + length piece) place.offset high others (omega arith) y
front_rises {place} piece after others high (comment z valid) y =
    rise_from (place.offset + length piece) place.offset high others (omega arith) y
front_rises {place} piece after others high (lexeme kind unopened z sound) y = (omega arith, form_some z.form, y)

-- the tokens of bytes rise
rising_from : {place : Place} {bytes : List ℕ} {tokens : List Lexed} → Lexes place bytes tokens
    → Rise place.offset tokens (place.offset + length bytes)
rising_from (end place bytes none) = omega arith
rising_from (more place bytes piece after front others tokens is x rest are) =
    let low : (place_after place piece).offset ≡ place.offset + length piece = offset_after place piece in
    let high : (place_after place piece).offset + length after ≡ place.offset + length bytes =
    omega (arith, low, ap length is, length-append piece after) in
    let from : Rise (place.offset + length piece) others ((place_after place piece).offset + length after) =
    subst (λ (n : ℕ). Rise n others ((place_after place piece).offset + length after)) low (rising_from rest) in
    subst (λ (ts : List Lexed). Rise place.offset ts (place.offset + length bytes)) (sym are)
    (front_rises piece after others (place.offset + length bytes) x
    (subst (λ (n : ℕ). Rise (place.offset + length piece) others n) high from))

-- so the tokens of a source rise, up to its end
pub rising : {text : List ℕ} {list : TokenList} → TokensOf text list → Rise 0 list.tokens list.end.offset
rising {text} {list} x =
    let high : 0 + length text ≡ list.end.offset =
    omega (arith, ap (λ (p : Place). p.offset) x.end, offset_after start text) in
    subst (λ (n : ℕ). Rise 0 list.tokens n) high (rising_from x.tokens)
