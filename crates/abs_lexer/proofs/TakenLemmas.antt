-- What the scanner finds in a turn of the loop over a source: white space or a comment, a token, or an offence.
use Rattle.std.proofs.Common.{◌≡◌, ℕ, ◌<◌, ◌≤◌, ◌==◌, Bool, true, false, List, [], ◌∷◌, ◌++◌, length, take, drop, refl, sym, ap, subst, ◌∙◌, arith, length-append}
use Rattle.std.proofs.Math.Seq.{take-append_seam}
use Rattle.std.proofs.lemmas.Bool.Decides.{nat_tests}
use Rattle.std.proofs.lemmas.List.{append_cancel_left, take-append-drop}
use Rattle.abs_tree.specs.declared.place.Place.{Place}
use Rattle.abs_tree.specs.declared.refusal.Code.{Code}
use Rattle.abs_tree.specs.Places.{place_after}
use Rattle.abs_tree.specs.Refusals.{refusal_of}
use Rattle.abs_lexer.specs.declared.lexeme.Lexeme.{Lexeme}
use Rattle.abs_lexer.specs.declared.piece.Piece.{Piece}
use Rattle.abs_lexer.specs.declared.piece.Piece.TheVariants.{Blank, Token as Found, Offence as Stop}
use Rattle.abs_lexer.specs.Answers.{RefusesLexing}
use Rattle.abs_lexer.specs.Forms.{opens_comment}
use Rattle.abs_lexer.specs.Tokens.{Lexed, Begins, IsWellFormed}
use Rattle.abs_lexer.specs.Tokens.Begins.{white, comment, lexeme}
use Rattle.abs_lexer.specs.Scans.{piece_at}
use Rattle.abs_lexer.proofs.ScanLemmas.{Describes}
use Rattle.abs_lexer.proofs.ScanLemmas.Describes.{white as describes_white, comment as describes_comment, token as describes_token, offence as describes_offence}
use Rattle.abs_lexer.proofs.FoundLemmas.{describe}
use Rattle.abs_lexer.proofs.StepLemmas.{begins_some}
use Rattle.abs_lexer.proofs.LawLemmas.{IsFirstFrom, stop_is_first}
use Rattle.abs_lexer.proofs.LeadLemmas.{Leads, step, leads_first}

-- the first piece has this many bytes, and gives these tokens
pub record IsTaken (place : Place) (bytes : List ℕ) (count : ℕ) (tokens : List Lexed) : Type 0 where
  pub some : 0 < count
  pub few : count ≤ length bytes
  pub begins : Begins place (take count bytes) (drop count bytes) tokens

taken_is : {place : Place} {bytes : List ℕ} (piece after : List ℕ) (count : ℕ) (tokens : List Lexed)
    → bytes ≡ piece ++ after → count ≡ length piece → Begins place piece after tokens
    → (take count bytes ≡ piece → drop count bytes ≡ after → Begins place (take count bytes) (drop count bytes) tokens)
    → IsTaken place bytes count tokens
taken_is {place} {bytes} piece after count tokens is long x f =
    let front : take count bytes ≡ piece =
    ap (λ (n : ℕ). take n bytes) long
    ∙ (ap (λ (bs : List ℕ). take (length piece) bs) is ∙ take-append_seam piece after) in
    let rest : piece ++ drop count bytes ≡ piece ++ after =
    ap (λ (p : List ℕ). p ++ drop count bytes) (sym front) ∙ (take-append-drop count bytes ∙ is) in
    record {
      some = omega (arith, long, begins_some x);
      few =
          omega (arith, long, ap length is, length-append piece after);
      begins =
          f front (append_cancel_left piece (drop count bytes) after rest);
    }

-- the same for a piece and a rest that are equal to these
moved : {place : Place} {front rest piece after : List ℕ} {tokens : List Lexed} → front ≡ piece → rest ≡ after
    → Begins place piece after tokens → Begins place front rest tokens
moved {place} {front} {rest} {piece} {after} {tokens} e f x =
    subst (λ (p : List ℕ). Begins place p rest tokens) (sym e)
    (subst (λ (b : List ℕ). Begins place piece b tokens) (sym f) x)

blank_by : {place : Place} {bytes : List ℕ} {count : ℕ} → Describes bytes (Blank count) → IsTaken place bytes count []
blank_by {place} (describes_white byte after is w) =
    taken_is (byte ∷ []) after 1 [] is refl (white byte refl w) (λ e f. moved e f (white byte refl w))
blank_by {place} (describes_comment piece after count is x valid long) =
    taken_is piece after count [] is long (comment x valid) (λ e f. moved e f (comment x valid))

-- white space or a comment was found
pub blank_taken : (place : Place) (bytes : List ℕ) (count : ℕ) → 0 < length bytes → Blank count ≡ piece_at bytes
    → IsTaken place bytes count []
blank_taken place bytes count some found =
    blank_by (subst (λ (p : Piece). Describes bytes p) (sym found) (describe bytes some))

-- the token that was found
abbrev pub token_at : Lexeme → Place → ℕ → List ℕ → Lexed
token_at kind place count bytes = record { kind = kind; place = place; bytes = take count bytes }

-- a token was found, and it is well formed
pub record IsLexed (kind : Lexeme) (place : Place) (bytes : List ℕ) (count : ℕ) : Type 0 where
  pub taken : IsTaken place bytes count (token_at kind place count bytes ∷ [])
  pub well_formed : IsWellFormed (token_at kind place count bytes)

token_by : {kind : Lexeme} {place : Place} {bytes : List ℕ} {count : ℕ} → Describes bytes (Found kind count)
    → IsLexed kind place bytes count
token_by {place = place} {bytes} (describes_token kind piece after count is unopened x sound long) =
    let begins : Begins place piece after (record { kind = kind; place = place; bytes = piece } ∷ []) =
    lexeme kind (ap opens_comment (sym is) ∙ unopened) x sound in
    let front : take count bytes ≡ piece =
    ap (λ (n : ℕ). take n bytes) long
    ∙ (ap (λ (bs : List ℕ). take (length piece) bs) is ∙ take-append_seam piece after) in
    record {
      taken = taken_is piece after count (token_at kind place count bytes ∷ []) is long
          (subst (λ (p : List ℕ). Begins place piece after (record { kind = kind; place = place; bytes = p } ∷ []))
          (sym front) begins)
          (λ e f. moved e f (subst (λ (p : List ℕ).
          Begins place piece after (record { kind = kind; place = place; bytes = p } ∷ [])) (sym front) begins));
      well_formed = subst (λ (p : List ℕ). IsWellFormed (record { kind = kind; place = place; bytes = p })) (sym front)
          (record { form = x.form; sound = sound });
    }

pub token_taken : (kind : Lexeme) (place : Place) (bytes : List ℕ) (count : ℕ) → 0 < length bytes
    → Found kind count ≡ piece_at bytes → IsLexed kind place bytes count
token_taken kind place bytes count some found =
    token_by (subst (λ (p : Piece). Describes bytes p) (sym found) (describe bytes some))

-- an offence was found; it is within the bytes, and it is their first one
stop_by : {place : Place} {bytes : List ℕ} {code : Code} {count : ℕ} → Stop code count ≡ piece_at bytes
    → Describes bytes (Stop code count)
    → (count ≤ length bytes) × IsFirstFrom place bytes
    (record { code = code; place = place_after place (take count bytes) })
stop_by {place} found (describes_offence code count offends few) =
    (few, stop_is_first count (sym found) few (offends place))

pub stop_few : (bytes : List ℕ) (code : Code) (count : ℕ) → 0 < length bytes → Stop code count ≡ piece_at bytes
    → count ≤ length bytes
stop_few bytes code count some found = few (subst (λ (p : Piece). Describes bytes p) (sym found) (describe bytes some))
  where
    few : Describes bytes (Stop code count) → count ≤ length bytes
    few (describes_offence c n offends within) = within

-- it is the first offence of the bytes that are left, and so of the source
pub stop_refuses : {text : List ℕ} {tokens : List Lexed} (place : Place) (bytes : List ℕ) (code : Code) (count : ℕ)
    → 0 < length bytes → Leads text tokens place bytes
    → Stop code count ≡ piece_at bytes
    → RefusesLexing text (refusal_of (record { code = code; place = place_after place (take count bytes) }))
stop_refuses place bytes code count some lead found =
    leads_first lead (stop_by found (subst (λ (p : Piece). Describes bytes p) (sym found) (describe bytes some))).1 refl

-- the source is split further, up to the end of the piece that was taken
pub leads_on : {text : List ℕ} {tokens : List Lexed} {place : Place} {bytes : List ℕ} {count : ℕ} (front : List Lexed)
    → Leads text tokens place bytes → IsTaken place bytes count front
    → Leads text (tokens ++ front) (place_after place (take count bytes)) (drop count bytes)
leads_on {tokens = tokens} {place} {bytes} {count} front lead x =
    step tokens place bytes (take count bytes) (drop count bytes) front lead (sym (take-append-drop count bytes))
    x.begins

-- the same for tokens, a place and bytes that are equal to these
pub leads_at : {text : List ℕ} {tokens others : List Lexed} {place other : Place} {bytes rest : List ℕ}
    → others ≡ tokens → other ≡ place → rest ≡ bytes → Leads text tokens place bytes
    → Leads text others other rest
leads_at {text} {tokens} {others} {place} {other} {bytes} {rest} e f g x = rw (e, f, g) x

-- if the bytes are not empty, some are left
pub some_left : (empty : Bool) (count : ℕ) → empty ≡ (count == 0) → empty ≡ false → 0 < count
some_left empty count is h = grind (arith, nat_tests)

-- and if they are empty, none are left
pub none_left : (empty : Bool) (bytes : List ℕ) → empty ≡ (length bytes == 0) → empty ≡ true → bytes ≡ []
none_left empty [] is h = refl
none_left empty (byte ∷ others) is h = absurd (grind (arith, nat_tests))

-- a token with these bytes is the one that was found
pub lexed_is : (kind : Lexeme) (place : Place) (count : ℕ) (bytes slice : List ℕ) → slice ≡ take count bytes
    → ◌≡◌ {A = Lexed} (record { kind = kind; place = place; bytes = slice }) (token_at kind place count bytes)
lexed_is kind place count bytes slice e = rw e refl
