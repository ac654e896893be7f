-- Punctuators: the scanner finds each by its bytes, and tries those of two bytes before those of one. So its result
-- describes bytes that begin with a mark.
use Rattle.std.proofs.Common.{◌≡◌, ℕ, ◌<◌, ◌≤◌, Bool, true, false, cond, List, [], ◌∷◌, ◌++◌, length, take, drop, refl, sym, ap, ◌∙◌, arith}
use Rattle.std.proofs.Math.Seq.{take-append_seam}
use Rattle.std.proofs.lemmas.Bool.{false≢true}
use Rattle.std.proofs.lemmas.Bool.Decides.{Decides-eqb}
use Rattle.std.proofs.lemmas.List.{take-append-drop}
use Rattle.std.proofs.lemmas.Slice.Eq.{bytes_eq-Decides}
use Rattle.std.specs.Prelude.{⊤, Option, Some, None}
use Rattle.std.specs.Str.{bytes_eq}
use Rattle.abs_tree.specs.declared.refusal.Code.TheVariants.{L1}
use Rattle.abs_lexer.specs.declared.lexeme.Lexeme.{Lexeme}
use Rattle.abs_lexer.specs.declared.lexeme.Lexeme.TheVariants.{Punctuator as PunctuatorLexeme}
use Rattle.abs_lexer.specs.declared.lexeme.Punctuator.{Punctuator}
use Rattle.abs_lexer.specs.declared.lexeme.Punctuator.TheVariants as punctuator
use Rattle.abs_lexer.specs.declared.piece.Piece.TheVariants.{Token, Offence}
use Rattle.abs_lexer.specs.Words.{punctuator_bytes}
use Rattle.abs_lexer.specs.Forms.{IsForm, opens_comment}
use Rattle.abs_lexer.specs.Forms.IsForm.{sign as form_sign}
use Rattle.abs_lexer.specs.Offences.OffendsAt.{stray_byte}
use Rattle.abs_lexer.specs.Scans.{punctuator_among, long_punctuators, short_punctuators, long_punctuator, short_punctuator, punctuator_piece, punctuator_at}
use Rattle.abs_lexer.proofs.ClassLemmas.{Mark, class_of, test_of_class, FormOf, formed_in}
use Rattle.abs_lexer.proofs.ClassLemmas.FormOf.{sign}
use Rattle.abs_lexer.proofs.ScanLemmas.{Describes, longest_in}
use Rattle.abs_lexer.proofs.ScanLemmas.Describes.{token, offence}

-- a punctuator that is found in a list has the bytes that were looked for
written_by : (b : Bool) (p q : Punctuator) (others : List Punctuator) (bytes : List ℕ)
    → bytes_eq (punctuator_bytes p) bytes ≡ b → cond b (Some p) (punctuator_among others bytes) ≡ Some q
    → (punctuator_among others bytes ≡ Some q → punctuator_bytes q ≡ bytes) → punctuator_bytes q ≡ bytes
written_by true p q others bytes h e rest = let same : p ≡ q =
    cc in ap punctuator_bytes (sym same) ∙ (bytes_eq-Decides (punctuator_bytes p) bytes).0 h
written_by false p q others bytes h e rest = rest e

written : (among : List Punctuator) (bytes : List ℕ) (q : Punctuator) → punctuator_among among bytes ≡ Some q
    → punctuator_bytes q ≡ bytes
written [] bytes q e = cc
written (p ∷ others) bytes q e =
    written_by (bytes_eq (punctuator_bytes p) bytes) p q others bytes refl e (written others bytes q)

-- and it has the size that each punctuator of the list has
abbrev EachHas : ℕ → List Punctuator → Type 0
EachHas size [] = ⊤
EachHas size (p ∷ others) = (length (punctuator_bytes p) ≡ size) × EachHas size others

size_by : (b : Bool) (p q : Punctuator) (others : List Punctuator) (bytes : List ℕ) (size : ℕ)
    → cond b (Some p) (punctuator_among others bytes) ≡ Some q → length (punctuator_bytes p) ≡ size
    → (punctuator_among others bytes ≡ Some q → length (punctuator_bytes q) ≡ size) → length (punctuator_bytes q) ≡ size
size_by true p q others bytes size e h rest = let same : p ≡ q =
    cc in ap (λ (s : Punctuator). length (punctuator_bytes s)) (sym same) ∙ h
size_by false p q others bytes size e h rest = rest e

size_among : (among : List Punctuator) (bytes : List ℕ) (q : Punctuator) (size : ℕ) → EachHas size among
    → punctuator_among among bytes ≡ Some q → length (punctuator_bytes q) ≡ size
size_among [] bytes q size h e = cc
size_among (p ∷ others) bytes q size h e =
    size_by (bytes_eq (punctuator_bytes p) bytes) p q others bytes size e h.0 (size_among others bytes q size h.1)

-- what the two scans find: a punctuator with these bytes, of this size
record IsFound (bytes : List ℕ) (p : Punctuator) (size : ℕ) : Type 0 where
  text : punctuator_bytes p ≡ bytes
  size_is : length (punctuator_bytes p) ≡ size

long_found : (bytes : List ℕ) (p : Punctuator) → long_punctuator bytes ≡ Some p → IsFound bytes p 2
unfolding long_punctuator
long_found bytes p e = record {
  text = written long_punctuators bytes p e;
  size_is =
      size_among long_punctuators bytes p 2 (refl, (refl, (refl, (refl, (refl, (refl, (refl, tt))))))) e;
}

short_found : (bytes : List ℕ) (p : Punctuator) → short_punctuator bytes ≡ Some p → IsFound bytes p 1
unfolding short_punctuator
short_found bytes p e = record {
  text = written short_punctuators bytes p e;
  size_is = size_among short_punctuators bytes p 1 (
    refl,
    (
      refl,
      (
        refl,
        (
          refl,
          (
            refl,
            (
              refl,
              (
                refl,
                (
                  refl,
                  (
                    refl,
                    (
                      refl,
                      (refl, (refl, (refl, (refl, (refl, (refl, (refl, (refl, (refl, (refl, tt)))))))))),
                    ),
                  ),
                ),
              ),
            ),
          ),
        ),
      ),
    ),
  ) e;
}

-- each punctuator has one byte or two, and is found by them
pub data SizeOf (p : Punctuator) : Type 0 where
  short : length (punctuator_bytes p) ≡ 1 → short_punctuator (punctuator_bytes p) ≡ Some p → SizeOf p
  long : length (punctuator_bytes p) ≡ 2 → long_punctuator (punctuator_bytes p) ≡ Some p → SizeOf p

size_of : (p : Punctuator) → SizeOf p
unfolding short_punctuator long_punctuator
size_of punctuator.OpenParen = short refl refl
size_of punctuator.CloseParen = short refl refl
size_of punctuator.OpenBrace = short refl refl
size_of punctuator.CloseBrace = short refl refl
size_of punctuator.Less = short refl refl
size_of punctuator.Greater = short refl refl
size_of punctuator.Comma = short refl refl
size_of punctuator.Semicolon = short refl refl
size_of punctuator.Dot = short refl refl
size_of punctuator.Assign = short refl refl
size_of punctuator.Equal = long refl refl
size_of punctuator.NotEqual = long refl refl
size_of punctuator.LessEqual = long refl refl
size_of punctuator.GreaterEqual = long refl refl
size_of punctuator.Plus = short refl refl
size_of punctuator.Minus = short refl refl
size_of punctuator.Star = short refl refl
size_of punctuator.Slash = short refl refl
size_of punctuator.Percent = short refl refl
size_of punctuator.Not = short refl refl
size_of punctuator.Tilde = short refl refl
size_of punctuator.Question = short refl refl
size_of punctuator.Bar = short refl refl
size_of punctuator.Or = long refl refl
size_of punctuator.And = long refl refl
size_of punctuator.Arrow = long refl refl
size_of punctuator.Underscore = short refl refl

-- if bytes begin with a punctuator, their prefix of its size is the punctuator
front_is : {bytes : List ℕ} (p : Punctuator) (piece after : List ℕ) (size : ℕ) → bytes ≡ piece ++ after
    → piece ≡ punctuator_bytes p → length (punctuator_bytes p) ≡ size → take size bytes ≡ punctuator_bytes p
front_is {bytes} p piece after size is e sized =
    let size_is : size ≡ length piece = sym sized ∙ ap length (sym e) in
    ap (λ (n : ℕ). take n bytes) size_is
    ∙ (ap (λ (bs : List ℕ). take (length piece) bs) is ∙ (take-append_seam piece after ∙ e))

-- the bytes begin with no punctuator of two bytes
abbrev NoLong : List ℕ → Type 0
NoLong bytes = (q : Punctuator) → long_punctuator (take 2 bytes) ≡ Some q → ⊥

none_long : (found : Option Punctuator) → ((q : Punctuator) → found ≡ Some q → ⊥) → found ≡ None
none_long None none = refl
none_long (Some q) none = absurd (none q refl)

-- the scanner finds the longest punctuator that the bytes begin with
pub sign_is_found : {bytes : List ℕ} (p : Punctuator) (piece after : List ℕ) → bytes ≡ piece ++ after
    → piece ≡ punctuator_bytes p
    → ((q : Punctuator) (more : List ℕ) → bytes ≡ punctuator_bytes q ++ more
    → length (punctuator_bytes q) ≤ length piece) → punctuator_at bytes ≡ Token (PunctuatorLexeme p) (length piece)
unfolding punctuator_at
sign_is_found {bytes} p piece after is e longest = by (size_of p)
  where
    by : SizeOf p → punctuator_piece (long_punctuator (take 2 bytes)) (short_punctuator (take 1 bytes))
        ≡ Token (PunctuatorLexeme p) (length piece)
    by (long two known) =
        let found : long_punctuator (take 2 bytes) ≡ Some p =
        ap long_punctuator (front_is p piece after 2 is e two) ∙ known in
        rw found (ap (λ (n : ℕ). Token (PunctuatorLexeme p) n) (sym (ap length e ∙ two)))
    by (short one known) =
        let none = none_long (long_punctuator (take 2 bytes)) (λ q found.
        let x = long_found (take 2 bytes) q found in
        let few = longest q (drop 2 bytes)
        (sym (take-append-drop 2 bytes) ∙ ap (λ (f : List ℕ). f ++ drop 2 bytes) (sym x.text)) in
        omega (arith, few, x.size_is, ap length e, one)) in
        let found : short_punctuator (take 1 bytes) ≡ Some p =
        ap short_punctuator (front_is p piece after 1 is e one) ∙ known in
        rw (none, found) (ap (λ (n : ℕ). Token (PunctuatorLexeme p) n) (sym (ap length e ∙ one)))

-- if bytes begin with a punctuator, one of the two scans finds one
not_none : (bytes : List ℕ) (q : Punctuator) (more : List ℕ) → bytes ≡ punctuator_bytes q ++ more
    → long_punctuator (take 2 bytes) ≡ None → short_punctuator (take 1 bytes) ≡ None → ⊥
not_none bytes q more is no_long no_short = by (size_of q)
  where
    by : SizeOf q → ⊥
    by (long two known) = let clash : None ≡ Some q =
        sym no_long ∙ (ap long_punctuator (front_is q (punctuator_bytes q) more 2 is refl two) ∙ known) in cc
    by (short one known) = let clash : None ≡ Some q =
        sym no_short ∙ (ap short_punctuator (front_is q (punctuator_bytes q) more 1 is refl one) ∙ known) in cc

-- the result for bytes that begin with a mark, and open no comment, describes them
pub describe_sign : (byte : ℕ) (others : List ℕ) → class_of byte ≡ Mark → opens_comment (byte ∷ others) ≡ false
    → Describes (byte ∷ others) (punctuator_at (byte ∷ others))
unfolding punctuator_at
describe_sign byte others class no_comment =
    by (long_punctuator (take 2 bytes)) (short_punctuator (take 1 bytes)) refl refl
  where
    bytes : List ℕ
    bytes = byte ∷ others

    signed : {kind : Lexeme} (piece more : List ℕ) → bytes ≡ piece ++ more → IsForm kind piece
        → (q : Punctuator) × (piece ≡ punctuator_bytes q)
    signed {kind} piece more is x = of (formed_in piece more is class x)
      where
        of : FormOf kind piece Mark → (q : Punctuator) × (piece ≡ punctuator_bytes q)
        of (sign q e k) = (q, e)

    within : (q : Punctuator) → length (punctuator_bytes q) ≤ 2
    within q = of (size_of q)
      where
        of : SizeOf q → length (punctuator_bytes q) ≤ 2
        of (short one known) = omega arith
        of (long two known) = omega arith

    in_front : (p : Punctuator) (size : ℕ) → IsFound (take size bytes) p size
        → bytes ≡ punctuator_bytes p ++ drop size bytes
    in_front p size x = sym (take-append-drop size bytes) ∙ ap (λ (f : List ℕ). f ++ drop size bytes) (sym x.text)

    one_byte : (q : Punctuator) (more : List ℕ) → bytes ≡ punctuator_bytes q ++ more
        → long_punctuator (take 2 bytes) ≡ None → length (punctuator_bytes q) ≤ 1
    one_byte q more is none = of (size_of q)
      where
        of : SizeOf q → length (punctuator_bytes q) ≤ 1
        of (short one known) = omega arith
        of (long two known) = let clash : None ≡ Some q =
            sym none ∙ (ap long_punctuator (front_is q (punctuator_bytes q) more 2 is refl two) ∙ known) in absurd cc

    by : (long_one short_one : Option Punctuator) → long_punctuator (take 2 bytes) ≡ long_one
        → short_punctuator (take 1 bytes) ≡ short_one → Describes bytes (punctuator_piece long_one short_one)
    by (Some p) short_one l s =
        let x = long_found (take 2 bytes) p l in
        token (PunctuatorLexeme p) (punctuator_bytes p) (drop 2 bytes) 2 (in_front p 2 x) no_comment
        (longest_in (in_front p 2 x) (form_sign p refl refl) (λ other longer more e y.
        let q = signed longer more e y in omega (arith, ap length q.1, within q.0, x.size_is))) tt (sym x.size_is)
    by None (Some p) l s =
        let x = short_found (take 1 bytes) p s in
        token (PunctuatorLexeme p) (punctuator_bytes p) (drop 1 bytes) 1 (in_front p 1 x) no_comment
        (longest_in (in_front p 1 x) (form_sign p refl refl) (λ other longer more e y.
        let q = signed longer more e y in
        omega (arith, ap length q.1, one_byte q.0 more (e ∙ ap (λ (f : List ℕ). f ++ more) q.1) l, x.size_is))) tt
        (sym x.size_is)
    by None None l s =
        let tests = test_of_class Mark byte class in
        offence L1 0 (λ place. stray_byte (record {
          byte = byte;
          others = others;
          is = refl;
          no_white = tests.0;
          no_quote = λ e. false≢true (sym tests.1 ∙ (Decides-eqb byte 34).1 e);
          no_comment = no_comment;
          no_token = λ kind piece after e y. let q =
              signed piece after e y in not_none bytes q.0 after (e ∙ ap (λ (f : List ℕ). f ++ after) q.1) l s;
        })) (omega arith)

-- if bytes begin with no punctuator, the scanner finds none
pub no_sign_found : (bytes : List ℕ) → ((p : Punctuator) (after : List ℕ) → bytes ≡ punctuator_bytes p ++ after → ⊥)
    → punctuator_at bytes ≡ Offence L1 0
unfolding punctuator_at
no_sign_found bytes none = by (long_punctuator (take 2 bytes)) (short_punctuator (take 1 bytes)) refl refl
  where
    by : (long_one short_one : Option Punctuator) → long_punctuator (take 2 bytes) ≡ long_one
        → short_punctuator (take 1 bytes) ≡ short_one → punctuator_piece long_one short_one ≡ Offence L1 0
    by (Some p) short_one l s =
        absurd (none p (drop 2 bytes) (sym (take-append-drop 2 bytes)
        ∙ ap (λ (f : List ℕ). f ++ drop 2 bytes) (sym (long_found (take 2 bytes) p l).text)))
    by None (Some p) l s =
        absurd (none p (drop 1 bytes) (sym (take-append-drop 1 bytes)
        ∙ ap (λ (f : List ℕ). f ++ drop 1 bytes) (sym (short_found (take 1 bytes) p s).text)))
    by None None l s = refl

-- every punctuator has at least one byte
pub sign_some : (p : Punctuator) → 0 < length (punctuator_bytes p)
sign_some p = of (size_of p)
  where
    of : SizeOf p → 0 < length (punctuator_bytes p)
    of (short one known) = omega arith
    of (long two known) = omega arith
