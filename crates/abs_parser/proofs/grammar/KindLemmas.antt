-- Two lexemes that compare as equal are the same, and two that do not are different.
use Rattle.std.proofs.Common.{◌≡◌, ◌∙◌, refl, sym, ap, Bool, true, false, not, List, [], ◌∷◌}
use mathlib.Core.Logic.{inl, inr}
use denote.Struct.Field.{Field}
use denote.Struct.Values.{Values}
use denote.Enum.Bare.{sameb, same_true}
use denote.Enum.Declared.{Choice}
use denote.Enum.Compared.{Each, by}
use Rattle.abs_lexer.specs.contracts.lexeme.Keyword.{the_type as keyword}
use Rattle.abs_lexer.specs.declared.lexeme.Keyword.{Keyword}
use Rattle.abs_lexer.specs.declared.lexeme.Keyword.TheVariants as the_keyword
use Rattle.abs_lexer.specs.declared.lexeme.Lexeme.TheVariants as lexeme
use Rattle.abs_lexer.specs.declared.lexeme.Punctuator.{Punctuator}
use Rattle.abs_lexer.specs.declared.lexeme.Punctuator.TheVariants as the_punctuator
use Rattle.abs_lexer.specs.contracts.lexeme.Lexeme.{enum}
use Rattle.abs_lexer.specs.contracts.lexeme.LexemePartialEq.TheImpl.{ghosts}
use Rattle.abs_lexer.specs.contracts.lexeme.Punctuator.{the_type as punctuator}
use Rattle.abs_lexer.specs.declared.lexeme.Lexeme.{Lexeme}
use Rattle.std.proofs.lemmas.Bool.{not-false}

-- at each variant of an enum, fields that compare as equal are the same
abbrev AllTell : (parts : List (List Field)) → Each Bool parts → Type 0
AllTell [] each = Unit {0}
AllTell (part ∷ parts) each = ((x y : Values part) → each.0 x y ≡ true → x ≡ y) × AllTell parts each.1

-- two choices of a variant and its fields that compare as equal are the same
choices_same : (parts : List (List Field)) (each : Each Bool parts) → AllTell parts each → (c d : Choice parts)
    → by false false parts each c d ≡ true → c ≡ d
choices_same [] each all c d same = absurd c
choices_same (part ∷ parts) each all (inl x) (inl y) same = ap inl (all.0 x y same)
choices_same (part ∷ parts) each all (inl x) (inr y) same = cc
choices_same (part ∷ parts) each all (inr x) (inl y) same = cc
choices_same (part ∷ parts) each all (inr x) (inr y) same = ap inr (choices_same parts each.1 all.1 x y same)

-- two values of a variant without fields always compare as equal
abbrev always : Unit {0} → Unit {0} → Bool
always x y = true

-- two values of a variant without fields are the same
no_field : (x y : Unit {0}) → true ≡ true → x ≡ y
no_field x y same = refl

-- how the fields of lexemes are compared, variant by variant: only keywords and punctuators have a field
abbrev compared : Each Bool enum.parts
compared = (
  always,
  (
    always,
    (
      always,
      (always, (λ x y. sameb keyword x.0 y.0, (always, (λ x y. sameb punctuator x.0 y.0, tt)))),
    ),
  ),
)

-- fields of lexemes that compare as equal are the same
all_tell : AllTell enum.parts compared
all_tell = (
  no_field,
  (
    no_field,
    (
      no_field,
      (
        no_field,
        (
          λ x y same. ap (λ which. (which, tt)) (same_true keyword tt x.0 y.0 same),
          (no_field, (λ x y same. ap (λ which. (which, tt)) (same_true punctuator tt x.0 y.0 same), tt)),
        ),
      ),
    ),
  ),
)

-- lexemes that compare as equal are the same
same_kind : (k l : Lexeme) → ghosts.eq k l ≡ true → k ≡ l
same_kind k l same =
    let values : enum.as_values k ≡ enum.as_values l =
    choices_same enum.parts compared all_tell (enum.as_values k) (enum.as_values l) same in
    sym (enum.eta k) ∙ (ap enum.make values ∙ enum.eta l)

-- lexemes that do not compare as different are the same
pub kind_reported : (k l : Lexeme) (differ : Bool) → differ ≡ not (ghosts.eq k l) → differ ≡ false → k ≡ l
kind_reported k l differ is same = same_kind k l (not-false (ghosts.eq k l) (sym is ∙ same))

-- lexemes are the same where their comparison answers true
pub kind_equal : (k l : Lexeme) (equal : Bool) → equal ≡ ghosts.eq k l → equal ≡ true → k ≡ l
kind_equal k l equal is same = same_kind k l (sym is ∙ same)

-- a keyword compares as equal with itself
same_keyword : (w : Keyword) → sameb keyword w w ≡ true
same_keyword the_keyword.Module = refl
same_keyword _ = refl

-- a punctuator compares as equal with itself
same_punctuator : (s : Punctuator) → sameb punctuator s s ≡ true
same_punctuator the_punctuator.OpenParen = refl
same_punctuator _ = refl

-- any lexeme compares as equal with itself
kind_self : (k : Lexeme) → ghosts.eq k k ≡ true
kind_self lexeme.LowerName = refl
kind_self lexeme.UpperName = refl
kind_self lexeme.Number = refl
kind_self lexeme.Text = refl
kind_self (lexeme.Keyword w) = same_keyword w
kind_self lexeme.Foreign = refl
kind_self (lexeme.Punctuator s) = same_punctuator s

-- lexemes are different where their comparison answers false
pub kind_other : (k l : Lexeme) (equal : Bool) → equal ≡ ghosts.eq k l → equal ≡ false → k ≡ l → ⊥
kind_other k l equal is differ same = let clash : true ≡ false =
    sym (kind_self l) ∙ (ap (λ (j : Lexeme). ghosts.eq j l) (sym same) ∙ (sym is ∙ differ)) in cc

-- a punctuator that compares as equal with the wanted one is the wanted one
pub punctuator_is : {kind : Lexeme} (one wanted : Punctuator) {is : Bool} → kind ≡ lexeme.Punctuator one
    → is ≡ sameb punctuator one wanted → is ≡ true → kind ≡ lexeme.Punctuator wanted
punctuator_is one wanted kind_is tells holds =
    kind_is ∙ ap lexeme.Punctuator (same_true punctuator tt one wanted (sym tells ∙ holds))
