-- The numbers of names in shapes.
--
--   `named_by_number`, `number_is_own`     the number of the name of a symbol has this name, and is its own
--   `not_word`                             a name that a test tells from a word
use Rattle.std.proofs.Common.{◌≡◌, ℕ, false, List, sym, ap, ◌∙◌, true≢false}
use Rattle.std.proofs.lemmas.Slice.Eq.{bytes_eq-Decides}
use Rattle.std.specs.Str.{bytes_eq}
use Rattle.abs_tree.proofs.NumberLemmas.{name_of_number}
use Rattle.abs_tree.specs.Names.{name_of, number_of_name}
use Rattle.abs_tree.specs.Syntax.{Name}
use Rattle.abs_tree.specs.declared.symbol.Symbol.{Symbol}
use Rattle.abs_types.specs.TypeShapes.{named_by, IsOwnNumber}

-- the number of the name of a symbol has this name
pub named_by_number : (names : List Name) (symbol : Symbol) (number : ℕ)
    → number ≡ number_of_name names (name_of names symbol) → named_by names number ≡ name_of names symbol
named_by_number names symbol number is = ap (named_by names) is ∙ name_of_number names symbol

-- it is a number of its own
pub number_is_own : (names : List Name) (symbol : Symbol) (number : ℕ)
    → number ≡ number_of_name names (name_of names symbol) → IsOwnNumber names number
number_is_own names symbol number is = ap (number_of_name names) (named_by_number names symbol number is) ∙ sym is

-- a name that the test tells from a word is not this word
pub not_word : (text name other word : List ℕ) → text ≡ name → other ≡ word → false ≡ bytes_eq text other
    → name ≡ word → ⊥
not_word text name other word is other_is reported same =
    true≢false (sym ((bytes_eq-Decides text other).1 (is ∙ (same ∙ sym other_is))) ∙ sym reported)
