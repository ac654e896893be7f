-- The numbers of names in a table.
use Rattle.std.proofs.Common.{◌≡◌, ℕ, ◌<◌, ◌≤◌, true, false, List, [], Some, None, inl, inr, sym, ap, ◌∙◌, length, map, get_or, arith, true≢false, ◌↔◌}
use Rattle.std.specs.List.{IsDistinct}
use Rattle.std.specs.Str.{bytes_eq}
use Rattle.std.proofs.lemmas.Bool.Decides.{leb_tells, nat_tests}
use Rattle.std.proofs.lemmas.Cmp.{nat_list_eq_equiv}
use Rattle.std.proofs.lemmas.List.{length-map}
use Rattle.std.proofs.lemmas.List.Sums.{position_or_len_is, fails_before_first, passes_at_first, prefix_len-le-length}
use Rattle.std.proofs.lemmas.Map.Keys.{apart_from_distinct}
use Rattle.std.proofs.lemmas.Option.{slice_get_past, unwrap_or-slice_get}
use Rattle.std.proofs.lemmas.Slice.Eq.{bytes_eq-Decides}
use Rattle.abs_tree.specs.declared.symbol.Symbol.{Symbol}
use Rattle.abs_tree.specs.Names.{number_of_name, symbol_in, name_of}
use Rattle.list_facts.proofs.AllLemmas.{IsDistinct-map}

-- in a table that has each name once, the number of the name of one of its symbols is the symbol's own
own_number : (names : List (List ℕ)) (symbol : Symbol) → IsDistinct bytes_eq names → symbol.0 < length names
    → number_of_name names (name_of names symbol) ≡ symbol.0
own_number names symbol distinct there =
    let name = get_or names symbol.0 [] in
    ap (number_of_name names) (unwrap_or-slice_get names symbol.0 [])
    ∙ position_or_len_is (bytes_eq name) names symbol.0 [] (omega arith)
    (λ k before. nat_list_eq_equiv.symm name (get_or names k [])
    ∙ apart_from_distinct bytes_eq names k symbol.0 [] distinct before there)
    (λ _. nat_list_eq_equiv.refl name)

-- the same for a mapped list
pub own_number-map : {A : Type 0} (f : A → List ℕ) (pieces : List A) (symbol : Symbol)
    → IsDistinct (λ x y. bytes_eq (f x) (f y)) pieces → symbol.0 < length pieces
    → number_of_name (map f pieces) (name_of (map f pieces) symbol) ≡ symbol.0
own_number-map f pieces symbol distinct there =
    own_number (map f pieces) symbol (IsDistinct-map f bytes_eq pieces distinct) (omega (arith, length-map pieces f))

-- a symbol that the table does not have has the empty name
pub outside_name : (names : List (List ℕ)) (symbol : Symbol) → length names ≤ symbol.0 → name_of names symbol ≡ []
outside_name names symbol outside = rw (slice_get_past names symbol.0 outside)

-- the symbol that a search for a name finds has the number of the name
pub number_of_found : (names : List (List ℕ)) (name : List ℕ) (symbol : Symbol) → Some symbol ≡ symbol_in names name
    → symbol.0 ≡ number_of_name names name
number_of_found names name symbol found = grind (arith, nat_tests)

-- a name that the search does not find has the next number
pub number_of_new : (names : List (List ℕ)) (name : List ℕ) → None ≡ symbol_in names name
    → length names ≡ number_of_name names name
number_of_new names name none = grind (arith, nat_tests, prefix_len-le-length)

-- a name that the table has is its entry at the number of the name
name_at_number : (names : List (List ℕ)) (name : List ℕ) → number_of_name names name < length names
    → name ≡ get_or names (number_of_name names name) []
name_at_number names name there = (bytes_eq-Decides name _).0 (passes_at_first (bytes_eq name) names [] there)

-- a symbol whose name the table does not have has the empty name
name_without_number : (names : List (List ℕ)) (symbol : Symbol)
    → length names ≤ number_of_name names (name_of names symbol)
    → name_of names symbol ≡ []
name_without_number names symbol absent = elim (leb_tells (length names) symbol.0) [
  | inl outside ↦ outside_name names symbol outside.1
  | inr inside ↦
      let apart : bytes_eq (name_of names symbol) (get_or names symbol.0 []) ≡ false =
      fails_before_first (bytes_eq (name_of names symbol)) names symbol.0 [] (omega (arith, inside.1)) in
      let equal : bytes_eq (name_of names symbol) (get_or names symbol.0 []) ≡ true =
      (bytes_eq-Decides (name_of names symbol) (get_or names symbol.0 [])).1 (unwrap_or-slice_get names symbol.0 []) in
      absurd (true≢false (sym equal ∙ apart))
]

-- two symbols whose names have the same number have the same name
same_name : (names : List (List ℕ)) (one other : Symbol)
    → number_of_name names (name_of names one) ≡ number_of_name names (name_of names other)
    → name_of names one ≡ name_of names other
same_name names one other same = elim (leb_tells (length names) (number_of_name names (name_of names one))) [
  | inl absent ↦ name_without_number names one absent.1
      ∙ sym (name_without_number names other (omega (arith, absent.1)))
  | inr there ↦
      name_at_number names (name_of names one) there.1 ∙ ap (λ (number : ℕ). get_or names number []) same
      ∙ sym (name_at_number names (name_of names other) (omega (arith, there.1)))
]

-- the names of two symbols have the same number exactly if they are the same name
pub numbers_tell_names : (names : List (List ℕ)) (one other : Symbol)
    → (number_of_name names (name_of names one) ≡ number_of_name names (name_of names other)) ↔
    (name_of names one ≡ name_of names other)
numbers_tell_names names one other = (same_name names one other, ap (number_of_name names))

-- the name of a symbol is the name of the number of that name
pub name_of_number : (names : List (List ℕ)) (symbol : Symbol)
    → name_of names (record { 0 = number_of_name names (name_of names symbol) }) ≡ name_of names symbol
name_of_number names symbol = elim (leb_tells (length names) (number_of_name names (name_of names symbol))) [
  | inl absent ↦ outside_name names (record { 0 = number_of_name names (name_of names symbol) }) absent.1
      ∙ sym (name_without_number names symbol absent.1)
  | inr there ↦ unwrap_or-slice_get names (number_of_name names (name_of names symbol)) []
      ∙ sym (name_at_number names (name_of names symbol) there.1)
]
