-- How many types at the beginning of a list fit those of another list.
use Rattle.std.proofs.Common.{◌≡◌, ℕ, ◌+◌, ◌<◌, ◌≤◌, Bool, true, false, ◌&&◌, List, [], ◌∷◌, refl, ap, length, get_or, drop, nat_eq, nat_lt, suc, arith, eq-eqb}
use Rattle.std.specs.Prelude.{if◌then◌else◌}
use Rattle.std.proofs.lemmas.Bool.Decides.{nat_tests}
use Rattle.std.proofs.lemmas.List.{drop_all}
use Rattle.abs_tree.specs.Syntax.{Name, DeclTree}
use Rattle.abs_tree.specs.SyntaxViews.{type_tree, type_trees}
use Rattle.abs_tree.specs.declared.syntax.types.TypeTerm.{TypeTerm}
use Rattle.abs_types.specs.Arguments.{all_fit, fitting_count}
use Rattle.abs_types.specs.PlainTypes.{PlainType, plain, plains}
use Rattle.abs_types.specs.Subtyping.{fits}
use Rattle.list_facts.proofs.EntryLemmas.{drop_item}

-- as many plain types as types
pub plains_length : (names : List Name) (items : List TypeTerm)
    → length (plains (type_trees names items)) ≡ length items
plains_length names [] = refl
plains_length names (item ∷ others) = ap suc (plains_length names others)

-- numbers that differ fail a test of equality, and of more
count_apart : (one other : ℕ) (more : Bool) → (one ≡ other → ⊥) → false ≡ nat_eq one other && more
count_apart one other more apart = grind (arith, nat_tests)

-- one more type fits or not
count_step : {rest : Bool} (fit : Bool) (ones others count : ℕ) → rest ≡ nat_eq ones others && nat_eq count ones
    → fit && rest ≡ nat_eq (suc ones) (suc others) && nat_eq (if fit then 1 + count else 0) (suc ones)
count_step {rest} true ones others count is = grind (arith, nat_tests)
count_step {rest} false ones others count is = grind (arith, nat_tests)

-- all fit if the lists are as long, and the count that fits is their length
pub all_fit_by_count : (declarations : List DeclTree) (ones others : List PlainType)
    → all_fit declarations ones others
    ≡ nat_eq (length ones) (length others) && nat_eq (fitting_count declarations ones others) (length ones)
all_fit_by_count declarations [] [] = refl
all_fit_by_count declarations [] (other ∷ others) = count_apart 0 (suc (length others)) true (omega arith)
all_fit_by_count declarations (one ∷ ones) [] =
    count_apart (suc (length ones)) 0 (nat_eq 0 (suc (length ones))) (omega arith)
all_fit_by_count declarations (one ∷ ones) (other ∷ others) =
    count_step (fits declarations one other) (length ones) (length others) (fitting_count declarations ones others)
    (all_fit_by_count declarations ones others)

-- The types before an index fit.
pub record FittingSoFar (declarations : List DeclTree) (names : List Name) (items others : List TypeTerm) (index : ℕ)
    : Type 0 where
  pub so_far : fitting_count declarations (plains (type_trees names items)) (plains (type_trees names others))
      ≡ index + fitting_count declarations (plains (type_trees names (drop index items)))
      (plains (type_trees names (drop index others)))

-- no type is before the first one
pub fitting_init : {declarations : List DeclTree} {names : List Name} {items others : List TypeTerm}
    → FittingSoFar declarations names items others 0
fitting_init = record { so_far = omega arith }

-- one more type fits
pub fitting_step : {declarations : List DeclTree} {names : List Name} {items others : List TypeTerm} {index : ℕ}
    (item other : TypeTerm) → FittingSoFar declarations names items others index → index < length items
    → item ≡ get_or items index item → (true ≡ nat_lt index (length others)) × (other ≡ get_or others index other)
    → fits declarations (plain (type_tree names item)) (plain (type_tree names other)) ≡ true
    → FittingSoFar declarations names items others (index + 1)
fitting_step {declarations} {names} {items} {others} {index} item other h there is looked fit =
    let other_there : index < length others = grind (arith, nat_tests, looked.0) in
    let both = rw (drop_item items index item there is, drop_item others index other other_there looked.1, fit)
    at h.so_far in
    record { so_far = omega (arith, both) }

-- a type does not fit
pub fitting_stop : {declarations : List DeclTree} {names : List Name} {items others : List TypeTerm} {index : ℕ}
    (item other : TypeTerm) → FittingSoFar declarations names items others index → index < length items
    → item ≡ get_or items index item → (true ≡ nat_lt index (length others)) × (other ≡ get_or others index other)
    → fits declarations (plain (type_tree names item)) (plain (type_tree names other)) ≡ false
    → index ≡ fitting_count declarations (plains (type_trees names items)) (plains (type_trees names others))
fitting_stop {declarations} {names} {items} {others} {index} item other h there is looked fit =
    let other_there : index < length others = grind (arith, nat_tests, looked.0) in
    let both = rw (drop_item items index item there is, drop_item others index other other_there looked.1, fit)
    at h.so_far in
    omega (arith, both)

-- no type fits one of an empty list
none_fits : (declarations : List DeclTree) (ones : List PlainType) → fitting_count declarations ones [] ≡ 0
none_fits declarations [] = refl
none_fits declarations (one ∷ ones) = refl

-- the other list ends
pub fitting_short : {declarations : List DeclTree} {names : List Name} {items others : List TypeTerm} {index : ℕ}
    → FittingSoFar declarations names items others index → false ≡ nat_lt index (length others)
    → index ≡ fitting_count declarations (plains (type_trees names items)) (plains (type_trees names others))
fitting_short {declarations} {names} {items} {others} {index} h tested =
    let over : length others ≤ index = grind (arith, nat_tests) in
    let both = rw (drop_all index others over) at h.so_far in
    omega (arith, both, none_fits declarations (plains (type_trees names (drop index items))))

-- all types fit
pub fitting_done : {declarations : List DeclTree} {names : List Name} {items others : List TypeTerm} {index : ℕ}
    → FittingSoFar declarations names items others index → length items ≡ index
    → length items ≡ fitting_count declarations (plains (type_trees names items)) (plains (type_trees names others))
fitting_done {declarations} {names} {items} {others} {index} h over =
    let both = rw (drop_all index items (omega arith)) at h.so_far in omega (arith, both)

-- of two lists of types of one length, all fit if the count that fits is the length
pub all_fit_by_length : {count : ℕ} (declarations : List DeclTree) (names : List Name) (items others : List TypeTerm)
    → length items ≡ length others
    → count ≡ fitting_count declarations (plains (type_trees names items)) (plains (type_trees names others))
    → nat_eq count (length items)
    ≡ all_fit declarations (plains (type_trees names items)) (plains (type_trees names others))
all_fit_by_length {count} declarations names items others same is =
    rw (
      all_fit_by_count,
      plains_length names items,
      plains_length names others,
      eq-eqb (length items) (length others) same,
      is,
    )

-- two lists of different lengths do not fit
pub none_fit_by_length : (declarations : List DeclTree) (names : List Name) (items others : List TypeTerm)
    → (length items ≡ length others → ⊥)
    → nat_eq (length items) (length others)
    ≡ all_fit declarations (plains (type_trees names items)) (plains (type_trees names others))
none_fit_by_length declarations names items others apart =
    let tested : nat_eq (length items) (length others) ≡ false = grind (arith, nat_tests) in
    rw (all_fit_by_count, plains_length names items, plains_length names others, tested)
