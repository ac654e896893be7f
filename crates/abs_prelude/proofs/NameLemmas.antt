-- The prelude: its names are parts of its text, and the table finds what it has.
use Rattle.std.proofs.Common.{◌≡◌, ℕ, ◌+◌, ◌-◌, ◌<◌, ◌≤◌, Bool, true, false, List, [], ◌∷◌, ◌++◌, Some, refl, sym, ap, ◌∙◌, length, map, take, drop, fold, get_or, nat_lt, cond, arith}
use Rattle.std.specs.List.{list_all, list_any}
use Rattle.std.specs.Str.{bytes_eq}
use Rattle.std.proofs.lemmas.Bool.Decides.{nat_tests}
use Rattle.std.proofs.lemmas.List.{get_or-map, length-append, take_all, take-append-le}
use Rattle.std.proofs.lemmas.List.Folds.{list_all_at}
use Rattle.std.proofs.lemmas.List.Sums.{passes_at_first, fold_more}
use Rattle.std.proofs.lemmas.Option.{unwrap_or-slice_get}
use Rattle.std.proofs.lemmas.Slice.Eq.{bytes_eq-Decides}
use Rattle.abs_tree.proofs.NumberLemmas.{number_of_found}
use Rattle.abs_tree.specs.Names.{number_of_name, symbol_in, name_of, with_name}
use Rattle.abs_tree.specs.declared.symbol.Symbol.{Symbol}
use Rattle.abs_prelude.specs.declared.text.TheConstants.{NAMES, TEXT}
use Rattle.abs_prelude.specs.Prelude.{prelude_names}

-- a name that the search finds has a number below the length of the table
number_of_found-within : (names : List (List ℕ)) (name : List ℕ) (symbol : Symbol) → Some symbol ≡ symbol_in names name
    → number_of_name names name < length names
number_of_found-within names name symbol found = grind (arith, nat_tests)

-- the symbol that a search for a name finds has that name
pub name_of_found : (names : List (List ℕ)) (name : List ℕ) (symbol : Symbol) → Some symbol ≡ symbol_in names name
    → name_of names symbol ≡ name
name_of_found names name symbol found =
    let there = number_of_found-within names name symbol found in
    unwrap_or-slice_get names symbol.0 []
    ∙ (ap (λ (number : ℕ). get_or names number []) (number_of_found names name symbol found)
    ∙ sym ((bytes_eq-Decides name _).0 (passes_at_first (bytes_eq name) names [] there)))

-- an entry of a table each of whose entries ends before a limit
entry_within : (table : List (ℕ × ℕ)) (limit index : ℕ) → index < length table
    → list_all (λ entry. nat_lt (entry.0 + entry.1) limit) table ≡ true
    → (get_or table index (0, 0)).0 + (get_or table index (0, 0)).1 < limit
entry_within table limit index inside all =
    let bad = list_all_at (λ (entry : ℕ × ℕ). nat_lt (entry.0 + entry.1) limit) table index (0, 0) inside in
    grind (arith, nat_tests, bad, all)

-- the entries of the table of names lie in the text
names_within : list_all (λ entry. nat_lt (entry.0 + entry.1) 819) NAMES ≡ true
names_within = refl

-- the part of the text that an entry gives
abbrev part_of_text : ℕ × ℕ → List ℕ
part_of_text entry = take (entry.0 + entry.1 - entry.0) (drop entry.0 TEXT.now)

-- the entries give the names of the prelude
names_are : map part_of_text NAMES ≡ prelude_names
unfolding prelude_names
names_are = refl

-- a name of the prelude ends in the text
pub name_within : (index start count : ℕ) (text : List ℕ) → index < length prelude_names
    → start ≡ (get_or NAMES index (0, 0)).0 → count ≡ (get_or NAMES index (0, 0)).1 → text ≡ TEXT.now
    → start + count ≤ length text
unfolding prelude_names
name_within index start count text inside start_is count_is text_is =
    let within = entry_within NAMES 819 index inside names_within in
    let long : length text ≡ 818 = ap (λ (bytes : List ℕ). length bytes) text_is in
    omega (arith, within, long)

-- a name of the prelude is its part of the text
pub name_part : (index start count : ℕ) (text : List ℕ) → index < length prelude_names
    → start ≡ (get_or NAMES index (0, 0)).0 → count ≡ (get_or NAMES index (0, 0)).1 → text ≡ TEXT.now
    → take (start + count - start) (drop start text) ≡ get_or prelude_names index []
unfolding prelude_names
name_part index start count text inside start_is count_is text_is =
    let entry = get_or NAMES index (0, 0) in
    ap (λ (bytes : List ℕ). take (start + count - start) (drop start bytes)) text_is
    ∙ (ap (λ (from : ℕ). take (from + count - from) (drop from TEXT.now)) start_is
    ∙ (ap (λ (size : ℕ). take (entry.0 + size - entry.0) (drop entry.0 TEXT.now)) count_is
    ∙ (sym (get_or-map part_of_text NAMES index (0, 0) [] inside)
    ∙ ap (λ (names : List (List ℕ)). get_or names index []) names_are)))

-- there are as many entries as names
names_counted : length NAMES ≡ length prelude_names
unfolding prelude_names
names_counted = refl

-- a table with one more name has at most one more
pub one_more_name : (names : List (List ℕ)) (name : List ℕ) → length (with_name names name) ≤ length names + 1
one_more_name names name = either (list_any (bytes_eq name) names)
  where
    either : (b : Bool) → length (cond b names (names ++ name ∷ [])) ≤ length names + 1
    either true = omega arith
    either false = omega (arith, length-append names (name ∷ []))

-- a table with one more name begins with those that it had
begins_as_before : (known : List (List ℕ)) (name : List ℕ) (count : ℕ) (b : Bool) → count ≤ length known
    → take count (cond b known (known ++ name ∷ [])) ≡ take count known
begins_as_before known name count true few = refl
begins_as_before known name count false few = take-append-le count known (name ∷ []) few

longer_after : (known : List (List ℕ)) (name : List ℕ) (b : Bool)
    → length known ≤ length (cond b known (known ++ name ∷ []))
longer_after known name true = omega arith
longer_after known name false = omega (arith, length-append known (name ∷ []))

-- so does one with more names
begins_with : (known more : List (List ℕ)) (count : ℕ) → count ≤ length known
    → take count (fold with_name known more) ≡ take count known
begins_with known [] count few = refl
begins_with known (name ∷ more) count few =
    let has = list_any (bytes_eq name) known in
    let longer = longer_after known name has in
    begins_with (with_name known name) more count (omega (arith, longer)) ∙ begins_as_before known name count has few

pub first_names : (names more : List (List ℕ)) → take (length names) (fold with_name names more) ≡ names
first_names names more =
    begins_with names more (length names) (omega arith) ∙ take_all (length names) names (omega arith)

-- the table with one more name of the prelude
pub next_name : (first names next : List (List ℕ)) (index : ℕ) (name : List ℕ) → index < length NAMES
    → names ≡ fold with_name first (take index prelude_names) → name ≡ get_or prelude_names index []
    → next ≡ with_name names name → next ≡ fold with_name first (take (index + 1) prelude_names)
next_name first names next index name inside so_far is added =
    let there : index < length prelude_names = omega (arith, inside, names_counted) in
    added
    ∙ (ap (λ (known : List (List ℕ)). with_name known name) so_far
    ∙ (ap (with_name (fold with_name first (take index prelude_names))) is
    ∙ sym (fold_more with_name first prelude_names index [] there)))
