-- Stacks as lists: what is pushed on them, dropped from them, and what they begin with.
--
--   `pushed`, `dropped`            one value is pushed, and what is above is dropped
--   `restored`                     a stack from which all that was added is dropped is as before
--   `begins_same`, `begins_more`   a list begins with itself, and so does one with more values
--   `begins_further`, `begins_longer`      what begins with more values begins with the first ones, and is not shorter
--   `begins_added`                 a list that begins with another one is that one and what was added
--   `added_after`, `added_twice`   what was added, at once and in two steps
use Rattle.std.proofs.Common.{◌≡◌, ℕ, ◌+◌, ◌≤◌, List, [], ◌∷◌, ◌++◌, map, take, drop, length, arith, sym, ap, ◌∙◌, subst, append_assoc, append-nil, length-append}
use Rattle.std.proofs.lemmas.List.{length-map, map-append, take-append-drop, take-map}
use Rattle.std.proofs.Math.Seq.{drop-append_seam, take-append_seam}
use Rattle.abs_values.specs.ValueTrees.{ValueTree}
use Rattle.abs_values.specs.ValueViews.{value_tree}
use Rattle.abs_values.specs.declared.value.Value.{Value}
use Rattle.fun_eval.specs.Matching.{Begins}

-- a list that begins with another one is that one and what was added
pub begins_added : {before now : List ValueTree} → Begins before now → now ≡ before ++ drop (length before) now
begins_added {before} {now} begins =
    sym (take-append-drop (length before) now) ∙ ap (λ (first : List ValueTree). first ++ drop (length before) now) begins

-- one value is pushed
pub pushed : (items now : List Value) (value : Value) → now ≡ items ++ value ∷ []
    → map value_tree now ≡ map value_tree items ++ value_tree value ∷ []
pushed items now value is = ap (map value_tree) is ∙ map-append value_tree items (value ∷ [])

-- what is above is dropped
pub dropped : (items now : List Value) (count : ℕ) → now ≡ take count items
    → map value_tree now ≡ take count (map value_tree items)
dropped items now count is = ap (map value_tree) is ∙ sym (take-map value_tree count items)

-- what was added is dropped
pub restored : (before between now : List Value) (count : ℕ) → count ≡ length before → now ≡ take count between
    → Begins (map value_tree before) (map value_tree between) → map value_tree now ≡ map value_tree before
restored before between now count counted is begins =
    dropped between now count is
    ∙ (ap (λ (n : ℕ). take n (map value_tree between)) (counted ∙ sym (length-map before value_tree)) ∙ begins)

-- a list begins with itself, and so does one with more values
pub begins_same : (items : List ValueTree) → Begins items items
begins_same items = subst (λ (all : List ValueTree). take (length items) all ≡ items) (append-nil items) (take-append_seam items [])

pub begins_more : (before more : List ValueTree) → Begins before (before ++ more)
begins_more before more = take-append_seam before more

-- what begins with more values begins with the first ones
pub begins_further : (before more now : List ValueTree) → Begins (before ++ more) now → Begins before now
begins_further before more now begins =
    let rest = drop (length (before ++ more)) now in
    subst (λ (all : List ValueTree). take (length before) all ≡ before)
    (sym (begins_added begins ∙ append_assoc before more rest)) (take-append_seam before (more ++ rest))

-- a list that begins with another one is not shorter
pub begins_longer : (before now : List ValueTree) → Begins before now → length before ≤ length now
begins_longer before now begins =
    let counted : length now ≡ length before + length (drop (length before) now) =
    ap length (begins_added begins) ∙ length-append before (drop (length before) now) in omega (arith, counted)

-- what was added to a list
pub added_after : (before more : List ValueTree) → drop (length before) (before ++ more) ≡ more
added_after before more = drop-append_seam before more

-- what was added to a list is what was added to it first, and then what followed
pub added_twice : (before between more : List ValueTree) → Begins before between
    → drop (length before) (between ++ more) ≡ drop (length before) between ++ more
added_twice before between more begins =
    let added = drop (length before) between in
    ap (λ (items : List ValueTree). drop (length before) (items ++ more)) (begins_added begins)
    ∙ (ap (drop (length before)) (append_assoc before added more) ∙ drop-append_seam before (added ++ more))
