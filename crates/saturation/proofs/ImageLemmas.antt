-- What is in a list and in its images.
--
--   `contains_at`, `at_contains`           an element has an index, and what has an index is an element
--   `contains_map`, `contains_mapped`      the image of an element, and of what an image is made
use Rattle.std.proofs.Common.{◌≡◌, ℕ, List, map, Contains, Some, option_map, ap, ◌∙◌}
use Rattle.std.specs.Prelude.{slice_get}
use Rattle.std.proofs.lemmas.Option.{slice_get_within, slice_get-get_or, get_or_from_slice_get, slice_get-map}
use Rattle.list_facts.proofs.EntryLemmas.{slice_get-mapped}

-- an element of a list has an index
pub contains_at : {A : Type 0} (list : List A) (one : A) (there : Contains list one) → slice_get list there.0 ≡ Some one
contains_at list one there = slice_get-get_or list there.0 one there.1 ∙ ap Some there.2

-- what has an index is an element
pub at_contains : {A : Type 0} (list : List A) (index : ℕ) (one : A) → slice_get list index ≡ Some one → Contains list one
at_contains list index one there =
    (index, slice_get_within list index one there, get_or_from_slice_get list index one one there)

-- what a map makes of an element is there
pub contains_map : {A B : Type 0} (f : A → B) (list : List A) (one : A) → Contains list one
    → Contains (map f list) (f one)
contains_map f list one there = at_contains (map f list) there.0 (f one)
    (slice_get-map f list there.0 ∙ ap (option_map f) (contains_at list one there))

-- what is there after a map is made of an element
pub contains_mapped : {A B : Type 0} (f : A → B) (list : List A) (entry : B) → Contains (map f list) entry
    → (one : A) × Contains list one × (f one ≡ entry)
contains_mapped f list entry there =
    let found = slice_get-mapped f list there.0 entry (contains_at (map f list) entry there) in
    (found.0, at_contains list there.0 found.0 found.1, found.2)
