-- Sets of tasks, as contracts see them: lists of their indices.
--
--   `has`                      whether a task is in a list
--   `Rises`                    each task of a list is below all later ones
--   `IsFirstAfter`             the least task of a list above another
use Rattle.std.specs.Prelude.{◌≡◌, ◌<◌, ◌≤◌, ℕ, Bool, true, false, ◌||◌, nat_eq, List, [], ◌∷◌, All}

-- whether a task is in a list
abbrev pub has : List ℕ → ℕ → Bool
has [] task = false
has (first ∷ others) task = nat_eq first task || has others task

-- Each task of the list is below all later ones.
abbrev pub Rises : List ℕ → Type 0
Rises [] = Unit {0}
Rises (first ∷ others) = All (λ other. first < other) others × Rises others

-- The task is the least of the list above another.
pub record IsFirstAfter (tasks : List ℕ) (from found : ℕ) : Type 0 where
  pub is_in : has tasks found ≡ true
  pub above : from < found
  pub least : (other : ℕ) → has tasks other ≡ true → from < other → found ≤ other
