-- What the command takes from its source and what it writes to its sink.
use Rattle.std.specs.Prelude.{◌≡◌, ◌≢◌, ℕ, ◌+◌, ◌≤◌, List, [], ◌++◌, length, Option}
use Rattle.abs_tree.specs.Limits.{source_limit}
use Rattle.std.specs.Io.KnownBytes.{Appends, Consumes, IsAtEnd}

-- The bytes were taken from what was left: all of it, or as many as show that there are too many.
pub record TakesWhole (before after : Option (List ℕ)) (bytes : List ℕ) : Type 0 where
  pub taken : Consumes before after bytes
  pub at_most : length bytes ≤ source_limit + 1
  pub all_of_it : length bytes ≤ source_limit → IsAtEnd after

-- Some bytes were taken from what was left, and not more than show that there are too many.
pub record TakesSome (before after : Option (List ℕ)) : Type 0 where
  pub bytes : List ℕ
  pub taken : Consumes before after bytes
  pub at_most : length bytes ≤ source_limit + 1

-- A prefix of the output was written, and not the whole.
pub record WritesPrefix (before after : Option (List ℕ)) (output : List ℕ) : Type 0 where
  pub prefix : List ℕ
  pub rest : List ℕ
  pub parts : output ≡ prefix ++ rest
  pub more : rest ≢ []
  pub written : Appends before after prefix
