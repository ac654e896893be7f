-- The rows of the table of signatures, and how they grow. They serve proofs only.
--
--   `row_at`               the row of a name, by its number
--   `is_last_of`           whether the last entry of a row is of an interface
--   `with_first`           a row with what is found of an interface, unless it has an entry of the interface already
--   `HasRows`              there is a row for the number of each symbol's name
--   `RowGrows`             the row of one name got an entry
--   `RowsGrow`             the row of each name got the entries of an interface
use Rattle.std.specs.Prelude.{◌≡◌, ◌≢◌, ℕ, ◌+◌, ◌-◌, Bool, false, List, [], ◌∷◌, ◌++◌, map, length, get_or, slice_get, Option, Some, None, nat_eq, if◌then◌else◌}
use Rattle.std.specs.declared.alloc.Global.{Global}
use Rattle.std.specs.declared.vec.Vec.{Vec}
use Rattle.abs_tree.specs.Names.{name_of, number_of_name}
use Rattle.abs_tree.specs.Syntax.{Name}
use Rattle.abs_tree.specs.declared.symbol.Symbol.{Symbol}
use Rattle.abs_program.specs.declared.tables.members.SignatureAt.{SignatureAt}

-- the row of a name, by its number
abbrev pub row_at : List (Vec SignatureAt Global) → ℕ → List SignatureAt
row_at rows number = get_or (map (λ (row : Vec SignatureAt Global). row.items) rows) number []

-- whether an entry is of an interface
abbrev pub is_of : ℕ → Option SignatureAt → Bool
is_of interface None = false
is_of interface (Some at) = nat_eq at.interface interface

-- whether the last entry of a row is of an interface
abbrev pub is_last_of : ℕ → List SignatureAt → Bool
is_last_of interface row = is_of interface (slice_get row (length row - 1))

-- a row with what is found of an interface, unless its last entry is of the interface already
abbrev pub with_first : ℕ → List SignatureAt → List SignatureAt → List SignatureAt
with_first interface row found = if is_last_of interface row then row else row ++ found

-- There is a row for the number of each symbol's name.
pub record HasRows (names : List Name) (rows : List (Vec SignatureAt Global)) : Type 0 where
  pub rows_are : length rows ≡ length names + 1

-- The row of one name got an entry, unless it had one of the interface already.
pub record RowGrows (number : ℕ) (at : SignatureAt) (before now : List (Vec SignatureAt Global)) : Type 0 where
  pub size : length now ≡ length before
  pub own : row_at now number ≡ with_first at.interface (row_at before number) (at ∷ [])
  pub others : (other : ℕ) → other ≢ number → row_at now other ≡ row_at before other

-- The row of each name got what is found of an interface under the name.
pub record RowsGrow (names : List Name) (interface : ℕ) (found : Name → List SignatureAt)
    (before now : List (Vec SignatureAt Global)) : Type 0 where
  pub size : length now ≡ length before
  pub rows : (symbol : Symbol) → row_at now (number_of_name names (name_of names symbol))
      ≡ with_first interface (row_at before (number_of_name names (name_of names symbol)))
      (found (name_of names symbol))
