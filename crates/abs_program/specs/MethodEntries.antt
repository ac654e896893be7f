-- The entries of the table of methods, and how they grow. They serve proofs only.
--
--   `EntryAdded`           one entry was added
--   `MethodsAdded`         the methods of a class were added
use Rattle.std.specs.Map.{lookup}
use Rattle.std.specs.Option.{option_or}
use Rattle.std.specs.Prelude.{◌≡◌, ℕ, List, Option, Some, None, nat_eq, if◌then◌else◌}
use Rattle.abs_program.specs.KeptMembers.{is_key}
use Rattle.abs_tree.specs.Names.{name_of, number_of_name}
use Rattle.abs_tree.specs.Syntax.{Name}
use Rattle.abs_tree.specs.declared.symbol.Symbol.{Symbol}
use Rattle.abs_program.specs.declared.tables.methods.MethodKey.{MethodKey}

-- An entry was added, unless its key had one already.
pub record EntryAdded (key : MethodKey) (index : ℕ) (before now : List (MethodKey × ℕ)) : Type 0 where
  pub finds : (class name : ℕ) → lookup (is_key class name) now
      ≡ option_or (lookup (is_key class name) before) (if is_key class name key then Some index else None)

-- Methods of a class were added, each unless the class had one of its name already.
pub record MethodsAdded (names : List Name) (class : ℕ) (found : Name → Option ℕ) (before now : List (MethodKey × ℕ))
    : Type 0 where
  pub finds : (other : ℕ) (symbol : Symbol)
      → lookup (is_key other (number_of_name names (name_of names symbol))) now
      ≡ option_or (lookup (is_key other (number_of_name names (name_of names symbol))) before)
      (if nat_eq other class then found (name_of names symbol) else None)
