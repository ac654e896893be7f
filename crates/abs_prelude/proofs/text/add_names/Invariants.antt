use Rattle.std.proofs.Common.{◌≡◌, ◌≤◌, length, take, fold}
use Rattle.abs_tree.specs.Limits.{table_limit}
use Rattle.abs_tree.specs.Names.{with_name}
use Rattle.abs_prelude.specs.Prelude.{prelude_names}
use Rattle.abs_prelude.proofs.text.add_names.Given as goal

-- the names so far are added
abbrev pub invariant-loop-index : goal.invariant-loop-index
invariant-loop-index l =
    (l.symbols ≡ fold with_name l.initial.symbols (take l.index prelude_names)) × (length l.symbols ≤ table_limit)
