-- Types where they are in the tree of the code, and a walk that adds those of slots.
--
--   `type_trees_at`                    the trees of types
--   `maybe_type`, `maybe_types`        that of a type that may be missing, and of several
--   `Adds`                             a walk added types
use Rattle.std.specs.Prelude.{◌≡◌, false, List, ◌++◌, map, Option, option_map}
use Rattle.abs_tree.specs.Syntax.{Name, TypeTree}
use Rattle.abs_tree.specs.SyntaxViews.{type_tree}
use Rattle.abs_tree.specs.declared.syntax.types.TypeTerm.{TypeTerm}
use Rattle.contract_infer.specs.declared.declared_types.Slots.{Slots}
use denote.Ref.{Bor}

-- the trees of types
abbrev pub type_trees_at : List Name → List (Bor TypeTerm) → List TypeTree
type_trees_at names types = map (λ (one : Bor TypeTerm). type_tree names one.now) types

-- the tree of a type that may be missing
abbrev pub maybe_type : List Name → Option (Bor TypeTerm) → Option TypeTree
maybe_type names type = option_map (λ (one : Bor TypeTerm). type_tree names one.now) type

-- those of several
abbrev pub maybe_types : List Name → List (Option (Bor TypeTerm)) → List (Option TypeTree)
maybe_types names types = map (maybe_type names) types

-- A walk added types. Unless an allocation has failed, none had failed before, and the types follow those before.
pub record Adds (names : List Name) (types : List (Option TypeTree)) (before now : Slots) : Type 0 where
  pub succeeded : now.failed ≡ false → before.failed ≡ false
  pub added : now.failed ≡ false
      → maybe_types names now.types.items ≡ maybe_types names before.types.items ++ types
