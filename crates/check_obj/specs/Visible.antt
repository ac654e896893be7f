-- The slots that become visible in a block, and are as before after it. These words serve contracts of this crate
-- alone.
--
--   `undone`               slots, where those that became visible are as they were
--   `Undoes`               a checker whose slots are these, once that is undone
use Rattle.std.specs.Prelude.{◌≡◌, List, [], ◌∷◌, All, Option, option_map, set}
use Rattle.abs_types.specs.PlainTypes.{PlainType}
use Rattle.abs_types.specs.TypeShapes.{type_at}
use Rattle.abs_types.specs.TypeTables.{types_in}
use Rattle.check_fun.specs.Contexts.{context_in, Found}
use Rattle.check_fun.specs.declared.checker.Checker.{Checker}
use Rattle.check_obj.specs.declared.visible.Shown.{Shown}

-- slots, where those that became visible are as they were, from the last one on
abbrev pub undone : List PlainType → List Shown → List (Option PlainType) → List (Option PlainType)
undone types [] slots = slots
undone types (first ∷ others) slots =
    set (undone types others slots) first.slot (option_map (type_at types) first.was)

-- The slots of a checker are these, once all that became visible is as it was.
pub record Undoes (checker : Checker) (shown : List Shown) (slots : List (Option PlainType)) : Type 0 where
  pub among : All (λ (one : Shown). Found checker one.was) shown
  pub is : undone (types_in checker.table) shown (context_in checker).frame.slots ≡ slots
