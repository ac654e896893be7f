-- What was found where a checker knows a context, and where variables were bound for a while.
--
--   `finds_none`, `finds_own`          where no index is found there is no type, and an index stands for its own type
--   `finds_all_none`, `finds_all_own`  the same of several indices
--   `knows_own`                        a checker knows its own context
--   `keeps_same`                       a table keeps what it has, if it is the same
--   `bound_count`                      how many variables are bound
--   `bound_stays`                      a checker stays, if the variables that were bound are left
use Rattle.std.proofs.Common.{◌≡◌, ℕ, List, None, Option, length, refl, sym, ap, ◌∙◌, subst, option_map, Some, []}
use Rattle.std.proofs.lemmas.List.{length-map}
use Rattle.abs_types.proofs.KeepLemmas.{keeps_reflexive, keeps_transitive}
use Rattle.abs_types.specs.PlainTypes.{PlainType}
use Rattle.abs_types.specs.TypeShapes.{type_at, types_at, IsAmong}
use Rattle.abs_types.specs.TypeTables.{types_in, Keeps}
use Rattle.abs_types.specs.declared.table.TypeTable.{TypeTable}
use Rattle.abs_types.specs.declared.table.shape.TypeIndex.{TypeIndex}
use Rattle.check_fun.proofs.ContextLemmas.{knows_stays}
use Rattle.check_fun.specs.Contexts.{context_in, with_bound, Context, Finds, Found, Knows, Stays, FoundAll, FindsAll}
use Rattle.check_fun.specs.declared.checker.Checker.{Checker}
use Rattle.std.proofs.lemmas.List.Elements.{All-nil}

-- where no index is found, there is no type
pub finds_none : {checker : Checker} → Finds checker None None
finds_none = record { found_is = record { among = tt }; is = refl }

-- an index that is found stands for its own type
pub finds_own : {checker : Checker} {found : Option TypeIndex} → Found checker found
    → Finds checker found (option_map (type_at (types_in checker.table)) found)
finds_own there = record { found_is = there; is = refl }

-- a checker knows its own context
pub knows_own : {checker : Checker} → Knows checker (context_in checker)
knows_own = record { is = refl }

-- a table keeps what it has, if it is the same
pub keeps_same : {before now : TypeTable} → now ≡ before → Keeps before now
keeps_same {before} same = subst (λ (table : TypeTable). Keeps before table) (sym same) keeps_reflexive

-- there are as many bound variables as the checker knows types of
pub bound_count : {checker : Checker} {context : Context} → Knows checker context
    → length checker.bound.items ≡ length context.bound
unfolding context_in
bound_count {checker} knows =
    sym (length-map checker.bound.items (option_map (type_at (types_in checker.table))))
    ∙ ap (λ (known : Context). length known.bound) knows.is

-- a checker stays, if variables are bound, something else is checked, and they are left
pub bound_stays : {before bound inside left : Checker} {count : ℕ} {types : Context → List (Option PlainType)}
    → count ≡ length before.bound.items
    → ((context : Context) → Knows before context → Knows bound (with_bound context (types context)))
    → Keeps before.table bound.table → Stays bound inside
    → ((context : Context) (leaves : List (Option PlainType)) → Knows inside (with_bound context leaves)
    → count ≡ length context.bound → Knows left context)
    → left.table ≡ inside.table → Stays before left
bound_stays {before} {types = types} counted binds keeps stays leaves same =
    let context = context_in before in
    record {
      context_is = (leaves context (types context) (knows_stays stays (binds context knows_own))
          (counted ∙ bound_count knows_own)).is;
      keeps = keeps_transitive keeps (keeps_transitive stays.keeps (keeps_same same));
    }

-- several indices stand for their own types
pub finds_all_own : {checker : Checker} {items : List TypeIndex} → FoundAll checker (Some items)
    → FindsAll checker (Some items) (Some (types_at (types_in checker.table) items))
finds_all_own found = record { found_are = found; are = refl }

-- no indices stand for no types
pub finds_all_none : {checker : Checker} → FindsAll checker (Some []) (Some [])
finds_all_none {checker} = record {
  found_are = record { among = All-nil (IsAmong (types_in checker.table)) };
  are = refl;
}
