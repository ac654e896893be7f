-- The types of `destiny` and of `this`.
--
--   `task_found`                       the result type of the task
--   `future_found`, `no_future`        `Fut` of it
--   `class_found`, `no_class`          an object of the class of `this`
use mathlib.Core.Logic.{∥∥₁_elim}
use Rattle.std.proofs.Common.{◌≡◌, Some, None, Option, refl, sym, ap, ◌∙◌, subst, option_map}
use Rattle.abs_tree.specs.Names.{name_of}
use Rattle.abs_tree.specs.Syntax.{Name}
use Rattle.abs_tree.specs.declared.symbol.Symbol.{Symbol}
use Rattle.abs_types.specs.PlainTypes.{PlainClass, PlainFut, PlainType}
use Rattle.abs_types.specs.TypeShapes.{type_at}
use Rattle.abs_types.specs.TypeTables.{types_in}
use Rattle.abs_types.specs.declared.table.shape.TypeIndex.{TypeIndex}
use Rattle.check_fun.proofs.FoundLemmas.{finds_none}
use Rattle.check_fun.proofs.MethodLemmas.{this_known}
use Rattle.check_fun.specs.Contexts.{context_in, Context, Finds, Knows}
use Rattle.check_fun.specs.declared.checker.Checker.{Checker}
use Rattle.abs_types.proofs.MemoryLemmas.{among-prop}

-- the result type of the task, as the checker knows it
pub task_found : {checker : Checker} {context : Context} → Knows checker context
    → Finds checker checker.task context.frame.task
unfolding context_in
task_found {checker} knows = record {
  found_is = record {
    among = ∥∥₁_elim checker.task_is (among-prop (types_in checker.table) checker.task)
        (λ among. among);
  };
  is = ap (λ (known : Context). known.frame.task) knows.is;
}

-- `Fut` of the result type of the task
pub future_found : {before now : Checker} {context : Context} {result found : TypeIndex}
    → before.task ≡ Some result → Knows before context
    → ((type : PlainType) → Finds before (Some result) (Some type) → Finds now (Some found) (Some (PlainFut type)))
    → Finds now (Some found) (option_map PlainFut context.frame.task)
future_found {before} {now} {context} {result} {found} there knows finds =
    let task = subst (λ (one : Option TypeIndex). Finds before one context.frame.task) there (task_found knows) in
    subst (λ (type : Option PlainType). Finds now (Some found) (option_map PlainFut type)) task.is
    (finds (type_at (types_in before.table) result) (record { found_is = task.found_is; is = refl }))

-- outside of a task there is none
pub no_future : {checker : Checker} {context : Context} → checker.task ≡ None → Knows checker context
    → Finds checker None (option_map PlainFut context.frame.task)
no_future {checker} {context} none knows =
    subst (λ (type : Option PlainType). Finds checker None (option_map PlainFut type))
    (ap (option_map (type_at (types_in checker.table))) (sym none) ∙ (task_found knows).is) finds_none

-- an object of the class of `this`
pub class_found : {before now : Checker} {context : Context} {class : Symbol} {found : TypeIndex}
    → before.this ≡ Some class → Knows before context
    → Finds now (Some found) (Some (PlainClass (name_of context.names class)))
    → Finds now (Some found) (option_map PlainClass context.frame.this)
class_found {before} {now} {context} {class} {found} there knows finds =
    subst (λ (name : Option Name). Finds now (Some found) (option_map PlainClass name))
    (ap (option_map (name_of context.names)) (sym there) ∙ sym (this_known context knows)) finds

-- outside of a class there is none
pub no_class : {checker : Checker} {context : Context} → checker.this ≡ None → Knows checker context
    → Finds checker None (option_map PlainClass context.frame.this)
no_class {checker} {context} none knows =
    subst (λ (name : Option Name). Finds checker None (option_map PlainClass name))
    (ap (option_map (name_of context.names)) (sym none) ∙ sym (this_known context knows)) finds_none
