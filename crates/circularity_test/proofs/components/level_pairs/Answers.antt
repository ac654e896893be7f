-- The pairs so far that stay in a component, one by one.
use Rattle.std.proofs.Common.{◌∙◌, ◌++◌, ◌+◌, ◌∷◌, ◌≤◌, ◌<◌, [], ap, sym, subst}
use Rattle.std.specs.List.Sorted.{IsStrictlySortedBy}
use Rattle.std.proofs.lemmas.List.Kept.{IsStrictlySortedBy-filter}
use Rattle.std.proofs.lemmas.Option.{same_Some}
use Rattle.abs_graph.specs.Graphs.{HasNodes}
use Rattle.abs_graph.specs.Views.{graph_of}
use Rattle.abs_program.specs.NamedViews.{program_tree}
use Rattle.circularity_test.proofs.ComponentLemmas.{LevelSoFar, edge_rises, level_all, level_less, level_more, level_test, rows_have_nodes}
use Rattle.circularity_test.proofs.NumberLemmas.{numbers_of, numbers_rise}
use Rattle.circularity_test.proofs.components.level_pairs.Goals.{in-Some+in_ok-push+in_ok-push-2, in_default}
use Rattle.circularity_test.proofs.components.level_pairs.Goals as goal
use Rattle.circularity_test.specs.Components.{HasRows, component_at}
use Rattle.circularity_test.specs.Numbers.{is_level}
use Rattle.contract_terms.specs.Pairs.{pair_order}
use Rattle.contract_terms.specs.declared.pair.Pair.{Pair}
use Rattle.list_facts.proofs.EntryLemmas.{slice_get-there}

pub components_of-requires : goal.components_of-requires
components_of-requires c =
    subst (λ rows. HasNodes (graph_of rows)) (sym c.as_slice.ensures.value)
    (rows_have_nodes (graph_of c.in_ok-rows_of.field-0.items) c.in_ok-rows_of.ensures.inside)

pub loop-index-preserved : goal.loop-index-preserved
loop-index-preserved c =
    let parts = c.in_ok-parts.parts in
    let numbers = c.in_ok-found.found.numbers.items in
    let list = c.args.list.now in
    let index = c.loop-index.index in
    let at = slice_get-there list index
    (subst (λ count. index < count) c.len-index-end.ensures.count c.loop-index-test.true) in
    let test = c.component_at.ensures
    ∙ (ap (λ edges. component_at numbers edges index) c.as_slice-in-loop-index.ensures.value
    ∙ level_test parts numbers c.len-count.ensures.unique index at.0 (c.in_ok-parts.ensures.own index at.0 at.1)) in
    elim c.match-component_at.branch [
      | in-Some+in_ok-push+in_ok-push-2 w ↦
          level_more (numbers_of parts.parts.keys numbers) list index at.0 at.1 c.component_at.result test
          c.loop-index.pairs.items c.match-component_at.pairs.items c.loop-index.components.items
          c.match-component_at.components.items w.in-Some.component w.in-Some.is
          (ap (λ it. it.items) w.pairs-is ∙ (w.in_ok-push.ensures.items
          ∙ ap (λ (it : Pair). c.loop-index.pairs.items ++ it ∷ []) (w.copied.ensures
          ∙ same_Some w.at.result.now at.0 (sym w.at.ensures ∙ at.1))))
          (ap (λ it. it.items) w.components-is ∙ w.in_ok-push-2.ensures.items) c.loop-index.invariant
      | in_default w ↦
          subst (λ pairs. LevelSoFar (numbers_of parts.parts.keys numbers) list (index + 1) pairs
          c.match-component_at.components.items) (sym (ap (λ it. it.items) w.pairs-is))
          (subst (LevelSoFar (numbers_of parts.parts.keys numbers) list (index + 1) c.loop-index.pairs.items)
          (sym (ap (λ it. it.items) w.components-is))
          (level_less (numbers_of parts.parts.keys numbers) list index at.0 at.1 c.component_at.result test
          c.loop-index.pairs.items c.loop-index.components.items w.in_default.is c.loop-index.invariant))
    ]

pub invariant_of-result : goal.invariant_of-result
invariant_of-result c =
    let numbers = numbers_of c.in_ok-parts.parts.parts.keys c.in_ok-found.found.numbers.items in
    subst (IsStrictlySortedBy pair_order)
    (sym (level_all numbers c.args.list.now c.loop-index.index c.loop-index.pairs.items c.loop-index.components.items
    (subst (λ count. count ≤ c.loop-index.index) c.len-index-end.ensures.count c.loop-index-test.false)
    c.loop-index.invariant))
    (IsStrictlySortedBy-filter pair_order (is_level numbers) c.args.list.now c.len-index-end.ensures.rises)

pub returns : goal.returns
returns c =
    let parts = c.in_ok-parts.parts in
    let found = c.in_ok-found.found in
    let numbers = numbers_of parts.parts.keys found.numbers.items in
    let rows : HasRows parts (graph_of found.graph.items) =
    subst (HasRows parts) (sym (c.in_ok-found.ensures ∙ ap graph_of c.as_slice.ensures.value)) c.in_ok-rows_of.ensures in
    record {
      numbers = numbers;
      rising = numbers_rise (program_tree c.args.program.now.checked.named) c.args.list.now parts c.in_ok-parts.ensures
          found.numbers.items
          (edge_rises parts (graph_of found.graph.items) found.roots.items found.numbers.items rows found.are
          c.len-count.ensures.unique) c.len-count.ensures.unique;
      pairs_are = level_all numbers c.args.list.now c.loop-index.index c.loop-index.pairs.items
          c.loop-index.components.items
          (subst (λ count. count ≤ c.loop-index.index) c.len-index-end.ensures.count c.loop-index-test.false)
          c.loop-index.invariant;
      components_are = c.loop-index.invariant.components_are;
    }
