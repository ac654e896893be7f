use Rattle.std.proofs.Common.{◌∙◌, sym, ap, Some}
use Rattle.abs_tree.specs.Names.{name_of}
use Rattle.abs_program.specs.NamedViews.{named_tree}
use Rattle.abs_tree.specs.SyntaxViews.{type_tree, type_trees}
use Rattle.abs_tree.specs.declared.syntax.types.TypeTerm.{TypeTerm}
use Rattle.abs_types.proofs.ArgumentLemmas.{names_no_join, data_joined, lengths_no_joins, joined_step}
use Rattle.abs_types.proofs.JoinFormLemmas.{future_no_join, future_joined}
use Rattle.abs_types.proofs.JoinLemmas.{join_of_fitting, join_of_greater}
use Rattle.abs_types.proofs.NamedLemmas.{none_extends_itself}
use Rattle.abs_types.proofs.TermLemmas.{plain_data, plain_data_at, plain_new_data}
use Rattle.abs_types.specs.PlainTypes.{PlainFut, plain, plains}
use Rattle.abs_types.proofs.joins.+joins.Goals as goal

pub join-returns-then-subtype : goal.join-returns-then-subtype
join-returns-then-subtype t c =
    ap (λ tree. Some (plain tree)) (c.in_ok-copied.ensures c.args.program.now.symbols)
    ∙ sym (join_of_fitting (named_tree c.args.program.now).declarations _ _ (sym c.if-subtype.ensures))

pub join-returns-then-subtype-2 : goal.join-returns-then-subtype-2
join-returns-then-subtype-2 t c =
    ap (λ tree. Some (plain tree)) (c.in_ok-copied-2.ensures c.args.program.now.symbols)
    ∙ sym (join_of_greater (named_tree c.args.program.now).declarations _ _ (sym c.if-subtype.ensures)
    (sym c.if-subtype-2.ensures))

pub data_join-returns-in-Unresolved : goal.data_join-returns-in-Unresolved
data_join-returns-in-Unresolved t c = λ apart back.
    rw (plain_data c.args.program.now.symbols c.in-Unresolved.others c.in-Unresolved.is c.deref.ensures.value)
    c.applied_join.ensures

pub applied_join-returns-then-not-same_name : goal.applied_join-returns-then-not-same_name
applied_join-returns-then-not-same_name t c =
    let names = c.args.program.now.symbols in
    names_no_join (named_tree c.args.program.now).declarations (name_of names c.args.name)
    (name_of names c.args.other_name) (plains (type_trees names c.args.arguments.now))
    (plains (type_trees names c.args.others.now)) (none_extends_itself c.args.program.now) c.if-not-same_name.ensures

pub applied_join-returns-in-Some : goal.applied_join-returns-in-Some
applied_join-returns-in-Some t c =
    let names = c.args.program.now.symbols in
    let joined = rw c.in-Some.is at c.in_ok-arguments.ensures in
    ap Some (plain_new_data names c.args.place c.args.name c.in-Some.arguments)
    ∙ data_joined (named_tree c.args.program.now).declarations _ _ _ _ (none_extends_itself c.args.program.now)
    c.if-not-same_name.ensures joined

pub applied_join-returns-in-None : goal.applied_join-returns-in-None
applied_join-returns-in-None t c =
    let joined = rw c.in-None.is at c.in_ok-arguments.ensures in
    data_joined (named_tree c.args.program.now).declarations _ _ _ _ (none_extends_itself c.args.program.now)
    c.if-not-same_name.ensures joined

pub future_join-returns-in_default : goal.future_join-returns-in_default
future_join-returns-in_default t c =
    future_no_join (named_tree c.args.program.now).declarations _ c.args.program.now.symbols c.args.right.now
    c.in_default.not-Fut c.requires.left c.requires.right

pub future_join-returns-in_ok-new-in-Some : goal.future_join-returns-in_ok-new-in-Some
future_join-returns-in_ok-new-in-Some t c =
    let names = c.args.program.now.symbols in
    let joined = rw (c.in-Some.is, c.deref.ensures) at c.in_ok-joined.ensures in
    ap (λ (term : TypeTerm). Some (PlainFut (plain (type_tree names term)))) c.in_ok-new-in-Some.ensures.ok
    ∙ future_joined (named_tree c.args.program.now).declarations names _ c.in-Fut.other _
    (none_extends_itself c.args.program.now) c.in-Fut.is joined

pub future_join-returns-in-None : goal.future_join-returns-in-None
future_join-returns-in-None t c =
    let joined = rw (c.in-None.is, c.deref.ensures) at c.in_ok-joined.ensures in
    future_joined (named_tree c.args.program.now).declarations c.args.program.now.symbols _ c.in-Fut.other _
    (none_extends_itself c.args.program.now) c.in-Fut.is joined

pub join-returns-in-Unresolved : goal.join-returns-in-Unresolved
join-returns-in-Unresolved t c =
    let tree = plain_data_at c.args.program.now.symbols c.in-Unresolved.arguments c.in-Unresolved.is
    c.deref-in-Unresolved.ensures.value in
    rw tree (c.data_join.ensures (rw tree at (sym c.if-subtype.ensures)) (rw tree at (sym c.if-subtype-2.ensures)))

pub join_arguments-returns-then-left-right : goal.join_arguments-returns-then-left-right
join_arguments-returns-then-left-right t c =
    lengths_no_joins (named_tree c.args.program.now).declarations c.args.program.now.symbols c.args.left.now
    c.args.right.now c.if-left-right.true

pub join_arguments-loop-index-preserved : goal.join_arguments-loop-index-preserved
join_arguments-loop-index-preserved t c =
    joined_step c.index-left-index.result c.index-right-index.result c.in-Some.joined c.loop-index.invariant
    c.loop-index-test.true c.index-left-index.is c.if-left-right.false c.index-right-index.is
    c.in_ok-push-in-Some.ensures.items (rw c.in-Some.is at c.in_ok-joined.ensures)
