use Rattle.std.proofs.Common.{◌≡◌, ◌∙◌, true, not, refl, ap, subst, nat_eq}
use Rattle.std.specs.List.{list_any}
use Rattle.std.proofs.lemmas.List.{drop_more}
use Rattle.indexmap.specs.IndexSet.{insert_key}
use Rattle.abs_tree.specs.Names.{number_of_name, name_of}
use Rattle.abs_names.specs.Visible.{Names}
use Rattle.abs_names.proofs.RepeatLemmas.{repeated_step}
use Rattle.abs_names.proofs.walk.Walk.note_repeated.Goals as goal
use Rattle.std.proofs.Math.Bool.{not-not}

pub loop-one-preserved : goal.loop-one-preserved
loop-one-preserved c =
    let numbers = c.loop-one.seen.keys in
    let symbol = c.kept-name.result in
    let number = subst (λ (ns : Names). c.number.result ≡ number_of_name ns.after (name_of ns.after symbol))
    c.around-in-loop-one.ensures.names c.number.ensures in
    repeated_step _ symbol (not c.in_ok-is_new.is_new) c.loop-one.invariant
    (drop_more c.args.declared.now c.loop-one.one-index _ c.loop-one-test.true)
    c.around.ensures.names c.kept-name.ensures
    (c.in_ok-is_new.ensures.keys ∙ ap (insert_key nat_eq numbers) number)
    (ap not c.in_ok-is_new.ensures.added
    ∙ (not-not (list_any (nat_eq c.number.result) numbers) ∙ ap (λ n. list_any (nat_eq n) numbers) number))
    c.note_if.ensures refl
