use denote.Ref.{Bor}
use Rattle.std.proofs.Common.{refl}
use Rattle.std.proofs.lemmas.Option.{same_Some}
use Rattle.abs_tree.specs.SyntaxViews.{type_tree}
use Rattle.abs_tree.specs.declared.syntax.types.TypeTerm.{TypeTerm}
use Rattle.abs_types.specs.PlainTypes.{plain}
use Rattle.check_fun.proofs.SchemeLemmas.{one_more_found, so_far_next}
use Rattle.check_fun.specs.Contexts.{context_in}
use Rattle.contract_infer.proofs.IndexLemmas.{fields_found, view_more}
use Rattle.contract_infer.proofs.indices.field_indices.Goals as goal

pub loop-term-preserved : goal.loop-term-preserved
loop-term-preserved c =
    so_far_next c.loop-term.invariant c.written.ensures.first c.written.ensures.stays
    (λ context knows before. one_more_found c.written.ensures.stays before
    (c.in_ok-written.ensures.found context knows) c.in_ok-push.ensures.items
    (view_more plain (λ (one : Bor TypeTerm). type_tree context.names one.now) c.args.types.now
    c.loop-term.term-index c.term-item.result c.loop-term-test.true c.term-item.is))

pub returns-clause-found : goal.returns-clause-found
returns-clause-found c context knows =
    same_Some _ _ (fields_found c.args.types.now c.loop-term.invariant c.loop-term-test.false context knows).are

pub returns-clause-among : goal.returns-clause-among
returns-clause-among c =
    (fields_found c.args.types.now c.loop-term.invariant c.loop-term-test.false (context_in c.args.checker.now)
    (record { is = refl })).found_are
