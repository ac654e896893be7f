use Rattle.std.proofs.Common.{◌++◌, not, Option, OnOk, refl, subst}
use Rattle.abs_tree.specs.SyntaxPlaces.{expr_place}
use Rattle.abs_tree.specs.SyntaxViews.{expr_tree}
use Rattle.abs_tree.specs.declared.refusal.Code.TheVariants.{T5}
use Rattle.abs_tree.specs.Offences.{offence_if}
use Rattle.abs_types.specs.StatementOffences.{asked_offences, result_offences}
use Rattle.abs_types.specs.PlainTypes.{PlainType}
use Rattle.abs_types.specs.TypeShapes.{type_at}
use Rattle.abs_types.specs.TypeTables.{types_in}
use Rattle.check_fun.proofs.ContextLemmas.{knows_stays, stays_transitive}
use Rattle.check_fun.specs.Contexts.{Noted}
use Rattle.check_obj.proofs.ResultLemmas.{passed_noted, passed_stays}
use Rattle.check_obj.specs.Bodies.{unbound}
use Rattle.check_obj.proofs.statements.returned.Goals as goal

pub returns-in-Some-clause-noted : goal.returns-in-Some-clause-noted
returns-in-Some-clause-noted c context knows =
    let later = knows_stays c.note_if.ensures.stays knows in
    let finds = c.in-Some.ensures (unbound context) later in
    let gives = type_at (types_in c.note_if.new.self.table) c.in-Some.gives in
    let value = expr_tree context.names c.args.value.now in
    let noted = c.asked.ensures.noted (unbound context) gives later
    (record { found_is = finds.found_is; is = refl }) in
    subst (λ (task : Option PlainType). OnOk c.asked.result (Noted c.args.checker.now.first
    (offence_if (not c.args.is_last) T5 c.args.place
    ++ result_offences context.declarations context.frame value task) c.asked.new.self.first)) finds.is
    (passed_noted c.asked.result c.asked.new.self.first (offence_if (not c.args.is_last) T5 c.args.place)
    (asked_offences context.declarations context.frame value gives (expr_place value)) c.note_if.ensures.noted
    (rw (c.place.ensures context.names) at noted))

pub returns-in-Some-clause-stays : goal.returns-in-Some-clause-stays
returns-in-Some-clause-stays c =
    passed_stays c.asked.result c.asked.new.self c.note_if.ensures.stays c.asked.ensures.stays

pub returns-in-None-clause-stays : goal.returns-in-None-clause-stays
returns-in-None-clause-stays c = stays_transitive c.note_if.ensures.stays c.note_if-in-None.ensures.stays
