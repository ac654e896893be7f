use Rattle.std.proofs.Common.{◌++◌, map}
use Rattle.std.proofs.lemmas.Result.{on_ok_weaker}
use Rattle.abs_tree.specs.Names.{name_of}
use Rattle.abs_tree.specs.SyntaxViews.{member_tree, param_tree}
use Rattle.abs_types.proofs.KeepLemmas.{keeps_transitive}
use Rattle.abs_types.specs.Schemes.{param_types}
use Rattle.abs_types.specs.TypeOffences.{field_types, members_offences}
use Rattle.abs_types.specs.TypeTables.{Keeps}
use Rattle.check_obj.proofs.ProgramLemmas.{noted_own}
use Rattle.check_obj.proofs.ResultLemmas.{passed_noted}
use Rattle.check_obj.proofs.program.class.Goals as goal

pub class_members-requires : goal.class_members-requires
class_members-requires c =
    rw (c.note_if.ensures.stays.keeps.program_is, c.as_slice-2.ensures.value) (rw c.in-Class.is at c.requires.slots)

pub returns-clause-noted : goal.returns-clause-noted
returns-clause-noted c =
    let reported = c.in_ok-meets.ensures _ _ _ _ _ (rw c.in-Class.is at c.requires.there) in
    let missing = rw reported at c.note_if.ensures.noted in
    let members = noted_own c.args.checker.now c.note_if.new.self _ c.class_members.result
    (λ names declarations. members_offences declarations (name_of names c.in-Class.name.name)
    (param_types (map (param_tree names) c.as_slice.result.now)
    ++ field_types (map (member_tree names) c.as_slice-2.result.now))
    (param_types (map (param_tree names) c.as_slice.result.now)) (map (member_tree names) c.as_slice-2.result.now))
    c.note_if.ensures.stays.keeps c.class_members.ensures.noted in
    let given = rw (c.as_slice.ensures.value, c.as_slice-2.ensures.value) at members in
    rw c.in-Class.is (passed_noted c.class_members.result _ _ _ missing given)

pub returns-clause-keeps : goal.returns-clause-keeps
returns-clause-keeps c =
    on_ok_weaker c.class_members.result
    (λ (keeps : Keeps c.note_if.new.self.table c.class_members.new.checker.table).
    keeps_transitive c.note_if.ensures.stays.keeps keeps)
    c.class_members.ensures.keeps
