use Rattle.std.proofs.Common.{◌∙◌}
use Rattle.abs_tree.specs.Names.{name_of}
use Rattle.abs_names.specs.TypeNames.{class_taking}
use Rattle.abs_names.proofs.FormLemmas.{exprs_noted, in_scope}
use Rattle.abs_names.proofs.walk.Walk.creation.Goals as goal

pub returns-clause-noted : goal.returns-clause-noted
returns-clause-noted c =
    let start = c.args.self.now.scope in
    exprs_noted start c.note_applied.new.self.scope c.args.class_place c.args.arguments.now
    c.class_taking-taken.result (class_taking start.scope.around (name_of start.names.before c.args.class))
    c.args.self.now.first c.note_applied.new.self.first c.shared_exprs.new.self.first c.note_applied.ensures.scope
    (c.class_taking-taken.ensures
    ∙ in_scope (λ a ns. class_taking a (name_of ns c.args.class)) c.around.result.now start c.around.ensures.names
    c.around.ensures.around)
    c.note_applied.ensures.noted c.in_ok-shared_exprs.ensures.noted
