use Rattle.std.proofs.Common.{◌≡◌, ◌∙◌, sym, ap}
use Rattle.std.specs.Prelude.{None, option_map}
use Rattle.abs_tree.specs.SyntaxViews.{variable_tree}
use Rattle.abs_tree.specs.Names.{name_of}
use Rattle.abs_program.specs.Tables.{meaning_of}
use Rattle.abs_names.specs.Scopes.{visible_field, field_of}
use Rattle.abs_names.specs.declared.scope.Routine.{Routine}
use Rattle.abs_names.specs.Visible.{Visible}
use Rattle.abs_names.proofs.ScopeLemmas.{use_of_field}
use Rattle.abs_names.proofs.scope.Scope.use_of.Goals as goal

pub returns-in-None : goal.returns-in-None
returns-in-None c =
    let now = c.args.self.now in
    let name = name_of now.names.before c.args.name in
    let none : meaning_of now.scope.variables name ≡ None =
    sym c.variable.ensures ∙ ap (option_map (variable_tree now.names.after)) c.in-None.is in
    c.visible_field.ensures now.names.after
    ∙ (ap (visible_field c.self.inside.routine) c.field_of.ensures
    ∙ (ap (λ (routine : Routine). visible_field routine (field_of now.scope name))
    (ap (λ (v : Visible). v.scope.routine) c.self.view_is)
    ∙ sym (use_of_field now.scope name none)))
