use Rattle.std.proofs.Common.{◌≡◌, ◌∙◌, ap, subst}
use Rattle.std.specs.Prelude.{option_map}
use Rattle.abs_tree.specs.Names.{name_of}
use Rattle.abs_program.specs.Numbered.{looked_up}
use Rattle.abs_tree.specs.SyntaxViews.{variable_tree}
use Rattle.abs_program.specs.Tables.{meaning_of}
use Rattle.abs_names.specs.Scopes.{field_of}
use Rattle.abs_program.specs.KeptSpaces.{named}
use Rattle.abs_names.specs.Visible.{Visible}
use Rattle.abs_program.proofs.KeptSpaceLemmas.{looked_up-named}
use Rattle.abs_names.proofs.scope.Scope.field_of.Goals as goal

pub returns : goal.returns
returns c =
    let names = c.self.inside.around.names.after in
    let known = c.self.inside.fields in
    let tree = variable_tree names in
    subst (λ (v : Visible). option_map (variable_tree v.names.after) c.look_up.result
    ≡ field_of v.scope (name_of v.names.before c.args.name)) c.self.view_is
    (ap (option_map tree) (c.look_up.ensures ∙ ap (looked_up known) c.number.ensures)
    ∙ (looked_up-named names tree known c.kept-name.result c.self.invariant.0
    ∙ ap (meaning_of (named names tree known)) c.kept-name.ensures))
