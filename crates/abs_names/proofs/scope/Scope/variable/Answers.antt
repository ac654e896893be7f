use Rattle.std.proofs.Common.{◌≡◌, ◌∙◌, sym, ap, subst}
use Rattle.std.specs.Prelude.{Some, None, option_map}
use Rattle.abs_tree.specs.Names.{name_of}
use Rattle.abs_program.specs.Numbered.{looked_up}
use Rattle.abs_tree.specs.SyntaxViews.{variable_tree}
use Rattle.abs_program.specs.Tables.{meaning_of}
use Rattle.abs_program.specs.KeptSpaces.{named}
use Rattle.abs_names.specs.Visible.{Visible, binding_tree}
use Rattle.abs_program.proofs.KeptSpaceLemmas.{looked_up-named}
use Rattle.abs_names.proofs.scope.Scope.variable.Goals as goal

pub returns-in-Some : goal.returns-in-Some
returns-in-Some c =
    let names = c.self.inside.around.names.after in
    let known = c.self.inside.variables in
    let tree = binding_tree names in
    subst (λ (v : Visible). Some (variable_tree v.names.after c.in-Some.binding.variable)
    ≡ meaning_of v.scope.variables (name_of v.names.before c.args.name)) c.self.view_is
    (ap (option_map tree) (sym c.in-Some.is ∙ (c.look_up.ensures ∙ ap (looked_up known) c.number.ensures))
    ∙ (looked_up-named names tree known c.kept-name.result c.self.invariant.1
    ∙ ap (meaning_of (named names tree known)) c.kept-name.ensures))

pub returns-in-None : goal.returns-in-None
returns-in-None c =
    let names = c.self.inside.around.names.after in
    let known = c.self.inside.variables in
    let tree = binding_tree names in
    subst (λ (v : Visible). None ≡ meaning_of v.scope.variables (name_of v.names.before c.args.name)) c.self.view_is
    (ap (option_map tree) (sym c.in-None.is ∙ (c.look_up.ensures ∙ ap (looked_up known) c.number.ensures))
    ∙ (looked_up-named names tree known c.kept-name.result c.self.invariant.1
    ∙ ap (meaning_of (named names tree known)) c.kept-name.ensures))
