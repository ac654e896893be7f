use Rattle.std.proofs.Common.{◌-◌, ◌∙◌, sym, ap, subst, length}
use Rattle.abs_tree.specs.SyntaxViews.{variable_tree}
use Rattle.abs_names.specs.Numbered.{EndsIn}
use Rattle.abs_names.specs.Scopes.{Meanings}
use Rattle.abs_program.specs.KeptSpaces.{named}
use Rattle.abs_names.specs.Visible.{Visible, binding_tree}
use Rattle.abs_names.proofs.ScopeLemmas.{proper_older, counted_older, named_rest}
use Rattle.abs_names.proofs.scope.Scope.leave.Goals as goal

pub invariant_of-self : goal.invariant_of-self
invariant_of-self c =
    let known = c.self.inside.variables in
    let taken = length known - c.args.count in (
      c.self.invariant.0,
      rw c.shorten.ensures (proper_older c.self.inside.around.names.after taken known c.self.invariant.1),
      rw c.shorten.ensures (counted_older taken known c.self.invariant.2),
    )

pub returns-clause-scope : goal.returns-clause-scope
returns-clause-scope c = λ older ends is.
    let names = c.self.inside.around.names.after in
    let still = subst (λ (v : Visible). EndsIn v.scope.variables older) (sym c.self.view_is) ends in
    rw (← c.self.view_is) (ap (λ (variables : Meanings). record {
      around = c.self.inside.around.around;
      routine = c.self.inside.routine;
      fields = named names (variable_tree names) c.self.inside.fields;
      variables = variables;
    })
    (ap (named names (binding_tree names)) c.shorten.ensures
    ∙ named_rest names (binding_tree names) c.self.inside.variables older c.args.count still is))
