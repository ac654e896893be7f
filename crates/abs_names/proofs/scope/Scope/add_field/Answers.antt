use Rattle.std.proofs.Common.{Ok, ap}
use Rattle.abs_tree.specs.SyntaxViews.{variable_tree}
use Rattle.abs_tree.specs.declared.syntax.variable.Variable.TheVariants.{Field}
use Rattle.abs_names.specs.Scopes.{Scope, Meanings}
use Rattle.abs_program.specs.KeptSpaces.{named}
use Rattle.abs_names.specs.Visible.{binding_tree}
use Rattle.abs_names.proofs.SpaceLemmas.{proper_first, named_first}
use Rattle.abs_names.proofs.scope.Scope.add_field.Goals as goal

pub invariant_of-self-2 : goal.invariant_of-self-2
invariant_of-self-2 c = (
  proper_first c.self.inside.around.names.after c.self.inside.fields c.push_first.new.self c.number.result
      c.kept-name.result (Field c.args.index) c.push_first.result c.push_first.ensures.added c.push_first.ensures.err
      c.number.ensures c.self.invariant.0,
  c.self.invariant.1,
  c.self.invariant.2,
)

pub returns-clause-scope : goal.returns-clause-scope
returns-clause-scope c =
    let names = c.self.inside.around.names.after in
    let scope : Meanings → Scope = λ fields. record {
      around = c.self.inside.around.around;
      routine = c.self.inside.routine;
      fields = fields;
      variables = named names (binding_tree names) c.self.inside.variables;
    } in
    rw (← c.self.view_is) (ap scope (named_first {E = Unit} names (variable_tree names) c.self.inside.fields
    c.push_first.new.self c.number.result c.kept-name.result _ (Field c.args.index) (Ok c.in_ok-push_first.field-0)
    c.in_ok-push_first.ensures.added c.number.ensures c.kept-name.ensures c.self.invariant.0))
