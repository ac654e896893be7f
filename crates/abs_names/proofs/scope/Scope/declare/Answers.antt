use Rattle.std.proofs.Common.{◌≡◌, ◌+◌, ap, arith}
use Rattle.std.proofs.lemmas.Result.{on_ok_weaker}
use Rattle.abs_tree.specs.Names.{name_of}
use Rattle.abs_tree.specs.SyntaxViews.{variable_tree}
use Rattle.abs_names.specs.Numbered.{is_bound, bound_up_to}
use Rattle.abs_names.specs.Scopes.{Meanings}
use Rattle.abs_program.specs.KeptSpaces.{named}
use Rattle.abs_names.specs.Visible.{binding_tree}
use Rattle.abs_names.specs.declared.scope.Binding.{Binding}
use Rattle.abs_names.proofs.ScopeLemmas.{proper_added, named_added, counted_added}
use Rattle.abs_names.proofs.scope.Scope.declare.Goals as goal

pub invariant_of-self : goal.invariant_of-self
invariant_of-self c =
    let known = c.self.inside.variables in
    let binding : Binding = record { variable = c.args.variable; bound = c.in-Some.bound } in
    let counted : binding.bound ≡ is_bound binding.variable + bound_up_to known =
    omega (arith, c.in-Some.ensures.1, c.bound_in.ensures, c.is_bound.ensures) in (
      c.self.invariant.0,
      proper_added c.self.inside.around.names.after known c.push.new.self c.number.result c.kept-name.result binding
          c.push.result c.push.ensures.added c.push.ensures.err c.number.ensures c.self.invariant.1,
      counted_added known c.push.new.self c.number.result binding c.push.result c.push.ensures.added
          c.push.ensures.err counted c.self.invariant.2,
    )

pub returns-clause-scope : goal.returns-clause-scope
returns-clause-scope c =
    let names = c.self.inside.around.names.after in
    let is : name_of names c.kept-name.result ≡ name_of c.self.inside.around.names.before c.args.name =
    c.kept-name.ensures in
    rw (← c.self.view_is, ← is) (on_ok_weaker c.push.result (λ e. ap (λ (variables : Meanings). record {
      around = c.self.inside.around.around;
      routine = c.self.inside.routine;
      fields = named names (variable_tree names) c.self.inside.fields;
      variables = variables;
    }) e)
    (named_added names (binding_tree names) c.self.inside.variables c.push.new.self c.number.result c.kept-name.result _
    c.push.result c.push.ensures.added c.number.ensures))
