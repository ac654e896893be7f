use Rattle.std.proofs.Common.{◌∙◌, ℕ, ap}
use Rattle.abs_tree.specs.Syntax.{AtBound}
use Rattle.abs_names.proofs.ScopeLemmas.{bound_is_count}
use Rattle.abs_names.proofs.scope.Scope.next_bound.Goals as goal

pub returns : goal.returns
returns c =
    rw (← c.self.view_is) (ap (λ (n : ℕ). AtBound n)
    (c.bound_in.ensures ∙ bound_is_count c.self.inside.around.names.after c.self.inside.variables c.self.invariant.2))
