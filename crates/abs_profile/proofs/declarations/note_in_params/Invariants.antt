use Rattle.std.proofs.Common.{List, map}
use Rattle.std.specs.List.{flat_map}
use Rattle.abs_tree.specs.Syntax.{Name}
use Rattle.abs_tree.specs.SyntaxViews.{param_tree}
use Rattle.abs_profile.proofs.NotedLemmas.{NotedSoFar}
use Rattle.abs_profile.specs.Profile.{param_offences}
use Rattle.abs_profile.proofs.declarations.note_in_params.Given as goal

-- the offences of the parameters so far are noted
abbrev pub invariant-loop-param : goal.invariant-loop-param
invariant-loop-param l =
    (names : List Name) → NotedSoFar (λ items. flat_map param_offences (map (param_tree names) items)) l.params
    l.param-index l.fn.first l.first
