use Rattle.std.proofs.Common.{Some, map}
use Rattle.std.specs.List.{range_with_len}
use Rattle.abs_tree.specs.Names.{name_of}
use Rattle.abs_types.specs.PlainTypes.{PlainData, PlainParameter, applied_to}
use Rattle.check_fun.proofs.SchemeLemmas.{SoFar}
use Rattle.check_fun.specs.Contexts.{Context, Finds}
use Rattle.check_fun.proofs.checker.Checker.own_type.Given as goal

abbrev pub invariant-loop-index : goal.invariant-loop-index
invariant-loop-index l = SoFar l.fn.self l.self (λ (context : Context). Finds l.self (Some l.found)
    (Some (applied_to (PlainData (name_of context.names l.fn.owner)) (map PlainParameter (range_with_len 0 l.index)))))
