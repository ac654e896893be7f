use Rattle.std.proofs.Common.{◌-◌, length}
use Rattle.abs_program.specs.Instructions.{instructions}
use Rattle.abs_program.specs.NamedViews.{named_tree}
use Rattle.contract_infer.proofs.MadeLemmas.{MadeSoFar}
use Rattle.contract_infer.proofs.made.classes_made.Given as goal

-- the classes of the instructions so far were added
abbrev pub invariant-loop-instruction : goal.invariant-loop-instruction
invariant-loop-instruction l = MadeSoFar l.program.symbols (named_tree l.program) l.index l.made.entries

-- each turn leaves one instruction less
abbrev pub decreases-loop-instruction : goal.decreases-loop-instruction
decreases-loop-instruction l = length (instructions (named_tree l.program)) - l.index
