use Rattle.abs_types.proofs.GrowthLemmas.{known_empty}
use Rattle.abs_types.proofs.TableLemmas.{types_empty}
use Rattle.abs_types.proofs.table.TypeTable.new.Goals as goal

pub invariant_of-result : goal.invariant_of-result
invariant_of-result c =
    let known = known_empty c.args.program.now.symbols _ c.new.result.entries c.new-2.result.entries
    c.new.ensures.empty c.new-2.ensures.empty in
    record {
      few_types = known.few;
      are_formed = known.formed;
      parameters_are = known.flags;
      are_remembered = known.remembered;
    }

pub returns-clause-empty : goal.returns-clause-empty
returns-clause-empty c = types_empty _ c.new.ensures.empty
