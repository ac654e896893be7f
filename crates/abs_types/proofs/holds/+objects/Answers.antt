use Rattle.abs_types.proofs.holds.+objects.Goals as goal
use Rattle.abs_tree.proofs.FormLemmas.{data_tree}

pub holds_objects-returns-else-data_holds : goal.holds_objects-returns-else-data_holds
holds_objects-returns-else-data_holds t c =
    rw (
      data_tree c.args.program.now.symbols _ _ _ c.in-Data.arguments _ c.in-Data.is c.deref.ensures.value,
      ← c.data_holds.ensures,
      c.if-data_holds.false,
    ) c.any_holds_objects.ensures
