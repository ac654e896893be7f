use Rattle.abs_types.proofs.PartLemmas.{future_unlike, applied_unlike, others_unlike}
use Rattle.abs_types.specs.TypeShapes.{shape_type, type_at}
use Rattle.abs_types.specs.TypeTables.{types_in}
use Rattle.abs_types.proofs.table.TypeTable.parts.Goals as goal

pub returns-in-Fut-facing : goal.returns-in-Fut-facing
unfolding shape_type
returns-in-Fut-facing c = record {
  one_is = c.in-Fut.ensures.is;
  other_is = c.in-Fut-facing.ensures.is;
  one_below = c.in-Fut.ensures.parts;
  other_below = c.in-Fut-facing.ensures.parts;
}

pub returns-in-Applied-facing : goal.returns-in-Applied-facing
unfolding shape_type
returns-in-Applied-facing c = record {
  one_is = c.in-Applied.ensures.is;
  other_is = c.in-Applied-facing.ensures.is;
  heads_one_below = c.in-Applied.ensures.parts.0;
  heads_other_below = c.in-Applied-facing.ensures.parts.0;
  arguments_one_below = c.in-Applied.ensures.parts.1;
  arguments_other_below = c.in-Applied-facing.ensures.parts.1;
}

pub returns-in_default-facing : goal.returns-in_default-facing
unfolding shape_type
returns-in_default-facing c =
    let types = types_in c.args.self.now in
    rw (c.in-Fut.ensures.is, c.shape-facing.ensures.is)
    (future_unlike _ types (type_at types c.in-Fut.value) _ c.in_default-facing.not-Fut)

pub returns-in_default-facing-2 : goal.returns-in_default-facing-2
unfolding shape_type
returns-in_default-facing-2 c =
    let types = types_in c.args.self.now in
    rw (c.in-Applied.ensures.is, c.shape-facing.ensures.is)
    (applied_unlike _ types (type_at types c.in-Applied.head) (type_at types c.in-Applied.argument) _
    c.in_default-facing-2.not-Applied)

pub returns-in_default : goal.returns-in_default
returns-in_default c =
    rw c.shape.ensures.is (others_unlike _ (types_in c.args.self.now) _ _ c.in_default.not-Fut c.in_default.not-Applied)
