use Rattle.std.proofs.Common.{List, Bool, length, sym, ap, subst, ltb-false, arith}
use Rattle.abs_graph.specs.Graphs.{Graph}
use Rattle.abs_graph.specs.Tables.{IsTable}
use Rattle.abs_graph.proofs.TableLemmas.{table_past}
use Rattle.abs_graph.proofs.closure.Closure.reaches.Goals as goal

pub returns-in-None : goal.returns-in-None
returns-in-None c =
    table_past c.args.self.now c.self.inside.columns c.self.inside.rows.items c.args.from c.args.to
    (subst (λ (graph : Graph). IsTable graph c.self.inside.columns c.self.inside.rows.items) c.self.view_is
    c.self.invariant)
    (omega (
      arith,
      ltb-false c.args.from (length c.deref.result.now) (sym c.in-None.ensures.lookup.0),
      ap (λ (rows : List (List Bool)). length rows) c.deref.ensures.value,
    ))
