use Rattle.std.proofs.Common.{ℕ, ◌∙◌, sym, arith, List, Bool, length, ap, subst, ltb-false}
use Rattle.abs_graph.specs.Graphs.{Graph, is_listed}
use Rattle.abs_graph.specs.Tables.{IsTable}
use Rattle.abs_graph.proofs.ListedLemmas.{listed_none}
use Rattle.abs_graph.proofs.TableLemmas.{table_past}
use Rattle.abs_graph.proofs.closure.Closure.reached.Goals as goal

pub returns-in-None : goal.returns-in-None
returns-in-None c = λ to.
    ap (λ (items : List ℕ). is_listed items to) c.new.ensures.items
    ∙ (listed_none to
    ∙ table_past c.args.self.now c.self.inside.columns c.self.inside.rows.items c.args.from to
    (subst (λ (graph : Graph). IsTable graph c.self.inside.columns c.self.inside.rows.items) c.self.view_is
    c.self.invariant)
    (omega (
      arith,
      ltb-false c.args.from (length c.deref.result.now) (sym c.in-None.ensures.lookup.0),
      ap (λ (rows : List (List Bool)). length rows) c.deref.ensures.value,
    )))
