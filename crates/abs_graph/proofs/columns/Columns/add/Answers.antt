use Rattle.std.proofs.Common.{◌∙◌, sym, refl, arith}
use Rattle.std.specs.Vec.{with_item}
use Rattle.abs_graph.proofs.ColumnLemmas.{extended_new, extended_same}
use Rattle.abs_graph.proofs.columns.Columns.add.Goals as goal

pub returns : goal.returns
returns c =
    extended_new c.args.self.now
    (record { nodes = c.push.new.self; columns = with_item c.args.self.now.columns c.args.node c.len.result })
    c.args.node c.len.result (sym c.has.ensures ∙ c.if-has.false) c.requires (omega arith) refl
    c.in_ok-push.ensures.items

pub returns-then-has : goal.returns-then-has
returns-then-has c = extended_same c.args.self.now c.args.node (sym c.has.ensures ∙ c.if-has.true)
