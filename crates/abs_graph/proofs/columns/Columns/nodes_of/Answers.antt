use Rattle.std.proofs.Common.{ℕ, List, Bool, ◌∙◌, ◌||◌, ◌&&◌, get_or, nat_eq, take_all, ap}
use Rattle.abs_graph.specs.Graphs.{is_listed}
use Rattle.abs_graph.specs.Columns.{column_of, has_column, has_node}
use Rattle.abs_graph.proofs.ListedLemmas.{columns_none, columns_listed}
use Rattle.abs_graph.proofs.columns.Columns.nodes_of.Goals as goal

pub loop-column-init : goal.loop-column-init
loop-column-init c = λ node.
    ap (λ (items : List ℕ). is_listed items node) c.new-found.ensures.items ∙ columns_none c.args.self.now node

pub loop-column-preserved : goal.loop-column-preserved
loop-column-preserved c = λ node.
    c.in_ok-add_node.ensures node
    ∙ (ap (λ (b : Bool). b || (has_column c.args.self.now node
    && nat_eq (get_or c.deref-column-items.result.now c.loop-column.column-index 0) (column_of c.args.self.now node)))
    (c.loop-column.invariant node)
    ∙ columns_listed c.args.self.now c.deref-column-items.result.now c.loop-column.column-index node c.loop-column-test.true)

pub returns : goal.returns
unfolding has_node
returns c = λ node. c.loop-column.invariant node
    ∙ ap (λ (b : Bool). has_column c.args.self.now node && b)
    (ap (λ (items : List ℕ). is_listed items (column_of c.args.self.now node))
    (take_all c.loop-column.column-index c.deref-column-items.result.now c.loop-column-test.false
    ∙ c.deref-column-items.ensures.value)
    ∙ c.in_ok-numbers.ensures (column_of c.args.self.now node))
