use Rattle.std.proofs.Common.{ℕ, List, [], ◌∷◌, ◌++◌, ◌∙◌, sym, ap, arith}
use Rattle.std.proofs.lemmas.Grind.{common_steps}
use Rattle.std.proofs.lemmas.Option.{gets}
use Rattle.abs_graph.specs.Graphs.{is_listed}
use Rattle.abs_graph.proofs.ListedLemmas.{column_past, column_skipped, column_taken}
use Rattle.abs_graph.proofs.columns.Columns.add_node.Goals as goal

pub returns-in_default : goal.returns-in_default
returns-in_default c = λ node.
    column_past c.args.self.now c.args.column node (is_listed c.args.found.now.items node)
    (grind (arith, common_steps, gets))

pub returns-then-column : goal.returns-then-column
returns-then-column c = λ node.
    column_skipped c.args.self.now c.args.column c.in-Some.node.now node (is_listed c.args.found.now.items node)
    (grind (arith, common_steps, gets)) (grind (arith, common_steps, gets))
    (λ same. c.if-column.true (c.column.ensures ∙ same))

pub returns : goal.returns
returns c = λ node.
    ap (λ (items : List ℕ). is_listed items node)
    (c.in_ok-push-in-Ok.ensures.items ∙ ap (λ (n : ℕ). c.args.found.now.items ++ n ∷ []) c.in-Ok.ensures.1)
    ∙ column_taken c.args.self.now c.args.column c.in-Some.node.now node c.args.found.now.items
    (grind (arith, common_steps, gets)) (grind (arith, common_steps, gets)) (sym c.column.ensures ∙ c.if-column.false)
