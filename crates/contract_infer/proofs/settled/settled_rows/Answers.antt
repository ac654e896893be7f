use Rattle.std.proofs.Common.{Bool, false, List, get_or, ap, ◌∙◌}
use Rattle.abs_tree.specs.SyntaxViews.{statements}
use Rattle.contract_infer.proofs.SettledRowLemmas.{no_bit, settled_rows_made}
use Rattle.contract_infer.specs.SettledRows.{rows_of}
use Rattle.contract_infer.proofs.settled.settled_rows.Goals as goal

pub returns : goal.returns
returns c names =
    let bits_are = c.in_ok-vec.ensures.items_if_clones_equal (λ y same. same) in
    settled_rows_made (statements names c.args.stmts.now) (c.statements.ensures names)
    (λ slot. ap (λ (bits : List Bool). get_or bits slot false) bits_are ∙ no_bit c.args.slots slot)
    (ap rows_of c.new.ensures.items) c.if-walk.false
