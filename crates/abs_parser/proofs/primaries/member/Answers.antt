use Rattle.std.proofs.Common.{◌∙◌, ap}
use Rattle.std.specs.declared.alloc.Global.{Global}
use Rattle.std.specs.declared.vec.Vec.{Vec}
use Rattle.abs_tree.specs.Syntax.{OwnCallOf}
use Rattle.abs_tree.specs.SyntaxViews.{expr_trees}
use Rattle.abs_tree.specs.Names.{name_of}
use Rattle.abs_tree.specs.declared.syntax.expression.Expr.{Expr}
use Rattle.abs_tree.proofs.SyntaxLemmas.{expr_tree-own_call}
use Rattle.abs_parser.proofs.primaries.member.Goals as goal

pub returns-in_ok-new-in-Some : goal.returns-in_ok-new-in-Some
returns-in_ok-new-in-Some c = λ names.
    rw c.in-Some.is (expr_tree-own_call names c.args.place c.args.name c.in_ok-new-in-Some.field-0
    ∙ ap (λ (arguments : Vec Expr Global).
    OwnCallOf c.args.place (name_of names c.args.name) (expr_trees names arguments.items)) c.in_ok-new-in-Some.ensures.ok)
