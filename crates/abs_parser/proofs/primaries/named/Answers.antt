use Rattle.abs_tree.proofs.SyntaxLemmas.{expr_tree-apply}
use Rattle.abs_parser.proofs.primaries.named.Goals as goal

pub returns-in-Some : goal.returns-in-Some
returns-in-Some c = λ names. rw c.in-Some.is (expr_tree-apply names c.args.place c.args.name c.in-Some.arguments)
