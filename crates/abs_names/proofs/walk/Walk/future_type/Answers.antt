use Rattle.std.proofs.Common.{◌∙◌}
use Rattle.abs_tree.proofs.SyntaxLemmas.{type_tree-unresolved}
use Rattle.abs_tree.specs.Names.{name_of}
use Rattle.abs_names.proofs.TypeLemmas.{no_future}
use Rattle.abs_names.proofs.walk.Walk.future_type.Goals as goal

pub returns-then-len-ne1 : goal.returns-then-len-ne1
returns-then-len-ne1 c = λ names.
    type_tree-unresolved names c.args.place c.args.name c.args.arguments
    ∙ no_future names c.args.place (name_of names c.args.name) c.args.arguments.items
    (λ one. c.if-len-ne1.true (c.len.ensures ∙ (c.args.arguments.ok.0 ∙ one)))
