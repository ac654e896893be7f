use Rattle.std.proofs.Common.{◌∙◌, Some, None, sym, ap}
use Rattle.abs_tree.proofs.SyntaxLemmas.{type_tree-data}
use Rattle.abs_tree.specs.Names.{name_of}
use Rattle.abs_tree.specs.SyntaxViews.{type_trees}
use Rattle.abs_names.specs.TypeNames.{named_type}
use Rattle.abs_names.proofs.walk.Walk.known_type.Goals as goal

pub returns-in-Data : goal.returns-in-Data
returns-in-Data c = λ names.
    type_tree-data names c.args.place c.args.name c.args.arguments
    ∙ ap (λ m. named_type c.args.place (name_of names c.args.name) (type_trees names c.args.arguments.items)
    None (Some m)) (sym c.in-Data.is)
