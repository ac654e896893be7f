use Rattle.abs_tree.specs.Names.{name_of}
use Rattle.abs_program.specs.NamedViews.{named_tree}
use Rattle.abs_types.proofs.FormLemmas.{interface_apart}
use Rattle.abs_types.proofs.subtyping.interface_fits.Goals as goal

pub returns-in_default : goal.returns-in_default
returns-in_default c =
    interface_apart (named_tree c.args.program.now).declarations (name_of c.args.program.now.symbols c.args.name)
    c.args.program.now.symbols c.args.right.now c.in_default.not-Interface
