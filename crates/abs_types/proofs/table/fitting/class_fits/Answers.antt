use Rattle.abs_tree.specs.Names.{name_of}
use Rattle.abs_program.specs.NamedViews.{named_tree}
use Rattle.abs_types.proofs.PartLemmas.{class_unfit}
use Rattle.abs_types.specs.Subtyping.{fits}
use Rattle.abs_types.specs.TypeShapes.{shape_type}
use Rattle.abs_types.proofs.table.fitting.class_fits.Goals as goal

pub returns-in-Interface : goal.returns-in-Interface
unfolding fits shape_type
returns-in-Interface c = λ types differ. rw c.in-Interface.is c.implements.ensures

pub returns-in_default : goal.returns-in_default
returns-in_default c = λ types differ.
    class_unfit (named_tree c.args.program.now).declarations (name_of c.args.program.now.symbols c.args.name)
    c.args.program.now.symbols types c.args.other c.in_default.not-Interface differ
