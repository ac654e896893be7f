use Rattle.std.proofs.Common.{◌∙◌}
use Rattle.abs_tree.specs.Names.{name_of}
use Rattle.abs_program.specs.NamedViews.{named_tree}
use Rattle.abs_types.proofs.PartLemmas.{interface_by_name, interface_unfit}
use Rattle.abs_types.specs.TypeShapes.{shape_type}
use Rattle.abs_types.proofs.table.fitting.interface_fits.Goals as goal

pub returns-in-Interface : goal.returns-in-Interface
unfolding shape_type
returns-in-Interface c = λ types differ.
    rw c.in-Interface.is (c.extends.ensures
    ∙ interface_by_name (named_tree c.args.program.now).declarations _ _ (rw c.in-Interface.is at differ))

pub returns-in_default : goal.returns-in_default
returns-in_default c = λ types differ.
    interface_unfit (named_tree c.args.program.now).declarations (name_of c.args.program.now.symbols c.args.name)
    c.args.program.now.symbols types c.args.other c.in_default.not-Interface
