use Rattle.abs_types.proofs.PartLemmas.{alone_unfit, shape_alone}
use Rattle.abs_types.specs.Subtyping.{fits}
use Rattle.abs_types.specs.TypeShapes.{shape_type, type_at}
use Rattle.abs_types.specs.TypeTables.{declarations_of, types_in}
use Rattle.abs_types.proofs.table.TypeTable.fits_apart.Goals as goal

pub returns-in-Bottom : goal.returns-in-Bottom
unfolding fits shape_type
returns-in-Bottom c = rw c.in-Bottom.ensures.is

pub returns-in-Null : goal.returns-in-Null
unfolding fits shape_type
returns-in-Null c =
    rw (c.in-Null.ensures.is, c.shape-in-Null.ensures.is) (c.takes_null.ensures _ (types_in c.args.self.now)
    (rw (c.in-Null.ensures.is, c.shape-in-Null.ensures.is) at c.requires.differ))

pub returns-in-Interface : goal.returns-in-Interface
unfolding shape_type
returns-in-Interface c =
    rw (c.in-Interface.ensures.is, c.shape-in-Interface.ensures.is) (c.interface_fits.ensures (types_in c.args.self.now)
    (rw (c.in-Interface.ensures.is, c.shape-in-Interface.ensures.is) at c.requires.differ))

pub returns-in-Class : goal.returns-in-Class
unfolding shape_type
returns-in-Class c =
    rw (c.in-Class.ensures.is, c.shape-in-Class.ensures.is) (c.class_fits.ensures (types_in c.args.self.now)
    (rw (c.in-Class.ensures.is, c.shape-in-Class.ensures.is) at c.requires.differ))

pub returns-in_default : goal.returns-in_default
returns-in_default c =
    let types = types_in c.args.self.now in
    alone_unfit (declarations_of c.args.self.now) (type_at types c.args.one) (type_at types c.args.other)
    (rw c.shape.ensures.is (shape_alone _ types c.shape.result c.in_default.not-Bottom c.in_default.not-Null
    c.in_default.not-Interface c.in_default.not-Class))
    c.requires.differ c.requires.apart
