use Rattle.check_fun.proofs.HeadLemmas.{class_at, interface_at, other_at}
use Rattle.check_fun.proofs.checker.Checker.head_at.Goals as goal

pub shape-requires : goal.shape-requires
shape-requires c = c.requires.among

pub returns-in-Interface : goal.returns-in-Interface
returns-in-Interface c context type knows finds = interface_at c.in-Interface.name knows finds (rw c.in-Interface.is at c.shape.ensures.is)

pub returns-in-Class : goal.returns-in-Class
returns-in-Class c context type knows finds = class_at c.in-Class.name knows finds (rw c.in-Class.is at c.shape.ensures.is)

pub returns-in_default : goal.returns-in_default
returns-in_default c context type knows finds =
    other_at c.shape.result c.in_default.not-Interface c.in_default.not-Class knows finds c.shape.ensures.is
