-- The first file of the name is selected, and where there is none the name is not held.
use Rattle.std.proofs.Common.{rules}
use Rattle.abs_outside.proofs.FirstNamed.{Selects-first_named, IsNotHeld-first_named}
use Rattle.abs_outside.proofs.memory_source.MemorySourceSource.select.Goals as goal

pub returns-in-Some-clause-selected : goal.returns-in-Some-clause-selected
returns-in-Some-clause-selected c =
    Selects-first_named c.args.self.now.files.items c.args.name.now c.in-Some.index (search rules)

pub returns-in-None-clause-not_held : goal.returns-in-None-clause-not_held
returns-in-None-clause-not_held c =
    IsNotHeld-first_named c.args.self.now.files.items c.args.name.now (search rules)
