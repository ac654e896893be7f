use Rattle.std.proofs.Common.{◌++◌, codes, drop}
use Rattle.abs_values.specs.PrintedWithin.{AppendedSoFar}
use Rattle.abs_values.specs.Printed.{escaped}
use Rattle.abs_values.proofs.printed.add_string.Given as goal

-- the bytes so far are appended
abbrev pub invariant-loop-byte : goal.invariant-loop-byte
invariant-loop-byte l =
    AppendedSoFar l.most l.fn.form.items (codes "\"" ++ (escaped l.string ++ codes "\"")) l.form.items
    (escaped (drop l.byte-index l.string) ++ codes "\"")
