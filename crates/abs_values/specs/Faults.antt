-- The names of faults.
--
--   `fault_name`           the name of a fault
use Rattle.std.specs.Prelude.{ℕ, List, codes}
use Rattle.abs_values.specs.declared.evaluated.Fault.{Fault}
use Rattle.abs_values.specs.declared.evaluated.Fault.TheVariants as fault

-- the name of a fault
abbrev pub fault_name : Fault → List ℕ
fault_name fault.Null = codes "Null"
fault_name fault.Match = codes "Match"
fault_name fault.Zero = codes "Zero"
fault_name fault.Overflow = codes "Overflow"
fault_name fault.Calls = codes "Calls"
fault_name fault.Levels = codes "Levels"
fault_name fault.Large = codes "Large"
fault_name fault.Mistyped = codes "Mistyped"
