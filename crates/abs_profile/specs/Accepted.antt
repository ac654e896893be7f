-- When a program is accepted. Laws on the types of what runs are to take this as their one premise
-- about the program.
--
--   `IsAcceptedProgram`        a program is accepted
use Rattle.std.specs.Prelude.{◌≡◌, []}
use Rattle.abs_program.specs.KnownNames.{KnowsNames}
use Rattle.abs_program.specs.Whole.{IsWhole}
use Rattle.abs_tree.specs.Syntax.{ProgramTree}
use Rattle.abs_types.specs.TypeOffences.{type_offences}
use Rattle.abs_profile.specs.Profile.{profile_offences}

-- Everything that a program names is there, its table has the names of its constructors, classes and methods, and it has
-- no offence by its types and none of the profile.
pub record IsAcceptedProgram (program : ProgramTree) : Type 0 where
  pub whole : IsWhole program.source
  pub names : KnowsNames program
  pub well_typed : type_offences program.source ≡ []
  pub in_profile : profile_offences program.source ≡ []
