-- What the code looks up in the tables of a program is what the definitions look up.
--
--   `found_method`         the body of a method of a class that is there
use Rattle.std.proofs.Common.{◌≡◌, ℕ, Option, Some, None, refl}
use Rattle.std.specs.Option.{option_map}
use Rattle.std.specs.Prelude.{option_and_then}
use Rattle.abs_program.specs.Bodies.{method_entry}
use Rattle.abs_program.specs.Members.{method_of}
use Rattle.abs_program.specs.NameSpaces.{spaces_of}
use Rattle.abs_tree.specs.Syntax.{Name, ProgramTree}
use Rattle.abs_program.specs.Tables.{meaning_of}
use Rattle.abs_program.specs.declared.name_spaces.Taking.{Taking}
use Rattle.config_state.proofs.StatementLemmas.{method_entry-is}
use Rattle.abs_program.specs.ProgramBodies.{entry_of_body, class_body}
use Rattle.config_state.specs.Bodies.{method_in_class, method_at}

-- the body of the method with a name of the class at an index is that in the table, by its index among the members
body_in_table : (program : ProgramTree) (class : ℕ) (member : Option ℕ)
    → option_and_then (method_entry program.source.declarations class) member
    ≡ option_map entry_of_body (option_and_then (class_body 0 program.source.declarations class) member)
body_in_table program class None = refl
body_in_table program class (Some member) = method_entry-is program.source.declarations class member

-- the body of the method with a name, of the class with a name, is that in the table
pub found_method : (program : ProgramTree) (class method : Name) (taking : Taking) (member : Option ℕ)
    → Some taking ≡ meaning_of (spaces_of program.source.declarations).classes class
    → member ≡ method_of program.source.declarations taking.declaration method
    → option_and_then (method_entry program.source.declarations taking.declaration) member
    ≡ option_map entry_of_body (method_at program class method)
unfolding method_in_class
found_method program class method taking member there is =
    rw (← there, ← is) (body_in_table program taking.declaration member)
