-- What the tables of members answer, as the code keeps them. It serves proofs only.
--
--   `is_key`                                       whether a key is that of a class and a name
--   `method_at`, `signatures_at`, `field_at`       what the tables have for a question
use Rattle.std.specs.Map.{lookup}
use Rattle.std.specs.Prelude.{ℕ, Bool, ◌&&◌, List, [], Option, map, get_or, nat_eq, slice_get, option_and_then}
use Rattle.std.specs.declared.alloc.Global.{Global}
use Rattle.std.specs.declared.vec.Vec.{Vec}
use Rattle.abs_program.specs.Members.{field_among}
use Rattle.abs_program.specs.declared.tables.fields.Fields.{Fields}
use Rattle.abs_program.specs.declared.tables.fields.FieldRow.{FieldRow}
use Rattle.abs_program.specs.declared.tables.members.FieldAt.{FieldAt}
use Rattle.abs_program.specs.declared.tables.members.SignatureAt.{SignatureAt}
use Rattle.abs_program.specs.declared.tables.methods.MethodKey.{MethodKey}
use Rattle.abs_program.specs.declared.tables.methods.Methods.{Methods}
use Rattle.abs_program.specs.declared.tables.signatures.Signatures.{Signatures}

-- whether a key is that of a class and of the number of a name
abbrev pub is_key : ℕ → ℕ → MethodKey → Bool
is_key class name key = nat_eq class key.class && nat_eq name key.name

-- the index of the method of a class whose name has this number
unfoldable pub method_at : Methods → ℕ → ℕ → Option ℕ
method_at methods class name = lookup (is_key class name) methods.indices.entries

-- the interfaces that declare a method whose name has this number
unfoldable pub signatures_at : Signatures → ℕ → List SignatureAt
signatures_at signatures name = get_or (map (λ (row : Vec SignatureAt Global). row.items) signatures.rows.items) name []

-- the field of a class with this number
unfoldable pub field_at : Fields → ℕ → ℕ → Option FieldAt
field_at fields class number =
    option_and_then (λ (row : FieldRow). field_among row.params row.members.items number)
    (slice_get fields.rows.items class)
