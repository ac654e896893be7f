-- The rows of the table of fields. They serve proofs only.
--
--   `own_index`            the index of a member, if it is a field
--   `IsFieldRow`           a row has the fields of a declaration
use Rattle.std.specs.Prelude.{◌≡◌, ℕ, List, [], ◌∷◌}
use Rattle.abs_program.specs.Members.{params_in, fields_in}
use Rattle.abs_tree.specs.Syntax.{DeclTree}
use Rattle.abs_program.specs.declared.tables.fields.FieldRow.{FieldRow}
use Rattle.abs_tree.specs.declared.syntax.declaration.Member.{Member}
use Rattle.abs_tree.specs.declared.syntax.declaration.Member.TheVariants.{Field, Method}

-- the index of a member, if it is a field
abbrev pub own_index : ℕ → Member → List ℕ
own_index index (Field type name initial) = index ∷ []
own_index index (Method signature body) = []

-- A row has how many parameters a declaration has, and the indices of its fields.
pub record IsFieldRow (declaration : DeclTree) (row : FieldRow) : Type 0 where
  pub params : row.params ≡ params_in declaration
  pub members : row.members.items ≡ fields_in declaration
