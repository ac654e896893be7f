-- The entries of bodies, row by row, and the members by which a class is active. They serve proofs only.
--
--   `found_at_each`, `index_after`     what is found at each item of a list, and the index after all of them, if the
--                                      statements of an item have the indices after those of the items before it
--   `IsPassed`, `ArePassed`            this was found at an item, or at each of a list, and the next index comes after
--   `entry_with`, `entry_of_member`    the entry of a body, and of the body of a member
--   `statements_of_member`, ..         how many statements a member has, and a declaration
--   `row_of_declaration`               the entries of the members of a declaration
--   `is_called`                        whether a member is a method with a name
use Rattle.std.specs.Prelude.{◌≡◌, ℕ, ◌+◌, Bool, false, List, [], ◌∷◌, length, Option, Some, None}
use Rattle.std.specs.Str.{bytes_eq}
use Rattle.abs_program.specs.Bodies.{body_entry}
use Rattle.abs_tree.specs.Syntax.{Name, Statements, MemberTree, FieldTree, MethodTree, DeclTree, ClassTree}
use Rattle.abs_tree.specs.SyntaxSizes.{member_statements, decl_statements}
use Rattle.abs_program.specs.declared.tables.control.BodyEntry.{BodyEntry}

-- what is found at each item, given the index of its first statement
abbrev pub found_at_each : {A B : Type 0} → (ℕ → A → B) → (A → ℕ) → ℕ → List A → List B
found_at_each find count index [] = []
found_at_each find count index (item ∷ others) = find index item ∷ found_at_each find count (index + count item) others

-- the index after the statements of all items
abbrev pub index_after : {A : Type 0} → (A → ℕ) → ℕ → List A → ℕ
index_after count index [] = index
index_after count index (item ∷ others) = index_after count (index + count item) others

-- An item was passed: this was found at it, and the next index comes after its statements.
pub record IsPassed {A B : Type 0} (find : ℕ → A → B) (count : A → ℕ) (index : ℕ) (item : A) (next : ℕ) (found : B)
    : Type 0 where
  pub found_is : found ≡ find index item
  pub next_is : next ≡ index + count item

-- So were the items of a list.
pub record ArePassed {A B : Type 0} (find : ℕ → A → B) (count : A → ℕ) (index : ℕ) (items : List A) (next : ℕ)
    (found : List B) : Type 0 where
  pub found_are : found ≡ found_at_each find count index items
  pub next_is : next ≡ index_after count index items

-- the entry of a body with so many parameters
abbrev pub entry_with : ℕ → ℕ → Statements → BodyEntry
entry_with params index body = body_entry index params body

-- the entry of the body of a member, if it is a method
abbrev pub entry_of_member : ℕ → MemberTree → Option BodyEntry
entry_of_member index (FieldTree type name initial) = None
entry_of_member index (MethodTree signature end body) = Some (body_entry index (length signature.params) body)

-- the number of statements of a member, and of a declaration
abbrev pub statements_of_member : MemberTree → ℕ
statements_of_member member = member_statements (member ∷ [])

abbrev pub statements_of_declaration : DeclTree → ℕ
statements_of_declaration declaration = decl_statements (declaration ∷ [])

-- the entries of the members of a declaration: only a class has any
abbrev pub row_of_declaration : ℕ → DeclTree → List (Option BodyEntry)
row_of_declaration index (ClassTree place name params implemented members) =
    found_at_each entry_of_member statements_of_member index members
row_of_declaration index _ = []

-- whether a member is a method with this name
abbrev pub is_called : Name → MemberTree → Bool
is_called name (FieldTree type own initial) = false
is_called name (MethodTree signature end body) = bytes_eq signature.name.name name
