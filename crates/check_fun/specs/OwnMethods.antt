-- How many parameters a method takes that is known by its index. These words serve contracts of this crate alone.
--
--   `takes_count`                  whether the method with an index, of the declaration with an index, takes this many
use Rattle.std.specs.Prelude.{ℕ, Bool, false, List, Option, Some, None, length, nat_eq, slice_get}
use Rattle.abs_tree.specs.Syntax.{MemberTree, FieldTree, MethodTree, DeclTree, DataTree, FunctionTree, InterfaceTree, ClassTree}

-- whether a member is there, and is a method with this many parameters
abbrev pub member_takes : ℕ → Option MemberTree → Bool
member_takes count (Some (MethodTree signature end body)) = nat_eq (length signature.params) count
member_takes count (Some (FieldTree type name initial)) = false
member_takes count None = false

-- whether a declaration is there, and its member with an index is such a method
abbrev pub declaration_takes : ℕ → ℕ → Option DeclTree → Bool
declaration_takes index count (Some (ClassTree place name params implemented members)) =
    member_takes count (slice_get members index)
declaration_takes index count (Some (DataTree place name type_params constructors)) = false
declaration_takes index count (Some (FunctionTree place result name type_params params value)) = false
declaration_takes index count (Some (InterfaceTree place name extended signatures)) = false
declaration_takes index count None = false

-- whether the declaration with an index is there, and its member with an index is such a method
unfoldable pub takes_count : List DeclTree → ℕ → ℕ → ℕ → Bool
takes_count declarations class index count = declaration_takes index count (slice_get declarations class)
