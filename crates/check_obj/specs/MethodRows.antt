-- The methods that declarations declare, as rows that are looked into by the numbers of names. A method has one type
-- here: that of its result as a future, applied to those of its parameters. So methods take and give the same types
-- exactly where their types are the same. These words serve contracts of this crate alone.
--
--   `signature_type`               the type of a method
--   `row_entry`                    the number of its name, and its type
--   `AreNamed`                     each method has a name of a table of names, or the empty one
--   `IsRow`, `AreRows`             a row has these methods, and each row has those of its declaration
--   `IsDeclared`                   an interface declares a method
--   `TellsSeveral`                 names that are not reported have one type in all interfaces
use Rattle.std.specs.Prelude.{◌≡◌, ℕ, true, false, List, [], get_or, length, map, nat_eq, slice_get, All, Contains, Some}
use Rattle.std.specs.List.{list_any}
use Rattle.abs_program.specs.Holdings.{is_interface}
use Rattle.abs_tree.specs.Names.{number_of_name}
use Rattle.abs_tree.specs.Syntax.{Name, DeclTree, SignatureTree}
use Rattle.abs_types.specs.Methods.{signatures_in}
use Rattle.abs_types.specs.PlainTypes.{PlainType, PlainFut, applied_to, plain}
use Rattle.abs_types.specs.Schemes.{param_types}
use Rattle.abs_types.specs.TypeShapes.{named_by, type_at, IsAmong}
use Rattle.abs_types.specs.TypeTables.{declarations_of, types_in}
use Rattle.abs_types.specs.declared.table.TypeTable.{TypeTable}
use Rattle.abs_types.specs.declared.table.shape.TypeIndex.{TypeIndex}

-- the type of a method
abbrev pub signature_type : SignatureTree → PlainType
signature_type signature = applied_to (PlainFut (plain signature.result)) (param_types signature.params)

-- the number of its name, and its type
abbrev pub row_entry : List Name → SignatureTree → ℕ × PlainType
row_entry names signature = (number_of_name names signature.name.name, signature_type signature)

-- Each method has a name of a table of names, or the empty one, so its number tells its name.
pub record AreNamed (names : List Name) (signatures : List SignatureTree) : Type 0 where
  pub each : All (λ (one : SignatureTree). named_by names (number_of_name names one.name.name) ≡ one.name.name)
      signatures

-- A row has these methods, in their order.
pub record IsRow (table : TypeTable) (signatures : List SignatureTree) (row : List (ℕ × TypeIndex)) : Type 0 where
  pub among : All (λ (entry : ℕ × TypeIndex). IsAmong (types_in table) entry.1) row
  pub are : map (λ (entry : ℕ × TypeIndex). (entry.0, type_at (types_in table) entry.1)) row
      ≡ map (row_entry table.program.now.symbols) signatures

-- Each row has the methods of its declaration.
pub record AreRows (table : TypeTable) (rows : List (List (ℕ × TypeIndex))) : Type 0 where
  pub count : length rows ≡ length (declarations_of table)
  pub each : (index : ℕ) (declaration : DeclTree) → slice_get (declarations_of table) index ≡ Some declaration
      → IsRow table (signatures_in declaration) (get_or rows index [])

-- An interface of the program declares a method.
pub record IsDeclared (declarations : List DeclTree) (signature : SignatureTree) : Type 0 where
  pub index : ℕ
  pub declaration : DeclTree
  pub there : slice_get declarations index ≡ Some declaration
  pub is_one : is_interface declaration ≡ true
  pub among : Contains (signatures_in declaration) signature

-- A name that is not among these has one type in all interfaces.
pub record TellsSeveral (table : TypeTable) (several : List ℕ) : Type 0 where
  pub one_type : (one other : SignatureTree) → IsDeclared (declarations_of table) one
      → IsDeclared (declarations_of table) other → one.name.name ≡ other.name.name
      → list_any (nat_eq (number_of_name table.program.now.symbols one.name.name)) several ≡ false
      → signature_type one ≡ signature_type other
