-- What the tables of a resolved program keep. They serve proofs only.
--
--   `AreMethods`, `AreSignatures`, `AreFields`     the tables of members answer as the definitions say
--   `AreTables`, `HaveTables`                      all tables are those of a source
use Rattle.std.specs.Prelude.{◌≡◌, ℕ, List}
use Rattle.abs_program.specs.Holdings.{holders}
use Rattle.abs_program.specs.KeptControl.{IsControl}
use Rattle.abs_program.specs.KeptSpaces.{spaces_by_name, AreProper}
use Rattle.abs_program.specs.KeptMembers.{method_at, signatures_at, field_at}
use Rattle.abs_program.specs.Members.{method_of, signatures_of, field_of}
use Rattle.abs_tree.specs.Names.{name_of, number_of_name}
use Rattle.abs_program.specs.NameSpaces.{spaces_of}
use Rattle.abs_program.specs.Supertypes.{supertypes}
use Rattle.abs_tree.specs.Syntax.{Name, DeclTree, SourceTree}
use Rattle.abs_tree.specs.SyntaxViews.{tree_of_parts}
use Rattle.abs_tree.specs.declared.symbol.Symbol.{Symbol}
use Rattle.abs_tree.specs.declared.syntax.declaration.Body.{Body}
use Rattle.abs_tree.specs.declared.syntax.declaration.Decl.{Decl}
use Rattle.abs_program.specs.declared.tables.Tables.{Tables}
use Rattle.abs_program.specs.declared.tables.fields.Fields.{Fields}
use Rattle.abs_program.specs.declared.tables.methods.Methods.{Methods}
use Rattle.abs_program.specs.declared.tables.signatures.Signatures.{Signatures}

-- Each method of a class is found by the number of its name.
pub record AreMethods (names : List Name) (declarations : List DeclTree) (methods : Methods) : Type 0 where
  pub finds : (class : ℕ) (symbol : Symbol)
      → method_at methods class (number_of_name names (name_of names symbol))
      ≡ method_of declarations class (name_of names symbol)

-- So are the signatures of interfaces.
pub record AreSignatures (names : List Name) (declarations : List DeclTree) (signatures : Signatures) : Type 0 where
  pub finds : (symbol : Symbol) → signatures_at signatures (number_of_name names (name_of names symbol))
      ≡ signatures_of declarations (name_of names symbol)

-- Each field of a class is found by its number.
pub record AreFields (declarations : List DeclTree) (fields : Fields) : Type 0 where
  pub finds : (class number : ℕ) → field_at fields class number ≡ field_of declarations class number

-- All tables are those of this source.
pub record AreTables (names : List Name) (source : SourceTree) (tables : Tables) : Type 0 where
  pub spaces : spaces_by_name names tables.spaces ≡ spaces_of source.declarations
  pub proper : AreProper names tables.spaces
  pub supertypes_are : tables.supertypes ≡ supertypes source.declarations
  pub holders_are : tables.holders.items ≡ holders source.declarations
  pub methods_are : AreMethods names source.declarations tables.methods
  pub signatures_are : AreSignatures names source.declarations tables.signatures
  pub fields_are : AreFields source.declarations tables.fields
  pub control_is : IsControl names source tables.control

-- these are the tables of the code's declarations and of its main block
abbrev pub HaveTables : List Name → List Decl → Body → Tables → Type 0
HaveTables names declarations main tables = AreTables names (tree_of_parts names declarations main) tables
