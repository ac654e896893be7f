-- What is known of the entries of a table of types.
--
--   `shapes_in`                        the shapes of a table
--   `length-types_in`, `types_empty`   there are as many types as entries
--   `shape_type_at`                    the index of a shape stands for its type
--   `entry_parts`, `entry_type`, `entry_parameter`     the parts, the type and the flag of an entry
--   `among_entries`                    an index among the types is that of an entry
--   `one_index_in`                     a type has one index
use Rattle.std.proofs.Common.{◌≡◌, ◌<◌, ℕ, Bool, Some, List, [], sym, ap, ◌∙◌, length, map, slice_get, arith}
use Rattle.std.specs.List.{IsDistinct}
use Rattle.std.specs.Prelude.{option_map}
use Rattle.std.proofs.lemmas.List.{length-map}
use Rattle.std.proofs.lemmas.Option.{same_Some, slice_get-map, slice_get-get_or, slice_get_within}
use Rattle.abs_types.proofs.GrowthLemmas.{entry_shapes}
use Rattle.abs_types.proofs.ShapeLemmas.{shape_eq, same_index}
use Rattle.abs_types.proofs.TypeTableLemmas.{type_at_shape, length-types_of}
use Rattle.abs_types.specs.PlainTypes.{PlainBottom}
use Rattle.abs_types.specs.Schemes.{has_parameter}
use Rattle.abs_types.specs.TypeShapes.{type_at, shape_type, HasPartsBelow, IsAmong, types_of}
use Rattle.abs_types.specs.TypeTables.{types_in, StandsFor}
use Rattle.abs_types.specs.declared.table.TypeTable.{TypeTable}
use Rattle.abs_types.specs.declared.table.shape.Shape.{Shape}
use Rattle.abs_types.specs.declared.table.shape.TypeIndex.{TypeIndex}

-- the shapes of a table, in their order
abbrev pub shapes_in : TypeTable → List Shape
shapes_in table = entry_shapes table.shapes.entries

-- there are as many types as entries
pub length-types_in : (table : TypeTable) → length (types_in table) ≡ length table.shapes.entries
unfolding types_in
length-types_in table =
    length-types_of table.program.now.symbols (shapes_in table)
    ∙ length-map table.shapes.entries (λ (entry : Shape × Bool). entry.0)

-- the index of a shape stands for its type
pub shape_type_at : (table : TypeTable) (index : TypeIndex) (found : Shape)
    → slice_get (shapes_in table) index.0 ≡ Some found
    → StandsFor table index (shape_type table.program.now.symbols (types_in table) found)
unfolding types_in
shape_type_at table index found is =
    let names = table.program.now.symbols in
    let there = slice_get_within (shapes_in table) index.0 found is in
    record {
      among = omega (arith, length-types_of names (shapes_in table));
      is = type_at_shape names (shapes_in table) index.0 found is (table.are_formed.parts index.0 found is);
    }

-- the shape of an entry is at its index
shape_at : (table : TypeTable) (index : ℕ) (entry : Shape × Bool) → Some entry ≡ slice_get table.shapes.entries index
    → slice_get (shapes_in table) index ≡ Some entry.0
shape_at table index entry is =
    slice_get-map (λ (entry : Shape × Bool). entry.0) table.shapes.entries index
    ∙ ap (option_map (λ (entry : Shape × Bool). entry.0)) (sym is)

-- the parts of the shape at an index are before it
pub entry_parts : (table : TypeTable) (index : ℕ) (entry : Shape × Bool)
    → Some entry ≡ slice_get table.shapes.entries index → HasPartsBelow index entry.0
entry_parts table index entry is = table.are_formed.parts index entry.0 (shape_at table index entry is)

-- the type with an index is that of its shape
pub entry_type : (table : TypeTable) (index : TypeIndex) (entry : Shape × Bool)
    → Some entry ≡ slice_get table.shapes.entries index.0
    → type_at (types_in table) index ≡ shape_type table.program.now.symbols (types_in table) entry.0
entry_type table index entry is = (shape_type_at table index entry.0 (shape_at table index.0 entry is)).is

-- an index among the types is that of an entry
pub among_entries : (table : TypeTable) (index : TypeIndex) → IsAmong (types_in table) index
    → index.0 < length table.shapes.entries
among_entries table index among = omega (arith, length-types_in table)

-- where no two shapes of a table are equal, a type has one index
pub one_index_in : (table : TypeTable) (one other : TypeIndex) → IsDistinct shape_eq (shapes_in table)
    → IsAmong (types_in table) one → IsAmong (types_in table) other
    → type_at (types_in table) one ≡ type_at (types_in table) other → one ≡ other
unfolding types_in
one_index_in table one other distinct among other_among same =
    let names = table.program.now.symbols in
    let shapes = shapes_in table in
    let count = length-types_of names shapes in
    same_index names shapes one other table.are_formed distinct (omega arith) (omega arith) same

-- the flag of an entry tells whether a type parameter is in its type
pub entry_parameter : (table : TypeTable) (index : TypeIndex) (entry : Shape × Bool)
    → Some entry ≡ slice_get table.shapes.entries index.0
    → entry.1 ≡ has_parameter (type_at (types_in table) index)
unfolding types_in
entry_parameter table index entry is =
    let types = types_in table in
    let flag : slice_get (map (λ (entry : Shape × Bool). entry.1) table.shapes.entries) index.0 ≡ Some entry.1 =
    slice_get-map (λ (entry : Shape × Bool). entry.1) table.shapes.entries index.0
    ∙ ap (option_map (λ (entry : Shape × Bool). entry.1)) (sym is) in
    let below : index.0 < length types =
    omega (arith, length-types_in table, slice_get_within table.shapes.entries index.0 entry (sym is)) in
    let reported : Some (has_parameter (type_at types index)) ≡ Some entry.1 =
    ap (option_map has_parameter) (sym (slice_get-get_or types index.0 PlainBottom below))
    ∙ (sym (slice_get-map has_parameter types index.0)
    ∙ (ap (λ (flags : List Bool). slice_get flags index.0) (sym table.parameters_are) ∙ flag)) in
    sym (same_Some (has_parameter (type_at types index)) entry.1 reported)

-- a table without entries has no types
pub types_empty : (table : TypeTable) → table.shapes.entries ≡ [] → types_in table ≡ []
unfolding types_in types_of
types_empty table empty =
    ap (λ (entries : List (Shape × Bool)). types_of table.program.now.symbols (entry_shapes entries)) empty
