-- A table of types with one more shape.
--
--   `inserted_last`, `inserted`        the entries after a new shape is inserted, and after that is tried
--   `known_inserted`                   what is known of the entries is known of these
--   `kept_same`, `kept_added`          what indices stand for is kept, with the same entries and with one more
--   `found_present`, `found_added`     an index stands for the type of a shape
use denote.Bor.{Bor}
use Rattle.std.proofs.Common.{◌≡◌, ℕ, ◌<◌, ◌^◌, Bool, false, List, [], ◌∷◌, ◌++◌, Result, Ok, Err, Some, is_some, ◌⊎◌, inl, inr, ⊎_elim, sym, ap, ap₂, ◌∙◌, subst, length, get_or, arith}
use Rattle.std.specs.List.{position}
use Rattle.std.specs.Prelude.{OnOk, OnErr}
use Rattle.std.proofs.lemmas.List.{append-nil, map-append, get_or_push, length_push}
use Rattle.std.proofs.lemmas.List.Quantifiers.{position-Some}
use Rattle.std.proofs.lemmas.Option.{slice_get-get_or}
use Rattle.indexmap.specs.IndexMap.{IndexMap, get, insert_entry}
use Rattle.indexmap.proofs.CallerLemmas.{insert_entry-new}
use Rattle.abs_program.specs.declared.named.Named.{Named}
use Rattle.abs_types.proofs.GrowthLemmas.{AreKnown, known_push, entry_shapes}
use Rattle.abs_types.proofs.ShapeLemmas.{shape_eq, shape_eq_same}
use Rattle.abs_types.proofs.TableLemmas.{shapes_in, length-types_in, shape_type_at}
use Rattle.abs_types.proofs.TypeTableLemmas.{Grow, types_of-grow, types_of-push}
use Rattle.abs_types.specs.PlainTypes.{PlainType, PlainBottom}
use Rattle.abs_types.specs.Schemes.{has_parameter}
use Rattle.abs_types.specs.TypeShapes.{shape_type, types_of, HasPartsBelow, HasOwnNames}
use Rattle.abs_types.specs.TypeTables.{types_in, declarations_of, Keeps, StandsFor}
use Rattle.abs_types.specs.declared.table.TypeTable.{TypeTable}
use Rattle.abs_types.specs.declared.table.shape.Shape.{Shape}
use Rattle.list_facts.proofs.OptionLemmas.{is_some-none}

-- what is known of the entries of a table
table_known : (table : TypeTable)
    → AreKnown table.program.now.symbols (declarations_of table) table.joins.entries table.shapes.entries
table_known table = record {
  few = table.few_types;
  formed = table.are_formed;
  flags = table.parameters_are;
  remembered = table.are_remembered;
}

-- a new shape is inserted behind the others
pub inserted_last : {S : Type 0} (shapes : IndexMap Shape Bool S) (later : List (Shape × Bool)) (found : Shape)
    (flag : Bool) → false ≡ is_some (get shape_eq shapes found)
    → later ≡ insert_entry shape_eq shapes.entries found flag → later ≡ shapes.entries ++ (found, flag) ∷ []
inserted_last shapes later found flag absent is =
    is ∙ insert_entry-new shape_eq shapes found flag (is_some-none (get shape_eq shapes found) (sym absent))

-- the entries after that is tried: as before, or with one more
pub inserted : {T E S : Type 0} (result : Result T E) (shapes : IndexMap Shape Bool S) (later : List (Shape × Bool))
    (found : Shape) (flag : Bool) → false ≡ is_some (get shape_eq shapes found)
    → OnOk result (later ≡ insert_entry shape_eq shapes.entries found flag) → OnErr result (later ≡ shapes.entries)
    → (later ≡ shapes.entries) ⊎ (later ≡ shapes.entries ++ (found, flag) ∷ [])
inserted (Ok value) shapes later found flag absent ok err = inr (inserted_last shapes later found flag absent ok)
inserted (Err error) shapes later found flag absent ok err = inl err

-- such entries are known
pub known_inserted : (table : TypeTable) (later : List (Shape × Bool)) (found : Shape) (flag : Bool)
    → (later ≡ table.shapes.entries) ⊎ (later ≡ table.shapes.entries ++ (found, flag) ∷ [])
    → length table.shapes.entries < 2 ^ 31 → HasPartsBelow (length (types_in table)) found
    → HasOwnNames table.program.now.symbols found
    → flag ≡ has_parameter (shape_type table.program.now.symbols (types_in table) found)
    → AreKnown table.program.now.symbols (declarations_of table) table.joins.entries later
unfolding types_in
known_inserted table later found flag either room parts own flag_is =
    let names = table.program.now.symbols in
    let known = AreKnown names (declarations_of table) table.joins.entries in
    ⊎_elim (λ same. subst known (sym same) (table_known table))
    (λ more. subst known (sym more)
    (known_push names (declarations_of table) table.joins.entries table.shapes.entries found flag (table_known table)
    room (subst (λ (count : ℕ). HasPartsBelow count found) (length-types_in table) parts) own flag_is)) either

-- what indices stand for is kept if the types are the first ones
kept_by_growth : (before now : TypeTable) → now.program ≡ before.program → Grow (types_in before) (types_in now)
    → Keeps before now
kept_by_growth before now program_is grow = record {
  program_is = program_is;
  kept = λ index type stands_for.
      let longer = grow.longer in
      let among = stands_for.among in
      record { among = omega arith; is = grow.same index.0 among ∙ stands_for.is };
}

-- the types of a table with more shapes
types_more : (before now : TypeTable) (more : List Shape) → now.program ≡ before.program
    → shapes_in now ≡ shapes_in before ++ more
    → types_in now ≡ types_of before.program.now.symbols (shapes_in before ++ more)
unfolding types_in
types_more before now more program_is shapes_are =
    ap₂ (λ (program : Bor Named) (shapes : List Shape). types_of program.now.symbols shapes) program_is shapes_are

-- what indices stand for is kept with more shapes
kept_more : (before now : TypeTable) (more : List Shape) → now.program ≡ before.program
    → shapes_in now ≡ shapes_in before ++ more → Keeps before now
unfolding types_in
kept_more before now more program_is shapes_are =
    kept_by_growth before now program_is
    (subst (Grow (types_in before)) (sym (types_more before now more program_is shapes_are))
    (types_of-grow before.program.now.symbols (shapes_in before) more))

-- what indices stand for is kept with the same entries
pub kept_same : (before now : TypeTable) → now.program ≡ before.program
    → now.shapes.entries ≡ before.shapes.entries → Keeps before now
kept_same before now program_is entries_are =
    kept_more before now [] program_is (ap entry_shapes entries_are ∙ sym (append-nil (shapes_in before)))

-- the shapes of a table with one more entry
shapes_added : (before now : TypeTable) (found : Shape) (flag : Bool)
    → now.shapes.entries ≡ before.shapes.entries ++ (found, flag) ∷ []
    → shapes_in now ≡ shapes_in before ++ found ∷ []
shapes_added before now found flag entries_are =
    ap entry_shapes entries_are
    ∙ map-append (λ (entry : Shape × Bool). entry.0) before.shapes.entries ((found, flag) ∷ [])

-- what indices stand for is kept with one more entry
pub kept_added : (before now : TypeTable) (found : Shape) (flag : Bool) → now.program ≡ before.program
    → now.shapes.entries ≡ before.shapes.entries ++ (found, flag) ∷ [] → Keeps before now
kept_added before now found flag program_is entries_are =
    kept_more before now (found ∷ []) program_is (shapes_added before now found flag entries_are)

-- the index of one more entry stands for the type of its shape
pub found_added : (before now : TypeTable) (found : Shape) (flag : Bool) (index : ℕ) → now.program ≡ before.program
    → now.shapes.entries ≡ before.shapes.entries ++ (found, flag) ∷ [] → index ≡ length before.shapes.entries
    → StandsFor now (record { 0 = index }) (shape_type before.program.now.symbols (types_in before) found)
unfolding types_in
found_added before now found flag index program_is entries_are index_is =
    let names = before.program.now.symbols in
    let last = shape_type names (types_in before) found in
    let types_are : types_in now ≡ types_in before ++ last ∷ [] =
    types_more before now (found ∷ []) program_is (shapes_added before now found flag entries_are)
    ∙ types_of-push names (shapes_in before) found in
    let count = length-types_in before in
    record {
      among =
          omega (arith, length-types_in now, ap length entries_are, length_push before.shapes.entries (found, flag));
      is = ap (λ (types : List PlainType). get_or types index PlainBottom) types_are
          ∙ get_or_push (types_in before) last PlainBottom index (omega arith);
    }

-- the index of a shape that is there stands for its type
pub found_present : (table : TypeTable) (index : ℕ) (found : Shape)
    → Some index ≡ position (shape_eq found) (shapes_in table)
    → StandsFor table (record { 0 = index }) (shape_type table.program.now.symbols (types_in table) found)
found_present table index found is =
    let passed = position-Some (shape_eq found) (shapes_in table) index found (sym is) in
    let same : found ≡ get_or (shapes_in table) index found =
    shape_eq_same found (get_or (shapes_in table) index found) passed.1 in
    shape_type_at table (record { 0 = index }) found
    (slice_get-get_or (shapes_in table) index found passed.0 ∙ ap Some (sym same))
