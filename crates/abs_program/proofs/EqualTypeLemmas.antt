-- The derived comparison of types is true exactly where their trees are the same whatever names the symbols have.
--
--   `type_equal-Decides`       the comparison of types
--   `types_equal-Decides`      that of lists of types
use Rattle.std.proofs.Common.{◌≡◌, ℕ, false, eqb, List, [], ◌∷◌, Decides, refl}
use Rattle.std.proofs.lemmas.Bool.Decides.{Decides-and, Decides-at, Decides-eqb}
use Rattle.std.specs.Cmp.Lexicographic.{pointwise}
use Rattle.abs_tree.specs.Syntax.{Name, TypeTree, UnresolvedType, IntType, StringType, FutType, DataType, InterfaceType, ParameterType, BottomType, NullType, ClassType, TypeTrees, NoType, NextType}
use Rattle.abs_tree.specs.SyntaxViews.{type_tree, type_row, type_trees}
use Rattle.abs_tree.specs.contracts.syntax.types.TypeTermPartialEq.TheImpl as type_impl
use Rattle.abs_tree.specs.contracts.syntax.types.TypeTermPartialEq.TheImpl.Laws as type_laws
use Rattle.abs_tree.specs.declared.syntax.types.TypeTerm as code
use Rattle.abs_tree.specs.declared.syntax.types.TypeTerm.{TypeTerm, out-TypeTerm, Row_of-TypeTerm, end_of-TypeTerm, more_of-TypeTerm, items-the_row-TypeTerm, items_shown-the_row-TypeTerm-0}
use Rattle.abs_program.proofs.EqualNameLemmas.{apart_by, decided, decided_items, place_equal-Decides, symbol_equal-Decides}
use denote.Hole.Carrier.{out}

-- a number for each constructor of a type
abbrev type_number : TypeTree → ℕ
type_number (UnresolvedType place name arguments) = 0
type_number (IntType place) = 1
type_number (StringType place) = 2
type_number (FutType place value) = 3
type_number (DataType place name arguments) = 4
type_number (InterfaceType place name) = 5
type_number (ParameterType place parameter) = 6
type_number BottomType = 7
type_number NullType = 8
type_number (ClassType name) = 9

abbrev types_number : TypeTrees → ℕ
types_number NoType = 0
types_number (NextType first others) = 1

-- types of different constructors
types_apart : (one other : TypeTerm) → type_laws.unfolded one other ≡ false
    → eqb (type_number (type_tree [] one)) (type_number (type_tree [] other)) ≡ false
    → Decides (type_impl.ghosts.eq one other) ((names : List Name) → type_tree names one ≡ type_tree names other)
types_apart one other is_false apart =
    Decides-at _ _ (type_laws.is one other)
    (apart_by type_number (λ names. type_tree names one) (λ names. type_tree names other) _ is_false apart)

mutual
  unfolding out-TypeTerm out

  pub type_equal-Decides : (one other : TypeTerm) → Decides (type_impl.ghosts.eq one other)
      ((names : List Name) → type_tree names one ≡ type_tree names other)
  type_equal-Decides (code.Unresolved' place symbol shape row)
      (code.Unresolved' other_place other_symbol other_shape others) =
      decided (type_laws.is _ _)
      (Decides-and _ _ (place_equal-Decides place other_place)
      (Decides-and _ _ (symbol_equal-Decides symbol other_symbol) (decided_items type_impl.ghosts.eq
      (items_shown-the_row-TypeTerm-0 shape row) (items_shown-the_row-TypeTerm-0 other_shape others)
      (types_in_row-Decides _ row _ others))))
      (λ same names i. UnresolvedType (same.0 i) (same.1.0 names i) (same.1.1 names i))
      (λ same. (cc (same []), (λ names. cc (same names), λ names. cc (same names))))
  type_equal-Decides (code.Int place) (code.Int other_place) =
      decided (type_laws.is _ _) (place_equal-Decides place other_place)
      (λ same names i. IntType (same i))
      (λ same. cc (same []))
  type_equal-Decides (code.String place) (code.String other_place) =
      decided (type_laws.is _ _) (place_equal-Decides place other_place)
      (λ same names i. StringType (same i))
      (λ same. cc (same []))
  type_equal-Decides (code.Fut' place at value) (code.Fut' other_place other_at other_value) =
      decided (type_laws.is _ _)
      (Decides-and _ _ (place_equal-Decides place other_place) (type_equal-Decides value other_value))
      (λ same names i. FutType (same.0 i) (same.1 names i))
      (λ same. (cc (same []), λ names. cc (same names)))
  type_equal-Decides (code.Data' place symbol shape row) (code.Data' other_place other_symbol other_shape others) =
      decided (type_laws.is _ _)
      (Decides-and _ _ (place_equal-Decides place other_place)
      (Decides-and _ _ (symbol_equal-Decides symbol other_symbol) (decided_items type_impl.ghosts.eq
      (items_shown-the_row-TypeTerm-0 shape row) (items_shown-the_row-TypeTerm-0 other_shape others)
      (types_in_row-Decides _ row _ others))))
      (λ same names i. DataType (same.0 i) (same.1.0 names i) (same.1.1 names i))
      (λ same. (cc (same []), (λ names. cc (same names), λ names. cc (same names))))
  type_equal-Decides (code.Interface place symbol) (code.Interface other_place other_symbol) =
      decided (type_laws.is _ _)
      (Decides-and _ _ (place_equal-Decides place other_place) (symbol_equal-Decides symbol other_symbol))
      (λ same names i. InterfaceType (same.0 i) (same.1 names i))
      (λ same. (cc (same []), λ names. cc (same names)))
  type_equal-Decides (code.Parameter place parameter) (code.Parameter other_place other_parameter) =
      decided (type_laws.is _ _)
      (Decides-and _ _ (place_equal-Decides place other_place) (Decides-eqb parameter other_parameter))
      (λ same names i. ParameterType (same.0 i) (same.1 i))
      (λ same. (cc (same []), cc (same [])))
  type_equal-Decides code.Bottom code.Bottom = Decides-at _ _ (type_laws.is _ _) (λ reported names. refl, λ same. refl)
  type_equal-Decides code.Null code.Null = Decides-at _ _ (type_laws.is _ _) (λ reported names. refl, λ same. refl)
  type_equal-Decides (code.Class symbol) (code.Class other_symbol) =
      decided (type_laws.is _ _) (symbol_equal-Decides symbol other_symbol)
      (λ same names i. ClassType (same names i))
      (λ same. λ names. cc (same names))
  type_equal-Decides one other = types_apart one other refl refl

  types_in_row-Decides : (n : _) (row : Row_of-TypeTerm n) (m : _) (others : Row_of-TypeTerm m)
      → Decides (pointwise type_impl.ghosts.eq (items-the_row-TypeTerm n row) (items-the_row-TypeTerm m others))
      ((names : List Name) → type_row names row ≡ type_row names others)
  types_in_row-Decides n end_of-TypeTerm m end_of-TypeTerm = (λ reported names. refl, λ same. refl)
  types_in_row-Decides n (more_of-TypeTerm one row) m (more_of-TypeTerm other others) =
      decided refl (Decides-and _ _ (type_equal-Decides one other) (types_in_row-Decides _ row _ others))
      (λ same names i. NextType (same.0 names i) (same.1 names i))
      (λ same. (λ names. cc (same names), λ names. cc (same names)))
  types_in_row-Decides n row m others =
      apart_by types_number (λ names. type_row names row) (λ names. type_row names others) _ refl refl

-- lists of types
pub types_equal-Decides : (ones others : List TypeTerm) → Decides (pointwise type_impl.ghosts.eq ones others)
    ((names : List Name) → type_trees names ones ≡ type_trees names others)
types_equal-Decides [] [] = (λ reported names. refl, λ same. refl)
types_equal-Decides (one ∷ ones) (other ∷ others) =
    decided refl (Decides-and _ _ (type_equal-Decides one other) (types_equal-Decides ones others))
    (λ same names i. NextType (same.0 names i) (same.1 names i))
    (λ same. (λ names. cc (same names), λ names. cc (same names)))
types_equal-Decides ones others =
    apart_by types_number (λ names. type_trees names ones) (λ names. type_trees names others) _ refl refl
