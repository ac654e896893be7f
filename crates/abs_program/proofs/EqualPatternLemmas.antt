-- The derived comparison of patterns is true exactly where their trees are the same whatever names the symbols have.
--
--   `pattern_equal-Decides`        the comparison of patterns
use Rattle.std.proofs.Common.{◌≡◌, ℕ, false, eqb, List, [], Decides, refl}
use Rattle.std.proofs.lemmas.Bool.Decides.{Decides-and, Decides-at, Decides-int_eq}
use Rattle.std.proofs.lemmas.Slice.Eq.{bytes_eq-Decides}
use Rattle.std.specs.Cmp.Lexicographic.{pointwise}
use Rattle.abs_tree.specs.Syntax.{Name, PatternTree, AnyValue, Binds, SameNumber, SameString, Built, PatternTrees, NoPattern, NextPattern}
use Rattle.abs_tree.specs.SyntaxViews.{pattern_tree, pattern_row}
use Rattle.abs_tree.specs.contracts.syntax.pattern.PatternPartialEq.TheImpl as pattern_impl
use Rattle.abs_tree.specs.contracts.syntax.pattern.PatternPartialEq.TheImpl.Laws as pattern_laws
use Rattle.abs_tree.specs.declared.syntax.pattern.Pattern as code
use Rattle.abs_tree.specs.declared.syntax.pattern.Pattern.{Pattern, out-Pattern, Row_of-Pattern, end_of-Pattern, more_of-Pattern, items-the_row-Pattern, items_shown-the_row-Pattern-0}
use Rattle.abs_program.proofs.EqualNameLemmas.{apart_by, decided, decided_items, place_equal-Decides, symbol_equal-Decides, variable_equal-Decides}
use denote.Hole.Carrier.{out}

-- a number for each constructor of a pattern, and of a list of patterns
abbrev pattern_number : PatternTree → ℕ
pattern_number (AnyValue place) = 0
pattern_number (Binds place variable) = 1
pattern_number (SameNumber place number) = 2
pattern_number (SameString place string) = 3
pattern_number (Built place constructor arguments) = 4

abbrev patterns_number : PatternTrees → ℕ
patterns_number NoPattern = 0
patterns_number (NextPattern first others) = 1

-- patterns of different constructors
patterns_apart : (one other : Pattern) → pattern_laws.unfolded one other ≡ false
    → eqb (pattern_number (pattern_tree [] one)) (pattern_number (pattern_tree [] other)) ≡ false
    → Decides (pattern_impl.ghosts.eq one other)
    ((names : List Name) → pattern_tree names one ≡ pattern_tree names other)
patterns_apart one other is_false apart =
    Decides-at _ _ (pattern_laws.is one other)
    (apart_by pattern_number (λ names. pattern_tree names one) (λ names. pattern_tree names other) _ is_false apart)

mutual
  unfolding out-Pattern out

  pub pattern_equal-Decides : (one other : Pattern) → Decides (pattern_impl.ghosts.eq one other)
      ((names : List Name) → pattern_tree names one ≡ pattern_tree names other)
  pattern_equal-Decides (code.Any place) (code.Any other_place) =
      decided (pattern_laws.is _ _) (place_equal-Decides place other_place)
      (λ same names i. AnyValue (same i))
      (λ same. cc (same []))
  pattern_equal-Decides (code.Binds place variable) (code.Binds other_place other_variable) =
      decided (pattern_laws.is _ _)
      (Decides-and _ _ (place_equal-Decides place other_place) (variable_equal-Decides variable other_variable))
      (λ same names i. Binds (same.0 i) (same.1 names i))
      (λ same. (cc (same []), λ names. cc (same names)))
  pattern_equal-Decides (code.Number place number) (code.Number other_place other_number) =
      decided (pattern_laws.is _ _)
      (Decides-and _ _ (place_equal-Decides place other_place) (Decides-int_eq number other_number))
      (λ same names i. SameNumber (same.0 i) (same.1 i))
      (λ same. (cc (same []), cc (same [])))
  pattern_equal-Decides (code.Text place text) (code.Text other_place other_text) =
      decided (pattern_laws.is _ _)
      (Decides-and _ _ (place_equal-Decides place other_place) (bytes_eq-Decides text other_text))
      (λ same names i. SameString (same.0 i) (same.1 i))
      (λ same. (cc (same []), cc (same [])))
  pattern_equal-Decides (code.Built' place symbol shape row)
      (code.Built' other_place other_symbol other_shape others) =
      decided (pattern_laws.is _ _)
      (Decides-and _ _ (place_equal-Decides place other_place)
      (Decides-and _ _ (symbol_equal-Decides symbol other_symbol) (decided_items pattern_impl.ghosts.eq
      (items_shown-the_row-Pattern-0 shape row) (items_shown-the_row-Pattern-0 other_shape others)
      (patterns_in_row-Decides _ row _ others))))
      (λ same names i. Built (same.0 i) (same.1.0 names i) (same.1.1 names i))
      (λ same. (cc (same []), (λ names. cc (same names), λ names. cc (same names))))
  pattern_equal-Decides one other = patterns_apart one other refl refl

  patterns_in_row-Decides : (n : _) (row : Row_of-Pattern n) (m : _) (others : Row_of-Pattern m)
      → Decides (pointwise pattern_impl.ghosts.eq (items-the_row-Pattern n row) (items-the_row-Pattern m others))
      ((names : List Name) → pattern_row names row ≡ pattern_row names others)
  patterns_in_row-Decides n end_of-Pattern m end_of-Pattern = (λ reported names. refl, λ same. refl)
  patterns_in_row-Decides n (more_of-Pattern one row) m (more_of-Pattern other others) =
      decided refl (Decides-and _ _ (pattern_equal-Decides one other) (patterns_in_row-Decides _ row _ others))
      (λ same names i. NextPattern (same.0 names i) (same.1 names i))
      (λ same. (λ names. cc (same names), λ names. cc (same names)))
  patterns_in_row-Decides n row m others =
      apart_by patterns_number (λ names. pattern_row names row) (λ names. pattern_row names others) _ refl refl
