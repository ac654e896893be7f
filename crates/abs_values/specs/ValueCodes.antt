-- A code of values: the list of their nodes, each before the nodes of its parts. The kit asks for one of a type that a
-- `Model` shows. It serves proofs only.
--
--   `parts_code`, `value_code`             the codes
use Rattle.std.specs.Prelude.{◌≡◌, refl, ℕ, ℤ, pos, zero, suc, List, [], ◌∷◌, ◌++◌}
use Rattle.std.specs.Coded.{Coded, code_by, coded_list, coded_ℕ, coded_ℤ, coded×}
use Rattle.std.proofs.Common.{ap, ◌∙◌, sym, append_assoc, append-nil}
use Rattle.abs_values.specs.ValueTrees.{ValueTree, IntValue, StringValue, BuiltValue, ObjectValue, FutureValue, NullValue, ValueTrees, NoPart, NextPart}

-- a node: its kind; a number; a constructor, an object or a task; how many parts it has; and the bytes of a string
abbrev Node : Type 0
Node = ℕ × (ℤ × (ℕ × (ℕ × List ℕ)))

-- how many values there are
abbrev count : ValueTrees → ℕ
count NoPart = 0
count (NextPart first others) = suc (count others)

-- values before others
abbrev before : ValueTrees → ValueTrees → ValueTrees
before NoPart others = others
before (NextPart first more) others = NextPart first (before more others)

-- the first few values, and those after them
abbrev first_few : ℕ → ValueTrees → ValueTrees
first_few zero values = NoPart
first_few (suc count) NoPart = NoPart
first_few (suc count) (NextPart first others) = NextPart first (first_few count others)

abbrev after_few : ℕ → ValueTrees → ValueTrees
after_few zero values = values
after_few (suc count) NoPart = NoPart
after_few (suc count) (NextPart first others) = after_few count others

abbrev mutual
  -- the nodes of a value, and of several
  nodes_of : ValueTree → List Node
  nodes_of (IntValue number) = (0, (number, (0, (0, [])))) ∷ []
  nodes_of (StringValue string) = (1, (pos 0, (0, (0, string)))) ∷ []
  nodes_of (BuiltValue constructor parts) = (2, (pos 0, (constructor, (count parts, [])))) ∷ nodes parts
  nodes_of (ObjectValue object) = (3, (pos 0, (object, (0, [])))) ∷ []
  nodes_of (FutureValue task) = (4, (pos 0, (task, (0, [])))) ∷ []
  nodes_of NullValue = (5, (pos 0, (0, (0, [])))) ∷ []

  nodes : ValueTrees → List Node
  nodes NoPart = []
  nodes (NextPart first others) = nodes_of first ++ nodes others

-- the values that begin with a node, from those that follow it; a constructor takes its parts from these
abbrev with_node : ℕ → ℤ → ℕ → ℕ → List ℕ → ValueTrees → ValueTrees
with_node zero integer number parts string values = NextPart (IntValue integer) values
with_node (suc zero) integer number parts string values = NextPart (StringValue string) values
with_node (suc (suc zero)) integer number parts string values =
    NextPart (BuiltValue number (first_few parts values)) (after_few parts values)
with_node (suc (suc (suc zero))) integer number parts string values = NextPart (ObjectValue number) values
with_node (suc (suc (suc (suc zero)))) integer number parts string values = NextPart (FutureValue number) values
with_node (suc (suc (suc (suc (suc kind))))) integer number parts string values = NextPart NullValue values

-- the values with these nodes
abbrev values_with : List Node → ValueTrees
values_with [] = NoPart
values_with (node ∷ others) = with_node node.0 node.1.0 node.1.1.0 node.1.1.1.0 node.1.1.1.1 (values_with others)

first_few-before : (values others : ValueTrees) → first_few (count values) (before values others) ≡ values
first_few-before NoPart others = refl
first_few-before (NextPart first more) others = ap (NextPart first) (first_few-before more others)

after_few-before : (values others : ValueTrees) → after_few (count values) (before values others) ≡ others
after_few-before NoPart others = refl
after_few-before (NextPart first more) others = after_few-before more others

mutual
  values_with-nodes_of : (value : ValueTree) (others : List Node)
      → values_with (nodes_of value ++ others) ≡ NextPart value (values_with others)
  values_with-nodes_of (IntValue number) others = refl
  values_with-nodes_of (StringValue string) others = refl
  values_with-nodes_of (BuiltValue constructor parts) others =
      ap (λ (w : ValueTrees). NextPart (BuiltValue constructor (first_few (count parts) w)) (after_few (count parts) w))
      (values_with-nodes parts others)
      ∙ (ap (λ (w : ValueTrees). NextPart (BuiltValue constructor w)
      (after_few (count parts) (before parts (values_with others)))) (first_few-before parts (values_with others))
      ∙ ap (NextPart (BuiltValue constructor parts)) (after_few-before parts (values_with others)))
  values_with-nodes_of (ObjectValue object) others = refl
  values_with-nodes_of (FutureValue task) others = refl
  values_with-nodes_of NullValue others = refl

  values_with-nodes : (values : ValueTrees) (others : List Node)
      → values_with (nodes values ++ others) ≡ before values (values_with others)
  values_with-nodes NoPart others = refl
  values_with-nodes (NextPart first more) others =
      ap values_with (append_assoc (nodes_of first) (nodes more) others)
      ∙ (values_with-nodes_of first (nodes more ++ others) ∙ ap (NextPart first) (values_with-nodes more others))

before-none : (values : ValueTrees) → before values NoPart ≡ values
before-none NoPart = refl
before-none (NextPart first others) = ap (NextPart first) (before-none others)

-- the nodes of values tell the values
pub values_are : (values : ValueTrees) → values_with (nodes values) ≡ values
values_are values =
    ap values_with (sym (append-nil (nodes values))) ∙ (values_with-nodes values [] ∙ before-none values)

-- the code of several values
abbrev pub parts_code : Coded ValueTrees
parts_code = code_by (List Node)
    (coded_list (coded× coded_ℕ (coded× coded_ℤ (coded× coded_ℕ (coded× coded_ℕ (coded_list coded_ℕ)))))) nodes values_with
    values_are

-- the first of several values
abbrev first_of : ValueTrees → ValueTree
first_of NoPart = NullValue
first_of (NextPart first others) = first

-- the code of a value
abbrev pub value_code : Coded ValueTree
value_code = code_by ValueTrees parts_code (λ value. NextPart value NoPart) first_of (λ value. refl)
