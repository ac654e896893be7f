-- What tells at once that parts are not the same, before their values are compared one by one.
--
--   `other_nodes`, `other_length`      parts with other numbers of nodes, and lists of other lengths
use Rattle.std.proofs.Common.{◌≡◌, ◌≢◌, false, List, [], ◌∷◌, ap, refl, length, arith}
use Rattle.std.proofs.lemmas.Bool.{false_from_ne_true, and_right}
use Rattle.abs_values.proofs.SameValueLemmas.{same_parts-true}
use Rattle.abs_values.specs.ValueTrees.{ValueTrees, parts_nodes, same_value, same_parts}
use Rattle.abs_values.specs.ValueViews.{value_tree, value_trees}
use Rattle.abs_values.specs.declared.value.Value.{Value}

-- parts with other numbers of nodes are not the same
pub other_nodes : (parts others : ValueTrees) → parts_nodes parts ≢ parts_nodes others → same_parts parts others ≡ false
other_nodes parts others different =
    false_from_ne_true (same_parts parts others)
    (λ reported. different (ap parts_nodes (same_parts-true parts others reported)))

-- the values of lists of other lengths are not the same parts
pub other_length : (left right : List Value) → length left ≢ length right
    → same_parts (value_trees left) (value_trees right) ≡ false
unfolding same_parts
other_length [] [] different = absurd (different refl)
other_length [] (other ∷ more) different = refl
other_length (one ∷ others) [] different = refl
other_length (one ∷ others) (other ∷ more) different =
    and_right (same_value (value_tree one) (value_tree other)) (same_parts (value_trees others) (value_trees more))
    (other_length others more (λ same. different (omega (arith, same))))
