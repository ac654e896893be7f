use Rattle.std.proofs.Common.{◌≡◌, nat_eq, ◌&&◌, arith}
use Rattle.std.proofs.lemmas.Bool.Decides.{Decides-at}
use Rattle.std.proofs.lemmas.Grind.{common_steps}
use Rattle.std.specs.Cmp.Lexicographic.{pointwise}
use Rattle.std.specs.Option.{option_eq}
use Rattle.abs_values.specs.ValueTrees.{same_value}
use Rattle.step_rules.proofs.EqualScopeLemmas.{scope_equal-Decides}
use Rattle.step_rules.proofs.inputs.env_equal.Goals as goal

pub returns-then-values_equal : goal.returns-then-values_equal
returns-then-values_equal c =
    let left = c.args.left.now in
    let right = c.args.right.now in
    let reported : c.values_equal-then-values_equal.result ≡ (option_eq nat_eq left.this right.this
    && (pointwise same_value left.slots right.slots && pointwise same_value left.fields right.fields)) =
    grind (arith, common_steps) in
    Decides-at _ _ reported
    (scope_equal-Decides left.this right.this left.slots right.slots left.fields right.fields)

pub returns-else-values_equal : goal.returns-else-values_equal
returns-else-values_equal c =
    let left = c.args.left.now in
    let right = c.args.right.now in
    let reported : c.values_equal.result ≡ (option_eq nat_eq left.this right.this
    && (pointwise same_value left.slots right.slots && pointwise same_value left.fields right.fields)) =
    grind (arith, common_steps) in
    Decides-at _ _ reported
    (scope_equal-Decides left.this right.this left.slots right.slots left.fields right.fields)
