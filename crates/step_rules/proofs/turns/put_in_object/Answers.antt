use Rattle.std.proofs.Common.{List, get_or, ap, arith}
use Rattle.std.proofs.lemmas.Option.{slice_get-get_or, slice_get_past}
use Rattle.abs_values.specs.ValueTrees.{ValueTree}
use Rattle.abs_values.specs.ValueViews.{value_tree}
use Rattle.step_rules.proofs.PlacingLemmas.{written-past, written-there}
use Rattle.step_rules.proofs.turns.put_in_object.Goals as goal

pub returns-then-object-objects-clause-objects : goal.returns-then-object-objects-clause-objects
returns-then-object-objects-clause-objects c = λ names.
    let objects = c.args.objects.now in
    let at = c.in-Some.object in
    let default = c.index-objects-object.result in
    let cell = get_or objects at default in
    rw c.in-Some.is (written-there names objects at cell _ c.args.target (value_tree c.args.value)
    (slice_get-get_or objects at default (omega arith))
    (ap (λ (fields : List ValueTree). record cell { fields = fields }) c.put-then-object-objects.ensures.fields))

pub returns-else-object-objects-clause-objects : goal.returns-else-object-objects-clause-objects
returns-else-object-objects-clause-objects c = λ names.
    let objects = c.args.objects.now in
    rw c.in-Some.is (written-past names objects c.in-Some.object c.args.target (value_tree c.args.value)
    (slice_get_past objects c.in-Some.object (omega arith)))
