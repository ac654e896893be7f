use Rattle.std.proofs.Common.{◌≡◌, length, refl, arith}
use Rattle.std.proofs.lemmas.List.{length-map}
use Rattle.abs_tree.specs.SyntaxViews.{constructor_tree, declared}
use Rattle.check_fun.proofs.SchemeLemmas.{constructor_found}
use Rattle.check_fun.proofs.checker.Checker.takes_declared.Goals as goal
use Rattle.list_facts.proofs.EntryLemmas.{slice_get-map_past, slice_get-map_there}

pub returns-in_ok-all_written-in-Some-clause-found : goal.returns-in_ok-all_written-in-Some-clause-found
returns-in_ok-all_written-in-Some-clause-found c context knows =
    let there = rw c.deref.ensures.value at c.in-Some.ensures.lookup in
    let parameters : length c.in-Data.type_params.items ≡ c.in_ok-counted-in-Some.field-0 =
    omega (arith, c.in_ok-counted-in-Some.ensures, c.len.ensures, c.in-Data.type_params.ok.0) in
    rw (
      c.in-Data.is,
      length-map c.in-Data.type_params.items (declared context.names),
      parameters,
      slice_get-map_there (constructor_tree context.names) c.in-Data.constructors.items c.args.index
          c.in-Some.constructor.now
          there.3.0 there.1,
    )
    (constructor_found c.in-Data.name.name c.in_ok-counted-in-Some.field-0 c.in_ok-all_written-in-Some.field-0
    (rw c.as_slice.ensures.value at (c.in_ok-all_written-in-Some.ensures.found context knows)))

pub returns-in-None-clause-found : goal.returns-in-None-clause-found
returns-in-None-clause-found c context knows =
    let there = rw c.deref.ensures.value at c.in-None.ensures.lookup in
    rw (
      c.in-Data.is,
      slice_get-map_past (constructor_tree context.names) c.in-Data.constructors.items c.args.index
          there.3,
    )
    (record { among = tt; is = refl })
