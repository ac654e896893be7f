use Rattle.std.proofs.Common.{Some, None, refl, subst, ap, ◌∙◌, replicate}
use Rattle.abs_tree.specs.Names.{name_of}
use Rattle.abs_types.specs.TypeShapes.{type_at}
use Rattle.abs_types.specs.TypeTables.{types_in}
use Rattle.check_fun.proofs.ContextLemmas.{finds_stays, finds_all_stays, found_all_stays, found_stays, knows_stays, stays_transitive}
use Rattle.check_fun.proofs.FoundLemmas.{finds_own, finds_all_own}
use Rattle.check_fun.proofs.PartLemmas.{bottom_parts, has_value, no_parts, parts_replaced, takes_found}
use Rattle.check_fun.specs.Contexts.{context_in, FindsAll}
use Rattle.check_fun.proofs.checker.Checker.parts.Goals as goal

pub shape-requires : goal.shape-requires
shape-requires c = (found_stays c.in_ok-found.ensures.stays c.requires).among

pub arguments_of-requires : goal.arguments_of-requires
arguments_of-requires c = found_stays c.in_ok-found.ensures.stays c.requires

pub all_replaced-requires-clause-types : goal.all_replaced-requires-clause-types
all_replaced-requires-clause-types c =
    let before = c.constructor_takes.new.self in
    let found = finds_own (found_stays c.in_ok-found.ensures.stays c.requires) in
    rw c.as_slice.ensures.value (rw c.in-Some-2.is at (c.in_ok-arguments.ensures.found (context_in before)
    (type_at (types_in before.table) c.args.subject) (record { is = refl }) found)).found_are

pub all_replaced-requires-clause-indices : goal.all_replaced-requires-clause-indices
all_replaced-requires-clause-indices c =
    rw c.as_slice-in-Some-2.ensures.value (found_all_stays c.in_ok-arguments.ensures.stays
    (takes_found (rw c.in-Some.is at (c.in_ok-found.ensures.found (context_in c.args.self.now) (record { is = refl })))))

pub returns-in_default-clause-found : goal.returns-in_default-clause-found
returns-in_default-clause-found c context type knows found =
    no_parts type (name_of context.names c.args.constructor) (c.in_ok-found.ensures.found context knows)
    c.in_default.not-Some

pub returns-in-Bottom-clause-found : goal.returns-in-Bottom-clause-found
returns-in-Bottom-clause-found c context type knows found =
    bottom_parts c.constructor_takes.new.self.table.program.now.symbols (name_of context.names c.args.constructor)
    (finds_stays c.in_ok-found.ensures.stays found) c.in-Bottom.ensures.is
    (rw c.in-Some.is at (c.in_ok-found.ensures.found context knows))
    (c.in_ok-vec.ensures.items_if_clones_equal (λ y same. same)
    ∙ ap (λ count. replicate count c.args.subject) (c.len.ensures ∙ c.in-Some.found.takes.ok.0))

pub returns-in-Some-2-clause-found : goal.returns-in-Some-2-clause-found
returns-in-Some-2-clause-found c context type knows found =
    let before = c.constructor_takes.new.self in
    let subject = finds_stays c.in_ok-found.ensures.stays found in
    let takes = rw c.in-Some.is at (c.in_ok-found.ensures.found context knows) in
    let given = rw c.in-Some-2.is at (c.in_ok-arguments.ensures.found context type
    (knows_stays c.in_ok-found.ensures.stays knows) subject) in
    subst (FindsAll c.all_replaced.new.self (Some c.in_ok-all_replaced-in-Some-2.field-0.items))
    (parts_replaced (name_of context.names c.args.constructor)
    (has_value before.table.program.now.symbols subject c.in_default-shape.not-Bottom c.shape.ensures.is)
    takes given.are)
    (c.in_ok-all_replaced-in-Some-2.ensures.found _ _
    (rw c.as_slice.ensures.value (finds_all_own given.found_are))
    (rw c.as_slice-in-Some-2.ensures.value
    (finds_all_stays c.in_ok-arguments.ensures.stays (finds_all_own (takes_found takes)))))

pub returns-clause-found : goal.returns-clause-found
returns-clause-found c context type knows found =
    let before = c.constructor_takes.new.self in
    let subject = finds_stays c.in_ok-found.ensures.stays found in
    let given = rw c.in-None.is at (c.in_ok-arguments.ensures.found context type
    (knows_stays c.in_ok-found.ensures.stays knows) subject) in
    subst (FindsAll c.arguments_of.new.self None)
    (parts_replaced (name_of context.names c.args.constructor)
    (has_value before.table.program.now.symbols subject c.in_default-shape.not-Bottom c.shape.ensures.is)
    (rw c.in-Some.is at (c.in_ok-found.ensures.found context knows)) given.are)
    (record { found_are = record { among = tt }; are = refl })

pub returns-in-Some-2-clause-stays : goal.returns-in-Some-2-clause-stays
returns-in-Some-2-clause-stays c =
    stays_transitive c.in_ok-found.ensures.stays
    (stays_transitive c.in_ok-arguments.ensures.stays c.in_ok-all_replaced-in-Some-2.ensures.stays)

pub returns-clause-stays : goal.returns-clause-stays
returns-clause-stays c = stays_transitive c.in_ok-found.ensures.stays c.in_ok-arguments.ensures.stays
