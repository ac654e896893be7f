use Rattle.std.proofs.Common.{None}
use Rattle.abs_types.proofs.AllMetLemmas.{application_is, application_found}
use Rattle.abs_types.proofs.KeepLemmas.{among_kept, all_among_kept, keeps_transitive}
use Rattle.abs_types.specs.TypeShapes.{type_at}
use Rattle.abs_types.specs.TypeTables.{types_in}
use Rattle.abs_types.proofs.table.TypeTable.application.Goals as goal

pub meet_all-requires-clause-takes : goal.meet_all-requires-clause-takes
meet_all-requires-clause-takes c = all_among_kept c.args.takes.now c.bottom.ensures.keeps c.requires.takes

pub meet_all-requires-clause-given : goal.meet_all-requires-clause-given
meet_all-requires-clause-given c = all_among_kept c.args.given.now c.bottom.ensures.keeps c.requires.given

pub returns-in_err-meet_all-clause-keeps : goal.returns-in_err-meet_all-clause-keeps
returns-in_err-meet_all-clause-keeps c = keeps_transitive c.bottom.ensures.keeps c.meet_all.ensures.keeps

pub returns-then-not-branch-clause-found : goal.returns-then-not-branch-clause-found
returns-then-not-branch-clause-found c =
    application_is c.args.parameters c.args.takes.now c.args.given.now (type_at (types_in c.args.self.now) c.args.gives)
    None c.bottom.ensures.keeps c.in_ok-bottom.ensures.found c.requires.takes c.requires.given
    (c.in_ok-met.ensures.items_if_clones_equal (λ y same. same))
    (rw c.if-not-branch.true at c.in_ok-meet_all.ensures.met)

pub returns-then-not-branch-clause-keeps : goal.returns-then-not-branch-clause-keeps
returns-then-not-branch-clause-keeps c = keeps_transitive c.bottom.ensures.keeps c.meet_all.ensures.keeps

pub replaced-requires-clause-index : goal.replaced-requires-clause-index
replaced-requires-clause-index c =
    among_kept (keeps_transitive c.bottom.ensures.keeps c.meet_all.ensures.keeps) c.requires.gives

pub returns-in_err-replaced-clause-keeps : goal.returns-in_err-replaced-clause-keeps
returns-in_err-replaced-clause-keeps c =
    keeps_transitive c.bottom.ensures.keeps (keeps_transitive c.meet_all.ensures.keeps c.replaced.ensures.keeps)

pub returns-clause-found : goal.returns-clause-found
returns-clause-found c =
    application_found c.args.parameters c.args.takes.now c.args.given.now c.meet_all.new.met.items
    c.in_ok-replaced.field-0
    c.bottom.ensures.keeps c.in_ok-bottom.ensures.found c.requires.takes c.requires.given c.requires.gives
    (c.in_ok-met.ensures.items_if_clones_equal (λ y same. same))
    c.meet_all.ensures.keeps (rw c.if-not-branch.false at c.in_ok-meet_all.ensures.met)
    (rw c.deref.ensures.value at c.in_ok-replaced.ensures.found)

pub returns-clause-keeps : goal.returns-clause-keeps
returns-clause-keeps c =
    keeps_transitive c.bottom.ensures.keeps (keeps_transitive c.meet_all.ensures.keeps c.replaced.ensures.keeps)
