-- The walk finds the facts with the key.
use Rattle.std.proofs.Common.{ap, sym, subst, ◌∙◌, ◌<◌, Some}
use Rattle.std.proofs.lemmas.Option.{slice_get_within}
use Rattle.saturation.proofs.LinkLemmas.{found_of}
use Rattle.saturation.proofs.WalkLemmas.{stand, FoundSoFar, walk_begins, walk_goes_on, walk_ends, walk_falls}
use Rattle.saturation.specs.Keys.{IsOf}
use Rattle.saturation.proofs.facts.Facts.with_key.Goals as goal

pub loop-next-init : goal.loop-next-init
loop-next-init c =
    walk_begins c.args.self.now c.args.key.now c.newest-next.result c.new-found.result.items c.newest-next.ensures
    c.new-found.ensures.items

pub at-requires : goal.at-requires
at-requires c =
    let found = found_of c.args.self.now c.in-Some.index (IsOf c.args.key.now)
    (c.loop-next.invariant.here c.in-Some.index c.in-Some.is) in
    slice_get_within c.args.self.now c.in-Some.index found.0 found.1

pub loop-next-smaller : goal.loop-next-smaller
loop-next-smaller c =
    subst (λ next. stand c.before-next.result < stand next) (sym c.in-Some.is)
    (walk_falls c.args.self.now c.args.key.now c.in-Some.index c.before-next.result c.before-next.ensures)

pub loop-next-preserved : goal.loop-next-preserved
loop-next-preserved c =
    walk_goes_on c.args.self.now c.args.key.now c.in-Some.index c.before-next.result c.loop-next.found.items
    c.push.new.self.items c.copied.result
    (subst (λ next. FoundSoFar c.args.self.now c.args.key.now next c.loop-next.found.items) c.in-Some.is
    c.loop-next.invariant) (c.at.ensures ∙ ap Some (sym c.copied.ensures)) c.before-next.ensures
    c.in_ok-push.ensures.items

pub returns-clause-all : goal.returns-clause-all
returns-clause-all c fact =
    walk_ends c.args.self.now c.args.key.now c.loop-next.next c.loop-next.found.items fact c.loop-next.invariant
    c.in_default.is
