use Rattle.std.proofs.Common.{◌∙◌, ◌<◌, Some, ap, refl, sym, subst}
use Rattle.std.proofs.lemmas.Option.{slice_get_within}
use Rattle.circularity_test.proofs.WalkingLemmas.{stand, walk_at, walk_begins, walk_ends, walk_falls, walk_turns}
use Rattle.circularity_test.specs.Finding.{WalkedTo}
use Rattle.circularity_test.proofs.finding.Finder.add_futures.Goals as goal

pub loop-next-init : goal.loop-next-init
loop-next-init c =
    walk_begins c.args.self.now.facts.now c.args.waiting.now c.args.slot c.newest_of_slot-next.result
    c.args.found.now.items c.args.found.now.items refl c.newest_of_slot-next.ensures

pub at-requires : goal.at-requires
at-requires c =
    let facts = c.args.self.now.facts.now in
    let here = walk_at facts c.args.waiting.now c.args.slot c.in-Some.index c.args.found.now.items
    c.loop-next.found.items (subst (λ next. WalkedTo facts c.args.waiting.now c.args.slot next c.args.found.now.items
    c.loop-next.found.items) c.in-Some.is c.loop-next.invariant) in
    slice_get_within facts c.in-Some.index here.0 here.1

pub earlier_of_slot-next-requires : goal.earlier_of_slot-next-requires
earlier_of_slot-next-requires c =
    slice_get_within c.args.self.now.facts.now c.in-Some.index c.at.result.now c.at.ensures

pub loop-next-smaller : goal.loop-next-smaller
loop-next-smaller c =
    let facts = c.args.self.now.facts.now in
    let here = walk_at facts c.args.waiting.now c.args.slot c.in-Some.index c.args.found.now.items
    c.loop-next.found.items (subst (λ next. WalkedTo facts c.args.waiting.now c.args.slot next c.args.found.now.items
    c.loop-next.found.items) c.in-Some.is c.loop-next.invariant) in
    subst (λ next. stand c.earlier_of_slot-next.result < stand next) (sym c.in-Some.is)
    (walk_falls facts c.args.waiting.now.kind.now c.args.slot c.in-Some.index c.earlier_of_slot-next.result
    (c.earlier_of_slot-next.ensures c.args.waiting.now.kind.now c.args.slot here.2.0 (here.1 ∙ ap Some here.2.1)))

pub loop-next-preserved : goal.loop-next-preserved
loop-next-preserved c =
    let facts = c.args.self.now.facts.now in
    walk_turns facts c.args.waiting.now c.args.slot c.in-Some.index c.earlier_of_slot-next.result
    c.args.found.now.items c.loop-next.found.items c.add_future.new.found.items
    (subst (λ next. WalkedTo facts c.args.waiting.now c.args.slot next c.args.found.now.items
    c.loop-next.found.items) c.in-Some.is c.loop-next.invariant) c.earlier_of_slot-next.ensures c.at.result.now
    c.at.ensures c.in_ok-add_future.ensures

pub returns : goal.returns
returns c =
    let facts = c.args.self.now.facts.now in
    walk_ends facts c.args.waiting.now c.args.slot c.args.found.now.items c.loop-next.found.items
    (subst (λ next. WalkedTo facts c.args.waiting.now c.args.slot next c.args.found.now.items
    c.loop-next.found.items) c.in_default.is c.loop-next.invariant)
