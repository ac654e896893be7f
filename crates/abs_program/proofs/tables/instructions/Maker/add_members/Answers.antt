use Rattle.std.proofs.Common.{◌≡◌, List, [], ◌∷◌, sym, ◌∙◌}
use Rattle.std.proofs.lemmas.List.{append-nil}
use Rattle.abs_program.proofs.CountLemmas.{members_add}
use Rattle.abs_program.proofs.MakerLemmas.{makes_none, may_make_next, members_next}
use Rattle.abs_tree.specs.Syntax.{Name}
use Rattle.abs_program.proofs.tables.instructions.Maker.add_members.Goals as goal
use Rattle.list_facts.proofs.BackwardLemmas.{one_back, all_back}

pub loop-member-init : goal.loop-member-init
loop-member-init c =
    let rest_is : c.into_iter-member-iterator.result.iter.rest.now ≡ c.args.members.now = cc in
    (tt, tt, ([], sym (append-nil _ ∙ rest_is), λ names. makes_none names c.args.self.now))

pub add_member-requires : goal.add_member-requires
add_member-requires c =
    let names = c.requires.0 in
    let member = c.in-Some.member.now in
    let done = c.loop-member.invariant.2.0 in
    let others = c.next.new.self.iter.rest.now in
    let is = one_back others member done c.loop-member.invariant.2.1 c.in-Some.ensures.steps in
    let made = c.loop-member.invariant.2.2 names in
    (names, may_make_next c.args.members.now others member done (members_add names) is c.requires.1 made)

pub loop-member-preserved : goal.loop-member-preserved
loop-member-preserved c =
    let member = c.in-Some.member.now in
    let done = c.loop-member.invariant.2.0 in
    let others = c.next.new.self.iter.rest.now in
    let is = one_back others member done c.loop-member.invariant.2.1 c.in-Some.ensures.steps in
    let made = λ (names : List Name).
    members_next member done (c.loop-member.invariant.2.2 names) (c.in_ok-add_member.ensures names) in
    (tt, tt, (member ∷ done, is, made))

pub returns : goal.returns
returns c = λ names.
    let rest = c.loop-member.member-iterator.iter.rest.now in
    rw (all_back rest c.loop-member.invariant.2.1 c.in-None.ensures.steps.0) (c.loop-member.invariant.2.2 names)
