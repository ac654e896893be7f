use Rattle.std.proofs.Common.{refl}
use Rattle.abs_tree.specs.SyntaxViews.{member_tree}
use Rattle.abs_profile.proofs.NotedLemmas.{noted_step, noted_all}
use Rattle.abs_profile.specs.Profile.{member_offences}
use Rattle.abs_profile.proofs.declarations.note_in_members.Goals as goal

pub loop-member-preserved : goal.loop-member-preserved
loop-member-preserved c names =
    noted_step c.member-item.result (member_offences (member_tree names c.member-item.result))
    (c.loop-member.invariant names) c.loop-member-test.true c.member-item.is (λ others. refl)
    (c.note_in_member.ensures names)

pub returns : goal.returns
returns c names = noted_all (c.loop-member.invariant names) c.loop-member-test.false
