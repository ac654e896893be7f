use Rattle.std.proofs.Common.{◌≡◌, ℕ, length, map, arith, refl, subst}
use Rattle.abs_tree.specs.SyntaxViews.{member_tree}
use Rattle.contract_infer.proofs.ClassTermLemmas.{gathered_none, gathered_more}
use Rattle.contract_infer.specs.BodyViews.{names_of, source_of}
use Rattle.contract_infer.specs.ClassViews.{AreMethodsSoFar}
use Rattle.contract_infer.proofs.classes.methods_of.Goals as goal

pub loop-member-init : goal.loop-member-init
loop-member-init c = gathered_none _ c.new.ensures.items c.new-2.ensures.items refl

pub loop-member-preserved : goal.loop-member-preserved
loop-member-preserved c =
    gathered_more c.member-item.result c.loop-member-test.true c.member-item.is c.loop-member.invariant
    c.in_ok-add_member.ensures.keeps c.in_ok-add_member.ensures.stays c.in_ok-add_member.ensures.added

pub returns-clause-found : goal.returns-clause-found
returns-clause-found c name params there inside fields start =
    let names = names_of c.args.checker.now in
    let whole : c.loop-member.member-index ≡ length c.args.members.now = omega (
      arith,
      c.loop-member-test.false,
      c.loop-member.auto.member-index-end,
    ) in
    subst (λ (n : ℕ). AreMethodsSoFar (source_of c.args.checker.now) names c.args.class
    (map (member_tree names) c.args.members.now) n c.loop-member.methods) whole
    (c.loop-member.invariant.so_far name params there inside fields start).1

pub returns-clause-keeps : goal.returns-clause-keeps
returns-clause-keeps c = c.loop-member.invariant.keeps
