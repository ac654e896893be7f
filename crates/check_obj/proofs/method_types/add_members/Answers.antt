use Rattle.std.proofs.Common.{◌≡◌, [], ◌∷◌, ap}
use Rattle.abs_tree.specs.SyntaxViews.{member_tree, signature_tree}
use Rattle.abs_tree.specs.declared.syntax.declaration.Member.{Member}
use Rattle.abs_types.specs.Methods.{member_signatures}
use Rattle.check_obj.proofs.GrownRowLemmas.{field_next, grown_none, members_grown, method_next, names_in}
use Rattle.check_obj.proofs.method_types.add_members.Goals as goal
use Rattle.check_obj.proofs.method_types.add_members.Goals.{in-Method+in_ok-add_signature, in_default}

pub loop-member-init : goal.loop-member-init
loop-member-init c = grown_none

pub loop-member-preserved : goal.loop-member-preserved
loop-member-preserved c = elim c.match-member.branch [
  | in-Method+in_ok-add_signature w ↦
      let one : member_signatures (member_tree (names_in c.args.checker.now) c.member-item.result ∷ [])
      ≡ signature_tree (names_in c.args.checker.now) w.in-Method.signature ∷ [] =
      ap (λ (member : Member). member_signatures (member_tree (names_in c.args.checker.now) member ∷ [])) w.in-Method.is
      in
      rw (w.checker-is, w.row-is)
      (method_next c.args.members.now c.loop-member.member-index c.member-item.result w.in-Method.signature
      c.loop-member.invariant c.loop-member-test.true c.member-item.is one w.add_signature.ensures.first
      w.in_ok-add_signature.ensures.stays w.in_ok-add_signature.ensures.row)
  | in_default w ↦
      let none : member_signatures (member_tree (names_in c.args.checker.now) c.member-item.result ∷ []) ≡ [] =
      ap (λ (member : Member). member_signatures (member_tree (names_in c.args.checker.now) member ∷ []))
      w.in_default.is in
      rw (w.checker-is, w.row-is)
      (field_next c.args.members.now c.loop-member.member-index c.member-item.result c.loop-member.invariant
      c.loop-member-test.true c.member-item.is none)
]

pub returns-clause-row : goal.returns-clause-row
returns-clause-row c =
    members_grown c.args.members.now c.loop-member.member-index c.loop-member.invariant
    c.loop-member-test.false
