use Rattle.std.proofs.Common.{◌≡◌, ◌∙◌, true, refl, sym, subst}
use Rattle.std.proofs.lemmas.Bool.{false≢true}
use Rattle.abs_program.specs.NamedViews.{program_tree}
use Rattle.contract_terms.specs.PairLinks.{IsReachedByCalls}
use Rattle.contract_terms.specs.PairLinks.IsReachedByCalls.{itself}
use Rattle.circularity_test.proofs.LinkingLemmas.{kind_eq, kind_eq_reflexive, kind_eq_same, leads_where, reached_where, sign_eq_same}
use Rattle.circularity_test.proofs.linking.is_reached.Goals as goal

pub returns-then-eq : goal.returns-then-eq
returns-then-eq c = (
  (λ _. subst (IsReachedByCalls (program_tree c.args.program.now.checked.named) c.args.from.now)
      (kind_eq_same c.args.from.now c.args.to.now (sym c.eq.ensures ∙ c.if-eq.true)) (itself c.args.from.now)),
  (λ _. refl),
)

pub returns-then-eq-2 : goal.returns-then-eq-2
returns-then-eq-2 c =
    let kinds = c.in-Method-Method in
    let program = program_tree c.args.program.now.checked.named in (
      (λ leads. reached_where program c.args.from.now c.args.to.now kinds.sign kinds.other_sign kinds.one kinds.other
          kinds.is-0 kinds.is-1
          (sign_eq_same kinds.sign kinds.other_sign (sym c.eq-in-Method-Method.ensures ∙ c.if-eq-2.true))
          (c.leads.ensures.0 leads)),
      (λ reached. c.leads.ensures.1
          (leads_where program c.args.from.now c.args.to.now kinds.sign kinds.other_sign kinds.one kinds.other
          kinds.is-0 kinds.is-1
          (λ same. false≢true (sym (sym c.eq.ensures ∙ c.if-eq.false)
          ∙ subst (λ it. kind_eq c.args.from.now it ≡ true) same (kind_eq_reflexive c.args.from.now))) reached)),
    )
