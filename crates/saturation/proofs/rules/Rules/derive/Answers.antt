-- The work list is gone through to its end.
use Rattle.std.proofs.Common.{ℕ, true≢false, List, [], ap, sym, subst, arith, ◌∙◌, Some}
use Rattle.name_bounding.specs.declared.kind.Sign.{Sign}
use Rattle.saturation.proofs.WorkLemmas.{IsHandledUpTo, next_within, work_begins, work_turn, work_ends}
use Rattle.saturation.specs.RuleViews.{program_of, terms_of}
use Rattle.saturation.proofs.rules.Rules.derive.Goals.{then-loop-derivation-test+else-position-len}
use Rattle.saturation.proofs.rules.Rules.derive.Goals.{else-loop-derivation-test}
use Rattle.saturation.proofs.rules.Rules.derive.Goals as goal

pub loop-derivation-init : goal.loop-derivation-init
loop-derivation-init c =
    let rules = c.args.self.now in (
      omega arith,
      c.add.ensures.limit ∙ c.new-derivation.ensures.limit,
      λ are.
          subst
          (λ (made : List (Sign × ℕ)).
          IsHandledUpTo (program_of rules) (terms_of rules) rules.depth made c.add.new.self [])
          (sym c.new-made.ensures.empty)
          (work_begins (program_of rules) (terms_of rules) rules.depth c.new-derivation.result c.add.new.self
          c.new-derivation.ensures.facts c.add.ensures),
    )

pub loop-derivation-preserved : goal.loop-derivation-preserved
loop-derivation-preserved c =
    let rules = c.args.self.now in
    let at = c.at.ensures ∙ ap Some (sym c.copied-fact.ensures) in (
      next_within c.loop-derivation.derivation.facts c.handle.ensures.more c.handle.new.derivation.facts
          c.loop-derivation.position c.copied-fact.result c.handle.ensures.grown at,
      c.handle.ensures.limit ∙ c.loop-derivation.invariant.1,
      λ are.
          work_turn (program_of rules) (terms_of rules) rules.depth c.loop-derivation.made.keys c.handle.new.made.keys
          c.loop-derivation.derivation c.handle.new.derivation c.loop-derivation.position c.copied-fact.result
          at c.handle.ensures are (c.loop-derivation.invariant.2 are),
    )

pub returns-clause-finished : goal.returns-clause-finished
returns-clause-finished c are =
    let rules = c.args.self.now in
    work_ends (program_of rules) (terms_of rules) rules.depth c.loop-derivation.made.keys c.loop-derivation.derivation
    c.loop-derivation.position
    (λ going. elim c.loop-derivation-test.branch [
      | then-loop-derivation-test+else-position-len w ↦ omega (arith, w.len.ensures.count, w.if-position-len.false)
      | else-loop-derivation-test w ↦
          absurd (true≢false (sym (c.goes_on.ensures.complete going) ∙ w.loop-derivation-test.false))
    ])
    (c.loop-derivation.invariant.2 are)
