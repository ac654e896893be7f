-- The facts at the end of the work are just those that are derived.
use Rattle.std.proofs.Common.{◌≡◌, ◌↔◌, ◌<◌, ap, sym, subst, ◌∙◌, length, Contains, rules}
use Rattle.std.proofs.lemmas.Result.{err_from_is_err_and, IfErr-weaker, IfOk-weaker}
use Rattle.abs_program.specs.NamedViews.{program_tree}
use Rattle.contract_terms.specs.Asks.{IsDerivedIn, Rests}
use Rattle.contract_terms.specs.Derived.{AreDistinct, MoreThan}
use Rattle.contract_terms.specs.declared.fact.Fact.{Fact}
use Rattle.saturation.proofs.FinishedLemmas.{finished_merely, finished_exact, finished_more, finished_few}
use Rattle.saturation.specs.Steps.{GoesOn}
use Rattle.saturation.specs.declared.work_list.SaturateError.TheVariants as error
use Rattle.saturation.proofs.work_list.saturate.Goals as goal

memory_enough : error.Memory ≡ error.TooMany → ⊥
memory_enough same = cc

pub returns-in_err-uses-clause-too_many : goal.returns-in_err-uses-clause-too_many
returns-in_err-uses-clause-too_many c =
    let found = err_from_is_err_and c.from_residual.result c.from_residual.ensures.1 in
    rw found.1 (λ many. absurd (memory_enough (sym found.2 ∙ many)))

pub returns : goal.returns
returns c =
    let program = program_tree c.args.program.now.checked.named in
    let end = c.derive.result in
    let finished = finished_merely c.named-named.result.now c.args.program.now.checked.named
    c.contracts_of-terms.result.now c.args.depth end
    (c.named-named.ensures.program ∙ ap (λ it. it.named) c.checked.ensures.program)
    c.contracts_of-terms.ensures.are c.derive.ensures.finished in
    record {
      exact = IfOk-weaker c.end.result (λ facts. (facts ≡ end.facts) × GoesOn end)
          (λ facts. (fact : Fact) → Contains facts fact ↔ IsDerivedIn program c.args.depth fact)
          (λ facts ended. subst (λ all. (fact : Fact) → Contains all fact ↔ IsDerivedIn program c.args.depth fact)
          (sym ended.0) (finished_exact program c.args.depth end finished ended.1))
          c.end.ensures.facts;
      distinct = c.end.ensures.distinct;
      within = search rules;
      too_many = IfErr-weaker c.end.result
          (λ why. why ≡ error.TooMany → (end.limit < length end.facts) × AreDistinct end.facts)
          (λ why. why ≡ error.TooMany → MoreThan (Rests program c.args.depth) c.args.limit)
          (λ why more many. finished_more program c.args.depth end finished c.args.limit (more many).1
          (subst (λ limit. limit < length end.facts) c.derive.ensures.limit (more many).0))
          c.end.ensures.too_many;
      not_too_many = IfOk-weaker c.end.result (λ facts. (facts ≡ end.facts) × GoesOn end)
          (λ facts. MoreThan (Rests program c.args.depth) c.args.limit → ⊥)
          (λ facts ended. finished_few program c.args.depth end finished c.args.limit ended.1 c.derive.ensures.limit)
          c.end.ensures.facts;
    }
