use Rattle.std.proofs.lemmas.List.Filters.{dedup_is}
use Rattle.circularity_test.proofs.PairLemmas.{pair_eq, pairs_are, pairs_rise, sorted_same}
use Rattle.std.proofs.Common.{◌∙◌, ap, subst, sym}
use Rattle.contract_terms.specs.Pairs.{ArePairs}
use Rattle.contract_terms.specs.ProgramTerms.{AreTermsOf}
use Rattle.abs_program.specs.NamedViews.{program_tree}
use Rattle.abs_program.specs.declared.named.Named.{Named}
use Rattle.circularity_test.proofs.finding.pairs.Goals as goal

pub invariant_of-result : goal.invariant_of-result
invariant_of-result c =
    pairs_rise c.sort_unstable.new.self.items c.dedup.new.self.items (dedup_is pair_eq c.sort_unstable.new.self.items
    c.dedup.new.self.items c.dedup.ensures.filtered) (sorted_same c.sort_unstable.new.self.items
    c.sort_unstable.ensures.sorted)

pub returns : goal.returns
returns c =
    let same = c.named.ensures.program ∙ ap (λ it. it.named) c.checked.ensures.program in
    subst (λ (it : Named). ArePairs (program_tree it) c.args.facts.now c.dedup.new.self.items) same
    (pairs_are (program_tree c.named.result.now) c.terms.result.now
    (subst (λ (it : Named). ∥ AreTermsOf (program_tree it) c.terms.result.now ∥₁) (sym same) c.terms.ensures.are)
    c.args.facts.now c.in_ok-pairs.pairs.items c.sort_unstable.new.self.items c.dedup.new.self.items
    c.in_ok-pairs.ensures
    c.sort_unstable.ensures.permutation (dedup_is pair_eq c.sort_unstable.new.self.items c.dedup.new.self.items
    c.dedup.ensures.filtered) (sorted_same c.sort_unstable.new.self.items c.sort_unstable.ensures.sorted))
