use Rattle.std.proofs.Common.{◌≡◌, ◌∙◌, ◌↔◌, true, sym, ap, subst}
use Rattle.std.proofs.lemmas.Bool.{false≢true}
use Rattle.abs_program.specs.NamedViews.{program_tree}
use Rattle.abs_program.specs.declared.named.Named.{Named}
use Rattle.abs_tree.specs.Names.{name_of}
use Rattle.circularity_test.proofs.LinkingLemmas.{leads_by_class, no_first_leads, no_second_leads}
use Rattle.circularity_test.specs.Linking.{LeadsIn}
use Rattle.contract_terms.specs.ProgramTerms.{AreTermsOf}
use Rattle.circularity_test.proofs.linking.leads_in.Goals as goal

pub returns-in-Some-Some : goal.returns-in-Some-Some
returns-in-Some-Some c =
    let same = c.named-named.ensures.program ∙ ap (λ it. it.named) c.checked.ensures.program in
    let named = c.named-named.result.now in
    subst (λ (it : Named). (c.is_reached.result ≡ true)
    ↔ LeadsIn (program_tree it) (name_of it.symbols c.args.class) c.args.one c.args.other) same
    (subst (λ reported. (reported ≡ true)
    ↔ LeadsIn (program_tree named) (name_of named.symbols c.args.class) c.args.one c.args.other)
    (sym c.is_reached.ensures)
    (leads_by_class (program_tree named) (name_of named.symbols c.args.class) c.args.one c.args.other
    c.in-Some.taking (sym c.class.ensures ∙ c.in-Some.is) c.terms.result.now
    (subst (λ (it : Named). ∥ AreTermsOf (program_tree it) c.terms.result.now ∥₁) (sym same) c.terms.ensures.are)
    c.in-Some-Some.member c.in-Some-Some.reached (sym c.method.ensures ∙ c.in-Some-Some.is-0)
    (sym c.method-2.ensures ∙ c.in-Some-Some.is-1)))

pub returns-in_default-2 : goal.returns-in_default-2
returns-in_default-2 c =
    let same = c.named-named.ensures.program ∙ ap (λ it. it.named) c.checked.ensures.program in
    let named = c.named-named.result.now in (
      (λ never. absurd (false≢true never)),
      (λ leads. absurd (no_second_leads (program_tree named) (name_of named.symbols c.args.class) c.args.one
          c.args.other
          c.in-Some.taking (sym c.class.ensures ∙ c.in-Some.is) (sym c.method-2.ensures ∙ c.in_default-2.is-1)
          (subst (λ (it : Named). LeadsIn (program_tree it) (name_of it.symbols c.args.class) c.args.one c.args.other)
          (sym same) leads))),
    )

pub returns-in_default-2-2 : goal.returns-in_default-2-2
returns-in_default-2-2 c =
    let same = c.named-named.ensures.program ∙ ap (λ it. it.named) c.checked.ensures.program in
    let named = c.named-named.result.now in (
      (λ never. absurd (false≢true never)),
      (λ leads. absurd (no_first_leads (program_tree named) (name_of named.symbols c.args.class) c.args.one c.args.other
          c.in-Some.taking (sym c.class.ensures ∙ c.in-Some.is) (sym c.method.ensures ∙ c.in_default-2.is-0)
          (subst (λ (it : Named). LeadsIn (program_tree it) (name_of it.symbols c.args.class) c.args.one c.args.other)
          (sym same) leads))),
    )
