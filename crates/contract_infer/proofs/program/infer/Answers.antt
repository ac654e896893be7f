use Rattle.std.proofs.Common.{sym, ap, ◌∙◌, subst}
use Rattle.abs_profile.specs.Profile.{profile_offences}
use Rattle.abs_program.specs.NamedViews.{named_tree, program_tree}
use Rattle.abs_program.specs.declared.named.Named.{Named}
use Rattle.abs_tree.proofs.OffenceLemmas.{no_offence}
use Rattle.contract_terms.specs.ProgramTerms.{AreTermsOf}
use Rattle.contract_infer.proofs.program.infer.Goals as goal

pub new-requires-clause-in_profile : goal.new-requires-clause-in_profile
new-requires-clause-in_profile c =
    ap (λ (program : Named). profile_offences (named_tree program)) (sym c.named.ensures.program)
    ∙ no_offence _ (sym c.profile_offence.ensures ∙ c.in-None.is)

pub new-requires-clause-are_terms : goal.new-requires-clause-are_terms
new-requires-clause-are_terms c =
    subst (λ (program : Named). AreTermsOf (program_tree program) c.in_ok-terms-in-None.terms)
    c.named-in-None.ensures.program c.in_ok-terms-in-None.ensures

pub returns-clause-in_profile : goal.returns-clause-in_profile
returns-clause-in_profile c =
    ap (λ (program : Named). profile_offences (named_tree program)) (sym c.named.ensures.program)
    ∙ no_offence _ (sym c.profile_offence.ensures ∙ c.in-None.is)
