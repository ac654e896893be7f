use Rattle.abs_types.proofs.ApplicationLemmas.{application_fits, application_is_least, application_length}
use Rattle.abs_types.proofs.ReplacementLemmas.{fits-replaced, replacements_fit}
use Rattle.abs_types.proofs.laws.applications_are_least.Goals as goal

pub returns : goal.returns
returns c = record {
  fit = application_fits;
  count = application_length;
  least = application_is_least;
  replacement = fits-replaced;
  replacements = replacements_fit;
}
