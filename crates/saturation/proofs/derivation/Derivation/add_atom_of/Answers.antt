use Rattle.std.proofs.Common.{◌≡◌, ◌∙◌, ap, sym, Some}
use Rattle.std.proofs.lemmas.Option.{same_Some}
use Rattle.contract_terms.specs.declared.fact.Atom.{Atom}
use Rattle.saturation.specs.Steps.{atom_of}
use Rattle.saturation.proofs.FindLemmas.{finds_one}
use Rattle.saturation.proofs.derivation.Derivation.add_atom_of.Goals as goal

pub returns-in-Some : goal.returns-in-Some
returns-in-Some c =
    finds_one c.args.atoms.now.items c.in-Some.atom (λ (one : Atom). atom_of c.args.fact.now ≡ Some one) c.push.ensures
    (λ one same. sym c.in-Some.ensures ∙ ap Some same)
    (λ one held. same_Some c.in-Some.atom one (c.in-Some.ensures ∙ held))
