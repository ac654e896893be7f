use Rattle.std.proofs.Common.{ℕ, [], ◌∙◌, ap, get_or}
use Rattle.abs_prelude.proofs.NameLemmas.{name_of_found}
use Rattle.abs_prelude.proofs.text.symbol_of.Goals as goal
use Rattle.abs_prelude.specs.Prelude.{prelude_names}

pub returns-in-Some : goal.returns-in-Some
returns-in-Some c =
    name_of_found c.args.symbols.now c.name.result.now c.in-Some.symbol c.in-Some.ensures
    ∙ (c.name.ensures ∙ ap (λ (number : ℕ). get_or prelude_names number []) c.from-number.ensures)
