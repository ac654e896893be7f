use Rattle.std.proofs.Common.{◌≡◌, ℕ, ◌-◌, ◌∙◌, ap, take}
use Rattle.abs_prelude.proofs.PartLemmas.{popped_part}
use Rattle.abs_prelude.proofs.parts.pop.Goals as goal
use Rattle.abs_prelude.specs.Codes.{left}

pub returns-clause-taken : goal.returns-clause-taken
returns-clause-taken g c =
    let parts = c.args.parts.now in
    c.unwrap_or.ensures
    ∙ popped_part parts.items c.pop.new.self.items c.pop.result c.args.missing parts.len parts.ok.0
    (c.pop.ensures.value c.args.missing) c.pop.ensures.items

pub returns-clause-rest : goal.returns-clause-rest
unfolding left
returns-clause-rest g c =
    let parts = c.args.parts.now in
    c.pop.ensures.rest ∙ ap (λ (size : ℕ). take (size - 1) parts.items) parts.ok.0
