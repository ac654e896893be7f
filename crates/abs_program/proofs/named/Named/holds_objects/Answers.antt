use Rattle.std.proofs.Common.{Bool, List, false, ap, get_or, ◌∙◌}
use Rattle.abs_program.proofs.named.Named.holds_objects.Goals as goal

pub returns : goal.returns
returns c =
    c.is_marked.ensures
    ∙ ap (λ (found : List Bool). get_or found c.args.declaration false)
    (c.as_slice.ensures.value ∙ c.args.self.now.has_tables.holders_are)
