use Rattle.std.proofs.Common.{◌∙◌, ap, fold, arith}
use Rattle.std.proofs.lemmas.List.{take_all}
use Rattle.abs_prelude.proofs.parts.build.Goals as goal
use Rattle.abs_prelude.specs.Codes.{Parts, no_parts, trees_of, with_code}

pub returns : goal.returns
unfolding trees_of
returns c =
    ap (λ (parts : Parts). parts.declarations)
    (c.loop-code.invariant
    ∙ ap (fold with_code no_parts) (take_all c.loop-code.code-index c.args.codes.now (omega arith)))
