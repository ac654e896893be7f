use Rattle.std.proofs.Common.{Contains}
use Rattle.abs_program.specs.NamedViews.{program_tree}
use Rattle.circularity_test.proofs.StepLemmas.{parts_are}
use Rattle.circularity_test.proofs.steps.parts_of.Goals as goal

pub returns : goal.returns
returns c =
    parts_are (program_tree c.args.program.now.checked.named) (Contains c.in_ok-awaiting.awaiting.keys)
    c.args.pairs.now c.enter.new.self c.follow_all.new.parts c.in_ok-awaiting.ensures c.in_ok-enter.ensures
    c.in_ok-follow_all.ensures
