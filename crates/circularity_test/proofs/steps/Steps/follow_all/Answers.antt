-- One part after the other is followed, until there is none with the next number.
use Rattle.std.proofs.Common.{◌∙◌, sym, arith}
use Rattle.circularity_test.proofs.StepLemmas.{followed_all, followed_more}
use Rattle.circularity_test.specs.Steps.{Awaits, program_of}
use Rattle.circularity_test.proofs.steps.Steps.follow_all.Goals as goal

pub loop-number-init : goal.loop-number-init
loop-number-init c = record {
  keys = λ index one there. there;
  edges = λ index one there. there;
  below = λ number less. absurd (omega (arith, less));
}

pub loop-number-preserved : goal.loop-number-preserved
loop-number-preserved c =
    followed_more (program_of c.args.self.now) (Awaits c.args.self.now) c.args.parts.now c.loop-number.parts
    c.follow.new.parts c.loop-number.number c.in-Some.part (sym c.in-Some.is ∙ c.at.ensures) c.loop-number.invariant
    c.in_ok-follow.ensures

pub returns-in_default : goal.returns-in_default
returns-in_default c =
    followed_all (program_of c.args.self.now) (Awaits c.args.self.now) c.args.parts.now c.loop-number.parts
    c.loop-number.number (sym c.in_default.is ∙ c.at.ensures) c.loop-number.invariant
