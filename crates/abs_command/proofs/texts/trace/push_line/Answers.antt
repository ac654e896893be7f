use Rattle.std.proofs.Common.{arith}
use Rattle.std.proofs.lemmas.Fmt.{length-decimal-le}
use Rattle.abs_command.proofs.texts.trace.push_line.Goals as goal

pub write_digits-start-requires : goal.write_digits-start-requires
write_digits-start-requires c = (
  length-decimal-le 10 c.from.result (omega arith) (omega (
    arith,
    c.ranges.task.fits,
    c.from.ensures,
  )) (omega (arith, c.ranges.task.fits, c.from.ensures)),
  omega arith,
)
