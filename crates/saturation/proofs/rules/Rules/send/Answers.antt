use Rattle.std.proofs.Common.{arith}
use Rattle.saturation.proofs.StatementLemmas.{sends_to, sends_with}
use Rattle.saturation.proofs.rules.Rules.send.Goals as goal

pub returns-then-expr-eq0 : goal.returns-then-expr-eq0
returns-then-expr-eq0 c = sends_to c.if-expr-eq0.true c.receive.ensures

pub returns-else-expr-eq0 : goal.returns-else-expr-eq0
returns-else-expr-eq0 c = sends_with (omega (arith, c.if-expr-eq0.false)) c.pass_to_receivers.ensures
