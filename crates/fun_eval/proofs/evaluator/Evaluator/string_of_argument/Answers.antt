use Rattle.std.proofs.Common.{◌≡◌, ◌-◌, length, drop, arith}
use Rattle.fun_eval.proofs.ApplicationLemmas.{left_counted, one_left, to_string_other}
use Rattle.fun_eval.specs.Evaluating.{arguments_in, names_in}
use Rattle.fun_eval.proofs.evaluator.Evaluator.string_of_argument.Goals as goal

pub returns-then-len-first-ne1 : goal.returns-then-len-first-ne1
returns-then-len-first-ne1 c =
    let arguments = c.args.self.now.arguments in
    to_string_other (names_in c.args.self.now) (drop c.args.first (arguments_in c.args.self.now))
    (λ one. c.if-len-first-ne1.true
    (omega (arith, one, c.len.ensures, arguments.ok.0, left_counted arguments.items c.args.first)))

pub returns : goal.returns
returns c =
    let arguments = c.args.self.now.arguments in
    let one : length arguments.items - c.args.first ≡ 1 =
    omega (arith, c.if-len-first-ne1.false, c.len.ensures, arguments.ok.0) in
    rw (one_left arguments.items c.args.first c.index.result.now one c.index.ensures) c.string_of.ensures
