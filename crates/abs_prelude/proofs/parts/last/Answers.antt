use Rattle.std.proofs.Common.{◌≡◌, ℕ, ◌-◌, ◌∙◌, ap, length, take, drop, arith}
use Rattle.std.proofs.lemmas.Result.{IfOk-weaker, on_ok_weaker}
use Rattle.abs_prelude.proofs.parts.last.Goals as goal
use Rattle.abs_prelude.specs.Codes.{left, last}

pub returns-clause-taken : goal.returns-clause-taken
unfolding last
returns-clause-taken g c =
    let parts = c.args.parts.now.items in
    let start : c.saturating_sub-start.result ≡ length parts - c.args.count = omega (arith, c.args.parts.now.ok.0) in
    IfOk-weaker c.split_off.result (λ taken. taken.items ≡ drop c.saturating_sub-start.result parts)
    (λ taken. taken.items ≡ last c.args.count parts) (λ taken is. is ∙ ap (λ (from : ℕ). drop from parts) start)
    c.split_off.ensures.tail

pub returns-clause-rest : goal.returns-clause-rest
unfolding left
returns-clause-rest g c =
    let parts = c.args.parts.now.items in
    let start : c.saturating_sub-start.result ≡ length parts - c.args.count = omega (arith, c.args.parts.now.ok.0) in
    on_ok_weaker c.split_off.result (λ (is : c.split_off.new.self.items ≡ take c.saturating_sub-start.result parts).
    is ∙ ap (λ (from : ℕ). take from parts) start)
    c.split_off.ensures.items
