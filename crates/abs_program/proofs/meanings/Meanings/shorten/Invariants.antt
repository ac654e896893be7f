use Rattle.std.proofs.Common.{◌≡◌, drop}
use Rattle.abs_program.proofs.meanings.Meanings.shorten.Given as goal

-- each turn took one name away
abbrev pub invariant-loop : goal.invariant-loop
invariant-loop o l = l.self ≡ drop l.counter l.initial.self
