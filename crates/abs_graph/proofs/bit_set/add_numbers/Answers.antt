use Rattle.std.proofs.Common.{ℕ, List, ◌∙◌, sym, ap}
use Rattle.std.specs.declared.alloc.Global.{Global}
use Rattle.std.specs.declared.vec.Vec.{Vec}
use Rattle.abs_graph.specs.Graphs.{is_listed}
use Rattle.abs_graph.proofs.ListedLemmas.{bit_none, bit_skipped, bit_taken}
use Rattle.abs_graph.proofs.bit_set.add_numbers.Goals as goal
use Rattle.abs_graph.proofs.bit_set.add_numbers.Goals.{then-has_bit+in_ok-push, else-has_bit}

pub loop-bit-init : goal.loop-bit-init
loop-bit-init c =
    λ number. bit_none c.args.words.now c.args.index number (is_listed c.args.found.now.items number)

pub loop-bit-preserved : goal.loop-bit-preserved
loop-bit-preserved c = λ number. elim c.if-has_bit.branch [
  | then-has_bit+in_ok-push w ↦
      ap (λ (found : Vec ℕ Global). is_listed found.items number) w.found-is
      ∙ (ap (λ (items : List ℕ). is_listed items number) w.in_ok-push.ensures.items
      ∙ bit_taken c.args.words.now c.args.index c.loop-bit.bit c.in_ok-number.number number
      (is_listed c.args.found.now.items number) c.loop-bit.found.items c.in_ok-number.ensures c.loop-bit-test.true
      (sym w.if-has_bit.true ∙ c.has_bit.ensures) (c.loop-bit.invariant number))
  | else-has_bit w ↦
      ap (λ (found : Vec ℕ Global). is_listed found.items number) w.found-is
      ∙ bit_skipped c.args.words.now c.args.index c.loop-bit.bit c.in_ok-number.number number
      (is_listed c.args.found.now.items number) (is_listed c.loop-bit.found.items number) c.in_ok-number.ensures
      c.loop-bit-test.true (sym w.if-has_bit.false ∙ c.has_bit.ensures) (c.loop-bit.invariant number)
]
