use Rattle.std.proofs.Common.{ℕ, List, Bool, ◌||◌, ◌∙◌, ap}
use Rattle.std.specs.declared.alloc.Global.{Global}
use Rattle.std.specs.declared.vec.Vec.{Vec}
use Rattle.abs_graph.specs.BitSets.{word_bit}
use Rattle.abs_graph.specs.Graphs.{is_listed}
use Rattle.abs_graph.proofs.ListedLemmas.{words_none, words_all, words_more, words_skipped}
use Rattle.abs_graph.proofs.bit_set.numbers_of.Goals as goal
use Rattle.abs_graph.proofs.bit_set.numbers_of.Goals.{then-word-ne0+in_ok-add_numbers, else-word-ne0}

pub loop-index-init : goal.loop-index-init
loop-index-init c = λ number.
    ap (λ (items : List ℕ). is_listed items number) c.new-found.ensures.items ∙ words_none c.args.words.now number

pub loop-index-preserved : goal.loop-index-preserved
loop-index-preserved c = λ number. elim c.if-word-ne0.branch [
  | then-word-ne0+in_ok-add_numbers w ↦
      ap (λ (found : Vec ℕ Global). is_listed found.items number) w.found-is
      ∙ (w.in_ok-add_numbers.ensures number
      ∙ (ap (λ (b : Bool). b || word_bit c.args.words.now c.loop-index.index 64 number)
      (c.loop-index.invariant number)
      ∙ words_more c.args.words.now c.loop-index.index number))
  | else-word-ne0 w ↦
      ap (λ (found : Vec ℕ Global). is_listed found.items number) w.found-is
      ∙ (c.loop-index.invariant number
      ∙ words_skipped c.args.words.now c.loop-index.index number w.if-word-ne0.false)
]

pub returns : goal.returns
returns c = λ number.
    c.loop-index.invariant number ∙ words_all c.args.words.now c.loop-index.index number c.loop-index-test.false
