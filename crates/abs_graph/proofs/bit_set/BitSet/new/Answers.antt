use Rattle.std.proofs.Common.{ℕ, List, ◌≡◌, ◌∙◌, ◌*◌, ◌≤◌, length, replicate, ap, arith}
use Rattle.std.proofs.lemmas.List.{length-replicate}
use Rattle.std.proofs.lemmas.Grind.{div_ceil_times}
use Rattle.abs_graph.specs.BitSets.{word_has, room_for}
use Rattle.abs_graph.proofs.BitSetLemmas.{has-bits_of, length-bits_of, word_has-none}
use Rattle.abs_graph.proofs.bit_set.BitSet.new.Goals as goal

pub returns : goal.returns
unfolding room_for
returns c =
    let words : List ℕ = c.in_ok-words.words.items in
    let zeros : words ≡ replicate c.div_ceil.result 0 = c.in_ok-words.ensures.items_if_clones_equal (λ y is. is) in
    let count : length words ≡ c.div_ceil.result =
    ap (length {A = ℕ}) zeros ∙ length-replicate {A = ℕ} c.div_ceil.result 0 in
    let room : c.args.bound ≤ 64 * length words =
    omega (arith, count, c.div_ceil.ensures, div_ceil_times c.args.bound 64 (omega arith)) in
    let long = length-bits_of words in
    record {
      room = omega (arith, long, count, c.div_ceil.ensures);
      fits = omega (arith, room, long);
      none = λ number. has-bits_of words number
          ∙ (ap (λ (ws : List ℕ). word_has ws number) zeros ∙ word_has-none c.div_ceil.result number);
    }
