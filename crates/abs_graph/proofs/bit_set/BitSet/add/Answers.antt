use Rattle.std.proofs.Common.{◌≡◌, ◌∙◌, ◌||◌, Bool, length, ap, nat_eq, arith}
use Rattle.abs_graph.proofs.BitSetLemmas.{word_has-view, length-view, has-written, length-written}
use Rattle.abs_graph.proofs.bit_set.BitSet.add.Goals as goal

pub set_bit-requires : goal.set_bit-requires
set_bit-requires c =
    omega (
      arith,
      c.requires,
      length-view c.as_mut_slice.result.now c.self.inside.words.items c.args.self.now c.as_mut_slice.ensures.value
          c.self.view_is,
    )

pub returns-clause-room : goal.returns-clause-room
returns-clause-room c =
    let len : length c.set_bit.new.words ≡ c.self.inside.words.len = omega arith in
    let before = length-view c.as_mut_slice.result.now c.self.inside.words.items c.args.self.now
    c.as_mut_slice.ensures.value c.self.view_is in
    let after = length-written c.self.inside.words c.set_bit.new.words len in
    omega (arith, before, after)

pub returns-clause-added : goal.returns-clause-added
returns-clause-added c = λ other.
    let len : length c.set_bit.new.words ≡ c.self.inside.words.len = omega arith in
    has-written c.self.inside.words c.set_bit.new.words other len
    ∙ (c.set_bit.ensures other
    ∙ ap (λ (b : Bool). nat_eq c.args.number other || b)
    (word_has-view c.as_mut_slice.result.now c.self.inside.words.items c.args.self.now c.as_mut_slice.ensures.value
    c.self.view_is other))
